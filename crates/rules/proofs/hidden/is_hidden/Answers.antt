-- `hidden::is_hidden` meets its contract: 0 and a quantity past 32, whose bit is past every set's last one, are in no set. Assumes nothing.
use mathlib.Core.Path.{◌≡◌, refl, sym, ◌∙◌}
use mathlib.Core.Bool.{false}
use mathlib.Core.Logic.{⊎_elim}
use Prim.Native.Nat.{ℕ, zero, suc, ◌<◌}
use native.Mathlib.Omega.{arith}
use borrow.Author.Tests.{lt-leb}
use Rattle.rules.specs.Hidden.{hidden_in}
use Rattle.rules.proofs.Sets.{past_hidden}
use Rattle.rules.proofs.hidden.is_hidden.Goals as goal
use Rattle.rules.proofs.hidden.is_hidden.Goals.{then-q-ge1, else-q-ge1}

zero_hidden : (set q : ℕ) → q < 1 → hidden_in set q ≡ false
zero_hidden set zero l = refl
zero_hidden set (suc j) l = absurd (omega arith)

pub returns-else-q-le-BITS : goal.returns-else-q-le-BITS
returns-else-q-le-BITS c =
    elim c.if-q-ge1.branch [
      | then-q-ge1 w ↦ ⊎_elim
          (λ p. w.t-4-is ∙ rw (lt-leb _ _ p.1) (sym (past_hidden 32 c.args.set c.ranges.set.fits c.args.q p.1)))
          (λ l. absurd (omega arith))
          c.if-q-le-BITS.either
      | else-q-ge1 w ↦ w.t-4-is ∙ rw (lt-leb _ _ w.if-q-ge1.false) (sym (zero_hidden c.args.set c.args.q w.if-q-ge1.false))
    ]
