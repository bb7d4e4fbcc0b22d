-- `signed::after_sign` meets its contract: the number with its sign, but 0 has no minus. Assumes nothing.
use mathlib.Core.Path.{◌≡◌, sym}
use mathlib.Core.Bool.{true}
use mathlib.Core.Logic.{⊎_elim}
use Prim.Native.Nat.{◌<◌}
use native.Mathlib.Omega.{arith}
use Rattle.integers.proofs.Parts.{held_value}
use Rattle.numerals.proofs.Cases.{clash}
use Rattle.lines.proofs.SignedNumbers.{answer_cap, bound_bare, minus_zero, number_bound}
use Rattle.lines.proofs.signed.after_sign.Goals as goal

pub returns-in_err-found : goal.returns-in_err-found
returns-in_err-found c = rw c.from_residual.ensures (bound_bare c.args.s.now c.args.minus _ c.in_err-found.ensures)

pub returns-then-found-eq0 : goal.returns-then-found-eq0
returns-then-found-eq0 c = rw c.if-minus.true (minus_zero c.args.s.now _ _ c.in_ok-found.ensures c.if-found-eq0.true)

pub with_sign-requires : goal.with_sign-requires
with_sign-requires c = answer_cap _ _ _ (sym c.in_ok-found.ensures)

pub returns : goal.returns
returns c = let a = c.args in
    -- after a minus it is above 0
    let above : a.minus ≡ true → 0 < c.in_ok-found.found.value = λ e. ⊎_elim (λ x. omega arith) (λ x. clash e x) c.else-minus.either in
    rw (held_value c.with_sign.type_inv, c.with_sign.ensures) (number_bound a.minus a.s.now _ _ c.in_ok-found.ensures above)
