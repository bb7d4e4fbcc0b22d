-- The call's checks: which refusal stands at each, and that they are tied to what the call needs. Assumes nothing.
use mathlib.Core.Path.{◌≡◌, refl, sym, ◌∙◌}
use mathlib.Core.Bool.{true, ◌&&◌}
use mathlib.Core.Logic.{◌↔◌}
use mathlib.Core.List.{List}
use Prim.Native.Nat.{ℕ, suc}
use lib.Dec.{leb}
use lib.IntN.{ℤ}
use borrow.Author.Tests.{leb-true, le-leb}
use Rattle.rules.specs.declared.refusal.Refusal.{Refusal}
use Rattle.rules.specs.declared.refusal.Refusal.TheVariants.{OutOfLimit}
use Rattle.rules.specs.Refusing.{passed, AllMet}
use Rattle.std.specs.Prelude.{Ok, Err}
use Rattle.tables.proofs.Tests.{both_true, not_so}
use Rattle.tables.proofs.Refusing.{Tied, tied_done, tied_more}
use Rattle.keys.specs.Keys.{key_reply}
use Rattle.keys.specs.Meaning.{key_needs_then}
use Rattle.keys.specs.Inner.{KeyChecked}
use Rattle.keys.proofs.Checking.{decided_some, checks_tied, checks_before}
use Rattle.steps.specs.Steps.{step_within, step_checks, step_reply}
use Rattle.steps.specs.Meaning.{PointWithin, step_needs_then, step_needs}
use Rattle.steps.specs.Inner.{StepChecked}

-- the test of quantity and blocks
point_test : (n q blocks : ℕ) → (step_within n q blocks ≡ true) ↔ PointWithin n q blocks
unfolding step_within
point_test n q blocks = (
  λ e.
      let a = both_true (leb 1 q) (leb q n && leb blocks (suc n)) e in
      let b = both_true (leb q n) (leb blocks (suc n)) a.1 in
      record { some = leb-true 1 q a.0; most = leb-true q n b.0; point = leb-true blocks (suc n) b.1 },
  λ p. rw (le-leb 1 q p.some, le-leb q n p.most, le-leb blocks (suc n) p.point),
)

-- the call is refused by the first need that is not met
pub step_tied : (n set q blocks : ℕ) (t : List ℤ) (w : ℕ) → Tied (step_needs n set q blocks t w) (step_reply n set q blocks t w)
unfolding step_reply step_checks
step_tied n set q blocks t w =
    checks_tied n set t w _ _ (λ s b.
    tied_more _ _ _ _ _ (point_test n q blocks) (λ p.
    tied_more _ _ _ _ _ (decided_some n set t s b) (λ x. tied_done)))

-- ---- at each check

module _ (n set q blocks : ℕ) (t : List ℤ) (w : ℕ) where
  -- a refusal of the key call's checks is the call's
  pub step_stops : (f : Refusal) → KeyChecked n set t w (Err f) → StepChecked n set q blocks t w (Err f)
  unfolding step_reply step_checks
  step_stops f k = record { stands = λ g e. sym ((checks_before n set t w).stands f (sym k.reply) _); passes = λ e. cc }

  module _ (k : KeyChecked n set t w (Ok tt)) where
    -- past them no quantity is 0 or above n, and a step has no more than n + 1 points after its start
    pub step_outside : (PointWithin n q blocks → ⊥) → StepChecked n set q blocks t w (Err (OutOfLimit 0))
    unfolding step_reply step_checks
    step_outside h = record {
      stands = λ g e. sym ((checks_before n set t w).goes_on (sym k.reply) _ ∙ rw (not_so (point_test n q blocks) h));
      passes = λ e. cc;
    }

    pub step_passes : PointWithin n q blocks → StepChecked n set q blocks t w (Ok tt)
    step_passes p = record { stands = λ g e. cc; passes = λ e. go (k.passes refl) }
      where
        go : AllMet (key_needs_then n set t w passed) → AllMet (step_needs_then n set q blocks t w passed)
        go (s, (l, (m, u))) = (s, (l, (m, (p, u))))

-- past the checks the reply is the key call's, whose needs are then met
pub key_met : (n set q blocks : ℕ) (t : List ℤ) (w : ℕ) → AllMet (step_needs_then n set q blocks t w passed) → AllMet (key_needs_then n set t w passed)
key_met n set q blocks t w (s, (l, (m, (p, u)))) = (s, (l, (m, u)))

pub point_met : (n set q blocks : ℕ) (t : List ℤ) (w : ℕ) → AllMet (step_needs_then n set q blocks t w passed) → PointWithin n q blocks
point_met n set q blocks t w (s, (l, (m, (p, u)))) = p

pub step_late : (n set q blocks : ℕ) (t : List ℤ) (w : ℕ) → AllMet (step_needs_then n set q blocks t w passed) → step_reply n set q blocks t w ≡ key_reply n set t w
unfolding step_reply step_checks key_reply
step_late n set q blocks t w p = rw ((point_test n q blocks).1 (point_met n set q blocks t w p))
