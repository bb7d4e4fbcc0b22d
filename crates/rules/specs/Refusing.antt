-- Refused by the first check that fails (document 01, 'Returned to the caller'): what a call needs, in the order of its checks, and which refusal stands for each. A call's
-- list reads as the document's line, "1, 6, 3, 5"; it has no clause for a refusal that the call never gives.
use Rattle.std.specs.Prelude.{◌≡◌, ◌⊎◌, ◌↔◌}
use Rattle.rules.specs.declared.refusal.Refusal.{Refusal}

infixr 5 ◌or◌then◌
-- what is needed: a condition, or else this refusal, and then the rest; or nothing more
pub data Needs : Type 1 where
  passed : Needs
  ◌or◌then◌ : Type 0 → Refusal → Needs → Needs

-- the refusal f is that of the first condition that does not hold
abbrev pub RefusedBy : Needs → Refusal → Type 0
RefusedBy passed f = ⊥
RefusedBy (P or g then rest) f = ((P → ⊥) × (f ≡ g)) ⊎ (P × RefusedBy rest f)

-- all conditions hold
abbrev pub AllMet : Needs → Type 0
AllMet passed = Unit {0}
AllMet (P or g then rest) = P × AllMet rest

-- a call is decided by what it needs: it returns a refusal exactly where that is the first need's that is not met, and accepts exactly where all are met. How a call
-- tells its caller of a refusal, and that it accepts, is the call's own: by a number and values, or by the words that a host is told
pub record DecidedBy (needs : Needs) (returns : Refusal → Type 0) (accepts : Type 0) : Type 0 where
  pub refused : (f : Refusal) → returns f ↔ RefusedBy needs f
  pub accepted : accepts ↔ AllMet needs
