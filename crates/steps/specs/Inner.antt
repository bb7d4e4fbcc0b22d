-- What the functions inside ask and answer; no promise of the call rests on it.
use Rattle.std.specs.Prelude.{◌≡◌, List, ℕ, ◌≤◌, ◌<◌, ℤ, length, get_or, Ok, Err}
use Rattle.rules.specs.declared.refusal.Refusal.{Refusal}
use Rattle.rules.specs.Refusing.{passed, AllMet}
use Rattle.tables.specs.Replies.{Reply}
use Rattle.steps.specs.Steps.{step_reply}
use Rattle.steps.specs.Meaning.{step_needs_then}

-- a list begins with all of n quantities, each by its number less one
pub record AllListed (n : ℕ) (out : List ℕ) : Type 0 where
  pub room : n ≤ length out
  pub each : (i : ℕ) → i < n → get_or out i 0 ≡ i

-- the call's checks before 5: a refusal is the call's reply, and where they are done the needs are met
pub record StepChecked (n set q blocks : ℕ) (t : List ℤ) (w : ℕ) (r : Reply) : Type 0 where
  pub stands : (f : Refusal) → r ≡ Err f → r ≡ step_reply n set q blocks t w
  pub passes : r ≡ Ok tt → AllMet (step_needs_then n set q blocks t w passed)
