-- A rule given by three numbers outside a text: two signed quantity numbers, the second 0 for none, and a bound. What a sheet's limits are for it (document 01, 'Sheet limits'), and what it is.
use Rattle.std.specs.Prelude.{Bool, cond, ◌&&◌, ◌||◌, ◌≡◌, ◌↔◌, ◌⊎◌, ℕ, ◌≤◌, leb, ℤ, pos, nat_abs, Result, Ok, Err}
use Rattle.integers.specs.Bound.{Within}
use Rattle.rules.specs.declared.rule.Rule.{Rule}
use Rattle.rules.specs.declared.paper.Paper.TheVariants.{Sheet}
use Rattle.rules.specs.Limits.{bound_limit}
use Rattle.rules.specs.Literal.{quantity_within}
use Rattle.rules.specs.Steps.{is_none, rule_of}
use Rattle.tables.specs.declared.given.Misstated.{Misstated}
use Rattle.tables.specs.declared.given.Misstated.TheVariants.{Outside, Vanishes}
use Rattle.tables.specs.Tables.{cancels}
use Rattle.tables.specs.Meaning.{Cancels}

-- ---- what it means

-- an integer is the number, with a sign, of one of n quantities
abbrev pub NamesOneOf : ℕ → ℤ → Type 0
NamesOneOf n z = (1 ≤ nat_abs z) × (nat_abs z ≤ n)

-- three numbers are in the limits of a rule on a sheet over n quantities; that of the bound is on the number as written, also of a doubled term
pub record GivenWithin (n : ℕ) (first second bound : ℤ) : Type 0 where
  pub named : NamesOneOf n first
  pub other : (second ≡ pos 0) ⊎ NamesOneOf n second
  pub limit : Within (pos (bound_limit Sheet n 0)) bound

-- ---- the steps

-- the rule as written, or why there is none
abbrev pub Given : Type 0
Given = Result Rule Misstated

unfoldable pub given_within : ℕ → ℤ → ℤ → ℤ → Bool
given_within n first second bound = quantity_within n (nat_abs first) && ((is_none second || quantity_within n (nat_abs second)) && leb (nat_abs bound) (bound_limit Sheet n 0))

unfoldable pub given_of : ℕ → ℤ → ℤ → ℤ → Given
given_of n first second bound = cond (given_within n first second bound) (cond (cancels (rule_of first second bound)) (Err Vanishes) (Ok (rule_of first second bound))) (Err Outside)

-- ---- what is promised: outside and cancelling exactly when they are, and else the rule as written

pub record GivenAs (n : ℕ) (first second bound : ℤ) (r : Given) : Type 0 where
  pub reply : r ≡ given_of n first second bound
  pub outside : (r ≡ Err Outside) ↔ (GivenWithin n first second bound → ⊥)
  pub cancelled : (r ≡ Err Vanishes) ↔ (GivenWithin n first second bound × Cancels (rule_of first second bound))
  pub stated : (rule : Rule) → (r ≡ Ok rule) ↔ (GivenWithin n first second bound × (Cancels (rule_of first second bound) → ⊥) × (rule ≡ rule_of first second bound))
