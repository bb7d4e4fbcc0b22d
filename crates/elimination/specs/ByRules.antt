-- Hiding one quantity in document 01's own words, by sums of rules. Hiding.antt says the same place by place; that both agree is promised where a
-- quantity is hidden.
use Rattle.std.specs.Prelude.{Bool, true, false, List, ◌↔◌, ◌⊎◌, ◌≡◌, ℕ, suc, ◌+◌, ◌*◌, ◌<◌, ℤ, pos, ◌+ℤ◌, ◌≤ℤ◌, ◌<ℤ◌, Some}
use Rattle.words.specs.Change.{word_at}
use Rattle.places.specs.Numbering.{block_start}
use Rattle.rules.specs.declared.rule.Rule.{Rule}
use Rattle.rules.specs.declared.rule.Rule.TheVariants.{Nothing}
use Rattle.rules.specs.Limits.{no_rule}
use Rattle.rules.specs.Meaning.{bound_of, names}
use Rattle.rules.specs.Steps.{partner_of, rest_rule}
use Rattle.rules.specs.Promises.{Stands}
use Rattle.tables.specs.Places.{find_place}
use Rattle.tables.specs.Meaning.{HoldsRule, rule_in}

-- a 'rule with +q' or 'rule with -q': a place of the table over n quantities holds it, and the literal z stands in its term
pub record RuleWith (n z : ℕ) (t : List ℤ) (r : Rule) : Type 0 where
  pub place : ℕ
  pub holds : HoldsRule n t place
  pub is : r ≡ rule_in t place
  pub stands : Stands z r

-- 'every rule with +q is added to every rule with -q, q drops out, and the sum is halved where its two remaining terms are alike, or is
-- a bare 0 ≤ c where nothing remains or the rest cancels': u is such a sum, q being quantity j + 1. Its bound is over unbounded integers; where it is a word, u is
-- what the rule's own method hands back, `sum_over` (`QuantityHidden.sums`)
pub record IsSum (n j : ℕ) (t : List ℤ) (u : Rule) : Type 0 where
  pub plus : Rule
  pub minus : Rule
  pub with_plus : RuleWith n (2 * j) t plus
  pub with_minus : RuleWith n (2 * j + 1) t minus
  pub is : u ≡ rest_rule (partner_of (2 * j) plus) (partner_of (2 * j + 1) minus) (bound_of plus +ℤ bound_of minus)

-- a sum that goes to place k with the bound w
pub record SumAt (n j : ℕ) (t : List ℤ) (k : ℕ) (w : ℤ) : Type 0 where
  pub sum : Rule
  pub is : IsSum n j t sum
  pub place : find_place sum ≡ Some k
  pub bound : w ≡ bound_of sum

-- 'a bare 0 ≤ c with c below 0'
pub record BareSum (n j : ℕ) (t : List ℤ) : Type 0 where
  pub bound : ℤ
  pub is : IsSum n j t (Nothing bound)
  pub below : bound <ℤ pos 0

-- `after` is `before` with quantity j + 1 hidden, and r tells whether there is a contradiction
pub record HiddenByRules (n j : ℕ) (before : List ℤ) (r : Bool) (after : List ℤ) : Type 0 where
  -- 'sums go in by minimum': a word whose place does not name the quantity is at most every sum that goes there and the word before, and is one of them
  pub each : (u : Rule) → IsSum n j before u → (k : ℕ) → find_place u ≡ Some k → word_at after k ≤ℤ bound_of u
  pub lowered : (k : ℕ) → k < block_start n → names (suc j) (rule_in before k) ≡ false → word_at after k ≤ℤ word_at before k
  pub some : (k : ℕ) → k < block_start n → names (suc j) (rule_in before k) ≡ false
      → (word_at after k ≡ word_at before k) ⊎ SumAt n j before k (word_at after k)
  -- 'then all places that name q become no rule'
  pub blank : (k : ℕ) → k < block_start n → names (suc j) (rule_in before k) ≡ true → word_at after k ≡ no_rule
  -- 'a bare 0 ≤ c with c below 0 is a contradiction'
  pub bare : (r ≡ true) ↔ BareSum n j before
