-- What it takes to find an assignment of a table that breaks a rule, and what is found.
use Rattle.std.specs.Prelude.{true, ◌≡◌, List, ℕ, suc, ◌-◌, ◌*◌, ◌≤◌, ◌<◌, ◌^◌, ℤ, pos, length}
use Rattle.integers.specs.Bound.{Within, opposite_bound}
use Rattle.words.specs.Change.{word_at}
use Rattle.words.specs.Lent.{Lent}
use Rattle.places.specs.Numbering.{block_start}
use Rattle.rules.specs.declared.rule.Rule.{Rule}
use Rattle.rules.specs.Hidden.{hidden_in, member_count}
use Rattle.rules.specs.Meaning.{Meets}
use Rattle.rules.specs.Steps.{opposite_of}
use Rattle.tables.specs.Places.{rule_at}
use Rattle.tables.specs.Tables.{has_rule, put_rule}
use Rattle.tables.specs.Meaning.{Satisfies, Breaks, assignment_of}
use Rattle.keys.specs.Inner.{outside, RestFits}

-- a table, and the rule of a place that some assignment of the table breaks; with the rule's opposite put in sums fit, and no rule names a quantity of the set
pub record RuleBreakable (n set : ℕ) (table : List ℤ) (r : Rule) (values : List ℤ) : Type 0 where
  pub place : ℕ
  pub inside : place < block_start n
  pub bound : ℤ
  pub bounded : has_rule bound ≡ true
  pub is : r ≡ rule_at place bound
  pub small : has_rule (opposite_bound bound) ≡ true
  pub room : block_start n ≤ length table
  pub fits : RestFits n set (put_rule table (opposite_of r))
  pub breaks : Breaks (Satisfies n table) r
  pub values_room : n ≤ length values

-- the values found: they satisfy the table and break the rule, are 0 in the set, and are at most limit · (2 ^ v - 1) in magnitude, with v quantities outside it
pub record RuleBroken (n set : ℕ) (table : List ℤ) (r : Rule) (values table' values' : List ℤ) : Type 0 where
  pub lent : Lent (block_start n) true table table'
  pub written : Lent n true values values'
  pub satisfies : Satisfies n table (assignment_of values')
  pub broken : Meets (assignment_of values') r → ⊥
  pub zero : (i : ℕ) → i < n → hidden_in set (suc i) ≡ true → word_at values' i ≡ pos 0
  pub within : (f : RestFits n set (put_rule table (opposite_of r))) → (i : ℕ) → i < n
      → Within (pos (f.sums.limit * 2 ^ member_count (outside set) n - f.sums.limit)) (word_at values' i)
