-- Hiding with marks in document 02's own words ([6]), by sums of rules. Hiding.antt says the same place by place. Which sums there are, and which bounds they leave, is `elimination`'s ByRules; here is which of the rules that
-- are left are marked.
use Rattle.std.specs.Prelude.{Bool, true, false, ◌&&◌, List, ◌↔◌, ◌⊎◌, ◌≡◌, ℕ, suc, ◌+◌, ◌*◌, ◌<◌, eqb, ℤ, ◌+ℤ◌, Some}
use Rattle.integers.specs.Bound.{odd}
use Rattle.words.specs.Change.{word_at}
use Rattle.places.specs.Numbering.{block_start}
use Rattle.rules.specs.declared.rule.Rule.{Rule}
use Rattle.rules.specs.declared.rule.Partner.{Partner}
use Rattle.rules.specs.declared.rule.Partner.TheVariants.{With, Alone, Absent}
use Rattle.rules.specs.Meaning.{bound_of}
use Rattle.rules.specs.Steps.{partner_of}
use Rattle.tables.specs.Places.{find_place}
use Rattle.tables.specs.Tables.{has_rule}
use Rattle.elimination.specs.ByRules.{IsSum}
use Rattle.keys.specs.Meaning.{HiddenInTurn}

-- 'its own halving was odd': the sum s of the bounds of two rules is halved where their remaining terms are alike
unfoldable pub sum_loses_half : Partner → Partner → ℤ → Bool
sum_loses_half (With x) (With y) s = eqb x y && odd s
sum_loses_half (With x) Alone s = false
sum_loses_half (With x) Absent s = false
sum_loses_half Alone q s = false
sum_loses_half Absent q s = false

-- 'a sum is marked when either of its rules was, or when its own halving was odd': a sum that goes to place k with the bound w and is not marked. A rule is marked where its place is
pub record UnmarkedSum (n j : ℕ) (t : List ℤ) (marks : ℕ → Bool) (k : ℕ) (w : ℤ) : Type 0 where
  pub sum : Rule
  pub is : IsSum n j t sum
  pub place : find_place sum ≡ Some k
  pub bound : w ≡ bound_of sum
  pub plus_unmarked : marks is.with_plus.place ≡ false
  pub minus_unmarked : marks is.with_minus.place ≡ false
  pub whole : sum_loses_half (partner_of (2 * j) is.plus) (partner_of (2 * j + 1) is.minus) (bound_of is.plus +ℤ bound_of is.minus) ≡ false

-- `after` being `before` with quantity j + 1 hidden, its marks are these
pub record MarkedByRules (n j : ℕ) (before : List ℤ) (marks : ℕ → Bool) (after : List ℤ) (marks' : ℕ → Bool) : Type 0 where
  -- 'where two rules of equal bound meet, the unmarked one is kept': a rule is unmarked exactly when an unmarked one of its bound stood there or is among the sums
  pub unmarked : (k : ℕ) → k < block_start n → has_rule (word_at after k) ≡ true
      → (marks' k ≡ false) ↔ (((word_at after k ≡ word_at before k) × (marks k ≡ false)) ⊎ UnmarkedSum n j before marks k (word_at after k))
  -- 'places without a rule end with mark 0'
  pub empty : (k : ℕ) → k < block_start n → has_rule (word_at after k) ≡ false → marks' k ≡ false

-- the same for all hidden quantities, given the tables in between: marks in between, those of the next table made by sums of rules where a quantity is hidden
pub record MarksInTurn (hidden : ℕ → Bool) (n : ℕ) (tables : ℕ → List ℤ) (marks marks' : ℕ → Bool) : Type 0 where
  pub between : ℕ → ℕ → Bool
  pub first : (k : ℕ) → k < block_start n → between 0 k ≡ marks k
  pub last : (k : ℕ) → k < block_start n → between n k ≡ marks' k
  pub hides : (j : ℕ) → j < n → hidden (suc j) ≡ true → MarkedByRules n j (tables j) (between j) (tables (suc j)) (between (suc j))
  pub passes : (j : ℕ) → j < n → hidden (suc j) ≡ false → (k : ℕ) → k < block_start n → between (suc j) k ≡ between j k

-- several quantities are hidden in increasing number, with marks: the tables in between are those of hiding without marks
pub record MarkedInTurn (hidden : ℕ → Bool) (n : ℕ) (before : List ℤ) (marks : ℕ → Bool) (after : List ℤ) (marks' : ℕ → Bool) : Type 0 where
  pub turns : HiddenInTurn hidden n before after
  pub marked : MarksInTurn hidden n turns.tables marks marks'
