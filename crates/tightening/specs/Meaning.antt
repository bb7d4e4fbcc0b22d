-- The tightest key (document 02, [2]), by meaning alone: over unbounded integers, with no step of a program in it.
use Rattle.std.specs.Prelude.{Bool, true, false, ◌≡◌, ◌↔◌, List, ℕ, ◌≤◌, ◌<◌, ℤ, pos, length, ◌≤ℤ◌}
use Rattle.words.specs.Change.{word_at}
use Rattle.places.specs.Numbering.{block_start}
use Rattle.rules.specs.Meaning.{Assignment, names}
use Rattle.tables.specs.Places.{rule_at}
use Rattle.tables.specs.Meaning.{HoldsRule, Solutions, SheetAllows, NoneAbove, MetByAll}

-- some integer, of whatever size, is a bound on the term of place k that all assignments of a sheet meet
pub record Bounded (sheet : Solutions) (k : ℕ) : Type 0 where
  pub bound : ℤ
  pub met : MetByAll sheet (rule_at k bound)

-- the least such bound
pub record LeastMet (sheet : Solutions) (k : ℕ) (c : ℤ) : Type 0 where
  pub met : MetByAll sheet (rule_at k c)
  pub least : (d : ℤ) → MetByAll sheet (rule_at k d) → c ≤ℤ d

-- the term of place k is of visible quantities
abbrev pub VisibleAt : (ℕ → Bool) → ℕ → Type 0
VisibleAt hidden k = (q : ℕ) → names q (rule_at k (pos 0)) ≡ true → hidden q ≡ false

-- the tightest key of a sheet over n quantities, as a table: a term has a rule exactly when it is of visible quantities and some bound on it is met by all assignments of the sheet; the rule
-- carries the least such bound
pub record TightKey (hidden : ℕ → Bool) (n : ℕ) (sheet : Solutions) (key : List ℤ) : Type 0 where
  pub rule : (k : ℕ) → k < block_start n → HoldsRule n key k ↔ (VisibleAt hidden k × Bounded sheet k)
  pub least : (k : ℕ) → HoldsRule n key k → LeastMet sheet k (word_at key k)
  -- as in every table of words: they are all there, and none is above the no-rule word
  pub room : block_start n ≤ length key
  pub words : NoneAbove (block_start n) key

-- the tightest table of a sheet: its tightest key where no quantity is taken as hidden
abbrev pub TightTable : ℕ → Solutions → List ℤ → Type 0
TightTable n sheet tight = TightKey (λ q. false) n sheet tight

-- two sheets allow the same visible integers
abbrev pub SheetsAllowSame : (ℕ → Bool) → Solutions → Solutions → Type 0
SheetsAllowSame hidden sheet other = (σ : Assignment) → SheetAllows hidden sheet σ ↔ SheetAllows hidden other σ
