-- What tightening, in place and in a workspace, and the tight key call promise. What tightening asks is in `Inner` of keys, what the functions inside ask in Inner.
use Rattle.std.specs.Prelude.{Bool, true, false, ◌≡◌, ◌↔◌, List, ℕ, ◌<◌, ℤ, take, ◌<ℤ◌}
use Rattle.words.specs.Change.{word_at}
use Rattle.words.specs.Lent.{Lent}
use Rattle.places.specs.Numbering.{block_start}
use Rattle.rules.specs.Hidden.{hidden_in}
use Rattle.rules.specs.Meaning.{Assignment}
use Rattle.tables.specs.Places.{rule_at}
use Rattle.tables.specs.Tables.{has_rule}
use Rattle.tables.specs.Replies.{Reply}
use Rattle.tables.specs.Meaning.{Satisfies, Unsatisfiable, SheetAllows, NoneAbove, MetByAll, Breaks}
use Rattle.keys.specs.Keys.{refuted}
use Rattle.keys.specs.Meaning.{SheetAccepted}
use Rattle.keys.specs.Promises.{KeyedAs}
use Rattle.tightening.specs.Tightening.{tightened, tight_key_of}
use Rattle.tightening.specs.Meaning.{TightKey, SheetsAllowSame}

-- ---- tightening

-- w is the least bound of the term of place k in a table over n quantities, over unbounded integers, with an assignment that shows it. Where w is a rule, all that satisfies the table meets it, and
-- every smaller integer is broken. Where it is no rule, the term has no bound at all: every integer is broken, however large
pub record LeastBound (n : ℕ) (t : List ℤ) (k : ℕ) (w : ℤ) : Type 0 where
  pub met : has_rule w ≡ true → MetByAll (Satisfies n t) (rule_at k w)
  pub smaller : has_rule w ≡ true → (c : ℤ) → c <ℤ w → Breaks (Satisfies n t) (rule_at k c)
  pub none : has_rule w ≡ false → (c : ℤ) → Breaks (Satisfies n t) (rule_at k c)

-- a table made the tightest, and whether no integers satisfy it. Where some do, each word is the least bound of its term. Where none do, the table's words are free
pub record Tightened (n : ℕ) (before : List ℤ) (r : Bool) (after : List ℤ) : Type 0 where
  pub reply : r ≡ refuted n before
  pub none : (r ≡ true) ↔ Unsatisfiable n before
  pub table : r ≡ false → after ≡ tightened n before
  pub lent : Lent (block_start n) true before after
  pub bounds : r ≡ false → (k : ℕ) → k < block_start n → LeastBound n before k (word_at after k)

-- ---- the tight key in a workspace

-- a sheet's tight key made in the first 2n² words of a workspace, and whether no integers satisfy the sheet. Where none do, these words are free. The sheet is only read
pub record TightTried (n set : ℕ) (table workspace : List ℤ) (r : Bool) (workspace' : List ℤ) : Type 0 where
  pub reply : r ≡ refuted n table
  pub none : (r ≡ true) ↔ Unsatisfiable n table
  pub tight : r ≡ false → take (block_start n) workspace' ≡ take (block_start n) (tight_key_of (hidden_in set) n table)
  -- of words of 64 bits, none of which is above the no-rule word
  pub made : r ≡ false → NoneAbove (block_start n) table → TightKey (hidden_in set) n (Satisfies n table) workspace'
  pub lent : Lent (block_start n) true workspace workspace'

-- ---- the tight key call

-- a tight key of a sheet, and what follows of it
pub record TightKeyMade (n set : ℕ) (sheet key : List ℤ) : Type 0 where
  pub tight : TightKey (hidden_in set) n (Satisfies n sheet) key
  -- demand 2 holds of it too
  pub meaning : (σ : Assignment) → Satisfies n key σ ↔ SheetAllows (hidden_in set) (Satisfies n sheet) σ
  -- one meaning, one table: two sheets allow the same visible integers exactly when the first 2n² words of their tight keys are the same
  pub same : (sheet₂ key₂ : List ℤ) → SheetAccepted n set sheet₂ → TightKey (hidden_in set) n (Satisfies n sheet₂) key₂
      → SheetsAllowSame (hidden_in set) (Satisfies n sheet) (Satisfies n sheet₂) ↔ (take (block_start n) key ≡ take (block_start n) key₂)

-- the definition applied to a tight table, whatever its bounds, changes nothing, and neither do the steps
pub record TightStays (hidden : ℕ → Bool) (n : ℕ) (tight : List ℤ) : Type 0 where
  pub definition : TightKey hidden n (Satisfies n tight) tight
  pub steps : tight_key_of hidden n tight ≡ tight

-- the tight key call: its checks, refusals and memory are the key call's
pub record TightKeyed (n set : ℕ) (table workspace : List ℤ) (r : Reply) (table' workspace' : List ℤ) : Type 0 where
  pub keyed : KeyedAs tight_key_of TightKeyMade n set table workspace r table' workspace'
  -- of any tables, in limits or not: at most one table, as far as its 2n² words go, is the tight key of another, and it stays
  pub only : (sheet tight other : List ℤ) → TightKey (hidden_in set) n (Satisfies n sheet) tight → TightKey (hidden_in set) n (Satisfies n sheet) other
      → take (block_start n) other ≡ take (block_start n) tight
  pub again : (sheet tight : List ℤ) → TightKey (hidden_in set) n (Satisfies n sheet) tight → TightStays (hidden_in set) n tight
