-- What the functions inside ask and answer: for those who read the code. What a caller has to believe is in Promises and Below.
use Rattle.std.specs.Prelude.{Bool, true, false, ◌≡◌, List, ℕ, ◌*◌, ◌/◌, ◌≤◌, ◌<◌, ℤ, length}
use Rattle.words.specs.Change.{word_at}
use Rattle.words.specs.Lent.{Lent}
use Rattle.places.specs.Numbering.{block_start}
use Rattle.rules.specs.Limits.{max_quantities}
use Rattle.tables.specs.Meaning.{WordsWithin}
use Rattle.elimination.specs.Magnitude.{add_limit}
use Rattle.elimination.specs.Hiding.{lone_word}
use Rattle.elimination.specs.Inner.{among, Listed}
use Rattle.tightening.specs.Tightening.{pair_up_to, clash_up_to}

-- two rows with room for a word of each literal
pub record RowsLent (n : ℕ) (plus minus : List ℤ) : Type 0 where
  pub plus_room : 2 * n ≤ length plus
  pub minus_room : 2 * n ≤ length minus

-- all quantities paired: whether a contradiction is met, and where not, every word; where one is, the table's words are free
pub record AllPaired (n : ℕ) (before : List ℤ) (r : Bool) (after : List ℤ) : Type 0 where
  pub reply : r ≡ clash_up_to n n before
  pub table : r ≡ false → after ≡ pair_up_to n n before
  pub lent : Lent (block_start n) true before after

-- a table over n quantities whose words add
pub record Adding (n : ℕ) (t : List ℤ) : Type 0 where
  pub most : n ≤ max_quantities
  pub room : block_start n ≤ length t
  pub words : WordsWithin (block_start n) add_limit t

-- a table over n quantities, a list of live ones, and a row with room for the bound of each literal alone
pub record LoneGatherable (n : ℕ) (live : List ℕ) (table row : List ℤ) : Type 0 where
  pub most : n ≤ max_quantities
  pub listed : Listed n live
  pub room : block_start n ≤ length table
  pub row_room : 2 * n ≤ length row

-- those of live literals gathered; what else stands in the row does not matter
pub record LoneGathered (n : ℕ) (live : List ℕ) (table row : List ℤ) : Type 0 where
  pub bounds : (x : ℕ) → x < 2 * n → among live (x / 2) ≡ true → word_at row x ≡ lone_word table x
