-- What the functions of the step ask, and what its loops gather and put in: for those who read the code. What a caller has to believe is in Promises, but
-- for what it means to list quantities and to gather rows, for the words of a block (`BlockPaired`), and for `pair_blocks`, by which the tightest table is made too. Sums fit, so sums are asked of words that add. The live quantities are listed in increasing number, each by its
-- number less one; a row has the bounds of one literal with each literal of theirs, by literal, and what else stands in it does not matter.
use Rattle.std.specs.Prelude.{Bool, true, false, cond, not, ◌&&◌, ◌||◌, ◌≡◌, List, ℕ, suc, ◌+◌, ◌*◌, ◌/◌, ◌≤◌, ◌<◌, ℤ, ◌+ℤ◌, length, get_or, set, Option, Some, None}
use Rattle.integers.specs.Bound.{Within}
use Rattle.words.specs.Change.{word_at, change, starting_at}
use Rattle.places.specs.Numbering.{block_start}
use Rattle.rules.specs.Limits.{max_quantities}
use Rattle.rules.specs.Hidden.{is_listed}
use Rattle.tables.specs.Tables.{has_rule}
use Rattle.tables.specs.Meaning.{WordsWithin}
use Rattle.elimination.specs.declared.bounds.Bounds.{Bounds}
use Rattle.elimination.specs.declared.bounds.QuantityBounds.{QuantityBounds}
use Rattle.elimination.specs.Hiding.{with_sum, pair_word, pairing}
use Rattle.elimination.specs.Magnitude.{add_limit, value_limit, Unnamed}

-- a word is no rule, or a bound small enough to be added to another
abbrev pub Addable : ℤ → Type 0
Addable w = has_rule w ≡ true → Within add_limit w

-- an integer in the range of an assignment's values
abbrev pub Choosable : ℤ → Type 0
Choosable v = Within value_limit v

-- ---- the live quantities

-- the set of a list
abbrev pub among : List ℕ → ℕ → Bool
among list i = is_listed i list

-- a list in increasing number,
pub record Rising (list : List ℕ) : Type 0 where
  pub rises : (i : ℕ) → suc i < length list → get_or list i 0 < get_or list (suc i) 0

-- of n quantities
pub record Listed (n : ℕ) (list : List ℕ) : Type 0 where
  pub rising : Rising list
  pub below : (i : ℕ) → i < length list → get_or list i 0 < n

-- ---- a table and the rules of one quantity

-- a table over n quantities whose words add, and the quantity j + 1 of it
pub record Ready (n j : ℕ) (t : List ℤ) : Type 0 where
  pub most : n ≤ max_quantities
  pub one : j < n
  pub room : block_start n ≤ length t
  pub words : WordsWithin (block_start n) add_limit t

-- the same with a list of live quantities, and two rows with room for the bounds of the quantity with + and with -
pub record StepReady (n j : ℕ) (live : List ℕ) (table plus minus : List ℤ) : Type 0 where
  pub ready : Ready n j table
  pub listed : Listed n live
  pub plus_room : 2 * n ≤ length plus
  pub minus_room : 2 * n ≤ length minus

-- the live quantities have values
pub record Valued (n : ℕ) (live : List ℕ) (values : List ℤ) : Type 0 where
  pub room : n ≤ length values
  pub each : (i : ℕ) → among live i ≡ true → Choosable (word_at values i)

-- a row for the live quantities of n: its bounds add
pub record Row (n : ℕ) (live : List ℕ) (row : List ℤ) : Type 0 where
  pub most : n ≤ max_quantities
  pub room : 2 * n ≤ length row
  pub words : (x : ℕ) → x < 2 * n → among live (x / 2) ≡ true → Addable (word_at row x)

-- rows that have the bounds of quantity j + 1 with each literal of the live quantities of n
pub record Gathered (n j : ℕ) (live : List ℕ) (table plus minus : List ℤ) : Type 0 where
  pub plus_bounds : (x : ℕ) → x < 2 * n → among live (x / 2) ≡ true → word_at plus x ≡ pair_word table (2 * j) x
  pub minus_bounds : (x : ℕ) → x < 2 * n → among live (x / 2) ≡ true → word_at minus x ≡ pair_word table (2 * j + 1) x

-- quantities j + 1 and a + 1 in a table that has the block of the higher one, and rows with room for the bounds between them
pub record PairGatherable (j a : ℕ) (table plus minus : List ℤ) : Type 0 where
  pub one : j < max_quantities
  pub other : a < max_quantities
  pub one_room : block_start (suc j) ≤ length table
  pub other_room : block_start (suc a) ≤ length table
  pub plus_room : 2 * a + 2 ≤ length plus
  pub minus_room : 2 * a + 2 ≤ length minus

-- these bounds gathered: the two words of each row for quantity a + 1
pub record PairGathered (j a : ℕ) (table plus minus plus' minus' : List ℤ) : Type 0 where
  pub plus_row : plus' ≡ set (set plus (2 * a) (pair_word table (2 * j) (2 * a))) (2 * a + 1) (pair_word table (2 * j) (2 * a + 1))
  pub minus_row : minus' ≡ set (set minus (2 * a) (pair_word table (2 * j + 1) (2 * a))) (2 * a + 1) (pair_word table (2 * j + 1) (2 * a + 1))

-- the rules of a table over n quantities name quantity j + 1 and live ones alone
abbrev pub NamesAlone : ℕ → ℕ → List ℕ → List ℤ → Type 0
NamesAlone n j live t = (i : ℕ) → i < n → (i ≡ j → ⊥) → among live i ≡ false → Unnamed n i t

-- ---- sums put in, block after block

-- the block of the live quantity of place i in the list, and rows of bounds that add: those of each live literal with the quantity that is paired and + and with it and -
pub record TwosReady (i : ℕ) (live : List ℕ) (table plus minus : List ℤ) : Type 0 where
  pub some : i < length live
  pub rising : Rising live
  pub most : get_or live i 0 < max_quantities
  pub room : block_start (suc (get_or live i 0)) ≤ length table
  pub plus_row : Row (suc (get_or live i 0)) live plus
  pub minus_row : Row (suc (get_or live i 0)) live minus

-- and those p and m of that quantity alone
pub record BlockReady (i : ℕ) (live : List ℕ) (table plus minus : List ℤ) (p m : ℤ) : Type 0 where
  pub twos : TwosReady i live table plus minus
  pub plus_alone : Addable p
  pub minus_alone : Addable m

-- the sums put in at the places of live quantities in the block of quantity b + 1
pub record BlockPaired (b : ℕ) (live : List ℕ) (plus minus : List ℤ) (p m : ℤ) (before after : List ℤ) : Type 0 where
  pub table : after ≡ change (block_start (suc b)) (starting_at (block_start b) (pairing (among live) (word_at plus) (word_at minus) p m)) before

-- of these at the places of two quantities, for which the bounds p and m of the paired quantity alone do not matter
pub record TwosPaired (b : ℕ) (live : List ℕ) (plus minus before after : List ℤ) : Type 0 where
  pub table : (p m : ℤ) → after ≡ change (block_start (suc b)) (starting_at (block_start b + 2) (pairing (among live) (word_at plus) (word_at minus) p m)) before

-- the same of all blocks of n quantities
pub record BlocksReady (n : ℕ) (live : List ℕ) (table plus minus : List ℤ) (p m : ℤ) : Type 0 where
  pub listed : Listed n live
  pub room : block_start n ≤ length table
  pub plus_row : Row n live plus
  pub minus_row : Row n live minus
  pub plus_alone : Addable p
  pub minus_alone : Addable m

pub record BlocksPaired (n : ℕ) (live : List ℕ) (plus minus : List ℤ) (p m : ℤ) (before after : List ℤ) : Type 0 where
  pub table : after ≡ change (block_start n) (pairing (among live) (word_at plus) (word_at minus) p m) before

-- the bounds of quantity a + 1 in two rows of bounds, by literal
abbrev pub bounds_at : (ℕ → ℤ) → (ℕ → ℤ) → ℕ → QuantityBounds
bounds_at plus minus a = record { literal = record { plus = plus (2 * a); minus = minus (2 * a) }; negated = record { plus = plus (2 * a + 1); minus = minus (2 * a + 1) } }

-- the sums put in at the place of two literals x and y, given the bounds of each
abbrev pub two_paired : List ℤ → ℕ → Bounds → Bounds → List ℤ
two_paired t at x y = set t at (with_sum x.plus y.minus (with_sum x.minus y.plus (word_at t at)))

-- at the two places of x with y and x with -y
abbrev pub row_paired : List ℤ → ℕ → Bounds → QuantityBounds → List ℤ
row_paired t at x y = two_paired (two_paired t at x y.literal) (at + 1) x y.negated

-- and at the four places of two quantities, those of x with y, x with -y, -x with y and -x with -y
abbrev pub four_paired : List ℤ → ℕ → QuantityBounds → QuantityBounds → List ℤ
four_paired t at x y =
    two_paired (two_paired (two_paired (two_paired t at x.literal y.literal) (at + 1) x.literal y.negated) (at + 2) x.negated y.literal) (at + 3) x.negated y.negated

-- both bounds of a literal can be added
pub record BothAddable (x : Bounds) : Type 0 where
  pub plus : Addable x.plus
  pub minus : Addable x.minus

-- each of the four of a quantity can
pub record FourAddable (x : QuantityBounds) : Type 0 where
  pub literal : BothAddable x.literal
  pub negated : BothAddable x.negated

-- the sum of two bounds, where both are rules
abbrev pub sum_of : ℤ → ℤ → Option ℤ
sum_of a b = cond (has_rule a && has_rule b) (Some (a +ℤ b)) None

-- both bounds of a literal are rules,
abbrev pub both_held : Bounds → Bool
both_held x = has_rule x.plus && has_rule x.minus

-- as is each of the four of a quantity: the test by which the code adds without further tests
abbrev pub all_held : QuantityBounds → Bool
all_held x = both_held x.literal && both_held x.negated

-- neither of a literal's is a rule: the test by which it passes over two places
abbrev pub neither_held : Bounds → Bool
neither_held x = not (has_rule x.plus || has_rule x.minus)

-- none of a quantity's is a rule: the test by which the code passes over a block to which no sum goes
abbrev pub none_held : QuantityBounds → Bool
none_held x = neither_held x.literal && neither_held x.negated
