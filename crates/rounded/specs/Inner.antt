-- What the functions inside ask and answer; no promise of the call rests on it.
use Rattle.std.specs.Prelude.{Bool, true, false, cond, ◌&&◌, ◌||◌, ◌≡◌, List, ℕ, zero, suc, ◌+◌, ◌*◌, ◌≤◌, ◌<◌, ◌-◌, ◌^◌, ℤ, pos, ◌+ℤ◌, length, drop, Ok}
use Rattle.std.specs.Int.Signed.{lt_z}
use Rattle.integers.specs.Bound.{half, bit, Within}
use Rattle.words.specs.Change.{word_at}
use Rattle.words.specs.Lent.{Lent}
use Rattle.places.specs.Numbering.{block_start, is_one}
use Rattle.rules.specs.Hidden.{hidden_in, member_count}
use Rattle.rules.specs.Limits.{max_quantities, no_rule}
use Rattle.tables.specs.Replies.{Reply}
use Rattle.tables.specs.Meaning.{WordsWithin, NoneAbove}
use Rattle.tables.specs.Tables.{has_rule}
use Rattle.rules.specs.Refusing.{passed, AllMet}
use Rattle.elimination.specs.Hiding.{lone_word}
use Rattle.marks.specs.Marks.{Marked, byte_at, marked_of}
use Rattle.marks.specs.Bytes.{MarksWithin, MarksAre}
use Rattle.keys.specs.Keys.{key_of, refuted}
use Rattle.keys.specs.Inner.{SetHidden}
use Rattle.rounded.specs.Hiding.{marked_key}
use Rattle.rounded.specs.Keys.{marked_key_checks}
use Rattle.rounded.specs.Meaning.{marked_key_needs_then}

-- ---- the sums fit, also of bounds doubled

pub record MarkedFits (n : ℕ) (t : List ℤ) (marks : List ℕ) : Type 0 where
  pub most : n ≤ max_quantities
  pub room : block_start n ≤ length t
  pub marks_room : block_start n ≤ length marks
  pub binary : MarksWithin (block_start n) marks
  pub limit : ℕ
  pub within : WordsWithin (block_start n) (pos limit) t
  pub none_above : NoneAbove (block_start n) t
  pub last : suc limit * 2 ^ n < 2 ^ 62

-- some quantity is visible: then bounds doubled fit too
abbrev pub SomeVisible : ℕ → ℕ → Type 0
SomeVisible n set = member_count (hidden_in set) n < n

-- no rule of two quantities is marked, as after reading: then none becomes so
abbrev pub PairsUnmarked : ℕ → List ℕ → Type 0
PairsUnmarked n marks = (k : ℕ) → k < block_start n → is_one k ≡ false → byte_at marks k ≡ 0

-- of the bytes from one place to another none is other than 0, where the test says no; where it says yes nothing is told, since the way that serves any marks is taken then
pub record RunTested (from to : ℕ) (marks : List ℕ) (r : Bool) : Type 0 where
  pub none : r ≡ false → (k : ℕ) → from ≤ k → k < to → byte_at marks k ≡ 0

-- the test of it, likewise
pub record PairsTested (n : ℕ) (marks : List ℕ) (r : Bool) : Type 0 where
  pub none : r ≡ false → PairsUnmarked n marks

-- ---- the set hidden, with marks

-- as without marks; and where no contradiction is met, the marks are the key's. Else they are free, as far as the table goes
pub record MarkedHidden (n set : ℕ) (before : List ℤ) (marks : List ℕ) (r : Bool) (after : List ℤ) (marks' : List ℕ) : Type 0 where
  pub hidden : SetHidden n set before r after
  pub marked : r ≡ false → MarksAre (block_start n) (marked_key (hidden_in set) n (marked_of before marks)) marks marks'
  pub size : length marks' ≡ length marks
  pub rest : drop (block_start n) marks' ≡ drop (block_start n) marks

-- ---- in one table of doubled bounds, where no pair is marked

-- the halves of two doubled bounds add to less than 0: the bare sum of the bounds is a contradiction
unfoldable pub halves_below : ℤ → ℤ → Bool
halves_below p m = (has_rule p && has_rule m) && lt_z (half p +ℤ half m) (pos 0)

-- it is so of +q and -q for a member q of the first m quantities
unfoldable pub any_halves_below : (ℕ → Bool) → ℕ → List ℤ → Bool
any_halves_below members zero t = false
any_halves_below members (suc j) t = (members (suc j) && halves_below (lone_word t (2 * j)) (lone_word t (2 * j + 1))) || any_halves_below members j t

-- ---- in two tables, where pairs are marked: the rules, and beside them the unmarked ones alone, their bounds doubled

abbrev pub masked_word : Marked → ℤ
masked_word w = cond (has_rule w.bound) (cond w.mark no_rule (w.bound +ℤ w.bound)) no_rule

pub record Masked (m : ℕ) (t : List ℤ) (marks : List ℕ) (before after : List ℤ) : Type 0 where
  pub each : (k : ℕ) → k < m → word_at after k ≡ masked_word (marked_of t marks k)
  pub lent : Lent m true before after

-- a word is no rule, or a bound whose double is a word
abbrev pub DoubleFits : ℤ → Type 0
DoubleFits w = has_rule w ≡ true → Within (pos (2 ^ 62 - 1)) w

-- a rule is unmarked exactly where its bound doubled stands beside it
abbrev pub beside_mark : ℤ → ℤ → Bool
beside_mark w v = cond (has_rule w) (cond (lt_z v (w +ℤ w)) true (lt_z (w +ℤ w) v)) false

pub record ComparedBeside (m : ℕ) (t copy : List ℤ) (before after : List ℕ) : Type 0 where
  pub size : length after ≡ length before
  pub each : (k : ℕ) → k < m → byte_at after k ≡ bit (beside_mark (word_at t k) (word_at copy k))
  pub rest : drop m after ≡ drop m before

-- ---- the call

-- whether no integers satisfy the sheet; where some do, its table is the key, with its marks
pub record MarkedKeyTried (n set : ℕ) (table : List ℤ) (marks : List ℕ) (workspace : List ℤ) (r : Bool) (table' : List ℤ) (marks' : List ℕ) (workspace' : List ℤ) : Type 0 where
  pub reply : r ≡ refuted n table
  pub words : table' ≡ cond r table (key_of (hidden_in set) n table)
  pub lent : Lent (block_start n) true workspace workspace'
  pub marked : r ≡ false → MarksAre (block_start n) (marked_key (hidden_in set) n (marked_of table marks)) marks marks'
  pub kept : r ≡ true → marks' ≡ marks

-- the checks before 5: a refusal is the call's reply, and where they are done the needs are met
pub record MarkedKeyChecked (n set : ℕ) (t : List ℤ) (marks : List ℕ) (w : ℕ) (r : Reply) : Type 0 where
  pub reply : r ≡ marked_key_checks n set t marks w (Ok tt)
  pub passes : r ≡ Ok tt → AllMet (marked_key_needs_then n set t marks w passed)
  -- every word was looked at, and a word of 64 bits is not above the no-rule word
  pub words : r ≡ Ok tt → NoneAbove (block_start n) t
