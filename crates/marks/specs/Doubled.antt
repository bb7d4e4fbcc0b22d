-- A table that carries its marks in its words: each bound doubled, and 1 more where it is marked. So of two such words the smaller one is that of the smaller bound, and of equal bounds the unmarked one. No
-- promise of a call rests on it: it is for those who read the code.
use Rattle.std.specs.Prelude.{cond, ◌&&◌, ◌≡◌, List, [], ◌∷◌, ℕ, ◌≤◌, ◌<◌, ◌^◌, eqb, ℤ, pos, ◌+ℤ◌, length, drop}
use Rattle.integers.specs.Bound.{half, odd, bit}
use Rattle.words.specs.Change.{word_at}
use Rattle.rules.specs.declared.rule.Rule.{Rule}
use Rattle.rules.specs.declared.rule.Rule.TheVariants.{One, Two, Nothing}
use Rattle.rules.specs.Limits.{no_rule}
use Rattle.tables.specs.Tables.{has_rule}
use Rattle.tables.specs.Meaning.{WordsWithin}
use Rattle.marks.specs.Marks.{Marked, holds, marked_of, byte_at}

-- the word of a marked one
unfoldable pub doubled_word : Marked → ℤ
doubled_word w = cond (holds w) ((w.bound +ℤ w.bound) +ℤ pos (bit w.mark)) no_rule

-- the marked one of a word
unfoldable pub split_word : ℤ → Marked
split_word v = record { bound = cond (has_rule v) (half v) no_rule; mark = has_rule v && odd v }

-- the first m words of a list are those of marked places
pub record Doubles (m : ℕ) (places : ℕ → Marked) (t : List ℤ) : Type 0 where
  pub each : (k : ℕ) → k < m → word_at t k ≡ doubled_word (places k)

-- what is asked to double a table: its bounds doubled are words
pub record Doublable (m : ℕ) (t : List ℤ) (marks : List ℕ) : Type 0 where
  pub room : m ≤ length t
  pub marks_room : m ≤ length marks
  pub words : WordsWithin m (pos (2 ^ 61)) t

-- a table doubled, with its marks; other words stay
pub record TableDoubled (m : ℕ) (before : List ℤ) (marks : List ℕ) (after : List ℤ) : Type 0 where
  pub size : length after ≡ length before
  pub words : Doubles m (marked_of before marks) after
  pub rest : drop m after ≡ drop m before

-- a doubled table taken apart: its words and the marks; other words and bytes stay
pub record TableSplit (m : ℕ) (before : List ℤ) (marks : List ℕ) (after : List ℤ) (marks' : List ℕ) : Type 0 where
  pub size : length after ≡ length before
  pub words : (k : ℕ) → k < m → word_at after k ≡ (split_word (word_at before k)).bound
  pub rest : drop m after ≡ drop m before
  pub marks_size : length marks' ≡ length marks
  pub bytes : (k : ℕ) → k < m → byte_at marks' k ≡ bit (split_word (word_at before k)).mark
  pub marks_rest : drop m marks' ≡ drop m marks

-- ---- rules

-- a rule as it goes into such a table: its bound doubled. A doubled term, whose bound would be halved, keeps it, so that an odd one leaves its half as the mark
unfoldable pub doubled_rule : Rule → Rule
doubled_rule (One x c) = One x (c +ℤ c)
doubled_rule (Two x y c) = cond (eqb x y) (One x c) (Two x y (c +ℤ c))
doubled_rule (Nothing c) = Nothing (c +ℤ c)

-- every rule of a list so
abbrev pub doubled_rules : List Rule → List Rule
doubled_rules [] = []
doubled_rules (r ∷ rs) = doubled_rule r ∷ doubled_rules rs
