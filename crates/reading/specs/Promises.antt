-- What the functions promise: the reply and every word, for every list of bytes, and what they mean by spellings.
use Rattle.std.specs.Prelude.{◌≡◌, Bool, Ok, Err, ◌↔◌, List, [], ◌∷◌, ◌++◌, ℕ, ◌<◌, ◌≤◌, ℤ, pos, length, drop}
use Rattle.words.specs.Change.{word_at}
use Rattle.places.specs.Numbering.{block_start}
use Rattle.rules.specs.declared.paper.Paper.{Paper}
use Rattle.rules.specs.declared.paper.Paper.TheVariants.{Sheet}
use Rattle.rules.specs.declared.refusal.Refusal.{Refusal}
use Rattle.rules.specs.Limits.{max_quantities}
use Rattle.rules.specs.Refusal.{refused_as}
use Rattle.rules.specs.Meaning.{Assignment}
use Rattle.tables.specs.Tables.{empty_table, put_all, table_of, smallest_at}
use Rattle.tables.specs.Meaning.{Satisfies, MeetsAll}
use Rattle.lines.specs.Spelling.{Written, written_rules}
use Rattle.lines.specs.Lines.{Judged, accepted}
use Rattle.reading.specs.declared.check.Passed.{Passed}
use Rattle.reading.specs.Texts.{Contents}
use Rattle.reading.specs.Meaning.{Reads, FailsFor, Passes, RefusedFor, AcceptedAs}
use Rattle.reading.specs.Ordered.{lines_by}
use Rattle.reading.specs.Reading.{filled as fill}
use Rattle.reading.specs.Reading.{Checked, Reading, check_text, checked_of, checked_rules, read_reply, read_table, reply_after, table_after, text_accepted, checked_returned, reading_returned, reading_number}

-- a text checked: refused exactly for these reasons, and passed exactly where it is spelled so, as it is returned
pub record TextChecked (paper : Paper) (s : List ℕ) (r : Checked) : Type 0 where
  pub reply : r ≡ checked_of (check_text paper s)
  pub refused : (f : Refusal) → (checked_returned r ≡ refused_as f) ↔ FailsFor paper s f
  pub passed : (n set m body : ℕ)
      → (checked_returned r ≡ record { number = 0; values = pos n ∷ pos set ∷ pos m ∷ pos body ∷ [] }) ↔ Passes paper s n set m body

-- the rule lines of a text, by its header
abbrev pub judged_rules : Bool → Passed → ℕ → List ℕ → Judged (List Written)
judged_rules ordered header limit s = lines_by ordered header.quantities limit 0 header.rules 4 (drop header.body s)

-- the rule lines of a text checked, in place order or in any. A table that is long enough is filled with their rules where all are accepted, and else its first 2n² words are free; a shorter one stays. No
-- other word changes
pub record RulesFilled (ordered : Bool) (header : Passed) (limit : ℕ) (s : List ℕ) (before : List ℤ) (r : Checked) (after : List ℤ) : Type 0 where
  pub reply : r ≡ checked_rules header (judged_rules ordered header limit s)
  pub filled : block_start header.quantities ≤ length before → (rs : List Written) → judged_rules ordered header limit s ≡ accepted rs []
      → after ≡ put_all (empty_table header.quantities ++ drop (block_start header.quantities) before) (written_rules rs)
  pub short : length before < block_start header.quantities → after ≡ before
  pub rest : drop (block_start header.quantities) after ≡ drop (block_start header.quantities) before

-- a check's answer is true of a text: where it passed, the text is fine as a sheet, with what is answered. Nothing is asked of a refusal
abbrev pub Vouched : List ℕ → Checked → Type 0
Vouched s (Ok p) = Passes Sheet s p.quantities p.hidden p.rules p.body
Vouched s (Err f) = Unit {0}

-- a text checked, and a table that is long enough for its n filled where it passed, a shorter one left. Where it is refused, the words that the largest table has are free; words past them stay
pub record TextFilled (paper : Paper) (s : List ℕ) (table : List ℤ) (r : Checked) (table' : List ℤ) : Type 0 where
  pub checked : TextChecked paper s r
  pub filled : (p : Passed) → r ≡ Ok p → block_start p.quantities ≤ length table → table' ≡ fill (check_text paper s) table
  pub short : (p : Passed) → r ≡ Ok p → length table < block_start p.quantities → table' ≡ table
  pub rest : drop (block_start max_quantities) table' ≡ drop (block_start max_quantities) table

-- a table holds what contents write: at each place the smallest bound that rules have there, in whatever order they stand; so what satisfies it meets the rules
pub record TableHolds (c : Contents) (table : List ℤ) : Type 0 where
  pub smallest : (k : ℕ) → k < block_start c.count → word_at table k ≡ smallest_at k (written_rules c.written)
  pub meaning : (σ : Assignment) → Satisfies c.count table σ ↔ MeetsAll σ (written_rules c.written)

-- and is the table of their rules, put in, with words past it as they were
pub record TableRead (c : Contents) (before after : List ℤ) : Type 0 where
  pub filled : after ≡ table_of c.count (written_rules c.written) ++ drop (block_start c.count) before
  pub holds : TableHolds c after

-- a text that was checked, read into a table: the check's refusal is answered, then that of the table's length
pub record CheckedRead (s : List ℕ) (checked : Checked) (table : List ℤ) (r : Reading) (table' : List ℤ) : Type 0 where
  pub reply : r ≡ reply_after (length table) checked
  pub words : table' ≡ table_after s checked table

-- a sheet's text read into a table
pub record ReadInto (s : List ℕ) (table : List ℤ) (r : Reading) (table' : List ℤ) : Type 0 where
  pub reply : r ≡ read_reply s (length table)
  pub words : table' ≡ read_table s table
  -- refused exactly for these reasons, accepted exactly as these texts, as it is returned
  pub refused : (f : Refusal) → (reading_returned r ≡ refused_as f) ↔ RefusedFor s (length table) f
  pub accepted : (n set : ℕ) → (reading_returned r ≡ text_accepted n set) ↔ AcceptedAs s (length table) n set
  -- a text that is fine is read where the table is long enough; on a refusal all words stay
  pub read : (c : Contents) → Reads Sheet s c → block_start c.count ≤ length table → TableRead c table table'
  pub kept : (reading_number r ≡ 0 → ⊥) → table' ≡ table
