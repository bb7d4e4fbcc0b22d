-- What the writer promises: the reply and every byte, for every input; when it is refused; that the text is a spelling, what it means, and that it is
-- read back as a sheet or a script, or refused by the reader where a bound is too large for it.
use Rattle.std.specs.Prelude.{◌≡◌, true, Ok, ◌↔◌, List, ◌++◌, ℕ, ◌*◌, ◌+◌, ◌^◌, ◌≤◌, ℤ, pos, length, take, drop}
use Rattle.integers.specs.Bound.{Within}
use Rattle.words.specs.Change.{word_at}
use Rattle.places.specs.Numbering.{block_start}
use Rattle.rules.specs.declared.paper.Paper.{Paper}
use Rattle.rules.specs.declared.paper.Paper.TheVariants.{Sheet, Script}
use Rattle.rules.specs.declared.refusal.Refusal.TheVariants.{Size, OutOfLimit, TooShort}
use Rattle.rules.specs.Refusal.{refused_as}
use Rattle.rules.specs.Refusing.{Needs, passed, ◌or◌then◌, DecidedBy}
use Rattle.rules.specs.Hidden.{set_within, set_of}
use Rattle.rules.specs.Limits.{bound_limit, max_rules, max_text}
use Rattle.rules.specs.Meaning.{Assignment}
use Rattle.tables.specs.Tables.{table_of}
use Rattle.tables.specs.Meaning.{TableSized, HoldsRule, Satisfies, Satisfiable, MeetsAll, WordsWithin, KeyLike, BoundsWithin}
use Rattle.lines.specs.Spelling.{written_rules}
use Rattle.reading.specs.Meaning.{Spells, Reads, FailsFor}
use Rattle.reading.specs.Reading.{sheet_of, read_reply, read_table, reading_returned}
use Rattle.writing.specs.Writing.{Writing, rules_at, table_rules, hidden_list, contents_of, written_text, write_reply, written, text_returned, writing_returned, writing_number, writing_value}

-- ---- what writing needs

-- 1 for n and the table, 3 for the hidden set only, 6 for an output that has no room for the text
abbrev pub write_needs : ℕ → ℕ → List ℤ → ℕ → Needs
write_needs n set t room =
    TableSized n (length t) or Size then
    (set_within n set ≡ true) or OutOfLimit 0 then
    (length (written_text n set t) ≤ room) or TooShort (length (written_text n set t)) then
    passed

-- ---- how long a text is

-- no text written is longer than this: so many bytes for the lines before the rules, and so many for each rule's (it is not said to be attained)
abbrev pub max_header : ℕ
max_header = 119

abbrev pub max_line : ℕ
max_line = 33

abbrev pub max_written : ℕ
max_written = max_header + max_line * max_rules

-- ---- a text read again

-- the text s of a table is read into t: n, the hidden set and the table's words come back, and words past them stay
pub record ReadBack (n set : ℕ) (table : List ℤ) (s : List ℕ) (t : List ℤ) : Type 0 where
  pub reply : read_reply s (length t) ≡ Ok (sheet_of n set)
  pub words : read_table s t ≡ take (block_start n) table ++ drop (block_start n) t

-- the text s of a table is accepted as a paper, with n, a list of the hidden set, and rules that make the table's words again
pub record ReadAs (paper : Paper) (n set : ℕ) (table : List ℤ) (s : List ℕ) : Type 0 where
  pub reads : Reads paper s (contents_of n set table)
  pub hides : set_of (hidden_list n set) ≡ set
  pub words : table_of n (written_rules (table_rules n table)) ≡ take (block_start n) table

-- place k holds a rule whose bound is outside the limit of a paper
pub record PastLimit (paper : Paper) (n set : ℕ) (table : List ℤ) (k : ℕ) : Type 0 where
  pub holds : HoldsRule n table k
  pub outside : Within (pos (bound_limit paper n set)) (word_at table k) → ⊥

-- and no place before it does
pub record FirstPast (paper : Paper) (n set : ℕ) (table : List ℤ) (k : ℕ) : Type 0 where
  pub past : PastLimit paper n set table k
  pub before : WordsWithin k (pos (bound_limit paper n set)) table

-- the number of the line of the rule that place k holds: above it stand three lines and one for each rule of the places before
abbrev pub line_at : List ℤ → ℕ → ℕ
line_at table k = 4 + length (rules_at 0 (take k table))

-- the text s of a table is refused as a paper: 3, at the line of the first rule whose bound is outside its limit
pub record RefusedPast (paper : Paper) (n set : ℕ) (table : List ℤ) (s : List ℕ) : Type 0 where
  pub place : ℕ
  pub first : FirstPast paper n set table place
  pub fails : FailsFor paper s (OutOfLimit (line_at table place))

-- reading the text s into t is refused so, as a sheet, and t stays
pub record ReadPast (n set : ℕ) (table : List ℤ) (s : List ℕ) (t : List ℤ) : Type 0 where
  pub refused : RefusedPast Sheet n set table s
  pub reply : reading_returned (read_reply s (length t)) ≡ refused_as (OutOfLimit (line_at table refused.place))
  pub kept : read_table s t ≡ t

-- ---- the writer

-- what holds of the bytes s that are written for a table and a hidden set, with the reply r
pub record TextMade (n set : ℕ) (table : List ℤ) (r : Writing) (s : List ℕ) : Type 0 where
  -- 0 and their number are returned
  pub returned : writing_returned r ≡ text_returned (length s)
  -- they are a spelling, with bounds of any word
  pub spelled : Spells (2 ^ 63) s (contents_of n set table)
  -- of rules that mean what the table does
  pub meaning : (σ : Assignment) → Satisfies n table σ ↔ MeetsAll σ (written_rules (table_rules n table))
  pub longest : length s ≤ max_written
  -- the text of a sheet or a key is never too long for the reader, nor is that of any table that some integers satisfy
  pub sheet_short : BoundsWithin Sheet n set table → length s ≤ max_text
  pub key_short : KeyLike n set table → length s ≤ max_text
  pub met_short : Satisfiable n table → length s ≤ max_text
  -- read into any table that is long enough, the text gives the table back, where its words are in the sheet's limit
  pub back : BoundsWithin Sheet n set table → (t : List ℤ) → block_start n ≤ length t → ReadBack n set table s t
  -- as a sheet or a script whose limit the words are in, it is accepted and gives the table back, where it is not too long
  pub read_as : (paper : Paper) → BoundsWithin paper n set table → length s ≤ max_text → ReadAs paper n set table s
  -- as a sheet or a script that some bound is outside the limit of, it is refused with 3, where it is not too long; reading it too, whatever table it is read into
  pub past : (paper : Paper) → length s ≤ max_text → (k : ℕ) → PastLimit paper n set table k → RefusedPast paper n set table s
  pub read_past : length s ≤ max_text → (k : ℕ) → PastLimit Sheet n set table k → (t : List ℤ) → ReadPast n set table s t

-- a table and a hidden set written: refused by the first need that is not met, and then the output stays; else its first bytes, as many as are returned, are the text
pub record TextWritten (n set : ℕ) (table : List ℤ) (out : List ℕ) (r : Writing) (out' : List ℕ) : Type 0 where
  pub reply : r ≡ write_reply n set table (length out)
  pub bytes : out' ≡ written n set table out
  pub decided : DecidedBy (write_needs n set table (length out)) (λ f. writing_returned r ≡ refused_as f) (writing_number r ≡ 0)
  pub kept : (writing_number r ≡ 0 → ⊥) → out' ≡ out
  pub made : writing_number r ≡ 0 → TextMade n set table r (take (writing_value r) out')
