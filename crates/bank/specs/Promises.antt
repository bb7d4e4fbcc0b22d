-- What the functions promise: the reply and every word, for every list of bytes; what they mean by spellings; and that bank sheets are the texts that the writer produces.
use Rattle.std.specs.Prelude.{◌≡◌, true, ◌↔◌, List, [], ◌∷◌, ◌++◌, ℕ, ◌≤◌, ℤ, pos, length, take, drop}
use Rattle.places.specs.Numbering.{block_start}
use Rattle.rules.specs.declared.paper.Paper.TheVariants.{Sheet}
use Rattle.rules.specs.declared.refusal.Refusal.{Refusal}
use Rattle.rules.specs.Hidden.{set_within}
use Rattle.rules.specs.Refusal.{refused_as}
use Rattle.tables.specs.Meaning.{TableSized, NoneAbove, BoundsWithin}
use Rattle.reading.specs.Texts.{Contents}
use Rattle.reading.specs.Reading.{Checked, Reading, checked_of, checked_returned, read_reply, read_table, text_accepted, reading_returned, reading_number}
use Rattle.reading.specs.Promises.{TableRead}
use Rattle.writing.specs.Writing.{written_text}
use Rattle.bank.specs.Banking.{bank_text, bank_reply, bank_table}
use Rattle.bank.specs.Meaning.{BankReads, BankFails, BankRefusedFor, BankAcceptedAs, BankPasses}

-- a text checked as a bank sheet: refused exactly for these reasons, and passed exactly where it is spelled so, as it is returned
pub record BankChecked (s : List ℕ) (r : Checked) : Type 0 where
  pub reply : r ≡ checked_of (bank_text s)
  pub refused : (f : Refusal) → (checked_returned r ≡ refused_as f) ↔ BankFails s f
  pub passed : (n set m body : ℕ)
      → (checked_returned r ≡ record { number = 0; values = pos n ∷ pos set ∷ pos m ∷ pos body ∷ [] }) ↔ BankPasses s n set m body

-- a table over n quantities and a hidden set, in their ranges, whose bounds lie in the sheet's limits: the writer takes it, and its text is a sheet's
pub record SheetTable (n set : ℕ) (t : List ℤ) : Type 0 where
  pub sized : TableSized n (length t)
  pub hides : set_within n set ≡ true
  pub bounds : BoundsWithin Sheet n set t
  -- so it is with every word of 64 bits
  pub words : NoneAbove (block_start n) t

-- the text s of a table is read by the bank into t: n, the hidden set and the table's words come back, and words past them stay
pub record BankBack (n set : ℕ) (table : List ℤ) (s : List ℕ) (t : List ℤ) : Type 0 where
  pub reply : reading_returned (bank_reply s (length t)) ≡ text_accepted n set
  pub words : bank_table s t ≡ take (block_start n) table ++ drop (block_start n) t

-- a bank sheet's text read into a table
pub record BankRead (s : List ℕ) (table : List ℤ) (r : Reading) (table' : List ℤ) : Type 0 where
  pub reply : r ≡ bank_reply s (length table)
  pub words : table' ≡ bank_table s table
  -- refused exactly for these reasons, accepted exactly as these texts, as it is returned
  pub refused : (f : Refusal) → (reading_returned r ≡ refused_as f) ↔ BankRefusedFor s (length table) f
  pub accepted : (n set : ℕ) → (reading_returned r ≡ text_accepted n set) ↔ BankAcceptedAs s (length table) n set
  -- a text that is fine is read where the table is long enough; on a refusal all words stay
  pub read : (c : Contents) → BankReads s c → block_start c.count ≤ length table → TableRead c table table'
  pub kept : (reading_number r ≡ 0 → ⊥) → table' ≡ table
  -- what is accepted is read as ordinary reading reads it
  pub ordinary : (n set : ℕ) → reading_returned r ≡ text_accepted n set → (r ≡ read_reply s (length table)) × (table' ≡ read_table s table)
  -- the text of a table whose bounds lie in the sheet's limits gives n, the hidden set and the table's words, where there is room for them
  pub written : (n set : ℕ) (t : List ℤ) → SheetTable n set t → s ≡ written_text n set t → block_start n ≤ length table
      → (reading_returned r ≡ text_accepted n set) × (table' ≡ take (block_start n) t ++ drop (block_start n) table)
  -- and any text that is accepted is the text of what was read, byte for byte: a table whose bounds lie in the sheet's limits
  pub canonical : (n set : ℕ) → reading_returned r ≡ text_accepted n set → SheetTable n set table' × (s ≡ written_text n set table')
