-- What the functions inside ask and answer; no promise of marking two texts rests on it.
use Rattle.std.specs.Prelude.{◌≡◌, true, false, List, ℕ, ◌≤◌, ℤ, length, Result, Ok, Err}
use Rattle.places.specs.Numbering.{block_start}
use Rattle.rules.specs.declared.paper.Paper.TheVariants.{Sheet, Script}
use Rattle.rules.specs.declared.refusal.Refusal.TheVariants.{Mismatch}
use Rattle.rules.specs.Hidden.{hidden_in}
use Rattle.tables.specs.Replies.{Reply, check}
use Rattle.tables.specs.Tables.{table_names_hidden}
use Rattle.marking.specs.declared.verdict.Verdict.{Verdict}
use Rattle.marking.specs.Meaning.{workspace_size}
use Rattle.marking.specs.Inner.{Sized, InLimits, VerdictGiven}
use Rattle.reading.specs.Reading.{Checked}
use Rattle.reading.specs.Meaning.{Passes}
use Rattle.scripts.specs.declared.room.Lengths.{Lengths}
use Rattle.scripts.specs.declared.pair.Pair.{Pair}
use Rattle.scripts.specs.declared.reply.PaperRefusal.{PaperRefusal}
use Rattle.scripts.specs.declared.reply.Subject.TheVariants.{Both}
use Rattle.scripts.specs.declared.reply.Subject.TheVariants.{Sheet as OfSheet}
use Rattle.scripts.specs.declared.reply.Subject.TheVariants.{Script as OfScript}
use Rattle.scripts.specs.Replies.{TextMarking, marked, refused_for}
use Rattle.scripts.specs.Meaning.{Room}
use Rattle.scripts.specs.Marking.{room_checks, same_headers}

-- the checks of two texts that are fine but for the script's names: 6, and 7 for a script whose n or hidden set is not the sheet's
unfoldable pub first_checks : ℕ → ℕ → ℕ → ℕ → Lengths → Reply
first_checks n set script_n script_set lent = room_checks n lent (check (same_headers n set script_n script_set) Mismatch (Ok tt))

-- ---- what is needed to fill and mark the tables, or the refusal, from the answers to both texts

abbrev pub PairChecked : Type 0
PairChecked = Result Pair PaperRefusal

abbrev pub passed_or : Reply → Pair → PairChecked
passed_or (Ok done) p = Ok p
passed_or (Err f) p = refused_for Both f

unfoldable pub checked_pair : Checked → Checked → Lengths → PairChecked
checked_pair (Err f) script lent = refused_for OfSheet f
checked_pair (Ok p) (Err f) lent = refused_for OfScript f
checked_pair (Ok p) (Ok q) lent =
    passed_or (first_checks p.quantities p.hidden q.quantities q.hidden lent) (record { sheet = p; script = q })

-- ---- what marking asks of texts that passed

-- both texts are fine, with these headers, one n and one hidden set; and there is room for them
pub record PassedPair (sheet script : List ℕ) (lent : Lengths) (p : Pair) : Type 0 where
  pub of_sheet : Passes Sheet sheet p.sheet.quantities p.sheet.hidden p.sheet.rules p.sheet.body
  pub of_script : Passes Script script p.script.quantities p.script.hidden p.script.rules p.script.body
  pub counts : p.script.quantities ≡ p.sheet.quantities
  pub sets : p.script.hidden ≡ p.sheet.hidden
  pub room : Room p.sheet.quantities lent

-- ---- tables filled from two texts that fit but for the script's names

-- their sizes and numbers are in their limits, and there is room for a verdict
pub record TablesFilled (n set : ℕ) (sheet script : List ℤ) (w v : ℕ) : Type 0 where
  pub sized : Sized n (length sheet) (length script)
  pub workspace_room : workspace_size n ≤ w
  pub values_room : n ≤ v
  pub limits : InLimits n set sheet script

-- 7 where a rule of the script names a hidden quantity, which changes no word
pub record NamesRefused (workspace values : List ℤ) (r : TextMarking) (workspace' values' : List ℤ) : Type 0 where
  pub reply : r ≡ refused_for Both Mismatch
  pub workspace_kept : workspace' ≡ workspace
  pub values_kept : values' ≡ values

-- and else the verdict
pub record TablesJudged (n set : ℕ) (sheet script workspace values : List ℤ) (r : TextMarking) (workspace' values' : List ℤ) : Type 0 where
  pub verdict : Verdict
  pub reply : r ≡ marked n verdict
  pub given : VerdictGiven n set sheet script workspace values verdict workspace' values'

pub record FilledMarked (n set : ℕ) (sheet script workspace values : List ℤ) (r : TextMarking) (workspace' values' : List ℤ) : Type 0 where
  pub named : table_names_hidden (hidden_in set) n script ≡ true → NamesRefused workspace values r workspace' values'
  pub visible : table_names_hidden (hidden_in set) n script ≡ false → TablesJudged n set sheet script workspace values r workspace' values'

-- ---- rooms of its own

-- tables and a workspace have words enough for n quantities
pub record TablesRoom (n sheet script workspace : ℕ) : Type 0 where
  pub sheet_room : block_start n ≤ sheet
  pub script_room : block_start n ≤ script
  pub workspace_room : workspace_size n ≤ workspace

-- the most quantities of the small room and of the middle one, as in `keys::room`
abbrev pub small_count : ℕ
small_count = 8

abbrev pub middle_count : ℕ
middle_count = 16
