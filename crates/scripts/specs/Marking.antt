-- Marking two texts (document 01, 'Returned to the caller'): both are read, the sheet first; then 6, by the sheet's n; then 7; and the verdict
-- is that of their tables.
use Rattle.std.specs.Prelude.{Bool, not, ◌&&◌, List, ℕ, leb, eqb, Ok, Err}
use Rattle.places.specs.Numbering.{block_start}
use Rattle.rules.specs.declared.paper.Paper.TheVariants.{Sheet, Script}
use Rattle.rules.specs.declared.refusal.Refusal.TheVariants.{TooShort, Mismatch}
use Rattle.rules.specs.Hidden.{hidden_in}
use Rattle.tables.specs.Replies.{Reply, check}
use Rattle.tables.specs.Tables.{table_names_hidden}
use Rattle.marking.specs.declared.verdict.Verdict.{Verdict}
use Rattle.marking.specs.Meaning.{workspace_size}
use Rattle.marking.specs.Marking.{verdict_of}
use Rattle.lines.specs.Lines.{Judged, accepted, refused}
use Rattle.reading.specs.Texts.{Contents}
use Rattle.reading.specs.Reading.{check_text}
use Rattle.scripts.specs.declared.room.Lengths.{Lengths}
use Rattle.scripts.specs.declared.reply.Subject.TheVariants.{Both}
use Rattle.scripts.specs.declared.reply.Subject.TheVariants.{Sheet as OfSheet}
use Rattle.scripts.specs.declared.reply.Subject.TheVariants.{Script as OfScript}
use Rattle.scripts.specs.Replies.{TextMarking, marked, refused_for}
use Rattle.scripts.specs.Meaning.{set_in, table_in}

-- 6 for the sheet's table, the script's, the workspace and the assignment, and what follows
unfoldable pub room_checks : ℕ → Lengths → Reply → Reply
room_checks n lent next =
    check (leb (block_start n) lent.sheet) (TooShort (block_start n))
    (check (leb (block_start n) lent.script) (TooShort (block_start n))
    (check (leb (workspace_size n) lent.workspace) (TooShort (workspace_size n))
    (check (leb n lent.values) (TooShort n) next)))

-- have two headers the same n and hidden set?
abbrev pub same_headers : ℕ → ℕ → ℕ → ℕ → Bool
same_headers n set script_n script_set = eqb n script_n && eqb set script_set

-- does the script fit the sheet?
abbrev pub fits_sheet : Contents → Contents → Bool
fits_sheet c d = same_headers c.count (set_in c) d.count (set_in d) && not (table_names_hidden (hidden_in (set_in c)) c.count (table_in d))

-- the checks of two texts that are fine by themselves: 6, then 7
unfoldable pub pair_checks : Contents → Contents → Lengths → Reply
pair_checks c d lent = room_checks c.count lent (check (fits_sheet c d) Mismatch (Ok tt))

-- the verdict where they are done
abbrev pub marked_or : Reply → ℕ → Verdict → TextMarking
marked_or (Ok done) n v = marked n v
marked_or (Err f) n v = refused_for Both f

unfoldable pub pair_reply : Judged Contents → Judged Contents → Lengths → TextMarking
pair_reply (refused f) script lent = refused_for OfSheet f
pair_reply (accepted c u) (refused f) lent = refused_for OfScript f
pair_reply (accepted c u) (accepted d z) lent =
    marked_or (pair_checks c d lent) c.count (verdict_of (hidden_in (set_in c)) c.count (table_in c) (table_in d))

-- the reply for two texts and what is lent
unfoldable pub texts_reply : List ℕ → List ℕ → Lengths → TextMarking
texts_reply sheet script lent = pair_reply (check_text Sheet sheet) (check_text Script script) lent

-- the sheet's n; 0 where its text is refused, and no word may change
abbrev pub sheet_count : Judged Contents → ℕ
sheet_count (accepted c u) = c.count
sheet_count (refused f) = 0

abbrev pub count_in : List ℕ → ℕ
count_in s = sheet_count (check_text Sheet s)
