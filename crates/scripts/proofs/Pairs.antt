-- Two fine texts with room and one header: their tables are accepted where the script names no hidden quantity, their reply is then the tables' verdict, and what
-- it says of the tables it says of the rules as written.
-- Assumes nothing.
use Rattle.std.specs.Prelude.{Ok}
use mathlib.Core.Path.{◌≡◌, refl, sym, ◌∙◌}
use mathlib.Core.Bool.{Bool, true, false, not}
use mathlib.Core.List.{List, ◌++◌}
use Prim.Native.Nat.{ℕ, ◌≤◌}
use native.Mathlib.Omega.{arith}
use lib.IntN.{ℤ}
use lib.ListN.{length, drop, length-append, length-drop}
use lib.Seq.{drop-append_seam}
use Rattle.words.specs.Lent.{Lent}
use Rattle.places.specs.Numbering.{block_start}
use Rattle.rules.specs.declared.paper.Paper.TheVariants.{Sheet, Script}
use Rattle.rules.specs.declared.refusal.Refusal.TheVariants.{Mismatch}
use Rattle.rules.specs.Hidden.{hidden_in}
use Rattle.tables.specs.Replies.{check}
use Rattle.tables.specs.Tables.{table_names_hidden}
use Rattle.tables.specs.Meaning.{Satisfies}
use Rattle.tables.proofs.Tests.{clash}
use Rattle.tables.proofs.Naming.{names_visible}
use Rattle.keys.proofs.Promised.{untouched}
use Rattle.marking.specs.declared.verdict.Verdict.{Verdict}
use Rattle.marking.specs.Verdicts.{verdict_returned}
use Rattle.marking.specs.Meaning.{workspace_size}
use Rattle.marking.specs.Marking.{verdict_of}
use Rattle.marking.specs.Inner.{TablesAccepted, VerdictGiven}
use Rattle.marking.proofs.Promised.{verdict_told}
use Rattle.reading.specs.Texts.{Contents}
use Rattle.reading.specs.Meaning.{Reads, rules_of}
use Rattle.reading.proofs.Means.{reads_check, reads_same}
use Rattle.scripts.specs.declared.room.Lengths.{Lengths}
use Rattle.scripts.specs.declared.reply.Subject.TheVariants.{Both}
use Rattle.scripts.specs.Replies.{TextMarking, marked, refused_for, is_text_shown}
use Rattle.scripts.specs.Meaning.{lengths_of, set_in, table_in, AcceptedPair, Room}
use Rattle.scripts.specs.Marking.{pair_checks, marked_or, pair_reply, texts_reply}
use Rattle.scripts.specs.Inner.{first_checks, TablesFilled}
use Rattle.scripts.specs.Promises.{PairJudged, TextsJudged, TextsMarked}
use Rattle.scripts.proofs.Sheets.{FineTable, fine_table}
use Rattle.scripts.proofs.Rooms.{first_tells, first_done}
use Rattle.scripts.proofs.Judging.{reads_count, refused-accepted, texts_judged}
use Rattle.scripts.proofs.Alike.{Alike, alike_means}

abbrev verdict_in : Contents → Contents → Verdict
verdict_in c d = verdict_of (hidden_in (set_in c)) c.count (table_in c) (table_in d)

-- ---- what is lent

-- a table put in front of what is past it
fronted : (m : ℕ) (front t t' : List ℤ) → length front ≡ m → m ≤ length t → t' ≡ front ++ drop m t → Lent m true t t'
fronted m front t t' e h f = record {
  size = rw f (omega (arith, length-append front (drop m t), length-drop m t));
  rest = rw f (rw (sym e) (drop-append_seam front (drop (length front) t)));
  kept = λ d. clash refl d;
}

-- ---- two tables

-- tables that are filled from texts are accepted where the script names no hidden quantity
pub filled_accepted : {n set : ℕ} {sheet script : List ℤ} {w v : ℕ} → TablesFilled n set sheet script w v
    → table_names_hidden (hidden_in set) n script ≡ false → TablesAccepted n set sheet script w v
filled_accepted {n} {set} {sheet} {script} t e = record {
  sized = t.sized;
  workspace_room = t.workspace_room;
  values_room = t.values_room;
  limits = t.limits;
  visible = (names_visible (hidden_in set) n script t.sized.script_room).0 e;
}

-- ---- two contents

-- the reply of two texts that are fine
pub pair-reply : (sheet script : List ℕ) (c d : Contents) → Reads Sheet sheet c → Reads Script script d
    → (lent : Lengths) → texts_reply sheet script lent ≡ marked_or (pair_checks c d lent) c.count (verdict_in c d)
unfolding texts_reply pair_reply
pair-reply sheet script c d p q lent = rw (reads_check Sheet sheet c p, reads_check Script script d q)

module _ (sheet script : List ℕ) (sheet-table script_table workspace values : List ℤ) (c d : Contents) (p : Reads Sheet sheet c) (q : Reads Script script d)
    (first : first_checks c.count (set_in c) d.count (set_in d) (lengths_of sheet-table script_table workspace values) ≡ Ok tt) where
  -- what is lent
  abbrev lent : Lengths
  lent = lengths_of sheet-table script_table workspace values

  -- there is room for the sheet's n, and the headers are the same
  told : Room c.count lent × (c.count ≡ d.count) × (set_in c ≡ set_in d)
  told = first_tells c.count lent (set_in c) d.count (set_in d) first

  room : Room c.count lent
  room = told.0

  counts : d.count ≡ c.count
  counts = sym told.1

  sets : set_in d ≡ set_in c
  sets = sym told.2

  -- what both are by themselves
  of_sheet : FineTable Sheet c
  of_sheet = fine_table Sheet c p.spelled.fine

  of_script : FineTable Script d
  of_script = fine_table Script d q.spelled.fine

  -- does the script name a hidden quantity?
  abbrev named : Bool
  named = table_names_hidden (hidden_in (set_in c)) c.count (table_in d)

  -- that decides, once the rest is checked
  texts-reply : texts_reply sheet script lent ≡ marked_or (check (not named) Mismatch (Ok tt)) c.count (verdict_in c d)
  texts-reply = pair-reply sheet script c d p q lent ∙ rw (first_done c d lent first)

  -- the reply of a script that does
  named_reply : named ≡ true → texts_reply sheet script lent ≡ refused_for Both Mismatch
  named_reply e = texts-reply ∙ rw e refl

  -- tables that are filled from texts need no more checks but of the script's names
  pub tables_filled : TablesFilled c.count (set_in c) (table_in c) (table_in d) (length workspace) (length values)
  tables_filled = record {
    sized = record {
      some = of_sheet.some;
      most = of_sheet.most;
      sheet_room = omega (arith, of_sheet.size);
      script_room = rw (of_script.size, counts) (omega arith);
    };
    workspace_room = room.workspace_room;
    values_room = room.values_room;
    limits = record {
      set-within = of_sheet.range;
      sheet_within = of_sheet.bounds;
      script_within = rw (← counts, ← sets) of_script.bounds;
    };
  }

  -- each table is as its rules
  sheet_alike : Alike (Satisfies c.count (table_in c)) (rules_of c)
  sheet_alike = of_sheet.held.meaning

  script_alike : Alike (Satisfies c.count (table_in d)) (rules_of d)
  script_alike σ = rw (← counts) (of_script.held.meaning σ)

  -- ---- the tables filled

  module _ (sheet_table' script_table' : List ℤ) (e : sheet_table' ≡ table_in c ++ drop (block_start c.count) sheet-table)
      (f : script_table' ≡ table_in d ++ drop (block_start d.count) script_table) (workspace' values' : List ℤ) where
    -- a reply so judged, with what is written
    filled_marked : (r : TextMarking) → TextsJudged sheet script lent r values' → Lent (workspace_size c.count) true workspace workspace'
        → Lent c.count (is_text_shown r) values values'
        → TextsMarked sheet script sheet-table script_table workspace values r sheet_table' script_table' workspace' values'
    filled_marked r j l w = record {
      judged = j;
      sheet_lent =
          rw (reads_count sheet c p) (fronted (block_start c.count) (table_in c) sheet-table sheet_table' of_sheet.size room.sheet_room e);
      script_lent =
          rw (reads_count sheet c p, ← counts)
          (fronted (block_start d.count) (table_in d) script_table script_table' of_script.size (rw counts room.script_room) f);
      workspace_lent = rw (reads_count sheet c p) l;
      written = rw (reads_count sheet c p) w;
    }

    module _ (hides_none : named ≡ false) (x : Verdict) (g : VerdictGiven c.count (set_in c) (table_in c) (table_in d) workspace values x workspace' values') where
      verdict_reply : texts_reply sheet script lent ≡ marked c.count x
      verdict_reply = texts-reply ∙ rw (hides_none, ← g.reply) refl

      -- a verdict means what is promised
      verdict_judged : (t : AcceptedPair sheet script lent) → PairJudged t (verdict_returned x) values'
      verdict_judged t =
          let s = reads_same Sheet sheet t.of_sheet c t.sheet_reads p in
          let i = reads_same Script script t.of_script d t.script_reads q in
          record {
            members = rw s of_sheet.members;
            sheet-table = rw s of_sheet.held;
            script_table = rw i of_script.held;
            means = rw (s, i) (alike_means c.count (set_in c) (table_in c) (table_in d) (verdict_returned x) values' sheet_alike script_alike
                (verdict_told c.count (set_in c) (table_in c) (table_in d) workspace values x workspace' values' (filled_accepted tables_filled hides_none) g));
          }

      -- the verdict on the tables is the texts'
      pub tables_marked : TextsMarked sheet script sheet-table script_table workspace values (marked c.count x) sheet_table' script_table' workspace' values'
      tables_marked = filled_marked (marked c.count x) (texts_judged sheet script lent (marked c.count x) values' (sym verdict_reply) verdict_judged)
          g.lent g.written

  -- a script that names a hidden quantity is refused
  pub named_marked : (sheet_table' script_table' : List ℤ) → sheet_table' ≡ table_in c ++ drop (block_start c.count) sheet-table
      → script_table' ≡ table_in d ++ drop (block_start d.count) script_table → named ≡ true
      → TextsMarked sheet script sheet-table script_table workspace values (refused_for Both Mismatch) sheet_table' script_table' workspace values
  named_marked sheet_table' script_table' e f h =
      filled_marked sheet_table' script_table' e f workspace values (refused_for Both Mismatch)
      (texts_judged sheet script lent (refused_for Both Mismatch) values (sym (named_reply h))
      (λ t. refused-accepted sheet script lent Both Mismatch (named_reply h) t))
      (untouched (workspace_size c.count) true workspace) (untouched c.count false values)
