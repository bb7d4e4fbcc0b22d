-- The table of a fine sheet's rules: its bounds lie in the sheet's limits, and no word is above the no-rule word. Assumes nothing.
use mathlib.Core.List.{List, ◌++◌}
use Prim.Native.Nat.{ℕ}
use lib.IntN.{ℤ}
use Rattle.rules.specs.declared.paper.Paper.TheVariants.{Sheet}
use Rattle.rules.specs.Hidden.{set_of}
use Rattle.tables.specs.Tables.{table_of}
use Rattle.tables.proofs.Lists.{smallest_most}
use Rattle.lines.specs.Spelling.{line_within, written_rules}
use Rattle.reading.specs.Texts.{Contents}
use Rattle.reading.specs.Meaning.{Reads, contents_limit}
use Rattle.reading.proofs.Limits.{fine_count, contents-limit}
use Rattle.reading.proofs.FineBounds.{front_smallest, front_room, fine_words}
use Rattle.writing.proofs.HiddenLists.{list_set_within}
use Rattle.bank.specs.Promises.{SheetTable}

-- the table that a fine sheet is read into has its bounds in the sheet's limits
pub read_sheet : (s : List ℕ) (c : Contents) (v : List ℤ) → Reads Sheet s c
    → SheetTable c.count (set_of c.hiddens) (table_of c.count (written_rules c.written) ++ v)
unfolding line_within
read_sheet s c v p =
    let f = p.spelled.fine in
    let n = fine_count (contents_limit Sheet c) c f in
    record {
      sized = record { some = n.0; most = n.1; room = front_room c.count (written_rules c.written) v };
      hides = list_set_within c.count c.hiddens f.1.0.formed f.1.0.within;
      bounds = rw (contents-limit Sheet (contents_limit Sheet c) c f) (fine_words c.count (contents_limit Sheet c) c.written v f.1.1.1);
      words = λ k h. rw (front_smallest c.count (written_rules c.written) v k h) (smallest_most k (written_rules c.written));
    }
