-- A fine sheet whose rules are those of its table in place order is the text that the writer makes of what was read, byte for byte. Assumes nothing.
use mathlib.Core.Path.{◌≡◌, sym, ◌∙◌, ap}
use mathlib.Core.List.{List, ◌++◌}
use Prim.Native.Nat.{ℕ}
use lib.IntN.{ℤ}
use Rattle.rules.specs.declared.paper.Paper.TheVariants.{Sheet}
use Rattle.rules.specs.Hidden.{set_of}
use Rattle.tables.specs.Tables.{table_of}
use Rattle.lines.specs.Spelling.{line_within, written_rules}
use Rattle.reading.specs.Texts.{Contents, sheet_text}
use Rattle.reading.specs.Meaning.{FineLines, Reads}
use Rattle.writing.specs.Writing.{table_rules, contents_of, written_text}
use Rattle.writing.proofs.HiddenLists.{list_back}

-- the contents of a fine text are those written of its set and a table, where the table's rules are the text's
contents_back : (limit : ℕ) (c : Contents) (t : List ℤ) → FineLines limit c → table_rules c.count t ≡ c.written
    → contents_of c.count (set_of c.hiddens) t ≡ c
unfolding line_within
contents_back limit c t f e = rw (list_back c.count c.hiddens f.1.0.formed f.1.0.within, e)

-- a fine sheet is the text of what was read, where the rules come back
pub read_written : (s : List ℕ) (c : Contents) (v : List ℤ) → Reads Sheet s c
    → table_rules c.count (table_of c.count (written_rules c.written) ++ v) ≡ c.written
    → s ≡ written_text c.count (set_of c.hiddens) (table_of c.count (written_rules c.written) ++ v)
unfolding written_text
read_written s c v p e =
    p.spelled.text ∙ ap sheet_text (sym (contents_back _ c (table_of c.count (written_rules c.written) ++ v) p.spelled.fine e))
