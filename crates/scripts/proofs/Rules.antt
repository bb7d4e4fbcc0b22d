-- The rules that a text writes, where its lines are fine: their table holds them, and its bounds are in the paper's limit. Assumes nothing.
use mathlib.Core.List.{List, [], append-nil}
use Prim.Native.Nat.{ℕ}
use lib.IntN.{pos}
use Rattle.places.specs.Numbering.{block_start}
use Rattle.rules.specs.declared.paper.Paper.{Paper}
use Rattle.tables.specs.Tables.{table_of}
use Rattle.tables.specs.Meaning.{WordsWithin}
use Rattle.tables.proofs.Lists.{table_of_meaning, table_of_smallest}
use Rattle.lines.specs.Spelling.{Written, written_rules}
use Rattle.reading.specs.Texts.{Contents, rule_lines}
use Rattle.reading.specs.Meaning.{AllFine, FineLines, contents_limit}
use Rattle.reading.specs.Promises.{TableHolds}
use Rattle.reading.proofs.FineRules.{contents_accepted}
use Rattle.reading.proofs.FineBounds.{fine_words}
use Rattle.scripts.specs.Meaning.{table_in}

-- the table of fine rules holds the smallest bounds and means what they say
pub rules_held : (paper : Paper) (c : Contents) → FineLines (contents_limit paper c) c → TableHolds c (table_in c)
rules_held paper c f = record {
  smallest = λ k h. table_of_smallest c.count (written_rules c.written) k h;
  meaning = λ σ. table_of_meaning c.count (written_rules c.written) σ (contents_accepted paper c f);
}

-- its bounds are in the limit
pub read_within : (n limit : ℕ) (ws : List Written) → AllFine n limit (rule_lines ws) → WordsWithin (block_start n) (pos limit) (table_of n (written_rules ws))
read_within n limit ws f = rw (append-nil (table_of n (written_rules ws))) at (fine_words n limit ws [] f)
