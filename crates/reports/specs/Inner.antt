-- What the functions inside ask; no promise of the programs rests on it.
use Rattle.std.specs.Prelude.{◌≡◌, List, ℕ, ℤ}
use Rattle.rules.specs.declared.paper.Paper.TheVariants.{Sheet}
use Rattle.rules.specs.Hidden.{set_of}
use Rattle.tables.specs.Tables.{table_of}
use Rattle.lines.specs.Spelling.{written_rules}
use Rattle.reading.specs.Texts.{Contents}
use Rattle.reading.specs.Meaning.{FineLines, contents_limit}

-- n, a hidden set and a table are those of a sheet whose lines are fine
pub record SheetTable (n set : ℕ) (table : List ℤ) : Type 0 where
  pub contents : Contents
  pub fine : FineLines (contents_limit Sheet contents) contents
  pub counts : n ≡ contents.count
  pub hides : set ≡ set_of contents.hiddens
  pub holds : table ≡ table_of contents.count (written_rules contents.written)
