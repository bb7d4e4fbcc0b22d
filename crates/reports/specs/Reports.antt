-- What the program *key* prints for a sheet's text: the text of its tightest key, or the refusal.
use Rattle.std.specs.Prelude.{cond, List, ℕ, ℤ}
use Rattle.rules.specs.declared.paper.Paper.TheVariants.{Sheet}
use Rattle.rules.specs.declared.refusal.Refusal.TheVariants.{NoAssignment}
use Rattle.rules.specs.Hidden.{hidden_in, set_of}
use Rattle.tables.specs.Tables.{table_of}
use Rattle.keys.specs.Keys.{refuted}
use Rattle.tightening.specs.Tightening.{tight_key_of}
use Rattle.lines.specs.Spelling.{written_rules}
use Rattle.lines.specs.Lines.{Judged, accepted, refused}
use Rattle.reading.specs.Texts.{Contents}
use Rattle.reading.specs.Reading.{check_text}
use Rattle.writing.specs.Writing.{written_text}
use Rattle.reports.specs.Refusals.{refusal_text}

-- of a table: the text of its tightest key, or 5
unfoldable pub table_report : ℕ → ℕ → List ℤ → List ℕ
table_report n set t = cond (refuted n t) (refusal_text NoAssignment) (written_text n set (tight_key_of (hidden_in set) n t))

unfoldable pub report_of : Judged Contents → List ℕ
report_of (accepted c u) = table_report c.count (set_of c.hiddens) (table_of c.count (written_rules c.written))
report_of (refused r) = refusal_text r

-- of a text
unfoldable pub key_report : List ℕ → List ℕ
key_report s = report_of (check_text Sheet s)
