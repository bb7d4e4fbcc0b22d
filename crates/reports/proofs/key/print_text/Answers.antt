-- `key::print_text` meets its contract: the writer does not refuse, and its text stands at the start. Assumes nothing.
use Rattle.reports.proofs.TableReports.{replied, text_spliced}
use Rattle.reports.proofs.key.print_text.Goals as goal

pub returns : goal.returns
returns c =
    let p = c.requires in
    text_spliced c.write.ensures (p.table_value) p.table_in_bounds _
    (rw (replied c.write.ensures p.table_value p.table_in_bounds) at c.unwrap_or.ensures)
