-- `key::print_key` meets its contract: what is printed of the table read, or the text's refusal. Assumes nothing.
use mathlib.Core.Path.{sym}
use native.Mathlib.Omega.{arith}
use lib.Seq.{length-take-le}
use Rattle.rules.specs.declared.paper.Paper.TheVariants.{Sheet}
use Rattle.reports.proofs.RefusalLengths.{refusal_length}
use Rattle.reports.proofs.Reports.{printed, report_refused}
use Rattle.reports.proofs.SheetTables.{table_read, sheet-table, report_table, text_fails}
use Rattle.reports.proofs.key.print_key.Goals as goal

pub slice_bounds-print_table-end : goal.slice_bounds-print_table-end
slice_bounds-print_table-end c =
    sym (length-take-le _ _ (table_read c.read.ensures c.in-Ok.is c.size-m.ensures).enough)

pub print_table-requires : goal.print_table-requires
print_table-requires c =
    (sheet-table (table_read c.read.ensures c.in-Ok.is c.size-m.ensures), omega arith)

pub put_refusal-requires : goal.put_refusal-requires
put_refusal-requires c =
    let f = text_fails c.read.ensures c.in-Err.is (omega arith) in
    omega (arith, refusal_length Sheet c.args.text.now c.in-Err.refusal f)

pub returns-in-Ok : goal.returns-in-Ok
returns-in-Ok c =
    printed (report_table (table_read c.read.ensures c.in-Ok.is c.size-m.ensures)) c.print_table.ensures

pub returns-in-Err : goal.returns-in-Err
returns-in-Err c =
    let f = text_fails c.read.ensures c.in-Err.is (omega arith) in
    printed (report_refused _ _ f) c.put_refusal.ensures
