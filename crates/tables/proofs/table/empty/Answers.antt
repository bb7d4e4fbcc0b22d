-- `table::empty` meets its contract: the words filled are the table's. Assumes nothing.
use mathlib.Core.Path.{sym}
use Rattle.tables.proofs.Promised.{emptied_refused, emptied_done}
use Rattle.tables.proofs.table.empty.Goals as goal

pub returns-then-not-serves : goal.returns-then-not-serves
returns-then-not-serves c = emptied_refused _ _ (sym c.if-not-serves.ensures)

pub returns : goal.returns
returns c = emptied_done _ _ _ (sym c.if-not-serves.ensures) (rw c.size.ensures at c.fill.ensures)
