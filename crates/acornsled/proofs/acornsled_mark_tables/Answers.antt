-- `acornsled_mark_tables` meets its contract. Assumes nothing.
use Rattle.acornsled.proofs.Tables.{tables_refused, tables_marked}
use Rattle.acornsled.proofs.acornsled_mark_tables.Goals as goal

pub returns-in-Ok : goal.returns-in-Ok
returns-in-Ok c = tables_marked c.mark-marking.ensures c.in-Ok.is c.number.ensures c.value_of.ensures c.put_carried.ensures

pub returns-in-Err : goal.returns-in-Err
returns-in-Err c = tables_refused c.mark-marking.ensures c.in-Err.is c.number-in-Err.ensures c.value_of.ensures
