-- `mark::unsatisfiable_sheet` meets its contract: the script decided, and its values read back where some integers satisfy it. Assumes nothing.
use Rattle.marking.proofs.Opposed.{script_rest}
use Rattle.marking.proofs.Promised.{one_table, without_equal, without_fillable, without_loose}
use Rattle.marking.proofs.mark.unsatisfiable_sheet.Goals as goal

pub decide-requires : goal.decide-requires
decide-requires c =
    let p = c.requires.tables_accepted in
    (script_rest _ _ _ _ _ _ p, one_table _ _ _ _ _ _ p)

pub returns-then-decide : goal.returns-then-decide
returns-then-decide c =
    without_equal _ _ _ _ _ _ _ c.requires.sheet_value (rw c.if-decide.true at c.decide.ensures)

pub fill-requires : goal.fill-requires
fill-requires c =
    without_fillable _ _ _ _ _ _ _ c.requires.tables_accepted (rw c.if-decide.false at c.decide.ensures)

pub returns : goal.returns
returns c =
    let p = c.requires in
    without_loose _ _ _ _ _ _ _ _ _ p.tables_accepted p.sheet_value (rw c.if-decide.false at c.decide.ensures) c.fill.ensures c.trivial.ensures
