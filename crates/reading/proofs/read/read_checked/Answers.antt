-- `read::read_checked` meets its contract: the refusal that the check has told, then that of the table's length, or the table is filled. Assumes nothing.
use Rattle.std.proofs.lemmas.Result.{err_from_is_err_and}
use Rattle.reading.proofs.ReadTexts.{read_refused, passes, room, read_short, read_done}
use Rattle.reading.proofs.read.read_checked.Goals as goal

pub returns-in_err-passed : goal.returns-in_err-passed
returns-in_err-passed c =
    let p = err_from_is_err_and c.from_residual.result c.from_residual.ensures.1 in
    rw (p.1, p.2) (read_refused c.args.s.now _ c.args.checked _ c.in_err-passed.was)

pub returns-then-table-needed : goal.returns-then-table-needed
returns-then-table-needed c =
    read_short c.args.s.now c.args.checked _ _ c.in_ok-passed.was c.requires c.size-needed.ensures _ c.if-table-needed.true

pub fill-requires : goal.fill-requires
fill-requires c = (
  passes c.args.s.now c.args.checked _ _ c.in_ok-passed.was c.requires c.size-needed.ensures,
  room c.args.s.now c.args.checked _ _ c.in_ok-passed.was c.requires c.size-needed.ensures _ c.if-table-needed.false,
)

pub returns : goal.returns
returns c =
    read_done c.args.s.now c.args.checked _ _ c.in_ok-passed.was c.requires c.size-needed.ensures _ _ c.if-table-needed.false c.fill.ensures
