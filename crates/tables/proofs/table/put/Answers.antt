-- `table::put` meets its contract: the halved rule gets its reply and goes to its place. Assumes nothing.
use Rattle.std.proofs.Common.{sym}
use Rattle.std.proofs.lemmas.Result.{err_from_is_err_and}
use Rattle.tables.proofs.Promised.{put_refused_size, put_refused, put_done}
use Rattle.tables.proofs.table.put.Goals as goal

pub returns-then-not-serves : goal.returns-then-not-serves
returns-then-not-serves c = put_refused_size _ _ _ (sym c.if-not-serves.ensures)

pub returns-in_err-accepts : goal.returns-in_err-accepts
returns-in_err-accepts c = let p = err_from_is_err_and c.from_residual.result c.from_residual.ensures.1 in rw (p.1, p.2) (put_refused _ _ _ _ _ (sym c.if-not-serves.ensures) c.halved-halved.ensures.reply c.in_err-accepts.ensures)

pub returns : goal.returns
returns c = put_done _ _ _ _ _ (sym c.if-not-serves.ensures) c.halved-halved.ensures.reply c.in_ok-accepts.ensures c.store.ensures
