-- `mark::mark` meets its contract: the checks, then the verdict. Assumes nothing.
use Rattle.std.proofs.lemmas.Result.{err_from_is_err_and}
use Rattle.marking.proofs.Promised.{checked_accepted, mark_refused, mark_given}
use Rattle.marking.proofs.mark.mark.Goals as goal

pub returns-in_err-check : goal.returns-in_err-check
returns-in_err-check c =
    let p = err_from_is_err_and c.from_residual.result c.from_residual.ensures.1 in
    rw (p.1, p.2) (mark_refused _ _ _ _ _ _ _ c.in_err-check.ensures)

pub verdict-requires : goal.verdict-requires
verdict-requires c = checked_accepted _ _ _ _ _ _ _ c.check.ensures c.in_ok-check.was

pub returns : goal.returns
returns c = mark_given _ _ _ _ _ _ _ _ _ _ c.check.ensures c.in_ok-check.was c.verdict.ensures
