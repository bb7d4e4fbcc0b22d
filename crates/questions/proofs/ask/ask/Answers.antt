-- `ask::ask` meets its contract: a refusal of the checks stands with nothing changed, and else the list is answered. Assumes nothing.
use Rattle.std.proofs.lemmas.Result.{err_from_is_err_and}
use Rattle.questions.proofs.Promised.{ask_refused}
use Rattle.questions.proofs.ask.ask.Goals as goal

pub returns-in_err-check : goal.returns-in_err-check
returns-in_err-check c =
    let p = err_from_is_err_and c.from_residual.result c.from_residual.ensures.1 in
    rw (p.1, p.2) (ask_refused _ _ _ _ _ c.in_err-check.ensures.reply)
