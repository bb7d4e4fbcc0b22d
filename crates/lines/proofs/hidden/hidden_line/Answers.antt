-- `hidden::hidden_line` meets its contract: the form, and then the numbers' limits. Assumes nothing.
use borrow.Author.Tests.{not-true, not-false}
use Rattle.std.proofs.lemmas.Result.{err_from_is_err_and}
use Rattle.lines.proofs.Members.{hidden_malformed, hidden_outside, hidden_accepted}
use Rattle.lines.proofs.hidden.hidden_line.Goals as goal

pub returns-in_err-found : goal.returns-in_err-found
returns-in_err-found c = let a = c.args in
    let p = err_from_is_err_and c.from_residual.result c.from_residual.ensures.1 in
    rw (p.1, p.2) (hidden_malformed a.n a.s.now a.at a.line _ c.list_line.ensures _ c.in_err-found.ensures)

pub returns-then-not-found : goal.returns-then-not-found
returns-then-not-found c = let a = c.args in
    hidden_outside a.n a.s.now a.at a.line _ c.list_line.ensures c.in_ok-found.found c.in_ok-found.ensures (not-true _ c.if-not-found.true)

pub returns : goal.returns
returns c = let a = c.args in
    hidden_accepted a.n a.s.now a.at a.line _ c.list_line.ensures c.in_ok-found.found c.in_ok-found.ensures (not-false _ c.if-not-found.false)
