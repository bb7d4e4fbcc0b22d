-- `count::count_line` meets its contract: the form, and then the number's limits. Assumes nothing.
use Rattle.std.proofs.lemmas.Result.{err_from_is_err_and}
use Rattle.lines.proofs.Counts.{count_malformed, count_outside, count_accepted}
use Rattle.lines.proofs.count.count_line.Goals as goal

pub returns-in_err-found : goal.returns-in_err-found
returns-in_err-found c = let a = c.args in
    let p = err_from_is_err_and c.from_residual.result c.from_residual.ensures.1 in
    rw (p.1, p.2) (count_malformed a.s.now a.key.now a.at a.least a.most a.line _ c.number_line.ensures _ c.in_err-found.ensures)

pub returns-then-count-least : goal.returns-then-count-least
returns-then-count-least c = let a = c.args in
    count_outside a.s.now a.key.now a.at a.least a.most a.line _ c.number_line.ensures c.in_ok-found.found c.in_ok-found.ensures c.requires.0 c.requires.1
    c.then-count-least.either

pub returns : goal.returns
returns c = let a = c.args in
    count_accepted a.s.now a.key.now a.at a.least a.most a.line _ c.number_line.ensures c.in_ok-found.found c.in_ok-found.ensures c.requires.0 c.requires.1
    c.if-count-least.false c.if-most-count.false
