-- `assignment::assignment` meets its contract: the checks, the decision in the workspace, then the values. Assumes nothing.
use mathlib.Core.Path.{refl}
use Rattle.std.proofs.lemmas.Result.{err_from_is_err_and}
use Rattle.keys.proofs.Promised.{untouched, assignment_rest, assignment_refused, assignment_five, assignment_done, decided_reduced}
use Rattle.keys.proofs.assignment.assignment.Goals as goal

pub returns-in_err-check : goal.returns-in_err-check
returns-in_err-check c =
    let p = err_from_is_err_and c.from_residual.result c.from_residual.ensures.1 in
    rw (p.1, p.2) (assignment_refused _ _ _ _ _ _ _ (c.in_err-check.ensures.stands _ refl) refl (untouched _ _ _))

pub decide-requires : goal.decide-requires
decide-requires c =
    let p = c.in_ok-check.ensures.passes refl in
    (assignment_rest _ _ _ _ p, p.1.0)

pub returns-then-decide : goal.returns-then-decide
returns-then-decide c =
    let p = c.in_ok-check.ensures.passes refl in
    assignment_five _ _ _ _ _ p (rw c.if-decide.true at c.decide.ensures)

pub fill-requires : goal.fill-requires
fill-requires c =
    let p = c.in_ok-check.ensures.passes refl in
    record { from = _; reduced = decided_reduced _ _ _ _ _ (assignment_rest _ _ _ _ p) p.1.0 (rw c.if-decide.false at c.decide.ensures); values_room = p.1.1.0 }

pub returns : goal.returns
returns c =
    assignment_done _ _ _ _ _ _ (c.in_ok-check.ensures.passes refl) (rw c.if-decide.false at c.decide.ensures)
    c.fill.ensures
