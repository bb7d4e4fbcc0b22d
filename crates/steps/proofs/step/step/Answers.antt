-- `step::step` meets its contract: the checks, the decision, those of the set hidden, then the blocks. Assumes nothing.
use Rattle.std.proofs.Common.{refl}
use Rattle.std.proofs.lemmas.Result.{err_from_is_err_and}
use Rattle.keys.proofs.Promised.{untouched}
use Rattle.steps.proofs.Checking.{point_met}
use Rattle.steps.proofs.Promised.{step_refused, step_fits, step_whole, step_five, step_ready, step_done}
use Rattle.steps.proofs.step.step.Goals as goal

pub returns-in_err-check : goal.returns-in_err-check
returns-in_err-check c =
    let p = err_from_is_err_and c.from_residual.result c.from_residual.ensures.1 in
    rw (p.1, p.2) (step_refused _ _ _ _ _ _ _ _ _ (c.in_err-check.ensures.stands _ refl) refl (untouched _ _ _))

pub decide-requires : goal.decide-requires
decide-requires c = let m = c.in_ok-check.ensures.passes refl in (step_whole _ _ _ _ _ _ m, m.1.0)

pub returns-then-decide : goal.returns-then-decide
returns-then-decide c = step_five _ _ _ _ _ _ _ (c.in_ok-check.ensures.passes refl) c.if-decide.ensures

pub hide_set-requires : goal.hide_set-requires
hide_set-requires c = step_fits _ _ _ _ _ _ (c.in_ok-check.ensures.passes refl)

pub overflow_sub-quantity : goal.overflow_sub-quantity
overflow_sub-quantity c = (point_met _ _ _ _ _ _ (c.in_ok-check.ensures.passes refl)).some

pub follow-requires : goal.follow-requires
follow-requires c = step_ready _ _ _ _ _ _ _ (c.in_ok-check.ensures.passes refl) c.if-decide.ensures _ _ c.hide_set.ensures

pub returns : goal.returns
returns c = step_done _ _ _ _ _ _ _ (c.in_ok-check.ensures.passes refl) c.if-decide.ensures _ _ c.hide_set.ensures _ c.follow.ensures
