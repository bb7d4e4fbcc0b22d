-- `step::check` meets its contract: at each check either its refusal stands or the next is made. Assumes nothing.
use Rattle.std.proofs.Common.{arith}
use Rattle.std.proofs.lemmas.Result.{err_from_is_err_and}
use Rattle.steps.proofs.Checking.{step_stops, step_outside, step_passes}
use Rattle.steps.proofs.step.check.Goals as goal

pub returns-in_err-check : goal.returns-in_err-check
returns-in_err-check c =
    let p = err_from_is_err_and c.from_residual.result c.from_residual.ensures.1 in
    rw (p.1, p.2) (step_stops _ _ _ _ _ _ _ c.in_err-check.ensures)

pub returns-then-n-blocks : goal.returns-then-n-blocks
returns-then-n-blocks c = step_outside _ _ _ _ _ _ c.in_ok-check.ensures (λ p. grind arith)

pub returns : goal.returns
returns c = step_passes _ _ _ _ _ _ c.in_ok-check.ensures (record { some = omega arith; most = omega arith; point = omega arith })
