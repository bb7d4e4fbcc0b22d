-- `acornsled_step` meets its contract. Assumes nothing.
use Rattle.acornsled.proofs.Promised.{step_answer}
use Rattle.acornsled.proofs.acornsled_step.Goals as goal

pub returns : goal.returns
returns c = step_answer _ _ _ _ _ _ _ _ _ _ _ c.step.ensures c.told.ensures.number c.told.ensures.value
