-- `acornsled_assignment` meets its contract. Assumes nothing.
use Rattle.acornsled.proofs.Promised.{assignment_answer}
use Rattle.acornsled.proofs.acornsled_assignment.Goals as goal

pub returns : goal.returns
returns c = assignment_answer _ _ _ _ _ _ _ _ _ c.assignment.ensures c.told.ensures.number c.told.ensures.value
