-- `tell` meets its contract. Assumes nothing.
use Rattle.acornsled.proofs.Promised.{reading_refused, reading_accepted}
use Rattle.acornsled.proofs.tell.Goals as goal

pub returns-in-Ok : goal.returns-in-Ok
returns-in-Ok c = reading_accepted c.in-Ok.is c.value_of.ensures

pub returns-in-Err : goal.returns-in-Err
returns-in-Err c = reading_refused c.in-Err.is c.number.ensures c.value_of.ensures
