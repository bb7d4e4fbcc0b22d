-- `acornsled_ask` meets its contract. Assumes nothing.
use Rattle.acornsled.proofs.Asking.{ask_refused, ask_answered}
use Rattle.acornsled.proofs.acornsled_ask.Goals as goal

pub returns-in-Ok : goal.returns-in-Ok
returns-in-Ok c = ask_answered c.ask-asked.ensures c.in-Ok.is c.value_of.ensures

pub returns-in-Err : goal.returns-in-Err
returns-in-Err c = ask_refused c.ask-asked.ensures c.in-Err.is c.number.ensures c.value_of.ensures
