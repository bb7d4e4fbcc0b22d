-- `acornsled_mark_texts` meets its contract. Assumes nothing.
use Rattle.acornsled.proofs.Promised.{mark_texts_refused, mark_texts_marked}
use Rattle.acornsled.proofs.acornsled_mark_texts.Goals as goal

pub returns-in-Ok : goal.returns-in-Ok
returns-in-Ok c =
    mark_texts_marked c.mark_in_own_room-marking.ensures c.in-Ok.is c.number.ensures c.paper.ensures c.value.ensures c.put_carried.ensures

pub returns-in-Err : goal.returns-in-Err
returns-in-Err c =
    mark_texts_refused c.mark_in_own_room-marking.ensures c.in-Err.is c.number-in-Err.ensures c.paper.ensures c.value.ensures
