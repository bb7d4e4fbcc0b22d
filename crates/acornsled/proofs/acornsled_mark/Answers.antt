-- `acornsled_mark` meets its contract: the number of two texts marked. Assumes nothing.
use native.Mathlib.Omega.{arith}
use Rattle.acornsled.proofs.Promised.{mark_answer}
use Rattle.acornsled.proofs.acornsled_mark.Goals as goal

pub returns : goal.returns
returns c = mark_answer _ _ _ _ _ _ c.mark_in_own_room.ensures (omega arith) c.number.ensures
