-- `own::mark_in_own_room` meets its contract: each room has words enough for its most quantities, and the last for every sheet. Assumes nothing.
use mathlib.Core.Path.{refl}
use native.Mathlib.Omega.{arith}
use Rattle.places.specs.Numbering.{block_start}
use Rattle.rules.specs.Limits.{max_quantities}
use Rattle.scripts.specs.Inner.{small_count, middle_count}
use Rattle.scripts.proofs.OwnRoom.{sheet_most, own_room}
use Rattle.scripts.proofs.own.mark_in_own_room.Goals as goal

pub mark_in_room-requires : goal.mark_in_room-requires
unfolding block_start
mark_in_room-requires c = (own_room _ small_count (omega arith) refl refl refl, omega arith, omega arith)

pub mark_in_room-requires-then-n-le-MIDDLE : goal.mark_in_room-requires-then-n-le-MIDDLE
unfolding block_start
mark_in_room-requires-then-n-le-MIDDLE c = (own_room _ middle_count (omega arith) refl refl refl, omega arith, omega arith)

pub mark_in_room-requires-else-n-le-MIDDLE : goal.mark_in_room-requires-else-n-le-MIDDLE
unfolding block_start
mark_in_room-requires-else-n-le-MIDDLE c = (own_room _ max_quantities (sheet_most _) refl refl refl, omega arith, omega arith)
