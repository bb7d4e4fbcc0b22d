-- `room::own_lengths` meets its contract. Assumes nothing.
use mathlib.Core.Path.{refl}
use Rattle.places.specs.Numbering.{block_start}
use Rattle.scripts.proofs.room.own_lengths.Goals as goal

pub returns : goal.returns
unfolding block_start
returns c = refl
