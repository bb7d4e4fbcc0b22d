-- `key::try_key` meets its contract: the room taken is long enough for n. Assumes nothing.
use native.Mathlib.Omega.{arith}
use Rattle.places.specs.Numbering.{block_start}
use Rattle.places.proofs.Numbering.{block_start_mono}
use Rattle.keys.proofs.key.try_key.Goals as goal

pub make_key-requires : goal.make_key-requires
unfolding block_start
make_key-requires c = (c.requires, (block_start_mono c.if-n-le-SMALL.true, omega arith))

pub make_key-requires-then-n-le-MIDDLE : goal.make_key-requires-then-n-le-MIDDLE
unfolding block_start
make_key-requires-then-n-le-MIDDLE c = (c.requires, (block_start_mono c.if-n-le-MIDDLE.true, omega arith))

pub make_key-requires-else-n-le-MIDDLE : goal.make_key-requires-else-n-le-MIDDLE
unfolding block_start
make_key-requires-else-n-le-MIDDLE c = (c.requires, (block_start_mono c.requires.0.most, omega arith))
