-- `pairs::is_any_marked` meets its contract. Assumes nothing.
use Rattle.std.proofs.Common.{arith}
use Rattle.rounded.proofs.HalvesBelow.{block_room}
use Rattle.rounded.proofs.PairMarks.{none_passed, block_passed}
use Rattle.rounded.proofs.pairs.is_any_marked.Goals as goal

pub loop-b-init : goal.loop-b-init
loop-b-init c = none_passed c.args.marks.now

pub is_any_set-requires : goal.is_any_set-requires
is_any_set-requires c = omega (arith, block_room c.args.n c.loop-b.b c.loop-b-test.true)

pub loop-b-preserved : goal.loop-b-preserved
loop-b-preserved c = block_passed c.loop-b.b c.args.marks.now c.loop-b.invariant (c.is_any_set.ensures.none c.if-is_any_set.false)
