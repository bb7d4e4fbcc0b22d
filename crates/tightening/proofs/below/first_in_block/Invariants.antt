-- `below::first_in_block` meets its contract. The loop's invariant: neither the run of the block's quantity alone nor those with the lower ones passed have a place that is
-- looked for. Assumes nothing.
use Prim.Native.Nat.{suc}
use lib.ListN.{get_or}
use Rattle.tightening.proofs.FirstBelow.{PassedTo, BlockRun}
use Rattle.tightening.proofs.below.first_in_block.Given as goal

abbrev pub invariant-loop-a : goal.invariant-loop-a
invariant-loop-a l = PassedTo l.rules l.least (BlockRun (get_or l.live l.i 0) l.live) (suc l.a-index)
