-- `below::first_below` meets its contract. The loop's invariant: the blocks of the first i live quantities have no place that is looked for. Assumes nothing.
use Rattle.tightening.proofs.FirstBelow.{PassedTo, TableBlock}
use Rattle.tightening.proofs.below.first_below.Given as goal

abbrev pub invariant-loop-i : goal.invariant-loop-i
invariant-loop-i l = PassedTo l.rules l.least (TableBlock l.live) l.i
