-- `pairs::is_any_marked` meets its contract. The loop's invariant: no pair of the quantities passed is marked. Assumes nothing.
use Rattle.rounded.specs.Inner.{PairsUnmarked}
use Rattle.rounded.proofs.pairs.is_any_marked.Given as goal

abbrev pub invariant-loop-b : goal.invariant-loop-b
invariant-loop-b l = PairsUnmarked l.b l.marks
