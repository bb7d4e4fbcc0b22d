-- `write::measured` meets its contract. The loop's invariant: the total is that of the places passed. Assumes nothing.
use lib.ListN.{take}
use Rattle.writing.specs.Inner.{Measured}
use Rattle.writing.proofs.write.measured.Given as goal

abbrev pub invariant-loop-k : goal.invariant-loop-k
invariant-loop-k l = Measured (take l.k l.places) l.total
