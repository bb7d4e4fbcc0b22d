-- `hidden::listed` meets its contract. The loop's invariant: a number has to be at `from`, and what is found is that of the numbers before it and of what
-- is left. The measure is the rest of the text. Assumes nothing.
use Prim.Native.Nat.{◌-◌}
use lib.ListN.{length, drop}
use Rattle.lines.specs.Inner.{list_answer}
use Rattle.lines.proofs.Members.{Reading}
use Rattle.lines.proofs.hidden.listed.Given as goal

abbrev pub invariant-loop-from : goal.invariant-loop-from
invariant-loop-from l = Reading l.n l.s (list_answer l.n l.s (drop l.at l.s)) l.members l.before l.from

abbrev pub decreases-loop-from : goal.decreases-loop-from
decreases-loop-from l = length l.s - l.from
