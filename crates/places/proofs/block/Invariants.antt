-- The search for a block: the present one starts at the place or before it. The measure is what is left of the place. Assumes nothing.
use Prim.Native.Nat.{◌-◌, ◌*◌, ◌≤◌}
use Rattle.places.proofs.block.Given as goal

abbrev pub invariant-loop-j : goal.invariant-loop-j
invariant-loop-j l = 2 * (l.j * l.j) ≤ l.place

abbrev pub decreases-loop-j : goal.decreases-loop-j
decreases-loop-j l = l.place - l.j
