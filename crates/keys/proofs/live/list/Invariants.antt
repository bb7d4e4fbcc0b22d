-- `live::list` meets its contract. The loop's invariant: the live ones of the quantities passed are listed, at most as many as were passed. Assumes nothing.
use Prim.Native.Nat.{◌≤◌}
use Rattle.keys.specs.Inner.{LiveListed}
use Rattle.keys.proofs.live.list.Given as goal

abbrev pub invariant-loop-i : goal.invariant-loop-i
invariant-loop-i l = record { most : l.count ≤ l.i; listed : LiveListed l.i l.set l.part l.from l.count l.out }
