-- `turns::choose_values` meets its contract. The loop's invariant: as many members as have had their turn, the last first, have their values. Assumes nothing.
use mathlib.Core.Path.{◌≡◌}
use Prim.Native.Nat.{◌-◌}
use Rattle.keys.specs.Inner.{read_back}
use Rattle.keys.proofs.turns.choose_values.Given as goal

abbrev pub invariant-loop-j : goal.invariant-loop-j
invariant-loop-j g l = l.values ≡ read_back l.set l.part l.n l.table (l.n - l.j) l.initial.values
