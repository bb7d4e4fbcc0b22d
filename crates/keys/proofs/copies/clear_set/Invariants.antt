-- `copies::clear_set` meets its contract. The loop's invariant: the places of the members passed are cleared. Assumes nothing.
use mathlib.Core.Path.{◌≡◌}
use Rattle.rules.specs.Hidden.{hidden_in}
use Rattle.keys.proofs.KeyCopies.{cleared_up_to}
use Rattle.keys.proofs.copies.clear_set.Given as goal

abbrev pub invariant-loop-j : goal.invariant-loop-j
invariant-loop-j l = l.table ≡ cleared_up_to (hidden_in l.set) l.n l.j l.initial.table
