-- `doubled::is_any_below` meets its contract. The loop's invariant: the answer is that of the quantities left. Assumes nothing.
use Rattle.std.proofs.Common.{◌≡◌}
use Rattle.rules.specs.Hidden.{hidden_in}
use Rattle.rounded.specs.Inner.{any_halves_below}
use Rattle.rounded.proofs.doubled.is_any_below.Given as goal

abbrev pub invariant-loop-j : goal.invariant-loop-j
invariant-loop-j l = any_halves_below (hidden_in l.set) l.j l.table ≡ any_halves_below (hidden_in l.set) l.n l.table
