-- The members among the quantities so far are counted. Assumes nothing.
use mathlib.Core.Path.{◌≡◌}
use Rattle.rules.specs.Hidden.{hidden_in, member_count}
use Rattle.rules.proofs.hidden.count.Given as goal

abbrev pub invariant-loop-i : goal.invariant-loop-i
invariant-loop-i l = l.members ≡ member_count (hidden_in l.set) l.i
