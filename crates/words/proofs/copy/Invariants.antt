-- The words passed are copied. Assumes nothing.
use mathlib.Core.Path.{◌≡◌}
use Rattle.words.specs.Change.{change, copying}
use Rattle.words.proofs.copy.Given as goal

abbrev pub invariant-loop-i : goal.invariant-loop-i
invariant-loop-i l = l.t ≡ change l.i (copying l.from) l.initial.t
