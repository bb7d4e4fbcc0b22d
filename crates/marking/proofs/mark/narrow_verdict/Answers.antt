-- `mark::narrow_verdict` meets its contract: a place of the table has 32 bits. Assumes nothing.
use native.Mathlib.Omega.{arith}
use Rattle.tables.proofs.Sizes.{small_start}
use Rattle.marking.proofs.mark.narrow_verdict.Goals as goal

pub overflow_cast-k : goal.overflow_cast-k
overflow_cast-k c = omega (arith, c.requires.inside _ c.in-Some.is, small_start _ c.requires.most)
