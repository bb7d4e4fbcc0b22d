-- `tighten::gather_lone` meets its contract. The loop's invariant: the bounds of the quantities passed are gathered. Assumes nothing.
use Rattle.elimination.specs.Hiding.{lone_word}
use Rattle.elimination.proofs.Rows.{FilledTo}
use Rattle.tightening.proofs.tighten.gather_lone.Given as goal

abbrev pub invariant-loop-a : goal.invariant-loop-a
invariant-loop-a l = FilledTo l.a-index l.live (lone_word l.table) l.row
