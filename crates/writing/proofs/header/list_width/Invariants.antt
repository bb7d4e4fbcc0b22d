-- `header::list_width` meets its contract. The loop's invariant: the total is the width of the list of the quantities passed. Assumes nothing.
use mathlib.Core.Path.{◌≡◌}
use lib.ListN.{length}
use Rattle.lines.specs.Spelling.{list_text}
use Rattle.writing.specs.Writing.{hidden_list}
use Rattle.writing.proofs.header.list_width.Given as goal

abbrev pub invariant-loop-j : goal.invariant-loop-j
invariant-loop-j l = l.total ≡ length (list_text (hidden_list l.j l.set))
