-- `header::put_list` meets its contract. The loop's invariant: the list of the quantities passed is written. Assumes nothing.
use Rattle.numerals.specs.Writing.{Spliced}
use Rattle.lines.specs.Spelling.{list_text}
use Rattle.writing.specs.Writing.{hidden_list}
use Rattle.writing.proofs.header.put_list.Given as goal

abbrev pub invariant-loop-j : goal.invariant-loop-j
invariant-loop-j l = Spliced l.initial.out l.at (list_text (hidden_list l.j l.set)) l.next l.out
