-- `check::check_rules` meets its contract. The loop's invariant: the lines so far are read, and the table is filled so far. Assumes nothing.
use Rattle.reading.proofs.Running.{Running}
use Rattle.reading.proofs.check.check_rules.Given as goal

abbrev pub invariant-loop-i : goal.invariant-loop-i
invariant-loop-i l = Running l.ordered l.header l.limit l.s l.fills l.fn.table l.initial.table l.table l.at l.last l.i
