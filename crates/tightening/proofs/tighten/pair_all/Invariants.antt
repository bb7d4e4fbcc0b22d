-- `tighten::pair_all` meets its contract. The loop's invariant: all quantities below the one at its turn in the list, or all where the list has ended, are paired
-- without a contradiction. Assumes nothing.
use lib.ListN.{get_or}
use Rattle.tightening.proofs.Walking.{PairedTo}
use Rattle.tightening.proofs.tighten.pair_all.Given as goal

abbrev pub invariant-loop-j : goal.invariant-loop-j
invariant-loop-j l = PairedTo l.n (get_or l.live l.j-index l.n) l.initial.table l.table
