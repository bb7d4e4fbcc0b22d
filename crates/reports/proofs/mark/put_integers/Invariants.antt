-- `mark::put_integers` meets its contract. The loop's invariant: the integers passed are written after the first, each after a comma. Assumes nothing.
use mathlib.Core.Path.{◌≡◌}
use lib.ListN.{length, take}
use Rattle.numerals.specs.Writing.{Spliced}
use Rattle.reports.specs.Marks.{further_text}
use Rattle.reports.proofs.mark.put_integers.Given as goal

abbrev pub invariant-loop-value : goal.invariant-loop-value
invariant-loop-value l =
    (length l.out ≡ length l.initial.out) × Spliced l.initial.out l.initial.next (further_text (take l.value-index l.rest)) l.next l.out
