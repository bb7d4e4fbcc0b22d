-- `write::put_rules` meets its contract. The loop's invariant: the lines of the places passed are written. Assumes nothing.
use lib.ListN.{take}
use Rattle.numerals.specs.Writing.{Spliced}
use Rattle.writing.specs.Inner.{rules_text}
use Rattle.writing.proofs.write.put_rules.Given as goal

abbrev pub invariant-loop-k : goal.invariant-loop-k
invariant-loop-k l = Spliced l.initial.out l.from (rules_text (take l.k l.places)) l.at l.out
