-- The loop of `choose::bounded_by`: the best so far is lowered by the literal alone and by the literals of the quantities passed. Assumes nothing.
use Rattle.words.specs.Change.{word_at}
use Rattle.rules.specs.Meaning.{literal_value}
use Rattle.tables.specs.Meaning.{assignment_of}
use Rattle.elimination.proofs.Best.{BestTo}
use Rattle.elimination.proofs.choose.bounded_by.Given as goal

abbrev pub invariant-loop-a : goal.invariant-loop-a
invariant-loop-a l = BestTo l.live (literal_value (assignment_of l.values)) (word_at l.row) l.alone l.v l.a-index l.best
