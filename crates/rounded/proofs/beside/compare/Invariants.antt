-- `beside::compare` meets its contract. The loop's invariant: the bytes passed tell what stands beside the rules, and the others stay. Assumes nothing.
use Rattle.std.proofs.Common.{List, ℕ, ℤ}
use Rattle.integers.specs.Bound.{bit}
use Rattle.words.specs.Change.{word_at}
use Rattle.marks.proofs.Pointwise.{DoneTo}
use Rattle.rounded.specs.Inner.{beside_mark}
use Rattle.rounded.proofs.beside.compare.Given as goal

-- what goes to each place
abbrev pub told_at : List ℤ → List ℤ → ℕ → ℕ
told_at t copy k = bit (beside_mark (word_at t k) (word_at copy k))

abbrev pub invariant-loop-i : goal.invariant-loop-i
invariant-loop-i l = DoneTo 0 l.i (told_at l.table l.copy) l.initial.marks l.marks
