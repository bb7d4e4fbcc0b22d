-- `beside::mask` meets its contract. The loop's invariant: at the places passed stands what goes beside their rules, and the others stay. Assumes nothing.
use Rattle.std.proofs.Common.{List, ℕ, ℤ, pos}
use Rattle.marks.specs.Marks.{marked_of}
use Rattle.marks.proofs.Pointwise.{DoneTo}
use Rattle.rounded.specs.Inner.{masked_word}
use Rattle.rounded.proofs.beside.mask.Given as goal

-- what goes to each place
abbrev pub masked_at : List ℤ → List ℕ → ℕ → ℤ
masked_at t marks k = masked_word (marked_of t marks k)

abbrev pub invariant-loop-i : goal.invariant-loop-i
invariant-loop-i l = DoneTo (pos 0) l.i (masked_at l.table l.marks) l.initial.copy l.copy
