-- The words passed are doubled with their marks, and the others stay. Assumes nothing.
use mathlib.Core.List.{List}
use Prim.Native.Nat.{ℕ}
use lib.IntN.{ℤ, pos}
use Rattle.marks.specs.Marks.{marked_of}
use Rattle.marks.specs.Doubled.{doubled_word}
use Rattle.marks.proofs.Pointwise.{DoneTo}
use Rattle.marks.proofs.doubled.double.Given as goal

-- what goes to each place
abbrev pub doubled_at : List ℤ → List ℕ → ℕ → ℤ
doubled_at t marks k = doubled_word (marked_of t marks k)

abbrev pub invariant-loop-i : goal.invariant-loop-i
invariant-loop-i l = DoneTo (pos 0) l.i (doubled_at l.initial.table l.marks) l.initial.table l.table
