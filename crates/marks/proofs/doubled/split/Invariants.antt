-- The words passed are taken apart, and the other words and bytes stay. Assumes nothing.
use mathlib.Core.List.{List}
use Prim.Native.Nat.{ℕ}
use lib.IntN.{ℤ, pos}
use Rattle.integers.specs.Bound.{bit}
use Rattle.words.specs.Change.{word_at}
use Rattle.marks.specs.Doubled.{split_word}
use Rattle.marks.proofs.Pointwise.{DoneTo}
use Rattle.marks.proofs.doubled.split.Given as goal

-- what goes to each place of the table and of the marks
abbrev pub bound_at : List ℤ → ℕ → ℤ
bound_at t k = (split_word (word_at t k)).bound

abbrev pub mark_at : List ℤ → ℕ → ℕ
mark_at t k = bit (split_word (word_at t k)).mark

abbrev pub invariant-loop-i : goal.invariant-loop-i
invariant-loop-i l = record {
  words : DoneTo (pos 0) l.i (bound_at l.initial.table) l.initial.table l.table;
  bytes : DoneTo 0 l.i (mark_at l.initial.table) l.initial.marks l.marks;
}
