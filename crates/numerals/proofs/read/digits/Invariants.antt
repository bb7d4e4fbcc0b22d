-- `read::digits` meets its contract. The loop's invariant: the answer is that of the digits that are left, after the value so far. Assumes nothing.
use mathlib.Core.Path.{◌≡◌}
use Prim.Native.Nat.{◌≤◌}
use lib.ListN.{drop}
use Rattle.numerals.specs.Decimal.{cap}
use Rattle.numerals.specs.Parsing.{digits_from, numeral_answer}
use Rattle.numerals.proofs.read.digits.Given as goal

abbrev pub invariant-loop-next : goal.invariant-loop-next
invariant-loop-next l =
    (l.value ≤ cap) × (numeral_answer l.s (digits_from l.value (drop l.next l.s)) ≡ numeral_answer l.s (digits_from l.first (drop l.at l.s)))
