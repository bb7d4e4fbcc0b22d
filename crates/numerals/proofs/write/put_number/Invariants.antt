-- `write::put_number` meets its contract. The loop's invariant: with the digits of the rest before the cursor the buffer is the one that is
-- asked for. Assumes nothing.
use mathlib.Core.Path.{◌≡◌}
use Prim.Native.Nat.{◌-◌, ◌≤◌}
use Rattle.numerals.specs.Decimal.{decimal}
use Rattle.numerals.specs.Writing.{splice}
use Rattle.numerals.proofs.Decimals.{last_digits}
use Rattle.numerals.proofs.write.put_number.Given as goal

abbrev pub invariant-loop-i : goal.invariant-loop-i
invariant-loop-i l = (l.at ≤ l.i) × (l.i ≤ l.end) × (splice l.out l.at (last_digits (l.i - l.at) l.rest) ≡ splice l.initial.out l.at (decimal l.v))
