-- `integers::midpoint` meets its contract: the two halves together are the sum's half, but for the 1 that two odd words carry.
-- Assumes nothing.
use mathlib.Core.Path.{◌≡◌}
use mathlib.Core.Bool.{Bool, true, false}
use native.Mathlib.Omega.{arith}
use Rattle.std.proofs.lemmas.Int.{ints}
use lib.IntN.{ℤ, pos, ◌+ℤ◌}
use Rattle.integers.specs.Bound.{half, Halves}
use Rattle.integers.proofs.Parts.{positive_part, negative_part, parts_half, word_value}
use Rattle.integers.proofs.midpoint.Goals as goal
use Rattle.integers.proofs.midpoint.Goals.{else-x-via-then-x+else-y, else-x-via-else-x}

module _ {a b h k : ℤ} where
  carried : Halves a h true → Halves b k true → (h +ℤ k) +ℤ pos 1 ≡ half (a +ℤ b)
  unfolding positive_part negative_part
  carried x y = omega (arith, ints, x.whole, y.whole, parts_half (a +ℤ b))

  first_even : (q : Bool) → Halves a h false → Halves b k q → h +ℤ k ≡ half (a +ℤ b)
  unfolding positive_part negative_part
  first_even true x y = omega (arith, ints, x.whole, y.whole, parts_half (a +ℤ b))
  first_even false x y = omega (arith, ints, x.whole, y.whole, parts_half (a +ℤ b))

  second_even : (o : Bool) → Halves a h o → Halves b k false → h +ℤ k ≡ half (a +ℤ b)
  unfolding positive_part negative_part
  second_even true x y = omega (arith, ints, x.whole, y.whole, parts_half (a +ℤ b))
  second_even false x y = omega (arith, ints, x.whole, y.whole, parts_half (a +ℤ b))

pub overflow_add-result-then-y : goal.overflow_add-result-then-y
unfolding positive_part negative_part
overflow_add-result-then-y c =
    let x = rw (c.if-x.true, word_value c.ranges.a) at c.halve-x.ensures in
    let y = rw (c.if-y.true, word_value c.ranges.b) at c.halve-y.ensures in
    omega (arith, ints, parts_half c.args.a, parts_half c.args.b, x.result, y.result)

pub overflow_add-result-2 : goal.overflow_add-result-2
unfolding positive_part negative_part
overflow_add-result-2 c =
    let x = rw (word_value c.ranges.a) at c.halve-x.ensures in
    let y = rw (word_value c.ranges.b) at c.halve-y.ensures in
    omega (arith, ints, parts_half c.args.a, parts_half c.args.b, x.result, y.result)

pub returns-then-y : goal.returns-then-y
returns-then-y c =
    let x = rw (c.if-x.true, word_value c.ranges.a) at c.halve-x.ensures in
    let y = rw (c.if-y.true, word_value c.ranges.b) at c.halve-y.ensures in
    let sum = carried x y in
    omega (arith, ints)

pub returns : goal.returns
unfolding positive_part negative_part
returns c =
    let x = rw (word_value c.ranges.a) at c.halve-x.ensures in
    let y = rw (word_value c.ranges.b) at c.halve-y.ensures in
    let sum : c.halve-x.result.half +ℤ c.halve-y.result.half ≡ half (c.args.a +ℤ c.args.b) =
    elim c.else-x.branch [
      | else-x-via-then-x+else-y w ↦ second_even c.halve-x.result.odd x (rw w.if-y.false at y)
      | else-x-via-else-x w ↦ first_even c.halve-y.result.odd (rw w.if-x.false at x) y
    ]
    in
    omega (arith, ints, parts_half (c.args.a +ℤ c.args.b))
