-- The hidden set as numbers are added to it, each above all before it: its bits stay apart, so that sums are sets. Assumes nothing.
use mathlib.Core.Path.{◌≡◌, refl, sym, ◌∙◌, ap}
use mathlib.Core.Bool.{Bool, true, false}
use Prim.Native.Nat.{ℕ, suc, ◌+◌, ◌*◌, ◌^◌, ◌≤◌, ◌<◌}
use native.Mathlib.Nat.{lt_of_lt_of_le}
use native.Mathlib.Omega.{arith}
use lib.Pow.{pow_mono}
use borrow.Author.Tests.{le-leb, lt-leb}
use Rattle.numerals.specs.Decimal.{capped}
use Rattle.numerals.proofs.Values.{capped_most, capped_least, capped_exact}
use Rattle.rules.specs.Hidden.{bit_of}
use Rattle.rules.specs.Limits.{max_quantities}
use Rattle.rules.proofs.Sets.{bit_twice}
use Rattle.rules.specs.Literal.{quantity_within}
use Rattle.rules.proofs.Quantities.{within_range}
use Rattle.lines.specs.Inner.{member_bit}

-- ---- the bit of a number

-- 0 is no quantity
pub within_zero : (n q : ℕ) → q < 1 → quantity_within n q ≡ false
within_zero n q h = rw (lt-leb 1 q h)

-- nor is a number above n
pub within_above : (n q : ℕ) → 1 ≤ q → n < q → quantity_within n q ≡ false
within_above n q h l = rw (le-leb 1 q h, lt-leb q n l)

-- the others are
pub within_inside : (n q : ℕ) → 1 ≤ q → q ≤ n → quantity_within n q ≡ true
within_inside n q h l = rw (le-leb 1 q h, le-leb q n l)

-- a quantity has its bit
pub bit_inside : (n q : ℕ) → quantity_within n q ≡ true → member_bit n q ≡ bit_of q
unfolding member_bit
bit_inside n q e = rw e

-- any other number has none
pub bit_outside : (n q : ℕ) → quantity_within n q ≡ false → member_bit n q ≡ 0
unfolding member_bit
bit_outside n q e = rw e

-- ---- values as they are told

-- the value told is a quantity where the value is one
pub within_told : (n q : ℕ) → n ≤ max_quantities → quantity_within n (capped q) ≡ quantity_within n q
within_told n q h = rw (capped_least q 1 (omega arith), capped_most q n (omega arith))

-- and has the same bit
pub bit_told : (n q : ℕ) → n ≤ max_quantities → member_bit n (capped q) ≡ member_bit n q
bit_told n q h = go (quantity_within n q) refl
  where
    go : (t : Bool) → quantity_within n q ≡ t → member_bit n (capped q) ≡ member_bit n q
    go true e = let r = within_range n (capped q) (within_told n q h ∙ e) in ap (member_bit n) (capped_exact q (omega arith))
    go false e = bit_outside n (capped q) (within_told n q h ∙ e) ∙ sym (bit_outside n q e)

-- ---- room for the bit

-- a set of numbers below `least` is one of numbers below any q from there on, also where that is told
pub room_told : (n q least set : ℕ) → n ≤ max_quantities → least ≤ q → 2 * set < 2 ^ least → capped q ≤ n → 2 * set < 2 ^ capped q
room_told n q least set h l r m = rw (capped_exact q (omega arith)) (lt_of_lt_of_le r (pow_mono {i = least} {j = q} l))

-- and with q it is one of numbers below the next
pub room_more : (n q least set : ℕ) → least ≤ q → 2 * set < 2 ^ least → 2 * (set + member_bit n q) < 2 ^ suc q
room_more n q least set l r = go (quantity_within n q) refl
  where
    go : (t : Bool) → quantity_within n q ≡ t → 2 * (set + member_bit n q) < 2 ^ suc q
    go true e = rw (bit_inside n q e) (omega (arith, bit_twice q (within_range n q e).0, pow_mono {i = least} {j = q} l))
    go false e = rw (bit_outside n q e) (omega (arith, pow_mono {i = least} {j = q} l))
