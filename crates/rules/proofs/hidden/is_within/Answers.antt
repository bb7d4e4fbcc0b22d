-- `hidden::is_within` meets its contract: a set is below 2 ^ n exactly where nothing of it is left after n bits. Assumes nothing.
use mathlib.Core.Path.{◌≡◌, refl}
use mathlib.Core.Bool.{Bool, true, false}
use Prim.Native.Nat.{ℕ, ◌/◌, ◌^◌, ◌<◌, ◌≤◌}
use native.Mathlib.Omega.{arith}
use native.Mathlib.Nat.{div-eq_of_lt, lt_of_lt_of_le, le-div_iff_mul-le, one-le-pow}
use lib.Dec.{eqb, leb, ltb}
use lib.Pow.{pow_mono}
use borrow.Author.Tests.{lt-ltb, ltb-true, ltb-false, ne_eqb, le-leb}
use Rattle.rules.specs.Hidden.{set_within}
use Rattle.rules.proofs.Promised.{in_range}
use Rattle.rules.proofs.hidden.is_within.Goals as goal

wide : (h n : ℕ) → h < 2 ^ 32 → 32 ≤ n → leb 32 n ≡ set_within n h
wide h n f l = rw (le-leb 32 n l, lt-ltb h (2 ^ n) (lt_of_lt_of_le f (pow_mono {i = 32} {j = n} l)))

narrow : (h n : ℕ) → eqb (h / 2 ^ n) 0 ≡ set_within n h
narrow h n = go (ltb h (2 ^ n)) refl
  where
    left : 2 ^ n ≤ h → 1 ≤ h / 2 ^ n
    left l = (le-div_iff_mul-le (one-le-pow n 2 (omega arith))).1 (omega arith)

    go : (t : Bool) → ltb h (2 ^ n) ≡ t → eqb (h / 2 ^ n) 0 ≡ t
    go true e = rw (div-eq_of_lt (ltb-true h (2 ^ n) e))
    go false e = ne_eqb (h / 2 ^ n) 0 (λ z. omega (arith, left (ltb-false h (2 ^ n) e)))

pub returns-then-n-ge-BITS : goal.returns-then-n-ge-BITS
returns-then-n-ge-BITS c = in_range _ _ _ c.ranges.set.fits (wide c.args.set c.args.n c.ranges.set.fits c.if-n-ge-BITS.true)

pub returns-else-n-ge-BITS : goal.returns-else-n-ge-BITS
returns-else-n-ge-BITS c = in_range _ _ _ c.ranges.set.fits (narrow c.args.set c.args.n)
