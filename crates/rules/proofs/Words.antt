-- Signed words of 32 bits. Assumes nothing.
use mathlib.Core.Path.{◌≡◌, ap}
use native.Mathlib.Omega.{arith}
use lib.IntN.{ℤ, pos, negsuc}
use mir.Syntax.{w32}
use mir.Val.{SFits, to_z, of_z}
use mir.ValLaws.{to_z-of_z}

-- a word of 32 bits, read back from its bits; a number is 0 exactly where its bits are
pub narrow_value : {z : ℤ} → SFits w32 z → to_z w32 (of_z w32 z) ≡ z
narrow_value {z} f = to_z-of_z w32 z f

pub zero_bits : {z : ℤ} → SFits w32 z → of_z w32 z ≡ 0 → z ≡ pos 0
zero_bits {z = pos n} f e = ap pos e
zero_bits {z = negsuc k} f e = let z : ⊥ = omega (arith, f.sfits) in absurd z

pub nonzero_bits : {z : ℤ} → (of_z w32 z ≡ 0 → ⊥) → z ≡ pos 0 → ⊥
nonzero_bits n e = n (ap (of_z w32) e)
