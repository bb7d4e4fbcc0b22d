-- What is odd: a number is twice its half, and 1 more where it is odd.
use mathlib.Core.Path.{◌≡◌, refl}
use native.Mathlib.Omega.{arith}
use Rattle.std.proofs.lemmas.Int.{ints, to_z-of_z}
use mathlib.Core.Bool.{Bool, true, false}
use lib.IntN.{ℤ, pos, ◌+ℤ◌}
use lib.Signed.{mag_shr, shr_z}
use mir.Syntax.{w64}
use mir.Val.{SFits, to_z, of_z}
use mir.ValLaws.{sfits_le}
use Rattle.integers.specs.Bound.{half, odd, bit, Halves}
use Rattle.integers.proofs.Parts.{linear, positive_part, negative_part, parts_add, parts_half, lt_lt_z, le_lt_z, word_value}

pub odd_whole : (c : ℤ) → odd c ≡ true → c ≡ (half c +ℤ half c) +ℤ pos 1
unfolding odd positive_part negative_part
odd_whole c e = let p = parts_add (half c) (half c) in omega (linear, parts_add (half c +ℤ half c) (pos 1), parts_half c)

pub even_whole : (c : ℤ) → odd c ≡ false → c ≡ (half c +ℤ half c) +ℤ pos 0
unfolding odd positive_part negative_part
even_whole c e = let p = parts_add (half c) (half c) in omega (linear, parts_add (half c +ℤ half c) (pos 0), parts_half c)

-- twice a number is even, and its half is that number; 1 more is odd, with the same half
pub doubled_half : (h : ℤ) → half (h +ℤ h) ≡ h
doubled_half h = omega (linear, parts_add h h, parts_half (h +ℤ h))

pub doubled_even : (h : ℤ) → odd (h +ℤ h) ≡ false
unfolding odd
doubled_even h = rw (doubled_half h) (le_lt_z (h +ℤ h) (h +ℤ h) (omega linear))

pub more_half : (h : ℤ) → half ((h +ℤ h) +ℤ pos 1) ≡ h
unfolding positive_part negative_part
more_half h = let p = parts_add h h in omega (linear, parts_add (h +ℤ h) (pos 1), parts_half ((h +ℤ h) +ℤ pos 1))

pub more_odd : (h : ℤ) → odd ((h +ℤ h) +ℤ pos 1) ≡ true
unfolding odd positive_part negative_part
more_odd h = rw (more_half h) (lt_lt_z (h +ℤ h) ((h +ℤ h) +ℤ pos 1) (omega (linear, parts_add (h +ℤ h) (pos 1))))

-- what `integers::halve` tells of a word that is read from its bits
pub half_fits : {c : ℤ} → SFits w64 c → SFits w64 (half c)
unfolding half
half_fits {c} f = sfits_le (mag_shr c 2) f

-- the word that a shift by one gives
pub shifted : (c : ℤ) → SFits w64 c → to_z w64 (of_z w64 (shr_z (to_z w64 (of_z w64 c)) 2)) ≡ half c
unfolding half
shifted c f = rw (word_value f) (word_value (half_fits f))

pub halves_half : {c h : ℤ} {o : Bool} → SFits w64 c → Halves (to_z w64 (of_z w64 c)) h o → to_z w64 (of_z w64 h) ≡ half c
halves_half f e = rw (e.result, word_value f) (word_value (half_fits f))

pub halves_odd : {c h : ℤ} {o : Bool} → SFits w64 c → Halves (to_z w64 (of_z w64 c)) h o → o ≡ odd c
halves_odd f e = rw (word_value f) at e.lost

pub doubled_fits : (c : ℤ) → SFits w64 c → SFits w64 (half c +ℤ half c)
unfolding positive_part negative_part
doubled_fits c f = omega (arith, ints, parts_half c)

whole : (c : ℤ) (o : Bool) → odd c ≡ o → c ≡ (half c +ℤ half c) +ℤ pos (bit o)
whole c true e = odd_whole c e
whole c false e = even_whole c e

pub is_halved : (c : ℤ) → Halves c (half c) (odd c)
is_halved c = record { result = refl; lost = refl; whole = whole c (odd c) refl }

pub ruleset halving = (doubled_fits, to_z-of_z)
