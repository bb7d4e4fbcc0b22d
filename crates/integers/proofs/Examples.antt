-- Document 01's halvings, the opposite's bound at a bound and at the least word, and the nearest word past each end of the range. Assumes
-- nothing.
use mathlib.Core.Path.{◌≡◌, refl}
use lib.IntN.{pos, negsuc}
use Rattle.integers.specs.Bound.{half, opposite_bound, smaller, saturated}

half_of_7 : half (pos 7) ≡ pos 3
unfolding half
half_of_7 = refl

half_of_0 : half (pos 0) ≡ pos 0
unfolding half
half_of_0 = refl

half-of--1 : half (negsuc 0) ≡ negsuc 0
unfolding half
half-of--1 = refl

half-of--3 : half (negsuc 2) ≡ negsuc 1
unfolding half
half-of--3 = refl

-- -5 - 1, and 2 ^ 63 - 1, which is a word
opposite_of_5 : opposite_bound (pos 5) ≡ negsuc 5
unfolding opposite_bound
opposite_of_5 = refl

opposite_of_least : opposite_bound (negsuc 9223372036854775807) ≡ pos 9223372036854775807
unfolding opposite_bound
opposite_of_least = refl

-- 2 ^ 63 and -2 ^ 63 - 1 are no words
saturated_of_one_too_high : saturated (pos 9223372036854775808) ≡ pos 9223372036854775807
unfolding saturated
saturated_of_one_too_high = refl

saturated_of_one_too_low : saturated (negsuc 9223372036854775808) ≡ negsuc 9223372036854775807
unfolding saturated
saturated_of_one_too_low = refl

smaller_of_2_and_5 : smaller (pos 5) (pos 2) ≡ pos 2
unfolding smaller
smaller_of_2_and_5 = refl
