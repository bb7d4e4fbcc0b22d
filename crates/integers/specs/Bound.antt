-- The operations on a bound, over unbounded integers, and the range of a signed 64-bit word.
use Rattle.std.specs.Prelude.{Bool, true, false, cond, ◌≡◌, ℕ, ◌^◌, ltb, ℤ, pos, negsuc, neg_ℤ, ◌+ℤ◌, ◌≤ℤ◌, Option, Some, None}
use Rattle.std.specs.Int.Signed.{mag, lt_z, shr_z}

-- c halved and rounded toward minus infinity: 7 gives 3, 0 gives 0, -1 gives -1, -3 gives -2. (`shr_z c m` is c divided by m, rounded down.)
unfoldable pub half : ℤ → ℤ
half c = shr_z c 2

-- is c odd? -1 is: it is twice its half -1, and 1 more
unfoldable pub odd : ℤ → Bool
odd c = lt_z (half c +ℤ half c) c

-- a truth as a number: 1 or 0
abbrev pub bit : Bool → ℕ
bit true = 1
bit false = 0

-- c halved, and whether it was odd: c is twice its half, and 1 more where it was (document 02, [6])
pub record Halves (c h : ℤ) (o : Bool) : Type 0 where
  pub result : h ≡ half c
  pub lost : o ≡ odd c
  pub whole : c ≡ (h +ℤ h) +ℤ pos (bit o)

-- the bound of the opposite of `t ≤ c`, which is `-t ≤ -c - 1`
unfoldable pub opposite_bound : ℤ → ℤ
opposite_bound c = neg_ℤ c +ℤ negsuc 0

-- the smaller of two bounds
unfoldable pub smaller : ℤ → ℤ → ℤ
smaller a b = cond (lt_z b a) b a

-- z is a signed 64-bit word. (`mag z` is n both for n and for -(n + 1).)
unfoldable pub in_word : ℤ → Bool
in_word z = ltb (mag z) (2 ^ 63)

-- the ends of the range of a signed 64-bit word
abbrev pub least_word : ℤ
least_word = negsuc 9223372036854775807

abbrev pub greatest_word : ℤ
greatest_word = pos 9223372036854775807

-- the word nearest to z: z where it is one, else the end of the range on its side
unfoldable pub saturated : ℤ → ℤ
saturated z = cond (lt_z z least_word) least_word (cond (lt_z greatest_word z) greatest_word z)

-- the sum of two words, where it is a word
unfoldable pub total_of : ℤ → ℤ → Option ℤ
total_of a b = cond (in_word (a +ℤ b)) (Some (a +ℤ b)) None

-- the integer z is at most B in magnitude
pub record Within (B z : ℤ) : Type 0 where
  pub above : neg_ℤ B ≤ℤ z
  pub below : z ≤ℤ B
