-- Numerals by their last digit, how many digits they have at most, and the numeral of an integer by its magnitude. Assumes nothing.
use mathlib.Core.Path.{◌≡◌, refl, sym, ◌∙◌, ap, subst}
use mathlib.Core.Bool.{Bool, true, false, cond}
use mathlib.Core.List.{List, [], ◌∷◌, ◌++◌}
use Prim.Native.Nat.{ℕ, zero, suc, ◌+◌, ◌*◌, ◌/◌, ◌%◌, ◌^◌, ◌≤◌, ◌<◌}
use native.Mathlib.Nat.{mod-eq_of_lt, one-le-pow}
use native.Mathlib.Numerals.{add-one}
use native.Mathlib.Omega.{arith}
use lib.Dec.{T, ltb}
use lib.IntN.{ℤ, pos, negsuc, nat_abs}
use lib.ListN.{length, length-append}
use lib.Signed.{lt_z}
use mir.Syntax.{w64}
use mir.Val.{SFits, to_z, of_z}
use borrow.Author.Tests.{ltb-true, ltb-false, lt-ltb, le-ltb}
use Rattle.std.specs.Prelude.{Option, Some, None, IfNone, IfSome}
use Rattle.std.specs.Option.{unwrap_or}
use Rattle.integers.proofs.Parts.{word_value}
use Rattle.numerals.specs.Bytes.{digit_zero, minus}
use Rattle.numerals.specs.Decimal.{decimal_up_to, decimal, signed_decimal}

-- ---- by the last digit

-- the first number does not matter, where it is large enough
up_to_same : (j k v : ℕ) → v ≤ j → v ≤ k → decimal_up_to j v ≡ decimal_up_to k v
unfolding decimal_up_to
up_to_same zero zero v h l = refl
up_to_same zero (suc k) v h l = rw (lt-ltb v 10 (omega arith)) (ap (λ (d : ℕ). (digit_zero + d) ∷ []) (omega arith))
up_to_same (suc j) zero v h l = rw (lt-ltb v 10 (omega arith)) (ap (λ (d : ℕ). (digit_zero + d) ∷ []) (omega arith))
up_to_same (suc j) (suc k) v h l = rw (up_to_same j k (v / 10) (omega arith) (omega arith))

-- a numeral of one digit
pub decimal_digit : (v : ℕ) → v < 10 → decimal v ≡ (digit_zero + v) ∷ []
unfolding decimal decimal_up_to
decimal_digit zero h = refl
decimal_digit (suc v) h = rw (lt-ltb (suc v) 10 h)

-- a longer one
pub decimal_more : (v : ℕ) → 10 ≤ v → decimal v ≡ decimal (v / 10) ++ (digit_zero + v % 10) ∷ []
unfolding decimal decimal_up_to
decimal_more zero h = let z : ⊥ = omega arith in absurd z
decimal_more (suc v) h = rw (le-ltb (suc v) 10 h, up_to_same v (suc v / 10) (suc v / 10) (omega arith) (omega arith))

-- a number has one digit or more
by_size : (P : Type 0) (v : ℕ) → (v < 10 → P) → (10 ≤ v → P) → P
by_size P v short long = go (ltb v 10) refl
  where
    go : (t : Bool) → ltb v 10 ≡ t → P
    go true e = short (ltb-true v 10 e)
    go false e = long (ltb-false v 10 e)

-- the first number does not matter, where v has at most one digit more
pub up_to_enough : (k v : ℕ) → v < 10 ^ suc k → decimal_up_to k v ≡ decimal v
unfolding decimal_up_to
up_to_enough zero v h = ap (λ (d : ℕ). (digit_zero + d) ∷ []) (mod-eq_of_lt (omega arith)) ∙ sym (decimal_digit v (omega arith))
up_to_enough (suc k) v h =
    by_size (cond (ltb v 10) ((digit_zero + v) ∷ []) (decimal_up_to k (v / 10) ++ (digit_zero + v % 10) ∷ []) ≡ decimal v) v
    (λ l. rw (lt-ltb v 10 l) (sym (decimal_digit v l)))
    (λ l. rw (le-ltb v 10 l, up_to_enough k (v / 10) (omega arith)) (sym (decimal_more v l)))

-- ---- the number of digits

-- a number below 10 has one digit
pub digit_width : (v : ℕ) → v < 10 → length (decimal v) ≡ 1
digit_width v h = rw (decimal_digit v h)

-- another has one more than without its last
pub more_width : (v : ℕ) → 10 ≤ v → length (decimal v) ≡ length (decimal (v / 10)) + 1
more_width v h = rw (decimal_more v h) (length-append (decimal (v / 10)) ((digit_zero + v % 10) ∷ []))

-- no numeral is empty
pub decimal_some : (v : ℕ) → 0 < length (decimal v)
decimal_some v = by_size (0 < length (decimal v)) v (λ l. omega (arith, digit_width v l)) (λ l. omega (arith, more_width v l))

-- a number below a power of ten has no more digits than the power has zeros
pub decimal_width : (k v : ℕ) → v < 10 ^ suc k → length (decimal v) ≤ suc k
decimal_width zero v h = omega (arith, digit_width v (omega arith))
decimal_width (suc k) v h =
    by_size (length (decimal v) ≤ suc (suc k)) v
    (λ l. omega (arith, digit_width v l))
    (λ l. omega (arith, more_width v l, decimal_width k (v / 10) (omega arith)))

-- and a number from a power of ten on has more digits than the power has zeros
decimal_wider : (k v : ℕ) → 10 ^ k ≤ v → k < length (decimal v)
decimal_wider zero v h = decimal_some v
decimal_wider (suc k) v h = by_size (suc k < length (decimal v)) v
    (λ l. let z : ⊥ = omega (arith, one-le-pow) in absurd z)
    (λ l. omega (arith, more_width v l, decimal_wider k (v / 10) (omega arith)))

-- so it has one digit more than the last power of ten that it reaches has zeros; 0 reaches none
pub power_width : (v : ℕ) (o : Option ℕ) → IfNone o (v ≡ 0) → IfSome o (λ k. 10 ^ k ≤ v) → IfSome o (λ k. v < 10 * 10 ^ k)
    → unwrap_or o 0 + 1 ≡ length (decimal v)
power_width v None z h l = omega (arith, digit_width v (omega arith))
power_width v (Some k) z h l = let m : v < 10 * 10 ^ k = l in omega (arith, decimal_wider k v h, decimal_width k v (omega arith))

-- ---- from the last digit on

-- the last k digits of v, zeros before it where it has fewer
unfoldable pub last_digits : ℕ → ℕ → List ℕ
last_digits zero v = []
last_digits (suc k) v = last_digits k (v / 10) ++ (digit_zero + v % 10) ∷ []

-- none of them
pub last_none : (v : ℕ) → last_digits 0 v ≡ []
unfolding last_digits
last_none v = refl

-- one more
pub last_more : (k v : ℕ) → last_digits (suc k) v ≡ last_digits k (v / 10) ++ (digit_zero + v % 10) ∷ []
unfolding last_digits
last_more k v = refl

-- k of them
pub last_length : (k v : ℕ) → length (last_digits k v) ≡ k
unfolding last_digits
last_length zero v = refl
last_length (suc k) v = length-append (last_digits k (v / 10)) ((digit_zero + v % 10) ∷ []) ∙ rw (last_length k (v / 10)) (add-one k)

-- the digits of the numeral are its last ones, all of them
pub decimal_last : (k v : ℕ) → length (decimal v) ≡ k → decimal v ≡ last_digits k v
unfolding last_digits
decimal_last zero v e = let z : ⊥ = omega (arith, decimal_some v) in absurd z
decimal_last (suc k) v e =
    by_size (decimal v ≡ last_digits (suc k) v) v
    (λ l. let z : k ≡ 0 = omega (arith, digit_width v l) in rw (z, decimal_digit v l, mod-eq_of_lt l))
    (λ l. decimal_more v l ∙ ap (λ (ds : List ℕ). ds ++ (digit_zero + v % 10) ∷ []) (decimal_last k (v / 10) (omega (arith, more_width v l))))

-- ---- integers

-- below 0, the sign and the magnitude
pub signed_below : (c : ℤ) → lt_z c (pos 0) ≡ true → signed_decimal c ≡ minus ∷ decimal (nat_abs c)
unfolding signed_decimal
signed_below (pos v) e = let z : ⊥ = omega (arith, ltb-true v 0 e) in absurd z
signed_below (negsuc v) e = refl

-- not below 0, the magnitude
pub signed_above : (c : ℤ) → lt_z c (pos 0) ≡ false → signed_decimal c ≡ decimal (nat_abs c)
unfolding signed_decimal
signed_above (pos v) e = refl
signed_above (negsuc v) e = absurd (subst T e tt)

-- of a word below 0 that is read back from its bits, by its magnitude
pub word_below : {c : ℤ} {m : ℕ} → SFits w64 c → lt_z (to_z w64 (of_z w64 c)) (pos 0) ≡ true → m ≡ nat_abs (to_z w64 (of_z w64 c))
    → signed_decimal c ≡ minus ∷ decimal m
word_below {c} {m} f e q = signed_below c (rw (word_value f) at e) ∙ ap (λ (v : ℕ). minus ∷ decimal v) (sym (rw (word_value f) at q))

-- and of one that is not below 0
pub word_above : {c : ℤ} {m : ℕ} → SFits w64 c → lt_z (to_z w64 (of_z w64 c)) (pos 0) ≡ false → m ≡ nat_abs (to_z w64 (of_z w64 c))
    → signed_decimal c ≡ decimal m
word_above {c} {m} f e q = signed_above c (rw (word_value f) at e) ∙ ap decimal (sym (rw (word_value f) at q))

-- no numeral of an integer is empty
pub signed_some : (c : ℤ) → 0 < length (signed_decimal c)
unfolding signed_decimal
signed_some (pos v) = decimal_some v
signed_some (negsuc v) = omega arith

-- one byte more at most, for the sign
pub signed-width : (k : ℕ) (c : ℤ) → nat_abs c < 10 ^ suc k → length (signed_decimal c) ≤ suc (suc k)
unfolding signed_decimal
signed-width k (pos v) h = omega (arith, decimal_width k v h)
signed-width k (negsuc v) h = omega (arith, decimal_width k (suc v) h)
