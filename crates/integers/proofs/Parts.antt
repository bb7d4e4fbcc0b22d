-- Linear arithmetic over ℤ, read by `omega` as arithmetic over ℕ: an integer is its positive part less its negative part.
-- `linear` turns orders, equations and tests of integers into facts on parts; `parts_add`, `parts_neg` and the laws of `half` are listed
-- for the sums, negations and halves in sight. Assumes nothing.
use mathlib.Core.Path.{◌≡◌, refl, sym}
use mathlib.Core.Bool.{Bool, true, false, cond}
use mathlib.Core.Logic.{◌↔◌}
use Prim.Native.Nat.{ℕ, ◌+◌, ◌^◌, ◌≤◌, ◌<◌}
use native.Mathlib.Omega.{arith}
use borrow.Author.Differences.{up, down, neg_is}
use Rattle.std.proofs.lemmas.Int.{ints, to_z-of_z}
use Rattle.std.specs.Int.{saturate_signed}
use lib.IntN.{ℤ, pos, negsuc, neg_ℤ, ◌+ℤ◌}
use lib.Signed.{lt_z, le_z, mag, mag_shr, ◌≤ℤ◌, ◌<ℤ◌}
use mir.Syntax.{w64}
use mir.Val.{SFits, to_z, of_z}
use mir.ValLaws.{sfits_le}
use borrow.Author.Tests.{ltb-true, lt-ltb, le-ltb}
use Rattle.std.specs.Prelude.{Option, Some, None, SomeIff}
use Rattle.integers.specs.Bound.{half, opposite_bound, smaller, in_word, least_word, greatest_word, saturated, total_of}

-- the two parts, as std's `ints` reads an integer
unfoldable pub positive_part : ℤ → ℕ
positive_part z = up z

unfoldable pub negative_part : ℤ → ℕ
negative_part z = down z

-- ---- operations

pub parts_add : (a b : ℤ) → positive_part (a +ℤ b) + negative_part a + negative_part b ≡ positive_part a + positive_part b + negative_part (a +ℤ b)
unfolding positive_part negative_part
parts_add a b = omega (arith, ints)

pub parts_neg : (a : ℤ) → (positive_part (neg_ℤ a) ≡ negative_part a) × (negative_part (neg_ℤ a) ≡ positive_part a)
unfolding positive_part negative_part
parts_neg a = neg_is a

-- ---- orders and equations

pub le_to : {a b : ℤ} → a ≤ℤ b → positive_part a + negative_part b ≤ positive_part b + negative_part a
unfolding positive_part negative_part
le_to h = omega (arith, ints)

pub le_of : {a b : ℤ} → positive_part a + negative_part b ≤ positive_part b + negative_part a → a ≤ℤ b
unfolding positive_part negative_part
le_of h = omega (arith, ints)

pub lt_to : {a b : ℤ} → a <ℤ b → positive_part a + negative_part b < positive_part b + negative_part a
unfolding positive_part negative_part
lt_to h = omega (arith, ints)

pub lt_of : {a b : ℤ} → positive_part a + negative_part b < positive_part b + negative_part a → a <ℤ b
unfolding positive_part negative_part
lt_of h = omega (arith, ints)

pub eq_to : {a b : ℤ} → a ≡ b → positive_part a + negative_part b ≡ positive_part b + negative_part a
eq_to e = rw e

pub eq_of : {a b : ℤ} → positive_part a + negative_part b ≡ positive_part b + negative_part a → a ≡ b
unfolding positive_part negative_part
eq_of e = omega (arith, ints)

pub lt_z_true : (a b : ℤ) → lt_z a b ≡ true → positive_part a + negative_part b < positive_part b + negative_part a
unfolding positive_part negative_part
lt_z_true a b e = omega (arith, ints)

pub lt_z_false : (a b : ℤ) → lt_z a b ≡ false → positive_part b + negative_part a ≤ positive_part a + negative_part b
unfolding positive_part negative_part
lt_z_false a b e = omega (arith, ints)

pub le_z_true : (a b : ℤ) → le_z a b ≡ true → positive_part a + negative_part b ≤ positive_part b + negative_part a
unfolding positive_part negative_part
le_z_true a b e = omega (arith, ints)

-- what `omega` reads of integers
pub ruleset linear = (arith, lt_z_true, lt_z_false, le_z_true, lt_to, lt_of, eq_to, eq_of, le_to, le_of)

-- a test from the order, as `lt-ltb` and its like have it of numbers
pub lt_lt_z : (a b : ℤ) → a <ℤ b → lt_z a b ≡ true
lt_lt_z a b h = sym (omega (arith, ints))

pub le_lt_z : (a b : ℤ) → b ≤ℤ a → lt_z a b ≡ false
le_lt_z a b h = sym (omega (arith, ints))

pub le_le_z : (a b : ℤ) → a ≤ℤ b → le_z a b ≡ true
le_le_z a b h = sym (omega (arith, ints))

pub lt_le_z : (a b : ℤ) → b <ℤ a → le_z a b ≡ false
lt_le_z a b h = sym (omega (arith, ints))

pub le_z_false : (a b : ℤ) → le_z a b ≡ false → b <ℤ a
le_z_false a b e = omega (arith, ints)

-- ---- a word of 64 bits: from -2 ^ 63 up to, and without, 2 ^ 63

pub word_to : {z : ℤ} → SFits w64 z → (positive_part z < 2 ^ 63 + negative_part z) × (negative_part z ≤ 2 ^ 63 + positive_part z)
unfolding positive_part negative_part
word_to h = (omega (arith, ints), omega (arith, ints))

pub word_of : {z : ℤ} → positive_part z < 2 ^ 63 + negative_part z → negative_part z ≤ 2 ^ 63 + positive_part z → SFits w64 z
unfolding positive_part negative_part
word_of p q = omega (arith, ints)

-- a word that is read back from its bits
pub word_value : {z : ℤ} → SFits w64 z → to_z w64 (of_z w64 z) ≡ z
word_value {z} f = to_z-of_z w64 z f

-- the same from the range as a field, an element or a call's result gives it
pub held_value : {z : ℤ} → mag z < 2 ^ 63 → to_z w64 (of_z w64 z) ≡ z
held_value h = word_value (record { sfits = h })

-- the test of a word
pub word_in_word : {z : ℤ} → SFits w64 z → in_word z ≡ true
unfolding in_word
word_in_word {z} h = lt-ltb (mag z) (2 ^ 63) h.sfits

pub not_in_word : (z : ℤ) → (SFits w64 z → ⊥) → in_word z ≡ false
unfolding in_word
not_in_word z n = go (in_word z) refl
  where
    go : (t : Bool) → in_word z ≡ t → t ≡ false
    go true e = absurd (n (record { sfits = ltb-true (mag z) (2 ^ 63) e }))
    go false e = refl

pub in_word_word : (z : ℤ) → in_word z ≡ true → SFits w64 z
unfolding in_word
in_word_word z e = record { sfits = ltb-true (mag z) (2 ^ 63) e }

pub below_in_word : (z : ℤ) → 2 ^ 63 + positive_part z < negative_part z → in_word z ≡ false
unfolding positive_part negative_part in_word
below_in_word (pos n) h = let z : ⊥ = omega arith in absurd z
below_in_word (negsuc n) h = le-ltb n (2 ^ 63) (omega arith)

pub above_in_word : (z : ℤ) → 2 ^ 63 + negative_part z ≤ positive_part z → in_word z ≡ false
unfolding positive_part negative_part in_word
above_in_word (pos n) h = le-ltb n (2 ^ 63) (omega arith)
above_in_word (negsuc n) h = let z : ⊥ = omega arith in absurd z

-- the library's sum is there exactly where it is a word
pub library_total : (a b : ℤ) (r : Option ℤ) → SomeIff r (SFits w64 (a +ℤ b)) (a +ℤ b) → r ≡ total_of a b
unfolding total_of
library_total a b None n = rw (not_in_word (a +ℤ b) n)
library_total a b (Some x) (f, e) = rw (word_in_word f, e)

pub ruleset word_total = (library_total, to_z-of_z)

-- ---- the nearest word

pub saturated_below : (z : ℤ) → z <ℤ least_word → saturated z ≡ least_word
unfolding saturated
saturated_below z h = rw (lt_lt_z z least_word h)

pub saturated_above : (z : ℤ) → greatest_word <ℤ z → saturated z ≡ greatest_word
unfolding saturated positive_part negative_part
saturated_above z h = rw (le_lt_z z least_word (omega linear), lt_lt_z greatest_word z h)

pub saturated_word : (z : ℤ) → in_word z ≡ true → saturated z ≡ z
unfolding saturated positive_part negative_part
saturated_word z e =
    rw (le_lt_z z least_word (omega (linear, word_to (in_word_word z e))), le_lt_z greatest_word z (omega (linear, word_to (in_word_word z e))))

-- an integer is a word, or lies beyond an end of their range
pub word_cases : (P : Type 0) (z : ℤ) → (z <ℤ least_word → P) → (in_word z ≡ true → P) → (greatest_word <ℤ z → P) → P
unfolding positive_part negative_part
word_cases P z low word high = go (lt_z z least_word) refl (lt_z greatest_word z) refl
  where
    go : (s : Bool) → lt_z z least_word ≡ s → (t : Bool) → lt_z greatest_word z ≡ t → P
    go true d t e = low (omega (linear, lt_z_true z least_word d))
    go false d true e = high (omega (linear, lt_z_true greatest_word z e))
    go false d false e =
        word (word_in_word (word_of (omega (linear, lt_z_false greatest_word z e)) (omega (linear, lt_z_false z least_word d))))

-- as the library's sum has it
pub nearest : (z : ℤ) → saturate_signed w64 z ≡ saturated z
unfolding saturated
nearest (pos n) = grind (arith, ints)
nearest (negsuc n) = grind (arith, ints)

pub ruleset nearest_word = (nearest, to_z-of_z)

-- the nearest word has the integer's sign
pub saturated_sign : (z : ℤ) → (pos 0 ≤ℤ saturated z) ↔ (pos 0 ≤ℤ z)
unfolding positive_part negative_part
saturated_sign z =
    word_cases ((pos 0 ≤ℤ saturated z) ↔ (pos 0 ≤ℤ z)) z
    (λ h. rw (saturated_below z h) (λ k. omega linear, λ k. omega linear))
    (λ e. rw (saturated_word z e) (λ k. k, λ k. k))
    (λ h. rw (saturated_above z h) (λ k. omega linear, λ k. omega linear))

-- ---- halving, the opposite's bound and the smaller of two

-- twice the half is at most the number, and more than the number less two
pub parts_half : (c : ℤ) → (positive_part (half c) + positive_part (half c) + negative_part c ≤ positive_part c + negative_part (half c) + negative_part (half c))
    × (positive_part c + negative_part (half c) + negative_part (half c) < positive_part (half c) + positive_part (half c) + 2 + negative_part c)
unfolding positive_part negative_part half
parts_half (pos n) = omega arith
parts_half (negsuc n) = omega arith

-- the opposite's bound plus the bound is -1
pub parts_opposite : (c : ℤ) → positive_part (opposite_bound c) + positive_part c + 1 ≡ negative_part (opposite_bound c) + negative_part c
unfolding positive_part negative_part opposite_bound
parts_opposite c = omega (arith, parts_add (neg_ℤ c) (negsuc 0), parts_neg c)

-- the smaller of two is at most each, and is one of them
pub smaller_left : (a b : ℤ) → smaller a b ≤ℤ a
unfolding smaller
smaller_left a b = go (lt_z b a) refl
  where
    go : (t : Bool) → lt_z b a ≡ t → cond t b a ≤ℤ a
    go true e = omega (linear, lt_z_true b a e)
    go false e = omega linear

pub smaller_right : (a b : ℤ) → smaller a b ≤ℤ b
unfolding smaller
smaller_right a b = go (lt_z b a) refl
  where
    go : (t : Bool) → lt_z b a ≡ t → cond t b a ≤ℤ b
    go true e = omega linear
    go false e = omega (linear, lt_z_false b a e)

pub smaller_either : (P : ℤ → Type 0) (a b : ℤ) → P a → P b → P (smaller a b)
unfolding smaller
smaller_either P a b p q = go (lt_z b a)
  where
    go : (t : Bool) → P (cond t b a)
    go true = q
    go false = p

-- half of a word is a word
pub half_word : (c : ℤ) → in_word c ≡ true → in_word (half c) ≡ true
unfolding half
half_word c e = word_in_word (sfits_le (mag_shr c 2) (in_word_word c e))
