-- Magnitudes: what sums, negations and halves do to them, and when a bounded integer is a word of 64 bits. Assumes nothing.
use Prim.Native.Nat.{ℕ, ◌+◌, ◌^◌, ◌<◌, ◌≤◌}
use native.Mathlib.Omega.{arith}
use lib.IntN.{ℤ, pos, neg_ℤ, ◌+ℤ◌}
use mir.Syntax.{w64}
use mir.Val.{SFits}
use Rattle.integers.specs.Bound.{Within, half, opposite_bound}
use Rattle.integers.proofs.Parts.{linear, positive_part, negative_part, parts_add, parts_neg, parts_half, parts_opposite, word_of}

-- the two bounds, on parts
pub within_to : {B : ℕ} {z : ℤ} → Within (pos B) z → (positive_part z ≤ B + negative_part z) × (negative_part z ≤ B + positive_part z)
unfolding positive_part negative_part
within_to {B} {z} h = omega (linear, parts_neg (pos B))

pub within_of : {B : ℕ} {z : ℤ} → positive_part z ≤ B + negative_part z → negative_part z ≤ B + positive_part z → Within (pos B) z
unfolding positive_part negative_part
within_of {B} {z} p q = omega (linear, parts_neg (pos B))

pub within_mono : {B C : ℕ} {z : ℤ} → B ≤ C → Within (pos B) z → Within (pos C) z
within_mono l h = within_of (omega (arith, within_to h)) (omega (arith, within_to h))

pub within_add : {A B : ℕ} {a b : ℤ} → Within (pos A) a → Within (pos B) b → Within (pos (A + B)) (a +ℤ b)
within_add {A} {B} {a} {b} h k =
    within_of (omega (arith, within_to h, within_to k, parts_add a b)) (omega (arith, within_to h, within_to k, parts_add a b))

pub within_neg : {B : ℕ} {z : ℤ} → Within (pos B) z → Within (pos B) (neg_ℤ z)
within_neg {B} {z} h = within_of (omega (arith, within_to h, parts_neg z)) (omega (arith, within_to h, parts_neg z))

pub within_half : {B : ℕ} {z : ℤ} → Within (pos B) z → Within (pos B) (half z)
within_half {B} {z} h = within_of (omega (arith, within_to h, parts_half z)) (omega (arith, within_to h, parts_half z))

-- the opposite's bound is larger by one at most
pub within_opposite : {B : ℕ} {z : ℤ} → Within (pos B) z → Within (pos (B + 1)) (opposite_bound z)
within_opposite {B} {z} h =
    within_of (omega (arith, within_to h, parts_opposite z)) (omega (arith, within_to h, parts_opposite z))

-- a magnitude below 2 ^ 63 is that of a word
pub within_word : {B : ℕ} {z : ℤ} → B < 2 ^ 63 → Within (pos B) z → SFits w64 z
within_word l h = word_of (omega (arith, within_to h)) (omega (arith, within_to h))

-- so is a sum's, from the magnitudes of both
pub sum_word : {A B : ℕ} {a b : ℤ} → A + B < 2 ^ 63 → Within (pos A) a → Within (pos B) b → SFits w64 (a +ℤ b)
sum_word l h k = within_word l (within_add h k)
