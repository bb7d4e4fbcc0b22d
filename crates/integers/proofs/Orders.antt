-- Orders and sums of integers: what the opposite's bound and the half of a bound mean, and sums with a negation in them.
-- Assumes nothing.
use mathlib.Core.Path.{◌≡◌, refl}
use mathlib.Core.Bool.{Bool, true, false}
use mathlib.Core.Logic.{◌↔◌}
use lib.IntN.{ℤ, pos, neg_ℤ, ◌+ℤ◌}
use lib.Signed.{lt_z, ◌≤ℤ◌}
use Rattle.integers.specs.Bound.{half, opposite_bound}
use Rattle.integers.proofs.Parts.{linear, positive_part, negative_part, parts_add, parts_neg, parts_half, parts_opposite}

-- `-t ≤ -c - 1` holds exactly where `t ≤ c` does not
pub opposite_order : (t c : ℤ) → (neg_ℤ t ≤ℤ opposite_bound c) ↔ (t ≤ℤ c → ⊥)
opposite_order t c = (λ h k. omega (linear, parts_neg t, parts_opposite c), λ n. go n (lt_z c t) refl)
  where
    go : (t ≤ℤ c → ⊥) → (b : Bool) → lt_z c t ≡ b → neg_ℤ t ≤ℤ opposite_bound c
    go n true e = omega (linear, parts_neg t, parts_opposite c)
    go n false e = absurd (n (omega linear))

-- twice t is at most c exactly where t is at most the half of c
pub half_order : (t c : ℤ) → (t ≤ℤ half c) ↔ ((t +ℤ t) ≤ℤ c)
half_order t c = (λ h. omega (linear, parts_add t t, parts_half c), λ h. omega (linear, parts_add t t, parts_half c))

-- a sum of negations is the negation of the sum
pub negated_sum : (a b : ℤ) → neg_ℤ a +ℤ neg_ℤ b ≡ neg_ℤ (a +ℤ b)
negated_sum a b = omega (linear, parts_add (neg_ℤ a) (neg_ℤ b), parts_add a b, parts_neg a, parts_neg b, parts_neg (a +ℤ b))

pub minus_self : (a : ℤ) → pos 0 ≡ a +ℤ neg_ℤ a
unfolding positive_part negative_part
minus_self a = omega (linear, parts_add a (neg_ℤ a), parts_neg a)

-- an integer and its negation cancel in a sum of two sums
pub cancelled : (v a b : ℤ) → (v +ℤ a) +ℤ (neg_ℤ v +ℤ b) ≡ a +ℤ b
cancelled v a b =
    omega (linear, parts_add v a, parts_neg v, parts_add (neg_ℤ v) b, parts_add (v +ℤ a) (neg_ℤ v +ℤ b), parts_add a b)
