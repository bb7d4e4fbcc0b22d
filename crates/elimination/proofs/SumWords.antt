-- What sums put in do to one word: one sum, those of one literal and those of two. Assumes nothing.
use mathlib.Core.Path.{◌≡◌, refl}
use mathlib.Core.Bool.{Bool, true, false, cond, ◌&&◌, and-false}
use Prim.Native.Nat.{ℕ}
use lib.IntN.{ℤ, ◌+ℤ◌}
use lib.Signed.{◌≤ℤ◌, ≤ℤ_refl}
use Rattle.integers.specs.Bound.{half, smaller}
use Rattle.integers.proofs.Parts.{linear, lt_z_true, lt_lt_z, smaller_left, smaller_right, smaller_either}
use Rattle.rules.specs.Limits.{no_rule}
use Rattle.tables.specs.Tables.{has_rule}
use Rattle.tables.proofs.Tests.{clash}
use Rattle.elimination.specs.Hiding.{with_sum, with_half, on_one, on_two}

-- ---- one sum

-- a word at most one that holds a rule holds a rule
pub has_rule_mono : (w u : ℤ) → w ≤ℤ u → has_rule u ≡ true → has_rule w ≡ true
has_rule_mono w u l e = lt_lt_z w no_rule (omega (linear, lt_z_true u no_rule e))

-- orders chain
pub le_trans : {a b c : ℤ} → a ≤ℤ b → b ≤ℤ c → a ≤ℤ c
le_trans {a} {b} {c} h k = omega linear

-- a word with c put in by minimum where a test passes: at most the word, at most c where the test passes, the word itself where it does not,
-- and with every property that both have
put_word : (b : Bool) (c w : ℤ) → cond b (smaller w c) w ≤ℤ w
put_word true c w = smaller_left w c
put_word false c w = ≤ℤ_refl w

put_sum : (b : Bool) (c w : ℤ) → b ≡ true → cond b (smaller w c) w ≤ℤ c
put_sum true c w e = smaller_right w c
put_sum false c w e = clash e refl

put_none : (b : Bool) (c w : ℤ) → b ≡ false → cond b (smaller w c) w ≡ w
put_none true c w e = clash refl e
put_none false c w e = refl

put_elim : (P : ℤ → Type 0) (a b : Bool) (c w : ℤ) → P w → (a ≡ true → b ≡ true → P c) → P (cond (a && b) (smaller w c) w)
put_elim P true true c w h k = smaller_either P w c h (k refl refl)
put_elim P true false c w h k = h
put_elim P false b c w h k = h

both : {a b : Bool} → a ≡ true → b ≡ true → (a && b) ≡ true
both {a} {b} d e = rw (d, e)

-- a sum put in: the word is at most itself, at most the sum where both bounds are rules, itself where either is none, and has every property that
-- it had and the sum has
pub with_sum_word : (a b w : ℤ) → with_sum a b w ≤ℤ w
unfolding with_sum
with_sum_word a b w = put_word (has_rule a && has_rule b) (a +ℤ b) w

pub with_sum_sum : (a b w : ℤ) → has_rule a ≡ true → has_rule b ≡ true → with_sum a b w ≤ℤ (a +ℤ b)
unfolding with_sum
with_sum_sum a b w d e = put_sum (has_rule a && has_rule b) (a +ℤ b) w (both d e)

pub with_sum_left : (a b w : ℤ) → has_rule a ≡ false → with_sum a b w ≡ w
unfolding with_sum
with_sum_left a b w e = rw e

pub with_sum_right : (a b w : ℤ) → has_rule b ≡ false → with_sum a b w ≡ w
unfolding with_sum
with_sum_right a b w e = put_none (has_rule a && has_rule b) (a +ℤ b) w (rw e (and-false (has_rule a)))

pub with_sum_elim : (P : ℤ → Type 0) (a b w : ℤ) → P w → (has_rule a ≡ true → has_rule b ≡ true → P (a +ℤ b)) → P (with_sum a b w)
unfolding with_sum
with_sum_elim P a b w h k = put_elim P (has_rule a) (has_rule b) (a +ℤ b) w h k

-- the half of a sum put in, likewise
pub with_half_word : (a b w : ℤ) → with_half a b w ≤ℤ w
unfolding with_half
with_half_word a b w = put_word (has_rule a && has_rule b) (half (a +ℤ b)) w

pub with_half_sum : (a b w : ℤ) → has_rule a ≡ true → has_rule b ≡ true → with_half a b w ≤ℤ half (a +ℤ b)
unfolding with_half
with_half_sum a b w d e = put_sum (has_rule a && has_rule b) (half (a +ℤ b)) w (both d e)

pub with_half_left : (a b w : ℤ) → has_rule a ≡ false → with_half a b w ≡ w
unfolding with_half
with_half_left a b w e = rw e

pub with_half_elim : (P : ℤ → Type 0) (a b w : ℤ) → P w → (has_rule a ≡ true → has_rule b ≡ true → P (half (a +ℤ b))) → P (with_half a b w)
unfolding with_half
with_half_elim P a b w h k = put_elim P (has_rule a) (has_rule b) (half (a +ℤ b)) w h k

-- ---- the sums of one literal: the word is at most itself and each of them, and has every property that it had and they have

module _ (plus minus : ℕ → ℤ) (p m : ℤ) (x : ℕ) (w : ℤ) where
  pub on_one_word : on_one plus minus p m x w ≤ℤ w
  unfolding on_one
  on_one_word =
      le_trans (with_half_word (plus x) (minus x) (with_sum (plus x) m (with_sum (minus x) p w)))
      (le_trans (with_sum_word (plus x) m (with_sum (minus x) p w)) (with_sum_word (minus x) p w))

  pub on_one_plus : has_rule (plus x) ≡ true → has_rule m ≡ true → on_one plus minus p m x w ≤ℤ (plus x +ℤ m)
  unfolding on_one
  on_one_plus d e =
      le_trans (with_half_word (plus x) (minus x) (with_sum (plus x) m (with_sum (minus x) p w)))
      (with_sum_sum (plus x) m (with_sum (minus x) p w) d e)

  pub on_one_minus : has_rule (minus x) ≡ true → has_rule p ≡ true → on_one plus minus p m x w ≤ℤ (minus x +ℤ p)
  unfolding on_one
  on_one_minus d e =
      le_trans (with_half_word (plus x) (minus x) (with_sum (plus x) m (with_sum (minus x) p w)))
      (le_trans (with_sum_word (plus x) m (with_sum (minus x) p w)) (with_sum_sum (minus x) p w d e))

  pub on_one_half : has_rule (plus x) ≡ true → has_rule (minus x) ≡ true → on_one plus minus p m x w ≤ℤ half (plus x +ℤ minus x)
  unfolding on_one
  on_one_half d e = with_half_sum (plus x) (minus x) (with_sum (plus x) m (with_sum (minus x) p w)) d e

  pub on_one_elim : (P : ℤ → Type 0) → P w
      → (has_rule (plus x) ≡ true → has_rule m ≡ true → P (plus x +ℤ m))
      → (has_rule (minus x) ≡ true → has_rule p ≡ true → P (minus x +ℤ p))
      → (has_rule (plus x) ≡ true → has_rule (minus x) ≡ true → P (half (plus x +ℤ minus x)))
      → P (on_one plus minus p m x w)
  unfolding on_one
  on_one_elim P h a b c =
      with_half_elim P (plus x) (minus x) (with_sum (plus x) m (with_sum (minus x) p w))
      (with_sum_elim P (plus x) m (with_sum (minus x) p w) (with_sum_elim P (minus x) p w h b) a) c

-- ---- the sums of two literals, likewise

module _ (plus minus : ℕ → ℤ) (x y : ℕ) (w : ℤ) where
  pub on_two_word : on_two plus minus x y w ≤ℤ w
  unfolding on_two
  on_two_word =
      le_trans (with_sum_word (plus x) (minus y) (with_sum (minus x) (plus y) w)) (with_sum_word (minus x) (plus y) w)

  pub on_two_plus : has_rule (plus x) ≡ true → has_rule (minus y) ≡ true → on_two plus minus x y w ≤ℤ (plus x +ℤ minus y)
  unfolding on_two
  on_two_plus d e = with_sum_sum (plus x) (minus y) (with_sum (minus x) (plus y) w) d e

  pub on_two_minus : has_rule (minus x) ≡ true → has_rule (plus y) ≡ true → on_two plus minus x y w ≤ℤ (minus x +ℤ plus y)
  unfolding on_two
  on_two_minus d e =
      le_trans (with_sum_word (plus x) (minus y) (with_sum (minus x) (plus y) w)) (with_sum_sum (minus x) (plus y) w d e)

  pub on_two_elim : (P : ℤ → Type 0) → P w
      → (has_rule (plus x) ≡ true → has_rule (minus y) ≡ true → P (plus x +ℤ minus y))
      → (has_rule (minus x) ≡ true → has_rule (plus y) ≡ true → P (minus x +ℤ plus y))
      → P (on_two plus minus x y w)
  unfolding on_two
  on_two_elim P h a b =
      with_sum_elim P (plus x) (minus y) (with_sum (minus x) (plus y) w) (with_sum_elim P (minus x) (plus y) w h b) a
