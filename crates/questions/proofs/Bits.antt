-- The number of a list's answers: its bits are the answers, and there are no others. Assumes nothing.
use mathlib.Core.Path.{◌≡◌, refl, sym, ◌∙◌, ap}
use mathlib.Core.Bool.{Bool, true, false, cond}
use mathlib.Core.List.{List}
use Prim.Native.Nat.{ℕ, zero, suc, ◌+◌, ◌-◌, ◌*◌, ◌/◌, ◌%◌, ◌^◌, ◌≤◌, ◌<◌}
use native.Mathlib.Nat.{add-zero, add-mul-div_right, add-mul-mod_self_right}
use native.Mathlib.Numerals.{add-one}
use native.Mathlib.Omega.{arith}
use lib.Dec.{ltb, eqb}
use lib.IntN.{ℤ, pos}
use lib.ListN.{length}
use lib.Pow.{pow_mono, pow_pos, pow-add, high}
use mir.Syntax.{w64}
use mir.Val.{Fits}
use borrow.Author.Tests.{ltb-true, ltb-false}
use Rattle.rules.proofs.Sets.{past_hidden}
use Rattle.words.specs.Change.{word_at}
use Rattle.questions.specs.Questions.{max_questions, answer_at, yes_up_to, is_yes}
use Rattle.questions.specs.Replies.{answer_values}

-- ---- one bit more

-- a bit above a number of k bits
bit_below : (k y : ℕ) (b : Bool) → y < 2 ^ k → y + cond b (2 ^ k) 0 < 2 ^ suc k
bit_below k y true l = omega arith
bit_below k y false l = omega arith

-- it is there
bit_there : (k y : ℕ) (b : Bool) → y < 2 ^ k → is_yes (y + cond b (2 ^ k) 0) k ≡ b
bit_there k y true l = ap (λ (v : ℕ). eqb (v % 2) 1) (ap (λ (v : ℕ). v / 2 ^ k) whole ∙ high 1 k l)
  where
    whole : y + 2 ^ k ≡ 1 * 2 ^ k + y
    whole = omega arith
bit_there k y false l = ap (λ (v : ℕ). eqb (v % 2) 1) (ap (λ (v : ℕ). v / 2 ^ k) whole ∙ high 0 k l)
  where
    whole : y + 0 ≡ 0 * 2 ^ k + y
    whole = omega arith

-- and those below it are as they were
bit_others : (k i y : ℕ) (b : Bool) → i < k → is_yes (y + cond b (2 ^ k) 0) i ≡ is_yes y i
bit_others k i y true l =
    ap (λ (v : ℕ). eqb (v % 2) 1) (ap (λ (v : ℕ). (y + v) / 2 ^ i) power ∙ add-mul-div_right y (w * 2) (pow_pos i))
    ∙ ap (λ (v : ℕ). eqb v 1) (add-mul-mod_self_right (y / 2 ^ i) w 2)
  where
    w : ℕ
    w = 2 ^ (k - suc i)

    exponent : k ≡ (k - suc i) + suc i
    exponent = omega arith

    double : 2 ^ suc i ≡ 2 * 2 ^ i
    double = omega arith

    power : 2 ^ k ≡ w * 2 * 2 ^ i
    power = ap (λ (j : ℕ). 2 ^ j) exponent ∙ pow-add 2 (k - suc i) (suc i) ∙ ap (λ (v : ℕ). w * v) double ∙ omega arith
bit_others k i y false l = ap (λ (v : ℕ). is_yes v i) (omega arith)

-- ---- the answers

module _ (t list : List ℤ) where
  pub yes_zero : yes_up_to t list 0 ≡ 0
  unfolding yes_up_to
  yes_zero = refl

  pub yes_more : (i : ℕ) → yes_up_to t list (i + 1) ≡ yes_up_to t list i + cond (answer_at t list i) (2 ^ i) 0
  unfolding yes_up_to
  yes_more i = rw (add-one i)

  -- m answers are m bits,
  pub yes_below : (m : ℕ) → yes_up_to t list m < 2 ^ m
  unfolding yes_up_to
  yes_below zero = omega arith
  yes_below (suc k) = bit_below k (yes_up_to t list k) (answer_at t list k) (yes_below k)

  -- bit i is the answer to question i + 1,
  pub yes_bit : (m i : ℕ) → i < m → is_yes (yes_up_to t list m) i ≡ answer_at t list i
  unfolding yes_up_to
  yes_bit zero i l = let z : ⊥ = omega arith in absurd z
  yes_bit (suc k) i l = go (ltb i k) refl (yes_bit k i)
    where
      go : (b : Bool) → ltb i k ≡ b → (i < k → is_yes (yes_up_to t list k) i ≡ answer_at t list i)
          → is_yes (yes_up_to t list k + cond (answer_at t list k) (2 ^ k) 0) i ≡ answer_at t list i
      go true e before = let h = ltb-true i k e in bit_others k i (yes_up_to t list k) (answer_at t list k) h ∙ before h
      go false e before = let d : i ≡ k = omega (arith, ltb-false i k e) in rw d (bit_there k (yes_up_to t list k) (answer_at t list k) (yes_below k))

  -- and past them there is none
  pub yes_past : (m i : ℕ) → m ≤ i → is_yes (yes_up_to t list m) i ≡ false
  yes_past m i l = past_hidden m (yes_up_to t list m) (yes_below m) (suc i) (omega arith)

-- the bit of the present question, as the shift makes it, put above those of the ones before it
module _ (t list : List ℤ) (i k bits : ℕ) (few : i < max_questions) (at : k ≡ i) (e : bits ≡ yes_up_to t list i) where
  shifted : (1 * 2 ^ k) % 2 ^ 64 ≡ 2 ^ i
  shifted = rw at (omega (arith, pow_mono {i = suc i} {j = 64} few))

  pub put_room : Fits w64 (bits + (1 * 2 ^ k) % 2 ^ 64)
  put_room = rw (shifted, e) (record { fits = omega (arith, yes_below t list i, pow_mono {i = suc i} {j = 64} few) })

  pub put_yes : true ≡ answer_at t list i → bits + (1 * 2 ^ k) % 2 ^ 64 ≡ yes_up_to t list (i + 1)
  put_yes y = rw (shifted, e, yes_more t list i, ← y)

  pub put_no : false ≡ answer_at t list i → bits ≡ yes_up_to t list (i + 1)
  put_no y = rw (e, yes_more t list i, ← y) (sym (add-zero (yes_up_to t list i)))

-- two tables that give the same answers give the same number
pub yes_same : (t u list : List ℤ) (m : ℕ) → ((i : ℕ) → i < m → answer_at t list i ≡ answer_at u list i) → yes_up_to t list m ≡ yes_up_to u list m
unfolding yes_up_to
yes_same t u list zero h = refl
yes_same t u list (suc k) h = rw (yes_same t u list k (λ i l. h i (omega arith)), h k (omega arith))

-- ---- the answers as values

pub values_length : (a i m : ℕ) → length (answer_values a i m) ≡ m
values_length a i zero = refl
values_length a i (suc m) = ap suc (values_length a (suc i) m)

values_from : (a i m k : ℕ) → k < m → word_at (answer_values a i m) k ≡ cond (is_yes a (i + k)) (pos 1) (pos 0)
values_from a i zero k h = let z : ⊥ = omega arith in absurd z
values_from a i (suc m) zero h = ap (λ (j : ℕ). cond (is_yes a j) (pos 1) (pos 0)) (omega arith)
values_from a i (suc m) (suc k) h =
    values_from a (suc i) m k (omega arith) ∙ ap (λ (j : ℕ). cond (is_yes a j) (pos 1) (pos 0)) (omega arith)

pub values_word : (a m k : ℕ) → k < m → word_at (answer_values a 0 m) k ≡ cond (is_yes a k) (pos 1) (pos 0)
values_word a m k h = values_from a 0 m k h ∙ ap (λ (j : ℕ). cond (is_yes a j) (pos 1) (pos 0)) (omega arith)
