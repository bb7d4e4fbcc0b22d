-- The test of a table's words: it passes exactly where every word among them that holds a rule is within the limit. Assumes nothing.
use mathlib.Core.Path.{◌≡◌, refl, sym}
use mathlib.Core.Bool.{Bool, true, false, cond, ◌&&◌}
use mathlib.Core.List.{List, [], ◌∷◌}
use mathlib.Core.Logic.{◌↔◌}
use Prim.Native.Nat.{ℕ, zero, suc, ◌≤◌, ◌<◌, min}
use native.Mathlib.Omega.{arith}
use lib.IntN.{ℤ, pos, neg_ℤ}
use lib.ListN.{length, take, get_or-eq_default}
use lib.Seq.{get_or-take, length-take-le}
use lib.Dec.{ltb}
use lib.Signed.{le_z, lt_z, ◌≤ℤ◌}
use borrow.Author.Tests.{ltb-true, ltb-false}
use Rattle.integers.specs.Bound.{Within, opposite_bound}
use Rattle.integers.proofs.Parts.{linear, positive_part, negative_part, parts_neg, parts_opposite, le_z_true, lt_z_true, lt_z_false, le_le_z, lt_le_z}
use Rattle.words.specs.Change.{word_at}
use Rattle.rules.specs.Limits.{no_rule}
use Rattle.tables.specs.Tables.{has_rule, in_limit, words_in_limit}
use Rattle.tables.specs.Meaning.{WordsWithin}
use Rattle.tables.specs.Promises.{InLimit}
use Rattle.tables.proofs.Tests.{both_true, clash, not_so}

-- a word that holds a rule is at most B in magnitude
abbrev pub Bounded : ℤ → ℤ → Type 0
Bounded B w = has_rule w ≡ true → Within B w

pub in_limit_bounded : (B w : ℤ) → (in_limit B w ≡ true) ↔ Bounded B w
unfolding in_limit
in_limit_bounded B w = go (has_rule w)
  where
    go : (t : Bool) → (cond t (le_z (neg_ℤ B) w && le_z w B) true ≡ true) ↔ (t ≡ true → Within B w)
    go true = (
      λ e q. let p = both_true (le_z (neg_ℤ B) w) (le_z w B) e in
          record { above = omega (linear, le_z_true (neg_ℤ B) w p.0); below = omega (linear, le_z_true w B p.1) },
      λ h. rw (le_le_z (neg_ℤ B) w (h refl).above, le_le_z w B (h refl).below),
    )
    go false = (λ e q. clash q refl, λ h. refl)

-- what is above the bound of the limit's opposite is at least the limit's negation
pub above_opposite : (B w : ℤ) → lt_z (opposite_bound B) w ≡ le_z (neg_ℤ B) w
above_opposite B w = go (lt_z (opposite_bound B) w) refl
  where
    go : (b : Bool) → lt_z (opposite_bound B) w ≡ b → lt_z (opposite_bound B) w ≡ le_z (neg_ℤ B) w
    go true e = rw (e, le_le_z (neg_ℤ B) w (omega (linear, lt_z_true (opposite_bound B) w e, parts_neg B, parts_opposite B)))
    go false e = rw (e, lt_le_z (neg_ℤ B) w (omega (linear, lt_z_false (opposite_bound B) w e, parts_neg B, parts_opposite B)))

-- the test passes exactly where each of the words is bounded
all_bounded : (m : ℕ) (B : ℤ) (t : List ℤ) → (words_in_limit m B t ≡ true) ↔ ((k : ℕ) → k < m → k < length t → Bounded B (word_at t k))
unfolding words_in_limit
all_bounded zero B t = (λ e k h l q. let z : ⊥ = omega arith in absurd z, λ f. refl)
all_bounded (suc m) B [] = (λ e k h l q. let z : ⊥ = omega arith in absurd z, λ f. refl)
all_bounded (suc m) B (w ∷ t) = (to (all_bounded m B t).0, of (all_bounded m B t).1)
  where
    to : (words_in_limit m B t ≡ true → (k : ℕ) → k < m → k < length t → Bounded B (word_at t k))
        → (in_limit B w && words_in_limit m B t) ≡ true
        → (k : ℕ) → k < suc m → k < suc (length t) → Bounded B (word_at (w ∷ t) k)
    to ih e zero h l = (in_limit_bounded B w).0 (both_true (in_limit B w) (words_in_limit m B t) e).0
    to ih e (suc k) h l = ih (both_true (in_limit B w) (words_in_limit m B t) e).1 k (omega arith) (omega arith)

    of : (((k : ℕ) → k < m → k < length t → Bounded B (word_at t k)) → words_in_limit m B t ≡ true)
        → ((k : ℕ) → k < suc m → k < suc (length t) → Bounded B (word_at (w ∷ t) k))
        → (in_limit B w && words_in_limit m B t) ≡ true
    of ih f = rw ((in_limit_bounded B w).1 (f 0 (omega arith) (omega arith)), ih (λ k h l. f (suc k) (omega arith) (omega arith)))

pub words_in_limit_within : (m : ℕ) (B : ℤ) (t : List ℤ) → (words_in_limit m B t ≡ true) ↔ WordsWithin m B t
words_in_limit_within m B t = (λ e. record { each = (all_bounded m B t).0 e }, λ w. (all_bounded m B t).1 w.each)

-- ---- the words looked at

-- a word that passes, and is no more than the largest of 64 bits
abbrev pub Passes : ℤ → ℤ → Type 0
Passes B w = (in_limit B w ≡ true) × (w ≤ℤ no_rule)

-- each word before the i-th does
abbrev pub PassBefore : ℕ → ℤ → List ℤ → Type 0
PassBefore i B t = (k : ℕ) → k < i → Passes B (word_at t k)

-- the words looked at are the first m, or all where there are fewer
looked_at : (m i : ℕ) (t : List ℤ) → i ≡ min m (length t) → length (take i t) ≡ i
looked_at m i t e = length-take-le i t (omega arith)

pub all_pass : (m i j : ℕ) (B : ℤ) (t : List ℤ) → i ≡ min m (length t) → length (take i t) ≤ j → PassBefore j B (take i t) → InLimit m B t true
unfolding positive_part negative_part
all_pass m i j B t e l p = record {
  reply = sym ((words_in_limit_within m B t).1 within);
  meaning = (λ z. within, λ z. refl);
  words = λ z k h. at_most k h (ltb k i) refl;
}
  where
    front : (k : ℕ) → k < i → Passes B (word_at t k)
    front k h = rw (get_or-take i t k (pos 0) h) at (p k (omega (arith, looked_at m i t e)))

    within : WordsWithin m B t
    within = record { each = λ k h g. (in_limit_bounded B (word_at t k)).0 (front k (omega arith)).0 }

    at_most : (k : ℕ) → k < m → (b : Bool) → ltb k i ≡ b → word_at t k ≤ℤ no_rule
    at_most k h true f = (front k (ltb-true k i f)).1
    at_most k h false f = rw (get_or-eq_default t (pos 0) {n = k} (omega (arith, ltb-false k i f))) (omega linear)

pub one_fails : (m i k : ℕ) (B : ℤ) (t : List ℤ) → i ≡ min m (length t) → k < length (take i t) → in_limit B (word_at (take i t) k) ≡ false → InLimit m B t false
one_fails m i k B t e h f = record {
  reply = sym (not_so (words_in_limit_within m B t) not_within);
  meaning = (λ z. clash z refl, λ w. absurd (not_within w));
  words = λ z. clash z refl;
}
  where
    inside : k < i
    inside = omega (arith, looked_at m i t e)

    not_within : WordsWithin m B t → ⊥
    not_within w = clash ((in_limit_bounded B (word_at t k)).1 (w.each k (omega (arith, inside)) (omega (arith, inside)))) (rw (get_or-take i t k (pos 0) inside) at f)
