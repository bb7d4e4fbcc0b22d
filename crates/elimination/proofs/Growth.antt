-- How much a step enlarges bounds, so that its sums fit: at most to the sum of two of the quantity's own, so the largest magnitude at most doubles.
-- Assumes nothing.
use mathlib.Core.Path.{◌≡◌, refl}
use mathlib.Core.Bool.{Bool, true, false, cond}
use mathlib.Core.List.{List}
use Prim.Native.Nat.{ℕ, suc, ◌+◌, ◌*◌, ◌≤◌, ◌<◌}
use native.Mathlib.Omega.{arith}
use lib.IntN.{ℤ, pos}
use lib.ListN.{length}
use Rattle.integers.specs.Bound.{Within}
use Rattle.integers.proofs.Within.{within_mono, within_add, within_half}
use Rattle.words.specs.Change.{word_at}
use Rattle.places.specs.Numbering.{block_start, is_one, higher_at, lower_at}
use Rattle.places.proofs.Numbering.{at_lower, at_below}
use Rattle.rules.specs.Limits.{no_rule}
use Rattle.rules.specs.Meaning.{names}
use Rattle.tables.specs.Places.{rule_at}
use Rattle.tables.specs.Tables.{has_rule, cleared}
use Rattle.tables.specs.Meaning.{WordsWithin}
use Rattle.tables.proofs.Tests.{clash}
use Rattle.tables.proofs.Without.{cleared_word}
use Rattle.elimination.specs.Hiding.{every, pair_word, lone_word, paired, eliminated}
use Rattle.elimination.proofs.Terms.{Live}
use Rattle.elimination.proofs.TermWords.{lone_at, pair_at, lone_within, pair_within}
use Rattle.elimination.proofs.PairedWords.{lone_elim, pair_elim}
use Rattle.elimination.proofs.Step.{paired_length}

-- every bound of quantity j + 1, alone or with a literal In, is at most B in magnitude
pub record OwnWithin (In : ℕ → Type 0) (j B : ℕ) (t : List ℤ) : Type 0 where
  pub plus : (x : ℕ) → In x → has_rule (pair_word t (2 * j) x) ≡ true → Within (pos B) (pair_word t (2 * j) x)
  pub minus : (x : ℕ) → In x → has_rule (pair_word t (2 * j + 1) x) ≡ true → Within (pos B) (pair_word t (2 * j + 1) x)
  pub plus_alone : has_rule (lone_word t (2 * j)) ≡ true → Within (pos B) (lone_word t (2 * j))
  pub minus_alone : has_rule (lone_word t (2 * j + 1)) ≡ true → Within (pos B) (lone_word t (2 * j + 1))

-- ---- bounds by terms

-- a limit for all words is one for the bounds of a quantity
pub words_own : (live : ℕ → Bool) (n j B : ℕ) (t : List ℤ) → block_start n ≤ length t → j < n → WordsWithin (block_start n) (pos B) t → OwnWithin (Live live n) j B t
words_own live n j B t l h w = record {
  plus = λ x i r. pair_within n (pos B) t (2 * j) x l w (omega arith) i.1 r;
  minus = λ x i r. pair_within n (pos B) t (2 * j + 1) x l w (omega arith) i.1 r;
  plus_alone = λ r. lone_within n (pos B) t (2 * j) l w (omega arith) r;
  minus_alone = λ r. lone_within n (pos B) t (2 * j + 1) l w (omega arith) r;
}

-- and one for all terms is one for all words
terms_words : (n B : ℕ) (t : List ℤ) → ((x : ℕ) → Live every n x → has_rule (lone_word t x) ≡ true → Within (pos B) (lone_word t x))
    → ((x y : ℕ) → Live every n x → Live every n y → has_rule (pair_word t x y) ≡ true → Within (pos B) (pair_word t x y))
    → WordsWithin (block_start n) (pos B) t
terms_words n B t one two = record { each = λ k h g r. go k h (is_one k) refl r }
  where
    go : (k : ℕ) → k < block_start n → (b : Bool) → is_one k ≡ b → has_rule (word_at t k) ≡ true → Within (pos B) (word_at t k)
    go k h true e = rw (lone_at t k e) at (one (higher_at k) (refl, at_below n k h))
    go k h false e =
        let g = at_below n k h in
        rw (pair_at t k e) at (two (lower_at k) (higher_at k) (refl, omega (arith, at_lower k e)) (refl, g))

-- ---- pairing

-- bounds after a step are bounds from before it or sums of two of the quantity's own, so one step at most doubles the largest magnitude
pub paired_within : (live : ℕ → Bool) (n j B : ℕ) (t : List ℤ) → block_start n ≤ length t → j < n
    → WordsWithin (block_start n) (pos B) t → WordsWithin (block_start n) (pos (B + B)) (paired live n j t)
paired_within live n j B t l h w =
    terms_words n (B + B) (paired live n j t)
    (λ x i. lone_elim live n j t l (λ (u : ℤ). has_rule u ≡ true → Within (pos (B + B)) u) x i.1
    (λ r. within_mono (omega arith) (lone_within n (pos B) t x l w i.1 r))
    (λ f d e r. within_add (o.plus x i d) (o.minus_alone e))
    (λ f d e r. within_add (o.minus x i d) (o.plus_alone e))
    (λ f d e r. within_half (within_add (o.plus x i d) (o.minus x i e))))
    (λ x y i k. pair_elim live n j t l (λ (u : ℤ). has_rule u ≡ true → Within (pos (B + B)) u) x y i.1 k.1
    (λ r. within_mono (omega arith) (pair_within n (pos B) t x y l w i.1 k.1 r))
    (λ f g d e r. within_add (o.plus x i d) (o.minus y k e))
    (λ f g d e r. within_add (o.plus y k d) (o.minus x i e)))
  where
    o : OwnWithin (Live every n) j B t
    o = words_own every n j B t l h w

-- ---- clearing

-- clearing a quantity's places enlarges nothing
pub cleared_within : (n q : ℕ) (B : ℤ) (t : List ℤ) → block_start n ≤ length t → WordsWithin (block_start n) B t → WordsWithin (block_start n) B (cleared n q t)
cleared_within n q B t l w = record { each = λ k h g. rw (cleared_word n q t k l h) (go k h (names q (rule_at k (word_at t k)))) }
  where
    go : (k : ℕ) → k < block_start n → (b : Bool) → has_rule (cond b no_rule (word_at t k)) ≡ true → Within B (cond b no_rule (word_at t k))
    go k h true r = clash r refl
    go k h false r = w.each k h (omega arith) r

-- so hiding a quantity, too, at most doubles the largest magnitude
pub eliminated_within : (n j B : ℕ) (t : List ℤ) → block_start n ≤ length t → j < n
    → WordsWithin (block_start n) (pos B) t → WordsWithin (block_start n) (pos (B + B)) (eliminated n j t)
unfolding eliminated
eliminated_within n j B t l h w =
    cleared_within n (suc j) (pos (B + B)) (paired every n j t) (omega (arith, paired_length every n j t)) (paired_within every n j B t l h w)
