-- The words of terms: which place the word of two literals has, that their order does not matter, which terms have the word at a place, and that all
-- these words are within the limit of the table's. Assumes nothing.
use mathlib.Core.Path.{◌≡◌, refl, sym, ◌∙◌, ap}
use mathlib.Core.Bool.{Bool, true, false}
use mathlib.Core.List.{List}
use Prim.Native.Nat.{ℕ, ◌*◌, ◌/◌, ◌≤◌, ◌<◌}
use native.Mathlib.Omega.{arith}
use lib.Dec.{ltb, eqb}
use lib.IntN.{ℤ}
use lib.ListN.{length}
use borrow.Author.Tests.{ltb-true, ltb-false, lt-ltb, le-ltb, eqb-true, eqb-false, eq-eqb, ne_eqb}
use Rattle.integers.specs.Bound.{Within}
use Rattle.words.specs.Change.{word_at}
use Rattle.places.specs.Numbering.{block_start, place_of_one, place_of_pair, place_of_two, is_one, higher_at, lower_at}
use Rattle.places.proofs.Numbering.{one_below, pair_below, at_one, at_lower, at_pair}
use Rattle.rules.specs.Limits.{no_rule}
use Rattle.tables.specs.Tables.{has_rule}
use Rattle.tables.specs.Meaning.{WordsWithin}
use Rattle.tables.proofs.Tests.{clash}
use Rattle.elimination.specs.Hiding.{pair_word, lone_word}

-- two literals are of one quantity, or of two in either order
pub quantity_cases : (P : Type 0) (x y : ℕ) → (x / 2 ≡ y / 2 → P) → (x / 2 < y / 2 → P) → (y / 2 < x / 2 → P) → P
quantity_cases P x y same below above = go (eqb (x / 2) (y / 2)) refl (ltb (x / 2) (y / 2)) refl
  where
    go : (b : Bool) → eqb (x / 2) (y / 2) ≡ b → (c : Bool) → ltb (x / 2) (y / 2) ≡ c → P
    go true e c d = same (eqb-true (x / 2) (y / 2) e)
    go false e true d = below (ltb-true (x / 2) (y / 2) d)
    go false e false d =
        let n : x / 2 ≡ y / 2 → ⊥ = eqb-false (x / 2) (y / 2) e in
        let l : y / 2 ≤ x / 2 = ltb-false (x / 2) (y / 2) d in above (omega arith)

-- two literals of one quantity have no rule together
pub pair_same : (t : List ℤ) (x y : ℕ) → x / 2 ≡ y / 2 → pair_word t x y ≡ no_rule
unfolding pair_word
pair_same t x y e = rw (eq-eqb (y / 2) (x / 2) (sym e))

pub pair_none : (t : List ℤ) (x y : ℕ) → x / 2 ≡ y / 2 → has_rule (pair_word t x y) ≡ false
pair_none t x y e = rw (pair_same t x y e)

-- so two that have one are of two quantities
pub pair_apart : (t : List ℤ) (x y : ℕ) → has_rule (pair_word t x y) ≡ true → x / 2 ≡ y / 2 → ⊥
pair_apart t x y r e = clash r (pair_none t x y e)

-- the word of two quantities is that of their place, whichever is named first
pub pair_first : (t : List ℤ) (x y : ℕ) → x / 2 < y / 2 → pair_word t x y ≡ word_at t (place_of_pair x y)
unfolding pair_word place_of_two
pair_first t x y l = rw (ne_eqb (y / 2) (x / 2) (λ e. omega arith), le-ltb y x (omega arith))

pub pair_second : (t : List ℤ) (x y : ℕ) → x / 2 < y / 2 → pair_word t y x ≡ word_at t (place_of_pair x y)
unfolding pair_word place_of_two
pair_second t x y l = rw (ne_eqb (x / 2) (y / 2) (λ e. omega arith), lt-ltb x y (omega arith))

-- so their order does not matter
pub pair_sym : (t : List ℤ) (x y : ℕ) → pair_word t x y ≡ pair_word t y x
pair_sym t x y =
    quantity_cases (pair_word t x y ≡ pair_word t y x) x y
    (λ e. pair_same t x y e ∙ sym (pair_same t y x (sym e)))
    (λ l. pair_first t x y l ∙ sym (pair_second t x y l))
    (λ l. pair_second t y x l ∙ sym (pair_first t y x l))

-- the words of the terms at a place: of its one literal, or of its two
pub lone_at : (t : List ℤ) (k : ℕ) → is_one k ≡ true → lone_word t (higher_at k) ≡ word_at t k
lone_at t k e = ap (word_at t) (at_one k e)

pub pair_at : (t : List ℤ) (k : ℕ) → is_one k ≡ false → pair_word t (lower_at k) (higher_at k) ≡ word_at t k
pair_at t k e = pair_first t (lower_at k) (higher_at k) (at_lower k e) ∙ ap (word_at t) (at_pair k e)

-- a term's word that holds a rule is within the limit of the words
pub lone_within : (n : ℕ) (B : ℤ) (t : List ℤ) (x : ℕ) → block_start n ≤ length t → WordsWithin (block_start n) B t → x < 2 * n
    → has_rule (lone_word t x) ≡ true → Within B (lone_word t x)
lone_within n B t x l w h e = w.each (place_of_one x) (one_below n x h) (omega (arith, one_below n x h)) e

pub pair_within : (n : ℕ) (B : ℤ) (t : List ℤ) (x y : ℕ) → block_start n ≤ length t → WordsWithin (block_start n) B t → x < 2 * n → y < 2 * n
    → has_rule (pair_word t x y) ≡ true → Within B (pair_word t x y)
pair_within n B t x y l w h k =
    quantity_cases (has_rule (pair_word t x y) ≡ true → Within B (pair_word t x y)) x y
    (λ e r. absurd (pair_apart t x y r e))
    (λ o. rw (pair_first t x y o) (λ r. w.each (place_of_pair x y) (pair_below n x y o k) (omega (arith, pair_below n x y o k)) r))
    (λ o. rw (pair_second t y x o) (λ r. w.each (place_of_pair y x) (pair_below n y x o h) (omega (arith, pair_below n y x o h)) r))
