-- Pairing the rules of one quantity, word by word: what is put in at the place of each term, and which word the paired table has there. Assumes
-- nothing.
use mathlib.Core.Path.{◌≡◌, refl, sym, ◌∙◌}
use mathlib.Core.Bool.{Bool, true, false, ◌&&◌, and-true, and-false}
use mathlib.Core.List.{List}
use Prim.Native.Nat.{ℕ, ◌+◌, ◌*◌, ◌/◌, ◌≤◌, ◌<◌}
use native.Mathlib.Omega.{arith}
use lib.IntN.{ℤ, ◌+ℤ◌}
use lib.ListN.{length}
use lib.Signed.{◌≤ℤ◌, ≤ℤ_refl}
use Rattle.integers.specs.Bound.{half}
use Rattle.integers.proofs.Parts.{linear, parts_add}
use Rattle.words.specs.Change.{word_at}
use Rattle.words.proofs.Change.{change_below}
use Rattle.places.specs.Numbering.{block_start, place_of_one, place_of_pair}
use Rattle.places.proofs.Numbering.{one_below, pair_below, one_is_one, one_higher, pair_is_one, pair_higher, pair_lower}
use Rattle.rules.specs.Limits.{no_rule}
use Rattle.tables.specs.Tables.{has_rule}
use Rattle.elimination.specs.Hiding.{pair_word, lone_word, on_one, on_two, live_at, pairing, paired}
use Rattle.elimination.proofs.TermWords.{quantity_cases, pair_same, pair_first, pair_second}
use Rattle.elimination.proofs.SumWords.{on_one_word, on_one_plus, on_one_minus, on_one_half, on_one_elim, on_two_word, on_two_plus, on_two_minus, on_two_elim}

-- ---- what is put in at a place

-- the place of one literal is live where its quantity is,
pub live_one : (live : ℕ → Bool) (x : ℕ) → live_at live (place_of_one x) ≡ live (x / 2)
unfolding live_at
live_one live x = rw (one_is_one x, one_higher x, and-true (live (x / 2)))

-- and that of two where both are
pub live_pair : (live : ℕ → Bool) (x y : ℕ) → x / 2 < y / 2 → live_at live (place_of_pair x y) ≡ (live (y / 2) && live (x / 2))
unfolding live_at
live_pair live x y o = rw (pair_is_one x y o, pair_higher x y o, pair_lower x y o)

module _ (live : ℕ → Bool) (plus minus : ℕ → ℤ) (p m : ℤ) where
  -- the sums of a live literal at its place,
  pub pairing_one : (x : ℕ) (w : ℤ) → live (x / 2) ≡ true → pairing live plus minus p m (place_of_one x) w ≡ on_one plus minus p m x w
  unfolding pairing
  pairing_one x w h = rw (live_one live x, h, one_is_one x, one_higher x)

  -- those of two at theirs,
  pub pairing_two : (x y : ℕ) (w : ℤ) → live (x / 2) ≡ true → live (y / 2) ≡ true → x / 2 < y / 2
      → pairing live plus minus p m (place_of_pair x y) w ≡ on_two plus minus x y w
  unfolding pairing
  pairing_two x y w h g o = rw (live_pair live x y o, h, g, pair_is_one x y o, pair_lower x y o, pair_higher x y o)

  -- and nothing at a place that is not live
  pub pairing_dead : (k : ℕ) (w : ℤ) → live_at live k ≡ false → pairing live plus minus p m k w ≡ w
  unfolding pairing
  pairing_dead k w h = rw h

-- ---- the words of the paired table

module _ (live : ℕ → Bool) (n j : ℕ) (t : List ℤ) (l : block_start n ≤ length t) where
  -- each word is changed by itself
  pub paired_at : (k : ℕ) → k < block_start n
      → word_at (paired live n j t) k
      ≡ pairing live (pair_word t (2 * j)) (pair_word t (2 * j + 1)) (lone_word t (2 * j)) (lone_word t (2 * j + 1)) k (word_at t k)
  unfolding paired
  paired_at k h = change_below (block_start n) _ t k h (omega arith)

  -- at a place that is not live it stays
  pub paired_dead : (k : ℕ) → k < block_start n → live_at live k ≡ false → word_at (paired live n j t) k ≡ word_at t k
  paired_dead k h e = paired_at k h ∙ pairing_dead live _ _ _ _ k _ e

  -- at the place of a live literal its sums are put in
  pub paired_one : (x : ℕ) → x < 2 * n → live (x / 2) ≡ true
      → word_at (paired live n j t) (place_of_one x)
      ≡ on_one (pair_word t (2 * j)) (pair_word t (2 * j + 1)) (lone_word t (2 * j)) (lone_word t (2 * j + 1)) x (word_at t (place_of_one x))
  paired_one x h e = paired_at (place_of_one x) (one_below n x h) ∙ pairing_one live _ _ _ _ x _ e

  -- at that of two theirs
  pub paired_two : (x y : ℕ) → x / 2 < y / 2 → y < 2 * n → live (x / 2) ≡ true → live (y / 2) ≡ true
      → word_at (paired live n j t) (place_of_pair x y) ≡ on_two (pair_word t (2 * j)) (pair_word t (2 * j + 1)) x y (word_at t (place_of_pair x y))
  paired_two x y o h e f = paired_at (place_of_pair x y) (pair_below n x y o h) ∙ pairing_two live _ _ _ _ x y _ e f o

  -- ---- the same by terms. The word of a literal that is not live stays,
  pub lone_kept : (x : ℕ) → x < 2 * n → live (x / 2) ≡ false → lone_word (paired live n j t) x ≡ lone_word t x
  lone_kept x h e = paired_dead (place_of_one x) (one_below n x h) (live_one live x ∙ e)

  -- and that of two of which one is not
  ordered_kept : (x y : ℕ) → x / 2 < y / 2 → y < 2 * n → (live (y / 2) && live (x / 2)) ≡ false
      → word_at (paired live n j t) (place_of_pair x y) ≡ word_at t (place_of_pair x y)
  ordered_kept x y o h e = paired_dead (place_of_pair x y) (pair_below n x y o h) (live_pair live x y o ∙ e)

  pub pair_kept : (x y : ℕ) → x < 2 * n → y < 2 * n → live (x / 2) ≡ false → pair_word (paired live n j t) x y ≡ pair_word t x y
  pair_kept x y h k e =
      quantity_cases (pair_word (paired live n j t) x y ≡ pair_word t x y) x y
      (λ s. pair_same (paired live n j t) x y s ∙ sym (pair_same t x y s))
      (λ o. rw (pair_first (paired live n j t) x y o, pair_first t x y o) (ordered_kept x y o k (rw (e, and-false (live (y / 2))))))
      (λ o. rw (pair_second (paired live n j t) y x o, pair_second t y x o) (ordered_kept y x o h (rw e)))

  -- one literal: its word has every property that it had and its sums have,
  pub lone_elim : (P : ℤ → Type 0) (x : ℕ) → x < 2 * n → P (lone_word t x)
      → (live (x / 2) ≡ true → has_rule (pair_word t (2 * j) x) ≡ true → has_rule (lone_word t (2 * j + 1)) ≡ true → P (pair_word t (2 * j) x +ℤ lone_word t (2 * j + 1)))
      → (live (x / 2) ≡ true → has_rule (pair_word t (2 * j + 1) x) ≡ true → has_rule (lone_word t (2 * j)) ≡ true → P (pair_word t (2 * j + 1) x +ℤ lone_word t (2 * j)))
      → (live (x / 2) ≡ true → has_rule (pair_word t (2 * j) x) ≡ true → has_rule (pair_word t (2 * j + 1) x) ≡ true → P (half (pair_word t (2 * j) x +ℤ pair_word t (2 * j + 1) x)))
      → P (lone_word (paired live n j t) x)
  lone_elim P x h w a b c = go (live (x / 2)) refl
    where
      go : (u : Bool) → live (x / 2) ≡ u → P (lone_word (paired live n j t) x)
      go true e =
          rw (paired_one x h e)
          (on_one_elim (pair_word t (2 * j)) (pair_word t (2 * j + 1)) (lone_word t (2 * j)) (lone_word t (2 * j + 1)) x (lone_word t x) P w (a e) (b e) (c e))
      go false e = rw (lone_kept x h e) w

  -- is at most what it was,
  pub lone_lowered : (x : ℕ) → x < 2 * n → lone_word (paired live n j t) x ≤ℤ lone_word t x
  lone_lowered x h = go (live (x / 2)) refl
    where
      go : (u : Bool) → live (x / 2) ≡ u → lone_word (paired live n j t) x ≤ℤ lone_word t x
      go false e = rw (lone_kept x h e) (≤ℤ_refl (lone_word t x))
      go true e =
          rw (paired_one x h e)
          (on_one_word (pair_word t (2 * j)) (pair_word t (2 * j + 1)) (lone_word t (2 * j)) (lone_word t (2 * j + 1)) x (lone_word t x))

  -- and at most each of its sums
  pub lone_plus : (x : ℕ) → x < 2 * n → live (x / 2) ≡ true → has_rule (pair_word t (2 * j) x) ≡ true → has_rule (lone_word t (2 * j + 1)) ≡ true
      → lone_word (paired live n j t) x ≤ℤ (pair_word t (2 * j) x +ℤ lone_word t (2 * j + 1))
  lone_plus x h o d e =
      rw (paired_one x h o)
      (on_one_plus (pair_word t (2 * j)) (pair_word t (2 * j + 1)) (lone_word t (2 * j)) (lone_word t (2 * j + 1)) x (lone_word t x) d e)

  pub lone_minus : (x : ℕ) → x < 2 * n → live (x / 2) ≡ true → has_rule (pair_word t (2 * j + 1) x) ≡ true → has_rule (lone_word t (2 * j)) ≡ true
      → lone_word (paired live n j t) x ≤ℤ (pair_word t (2 * j + 1) x +ℤ lone_word t (2 * j))
  lone_minus x h o d e =
      rw (paired_one x h o)
      (on_one_minus (pair_word t (2 * j)) (pair_word t (2 * j + 1)) (lone_word t (2 * j)) (lone_word t (2 * j + 1)) x (lone_word t x) d e)

  pub lone_half : (x : ℕ) → x < 2 * n → live (x / 2) ≡ true → has_rule (pair_word t (2 * j) x) ≡ true → has_rule (pair_word t (2 * j + 1) x) ≡ true
      → lone_word (paired live n j t) x ≤ℤ half (pair_word t (2 * j) x +ℤ pair_word t (2 * j + 1) x)
  lone_half x h o d e =
      rw (paired_one x h o)
      (on_one_half (pair_word t (2 * j)) (pair_word t (2 * j + 1)) (lone_word t (2 * j)) (lone_word t (2 * j + 1)) x (lone_word t x) d e)

  -- two literals, the lower one first, likewise,
  ordered_elim : (P : ℤ → Type 0) (x y : ℕ) → x / 2 < y / 2 → y < 2 * n → P (word_at t (place_of_pair x y))
      → (live (x / 2) ≡ true → live (y / 2) ≡ true → has_rule (pair_word t (2 * j) x) ≡ true → has_rule (pair_word t (2 * j + 1) y) ≡ true → P (pair_word t (2 * j) x +ℤ pair_word t (2 * j + 1) y))
      → (live (x / 2) ≡ true → live (y / 2) ≡ true → has_rule (pair_word t (2 * j + 1) x) ≡ true → has_rule (pair_word t (2 * j) y) ≡ true → P (pair_word t (2 * j + 1) x +ℤ pair_word t (2 * j) y))
      → P (word_at (paired live n j t) (place_of_pair x y))
  ordered_elim P x y o h w a b = go (live (x / 2)) refl (live (y / 2)) refl
    where
      go : (u : Bool) → live (x / 2) ≡ u → (v : Bool) → live (y / 2) ≡ v → P (word_at (paired live n j t) (place_of_pair x y))
      go true f true g =
          rw (paired_two x y o h f g)
          (on_two_elim (pair_word t (2 * j)) (pair_word t (2 * j + 1)) x y (word_at t (place_of_pair x y)) P w (a f g) (b f g))
      go true f false g = rw (ordered_kept x y o h (rw (f, g))) w
      go false f v g = rw (ordered_kept x y o h (rw (f, and-false (live (y / 2))))) w

  -- and in either order: their word has every property that it had and their sums have,
  pub pair_elim : (P : ℤ → Type 0) (x y : ℕ) → x < 2 * n → y < 2 * n → P (pair_word t x y)
      → (live (x / 2) ≡ true → live (y / 2) ≡ true → has_rule (pair_word t (2 * j) x) ≡ true → has_rule (pair_word t (2 * j + 1) y) ≡ true → P (pair_word t (2 * j) x +ℤ pair_word t (2 * j + 1) y))
      → (live (x / 2) ≡ true → live (y / 2) ≡ true → has_rule (pair_word t (2 * j) y) ≡ true → has_rule (pair_word t (2 * j + 1) x) ≡ true → P (pair_word t (2 * j) y +ℤ pair_word t (2 * j + 1) x))
      → P (pair_word (paired live n j t) x y)
  pair_elim P x y h k w a b =
      quantity_cases (P (pair_word (paired live n j t) x y)) x y
      (λ e. rw (pair_same (paired live n j t) x y e) (rw (pair_same t x y e) at w))
      (λ o. rw (pair_first (paired live n j t) x y o)
      (ordered_elim P x y o k (rw (pair_first t x y o) at w) a (λ f g d e. turned (pair_word t (2 * j) y) (pair_word t (2 * j + 1) x) (b f g e d))))
      (λ o. rw (pair_second (paired live n j t) y x o)
      (ordered_elim P y x o h (rw (pair_second t y x o) at w) (λ f g d e. b g f d e)
      (λ f g d e. turned (pair_word t (2 * j) x) (pair_word t (2 * j + 1) y) (a g f e d))))
    where
      turned : (c d : ℤ) → P (c +ℤ d) → P (d +ℤ c)
      turned c d p = let e : c +ℤ d ≡ d +ℤ c = omega (linear, parts_add c d, parts_add d c) in rw e at p

  -- the lower one first, it is at most what it was,
  ordered_lowered : (x y : ℕ) → x / 2 < y / 2 → y < 2 * n → word_at (paired live n j t) (place_of_pair x y) ≤ℤ word_at t (place_of_pair x y)
  ordered_lowered x y o h = go (live (x / 2)) refl (live (y / 2)) refl
    where
      go : (u : Bool) → live (x / 2) ≡ u → (v : Bool) → live (y / 2) ≡ v → word_at (paired live n j t) (place_of_pair x y) ≤ℤ word_at t (place_of_pair x y)
      go true f true g =
          rw (paired_two x y o h f g)
          (on_two_word (pair_word t (2 * j)) (pair_word t (2 * j + 1)) x y (word_at t (place_of_pair x y)))
      go true f false g = rw (ordered_kept x y o h (rw (f, g))) (≤ℤ_refl (word_at t (place_of_pair x y)))
      go false f v g = rw (ordered_kept x y o h (rw (f, and-false (live (y / 2))))) (≤ℤ_refl (word_at t (place_of_pair x y)))

  -- and so in either order,
  pub pair_lowered : (x y : ℕ) → x < 2 * n → y < 2 * n → pair_word (paired live n j t) x y ≤ℤ pair_word t x y
  pair_lowered x y h k =
      quantity_cases (pair_word (paired live n j t) x y ≤ℤ pair_word t x y) x y
      (λ e. rw (pair_same (paired live n j t) x y e, pair_same t x y e) (≤ℤ_refl no_rule))
      (λ o. rw (pair_first (paired live n j t) x y o, pair_first t x y o) (ordered_lowered x y o k))
      (λ o. rw (pair_second (paired live n j t) y x o, pair_second t y x o) (ordered_lowered y x o h))

  -- and at most each of their sums (the other one is that of the two exchanged)
  pub pair_sum : (x y : ℕ) → x < 2 * n → y < 2 * n → (x / 2 ≡ y / 2 → ⊥) → live (x / 2) ≡ true → live (y / 2) ≡ true
      → has_rule (pair_word t (2 * j) x) ≡ true → has_rule (pair_word t (2 * j + 1) y) ≡ true
      → pair_word (paired live n j t) x y ≤ℤ (pair_word t (2 * j) x +ℤ pair_word t (2 * j + 1) y)
  pair_sum x y h k u f g d e =
      quantity_cases (pair_word (paired live n j t) x y ≤ℤ (pair_word t (2 * j) x +ℤ pair_word t (2 * j + 1) y)) x y
      (λ q. absurd (u q))
      (λ o. rw (pair_first (paired live n j t) x y o, paired_two x y o k f g)
      (on_two_plus (pair_word t (2 * j)) (pair_word t (2 * j + 1)) x y (word_at t (place_of_pair x y)) d e))
      (λ o. rw (pair_second (paired live n j t) y x o, paired_two y x o h g f)
      (omega (
        linear,
        on_two_minus (pair_word t (2 * j)) (pair_word t (2 * j + 1)) y x (word_at t (place_of_pair y x)) e d,
        parts_add (pair_word t (2 * j) x) (pair_word t (2 * j + 1) y),
        parts_add (pair_word t (2 * j + 1) y) (pair_word t (2 * j) x),
      )))
