-- The test of halves below 0, quantity after quantity from the last. Assumes nothing.
use mathlib.Core.Path.{◌≡◌, refl, ◌∙◌, ap}
use mathlib.Core.Bool.{Bool, true, false, ◌&&◌, ◌||◌}
use mathlib.Core.List.{List}
use Prim.Native.Nat.{ℕ, suc, ◌+◌, ◌-◌, ◌*◌, ◌/◌, ◌≤◌, ◌<◌}
use native.Mathlib.Numerals.{add-one}
use native.Mathlib.Omega.{arith}
use lib.IntN.{ℤ, ◌+ℤ◌}
use mir.Syntax.{w64}
use mir.Val.{SFits}
use Rattle.integers.specs.Bound.{half}
use Rattle.integers.proofs.Parts.{parts_add, parts_half, word_to, word_of}
use Rattle.words.specs.Change.{word_at}
use Rattle.places.specs.Numbering.{block_start, place_of_one}
use Rattle.places.proofs.Numbering.{block_start_mono, block_start_suc}
use Rattle.rounded.specs.Inner.{halves_below, any_halves_below}

-- the sum of two halves of words is a word
pub halves_fit : (a b : ℤ) → SFits w64 a → SFits w64 b → SFits w64 (half a +ℤ half b)
halves_fit a b f g = word_of
    (omega (arith, word_to f, word_to g, parts_half a, parts_half b, parts_add (half a) (half b)))
    (omega (arith, word_to f, word_to g, parts_half a, parts_half b, parts_add (half a) (half b)))

-- the places of a quantity alone are the first of its block
plus_place : (i : ℕ) → place_of_one (2 * i) ≡ 2 * (i * i)
unfolding place_of_one block_start
plus_place i = let e : 2 * i / 2 ≡ i = omega arith in rw e (omega arith)

minus_place : (i : ℕ) → place_of_one (2 * i + 1) ≡ 2 * (i * i) + 1
unfolding place_of_one block_start
minus_place i = let e : (2 * i + 1) / 2 ≡ i = omega arith in rw e (omega arith)

-- which has room for both in the table
pub block_room : (n i : ℕ) → i < n → 2 * (i * i) + 4 * i + 2 ≤ block_start n
unfolding block_start
block_room n i g = omega (arith, block_start_mono {a = suc i} {b = n} g, block_start_suc i, start i)
  where
    start : (i : ℕ) → block_start i ≡ 2 * (i * i)
    start i = refl

module _ (members : ℕ → Bool) (j : ℕ) (t : List ℤ) where
  -- no quantity is left
  pub none_left : j ≤ 0 → any_halves_below members j t ≡ false
  unfolding any_halves_below
  none_left h = let e : j ≡ 0 = omega arith in rw e

  module _ (h : 0 < j) where
    abbrev i : ℕ
    i = j - 1

    one_more_lem : any_halves_below members j t
        ≡ ((members (i + 1) && halves_below (word_at t (2 * (i * i))) (word_at t (2 * (i * i) + 1))) || any_halves_below members i t)
    unfolding any_halves_below
    one_more_lem = ap (λ (k : ℕ). any_halves_below members k t) last ∙ step i
      where
        last : j ≡ suc (j - 1)
        last = omega arith

        step : (k : ℕ) → any_halves_below members (suc k) t ≡ ((members (k + 1) && halves_below (word_at t (2 * (k * k))) (word_at t (2 * (k * k) + 1))) || any_halves_below members k t)
        step k = rw (add-one k, plus_place k, minus_place k)

    -- the last one is no member,
    pub one_passed : members (i + 1) ≡ false → any_halves_below members j t ≡ any_halves_below members i t
    one_passed e = one_more_lem ∙ rw e

    -- or its halves are not below 0,
    pub one_not_below : halves_below (word_at t (2 * (i * i))) (word_at t (2 * (i * i) + 1)) ≡ false → any_halves_below members j t ≡ any_halves_below members i t
    one_not_below e = one_more_lem ∙ rw e (go (members (i + 1)))
      where
        go : (b : Bool) → ((b && false) || any_halves_below members i t) ≡ any_halves_below members i t
        go true = refl
        go false = refl

    -- or are
    pub one_below : members (i + 1) ≡ true → halves_below (word_at t (2 * (i * i))) (word_at t (2 * (i * i) + 1)) ≡ true → any_halves_below members j t ≡ true
    one_below e f = one_more_lem ∙ rw (e, f)
