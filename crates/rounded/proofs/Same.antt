-- Hiding with marks depends on the places of a table alone: places that are the same below its size give the same. Assumes nothing.
use mathlib.Core.Bool.{Bool, true, false, cond}
use mathlib.Core.Path.{◌≡◌, refl}
use mathlib.Core.List.{List}
use Prim.Native.Nat.{ℕ, zero, suc, ◌+◌, ◌*◌, ◌/◌, ◌≤◌, ◌<◌}
use native.Mathlib.Omega.{arith}
use lib.Dec.{eqb}
use lib.IntN.{ℤ}
use borrow.Author.Tests.{eqb-false}
use Rattle.words.specs.Change.{word_at}
use Rattle.places.specs.Numbering.{block_start, place_of_one, place_of_two, is_one, higher_at, lower_at}
use Rattle.places.proofs.Numbering.{one_below, at_lower, at_below}
use Rattle.rules.specs.Meaning.{names}
use Rattle.tables.specs.Places.{rule_at}
use Rattle.marks.specs.Marks.{Marked, unruled, byte_at, marked_of}
use Rattle.rounded.specs.Hiding.{pair_marked, lone_marked, on_one_marked, on_two_marked, sums_marked, hide_marked, marked_up_to}
use Rattle.rounded.proofs.Bounds.{two_below}

-- places over n quantities that are the same
abbrev pub SamePlaces : ℕ → (ℕ → Marked) → (ℕ → Marked) → Type 0
SamePlaces n places others = (k : ℕ) → k < block_start n → others k ≡ places k

-- words and bytes that are the same make them
pub same_places : (n : ℕ) (t u : List ℤ) (marks bytes : List ℕ) → ((k : ℕ) → k < block_start n → word_at u k ≡ word_at t k)
    → ((k : ℕ) → k < block_start n → byte_at bytes k ≡ byte_at marks k) → SamePlaces n (marked_of t marks) (marked_of u bytes)
unfolding marked_of
same_places n t u marks bytes e d k h = rw (e k h, d k h)

module _ (n : ℕ) (places others : ℕ → Marked) (s : SamePlaces n places others) where
  pair_same : (z x : ℕ) → z < 2 * n → x < 2 * n → pair_marked others z x ≡ pair_marked places z x
  unfolding pair_marked
  pair_same z x h g = go (eqb (x / 2) (z / 2)) refl
    where
      go : (c : Bool) → eqb (x / 2) (z / 2) ≡ c → cond c unruled (others (place_of_two x z)) ≡ cond c unruled (places (place_of_two x z))
      go true d = refl
      go false d = s (place_of_two x z) (two_below n x z (eqb-false (x / 2) (z / 2) d) g h)

  -- one quantity hidden
  pub step_same : (j : ℕ) → j < n → SamePlaces n (hide_marked j places) (hide_marked j others)
  unfolding hide_marked sums_marked on_one_marked on_two_marked
  step_same j inside k h =
      rw (s k h, s (place_of_one (2 * j)) (one_below n (2 * j) (omega arith)), s (place_of_one (2 * j + 1)) (one_below n (2 * j + 1) (omega arith)))
      (named (names (suc j) (rule_at k (places k).bound)))
    where
      high : higher_at k < 2 * n
      high = at_below n k h

      p : Marked
      p = lone_marked places (2 * j)

      m : Marked
      m = lone_marked places (2 * j + 1)

      plus : (x : ℕ) → x < 2 * n → pair_marked others (2 * j) x ≡ pair_marked places (2 * j) x
      plus x l = pair_same (2 * j) x (omega arith) l

      minus : (x : ℕ) → x < 2 * n → pair_marked others (2 * j + 1) x ≡ pair_marked places (2 * j + 1) x
      minus x l = pair_same (2 * j + 1) x (omega arith) l

      sums : (o : Bool) → is_one k ≡ o
          → cond o (on_one_marked (pair_marked others (2 * j)) (pair_marked others (2 * j + 1)) p m (higher_at k) (places k))
          (on_two_marked (pair_marked others (2 * j)) (pair_marked others (2 * j + 1)) (lower_at k) (higher_at k) (places k))
          ≡ cond o (on_one_marked (pair_marked places (2 * j)) (pair_marked places (2 * j + 1)) p m (higher_at k) (places k))
          (on_two_marked (pair_marked places (2 * j)) (pair_marked places (2 * j + 1)) (lower_at k) (higher_at k) (places k))
      sums true i = rw (plus (higher_at k) high, minus (higher_at k) high)
      sums false i =
          let low : lower_at k < 2 * n = omega (arith, at_lower k i, high) in
          rw (plus (higher_at k) high, minus (higher_at k) high, plus (lower_at k) low, minus (lower_at k) low)

      named : (c : Bool)
          → cond c unruled (sums_marked (pair_marked others (2 * j)) (pair_marked others (2 * j + 1)) p m k (places k))
          ≡ cond c unruled (sums_marked (pair_marked places (2 * j)) (pair_marked places (2 * j + 1)) p m k (places k))
      named true = refl
      named false = sums (is_one k) refl

-- and several
pub marked_same : (hidden : ℕ → Bool) (n m : ℕ) (places others : ℕ → Marked) → m ≤ n → SamePlaces n places others
    → SamePlaces n (marked_up_to hidden m places) (marked_up_to hidden m others)
unfolding marked_up_to
marked_same hidden n zero places others h s = s
marked_same hidden n (suc j) places others h s = go (marked_same hidden n j places others (omega arith) s) (hidden (suc j))
  where
    go : SamePlaces n (marked_up_to hidden j places) (marked_up_to hidden j others) → (c : Bool)
        → SamePlaces n (cond c (hide_marked j (marked_up_to hidden j places)) (marked_up_to hidden j places)) (cond c (hide_marked j (marked_up_to hidden j others)) (marked_up_to hidden j others))
    go ih true = step_same n (marked_up_to hidden j places) (marked_up_to hidden j others) ih j (omega arith)
    go ih false = ih
