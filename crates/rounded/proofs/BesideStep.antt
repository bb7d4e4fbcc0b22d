-- A table that stands beside marked places: the step keeps it beside them. Assumes nothing.
use mathlib.Core.Path.{◌≡◌, refl}
use mathlib.Core.Bool.{Bool, true, false, cond, ◌||◌}
use mathlib.Core.List.{List}
use Prim.Native.Nat.{ℕ, suc, ◌+◌, ◌*◌, ◌/◌, ◌≤◌, ◌<◌}
use native.Mathlib.Omega.{arith}
use lib.Dec.{ltb, eqb}
use lib.IntN.{ℤ}
use lib.ListN.{length}
use borrow.Author.Tests.{ltb-true, ltb-false, eqb-false}
use Rattle.words.specs.Change.{word_at}
use Rattle.places.specs.Numbering.{block_start, place_of_one, place_of_pair, place_of_two, is_one, higher_at, lower_at}
use Rattle.places.proofs.Numbering.{one_below, pair_below, one_is_one, pair_is_one, at_lower, at_below}
use Rattle.rules.specs.Limits.{no_rule}
use Rattle.rules.specs.Meaning.{names}
use Rattle.tables.specs.Places.{rule_at}
use Rattle.tables.specs.Meaning.{WordsWithin}
use Rattle.tables.proofs.Tests.{clash}
use Rattle.tables.proofs.Places.{names_bound}
use Rattle.tables.proofs.Without.{cleared_word}
use Rattle.elimination.specs.Hiding.{every, pair_word, lone_word, on_one, on_two, live_at, pairing, paired, eliminated}
use Rattle.elimination.specs.Inner.{Addable}
use Rattle.elimination.specs.Magnitude.{add_limit}
use Rattle.elimination.proofs.TermWords.{lone_within, pair_within}
use Rattle.elimination.proofs.PairedWords.{paired_at}
use Rattle.elimination.proofs.Step.{paired_length}
use Rattle.marks.specs.Marks.{Marked, unruled}
use Rattle.rounded.specs.Hiding.{pair_marked, lone_marked, on_one_marked, on_two_marked, sums_marked, hide_marked}
use Rattle.rounded.proofs.Masking.{Beside, beside_none, put_sum, put_half}

-- beside a marked bound a word is larger by 1 where its place is of one quantity, and by 2 where it is of two
abbrev pub gap_at : ℕ → ℕ
gap_at k = cond (is_one k) 1 2

-- the first words of a table stand beside marked places
abbrev pub AllBeside : ℕ → List ℤ → (ℕ → Marked) → Type 0
AllBeside n t places = (k : ℕ) → k < block_start n → Beside (gap_at k) (word_at t k) (places k)

-- and the bounds of those add
abbrev pub AllAdd : ℕ → (ℕ → Marked) → Type 0
AllAdd n places = (k : ℕ) → k < block_start n → Addable (places k).bound

-- two literals of two quantities have a place of two
two_place : (P : ℕ → Type 0) (n x z : ℕ) → x < 2 * n → z < 2 * n → (x / 2 ≡ z / 2 → ⊥) → ((k : ℕ) → k < block_start n → is_one k ≡ false → P k) → P (place_of_two x z)
unfolding place_of_two
two_place P n x z h k apart p = go (ltb x z) refl
  where
    go : (b : Bool) → ltb x z ≡ b → P (cond b (place_of_pair x z) (place_of_pair z x))
    go true e = let o : x / 2 < z / 2 = omega (arith, ltb-true x z e, apart) in p (place_of_pair x z) (pair_below n x z o k) (pair_is_one x z o)
    go false e = let o : z / 2 < x / 2 = omega (arith, ltb-false x z e, apart) in p (place_of_pair z x) (pair_below n z x o h) (pair_is_one z x o)

every_live : (k : ℕ) → live_at every k ≡ true
unfolding live_at
every_live k = go (is_one k)
  where
    go : (b : Bool) → (b || true) ≡ true
    go true = refl
    go false = refl

module _ (n : ℕ) (t : List ℤ) (places : ℕ → Marked) (b : AllBeside n t places) where
  -- the words of a literal z stand beside its places
  pub pair_beside : (z x : ℕ) → z < 2 * n → x < 2 * n → Beside 2 (pair_word t z x) (pair_marked places z x)
  unfolding pair_word pair_marked
  pair_beside z x h k = go (eqb (x / 2) (z / 2)) refl
    where
      go : (c : Bool) → eqb (x / 2) (z / 2) ≡ c → Beside 2 (cond c no_rule (word_at t (place_of_two x z))) (cond c unruled (places (place_of_two x z)))
      go true e = beside_none 2
      go false e =
          two_place (λ (i : ℕ). Beside 2 (word_at t i) (places i)) n x z k h (eqb-false (x / 2) (z / 2) e)
          (λ i l o. let d : Beside (gap_at i) (word_at t i) (places i) = b i l in rw o at d)

  pub lone_beside : (z : ℕ) → z < 2 * n → Beside 1 (lone_word t z) (lone_marked places z)
  lone_beside z h = let d : Beside (gap_at (place_of_one z)) (lone_word t z) (lone_marked places z) = b (place_of_one z) (one_below n z h) in rw (one_is_one z) at d

module _ (n j : ℕ) (t : List ℤ) (places : ℕ → Marked) (room : block_start n ≤ length t) (inside : j < n)
    (words : WordsWithin (block_start n) add_limit t) (adds : AllAdd n places) (b : AllBeside n t places) where
  pair_adds : (z x : ℕ) → z < 2 * n → x < 2 * n → Addable (pair_marked places z x).bound
  unfolding pair_marked
  pair_adds z x h k = go (eqb (x / 2) (z / 2)) refl
    where
      go : (c : Bool) → eqb (x / 2) (z / 2) ≡ c → Addable (cond c unruled (places (place_of_two x z))).bound
      go true e = λ r. clash r refl
      go false e = two_place (λ (i : ℕ). Addable (places i).bound) n x z k h (eqb-false (x / 2) (z / 2) e) (λ i l o. adds i l)

  lone_adds : (z : ℕ) → z < 2 * n → Addable (lone_marked places z).bound
  lone_adds z h = adds (place_of_one z) (one_below n z h)

  word_adds : (z x : ℕ) → z < 2 * n → x < 2 * n → Addable (pair_word t z x)
  word_adds z x h k r = pair_within n add_limit t z x room words h k r

  -- ---- the sums put in

  one_kept : (x : ℕ) (v : ℤ) (w : Marked) → x < 2 * n → Beside 1 v w
      → Beside 1 (on_one (pair_word t (2 * j)) (pair_word t (2 * j + 1)) (lone_word t (2 * j)) (lone_word t (2 * j + 1)) x v)
      (on_one_marked (pair_marked places (2 * j)) (pair_marked places (2 * j + 1)) (lone_marked places (2 * j)) (lone_marked places (2 * j + 1)) x w)
  unfolding on_one on_one_marked
  one_kept x v w h e =
      put_half 1 2 2 (pair_word t (2 * j) x) (pair_word t (2 * j + 1) x) _ (pair_marked places (2 * j) x) (pair_marked places (2 * j + 1) x) _ (omega arith) (omega arith)
      (word_adds (2 * j) x p h) (word_adds (2 * j + 1) x m h) (pair_adds (2 * j) x p h) (pair_adds (2 * j + 1) x m h) (pair_beside n t places b (2 * j) x p h) (pair_beside n t places b (2 * j + 1) x m h)
      (put_sum 1 2 1 (pair_word t (2 * j) x) (lone_word t (2 * j + 1)) _ (pair_marked places (2 * j) x) (lone_marked places (2 * j + 1)) _ (omega arith) (omega arith)
      (word_adds (2 * j) x p h) (lone_within n add_limit t (2 * j + 1) room words m) (pair_adds (2 * j) x p h) (lone_adds (2 * j + 1) m) (pair_beside n t places b (2 * j) x p h) (lone_beside n t places b (2 * j + 1) m)
      (put_sum 1 2 1 (pair_word t (2 * j + 1) x) (lone_word t (2 * j)) v (pair_marked places (2 * j + 1) x) (lone_marked places (2 * j)) w (omega arith) (omega arith)
      (word_adds (2 * j + 1) x m h) (lone_within n add_limit t (2 * j) room words p) (pair_adds (2 * j + 1) x m h) (lone_adds (2 * j) p) (pair_beside n t places b (2 * j + 1) x m h) (lone_beside n t places b (2 * j) p)
      e (omega arith) (omega arith))
      (omega arith) (omega arith))
      refl refl refl
    where
      p : 2 * j < 2 * n
      p = omega arith

      m : 2 * j + 1 < 2 * n
      m = omega arith

  two_kept : (x y : ℕ) (v : ℤ) (w : Marked) → x < 2 * n → y < 2 * n → Beside 2 v w
      → Beside 2 (on_two (pair_word t (2 * j)) (pair_word t (2 * j + 1)) x y v) (on_two_marked (pair_marked places (2 * j)) (pair_marked places (2 * j + 1)) x y w)
  unfolding on_two on_two_marked
  two_kept x y v w h k e =
      put_sum 2 2 2 (pair_word t (2 * j) x) (pair_word t (2 * j + 1) y) _ (pair_marked places (2 * j) x) (pair_marked places (2 * j + 1) y) _ (omega arith) (omega arith)
      (word_adds (2 * j) x p h) (word_adds (2 * j + 1) y m k) (pair_adds (2 * j) x p h) (pair_adds (2 * j + 1) y m k) (pair_beside n t places b (2 * j) x p h) (pair_beside n t places b (2 * j + 1) y m k)
      (put_sum 2 2 2 (pair_word t (2 * j + 1) x) (pair_word t (2 * j) y) v (pair_marked places (2 * j + 1) x) (pair_marked places (2 * j) y) w (omega arith) (omega arith)
      (word_adds (2 * j + 1) x m h) (word_adds (2 * j) y p k) (pair_adds (2 * j + 1) x m h) (pair_adds (2 * j) y p k) (pair_beside n t places b (2 * j + 1) x m h) (pair_beside n t places b (2 * j) y p k)
      e (omega arith) (omega arith))
      (omega arith) (omega arith)
    where
      p : 2 * j < 2 * n
      p = omega arith

      m : 2 * j + 1 < 2 * n
      m = omega arith

  paired_beside : (k : ℕ) → k < block_start n → Beside (gap_at k) (word_at (paired every n j t) k)
      (sums_marked (pair_marked places (2 * j)) (pair_marked places (2 * j + 1)) (lone_marked places (2 * j)) (lone_marked places (2 * j + 1)) k (places k))
  unfolding sums_marked pairing
  paired_beside k h = rw (paired_at every n j t room k h, every_live k) (go (is_one k) refl (b k h))
    where
      high : higher_at k < 2 * n
      high = at_below n k h

      go : (c : Bool) → is_one k ≡ c → Beside (cond c 1 2) (word_at t k) (places k)
          → Beside (cond c 1 2)
          (cond c (on_one (pair_word t (2 * j)) (pair_word t (2 * j + 1)) (lone_word t (2 * j)) (lone_word t (2 * j + 1)) (higher_at k) (word_at t k)) (on_two (pair_word t (2 * j)) (pair_word t (2 * j + 1)) (lower_at k) (higher_at k) (word_at t k)))
          (cond c (on_one_marked (pair_marked places (2 * j)) (pair_marked places (2 * j + 1)) (lone_marked places (2 * j)) (lone_marked places (2 * j + 1)) (higher_at k) (places k)) (on_two_marked (pair_marked places (2 * j)) (pair_marked places (2 * j + 1)) (lower_at k) (higher_at k) (places k)))
      go true e d = one_kept (higher_at k) (word_at t k) (places k) high d
      go false e d = two_kept (lower_at k) (higher_at k) (word_at t k) (places k) (omega (arith, at_lower k e, high)) high d

  -- the step keeps a table beside marked places
  pub step_beside : AllBeside n (eliminated n j t) (hide_marked j places)
  unfolding eliminated hide_marked
  step_beside k h =
      rw (cleared_word n (suc j) (paired every n j t) k (omega (arith, paired_length every n j t, room)) h, names_bound (suc j) k (places k).bound (word_at (paired every n j t) k))
      (go (names (suc j) (rule_at k (word_at (paired every n j t) k))) (paired_beside k h))
    where
      go : (c : Bool) {v : ℤ} {w : Marked} → Beside (gap_at k) v w → Beside (gap_at k) (cond c no_rule v) (cond c unruled w)
      go true d = beside_none (gap_at k)
      go false d = d
