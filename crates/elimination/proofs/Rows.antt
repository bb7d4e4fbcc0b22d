-- The rows of a step: the words of a row, and the rows gathered from a table. Assumes nothing.
use mathlib.Core.Path.{◌≡◌, refl, sym, ◌∙◌, ap}
use mathlib.Core.Bool.{Bool, true, false}
use mathlib.Core.List.{List}
use Prim.Native.Nat.{ℕ, suc, ◌+◌, ◌*◌, ◌/◌, ◌%◌, ◌≤◌, ◌<◌}
use native.Mathlib.Omega.{arith}
use lib.Dec.{eqb, ltb}
use lib.IntN.{ℤ, pos}
use lib.ListN.{length, get_or, set, length-set}
use lib.Seq.{get_or-set_same, get_or-set_other}
use borrow.Author.Tests.{eqb-true, eqb-false, ltb-true, ltb-false}
use Rattle.words.specs.Change.{word_at}
use Rattle.places.specs.Numbering.{block_start, place_of_pair}
use Rattle.places.proofs.Numbering.{block_start_suc, block_start_mono}
use Rattle.rules.specs.Limits.{no_rule}
use Rattle.elimination.specs.Hiding.{pair_word}
use Rattle.elimination.specs.Magnitude.{add_limit}
use Rattle.elimination.specs.Inner.{Addable, FourAddable, bounds_at, Rising, Ready, Row, Gathered, PairGathered}
use Rattle.elimination.proofs.TermWords.{pair_within, pair_same, pair_first, pair_second}
use Rattle.elimination.proofs.Lists.{listed_at, listed_place, rising_above}

-- ---- the words of a row

-- a row of n quantities is one of fewer
pub row_part : (m n : ℕ) (live : List ℕ) (row : List ℤ) → m ≤ n → Row n live row → Row m live row
row_part m n live row h r = record { most = omega arith; room = omega arith; words = λ x l e. r.words x (omega arith) e }

-- a word of a row for a literal of a listed quantity adds
pub row_adds : (n : ℕ) (live : List ℕ) (row : List ℤ) (i x : ℕ) → Row n live row → i < length live → x / 2 ≡ get_or live i 0 → x < 2 * n
    → Addable (word_at row x)
row_adds n live row i x r h e l = r.words x l (rw e (listed_at live i h))

-- so do the four of a listed quantity
pub quantity_adds : (n : ℕ) (live : List ℕ) (plus minus : List ℤ) (i : ℕ) → Row n live plus → Row n live minus → i < length live → get_or live i 0 < n
    → FourAddable (bounds_at (word_at plus) (word_at minus) (get_or live i 0))
quantity_adds n live plus minus i p m h l =
    let a = get_or live i 0 in
    record {
      literal = record { plus = row_adds n live plus i (2 * a) p h (omega arith) (omega arith); minus = row_adds n live minus i (2 * a) m h (omega arith) (omega arith) };
      negated = record { plus = row_adds n live plus i (2 * a + 1) p h (omega arith) (omega arith); minus = row_adds n live minus i (2 * a + 1) m h (omega arith) (omega arith) };
    }

-- ---- gathered rows

-- the places of quantity j + 1 alone are the table's
pub own_inside : (n j : ℕ) → j < n → 2 * (j * j) + 1 < block_start n
unfolding block_start
own_inside n j h = omega (arith, block_start_suc j, block_start_mono {a = suc j} {b = n} h)

-- the words of a table add
pub table_adds : (n j : ℕ) (t : List ℤ) (k : ℕ) → Ready n j t → k < block_start n → Addable (word_at t k)
table_adds n j t k r h = r.words.each k h (omega arith)

-- rows of gathered bounds add
pub gathered_row : (n j : ℕ) (live : List ℕ) (t plus minus : List ℤ) → Ready n j t → 2 * n ≤ length plus → 2 * n ≤ length minus
    → Gathered n j live t plus minus → Row n live plus × Row n live minus
gathered_row n j live t plus minus r p m g = (
  record { most = r.most; room = p; words = λ x l e. rw (g.plus_bounds x l e) (pair_within n add_limit t (2 * j) x r.room r.words (omega (arith, r.one)) l) },
  record { most = r.most; room = m; words = λ x l e. rw (g.minus_bounds x l e) (pair_within n add_limit t (2 * j + 1) x r.room r.words (omega (arith, r.one)) l) },
)

-- ---- the bounds of two quantities gathered

-- the word of two literals, x of the lower quantity,
low_word : (t : List ℤ) (x z j k : ℕ) → z / 2 ≡ j → x / 2 < j → k ≡ 2 * (j * j) + 2 + 2 * x + z % 2 → word_at t k ≡ pair_word t z x
unfolding place_of_pair block_start
low_word t x z j k e l p = let place : k ≡ place_of_pair x z = rw e p in ap (word_at t) place ∙ sym (pair_second t x z (omega arith))

-- and of the higher one
high_word : (t : List ℤ) (x z a k : ℕ) → x / 2 ≡ a → z / 2 < a → k ≡ 2 * (a * a) + 2 + 2 * z + x % 2 → word_at t k ≡ pair_word t z x
unfolding place_of_pair block_start
high_word t x z a k e l p = let place : k ≡ place_of_pair z x = rw e p in ap (word_at t) place ∙ sym (pair_first t z x (omega arith))

module _ (j a : ℕ) (t plus minus : List ℤ) {u v w z : ℤ} where
  -- words put in are the bounds of both quantities where they are those of their four places, if the other quantity is lower,
  pub gathered_low : a < j → let k = 2 * (j * j) + 2 + 4 * a in u ≡ word_at t k → v ≡ word_at t (k + 2) → w ≡ word_at t (k + 1) → z ≡ word_at t (k + 3)
      → PairGathered j a t plus minus (set (set plus (2 * a) u) (2 * a + 1) v) (set (set minus (2 * a) w) (2 * a + 1) z)
  gathered_low l e f g h = record {
    plus_row = rw (e ∙ low_word t (2 * a) (2 * j) j _ (omega arith) (omega arith) (omega arith), f ∙ low_word t (2 * a + 1) (2 * j) j _ (omega arith) (omega arith) (omega arith));
    minus_row = rw (g ∙ low_word t (2 * a) (2 * j + 1) j _ (omega arith) (omega arith) (omega arith), h ∙ low_word t (2 * a + 1) (2 * j + 1) j _ (omega arith) (omega arith) (omega arith));
  }

  -- if it is higher,
  pub gathered_high : j < a → let k = 2 * (a * a) + 2 + 4 * j in u ≡ word_at t k → v ≡ word_at t (k + 1) → w ≡ word_at t (k + 2) → z ≡ word_at t (k + 3)
      → PairGathered j a t plus minus (set (set plus (2 * a) u) (2 * a + 1) v) (set (set minus (2 * a) w) (2 * a + 1) z)
  gathered_high l e f g h = record {
    plus_row = rw (e ∙ high_word t (2 * a) (2 * j) a _ (omega arith) (omega arith) (omega arith), f ∙ high_word t (2 * a + 1) (2 * j) a _ (omega arith) (omega arith) (omega arith));
    minus_row = rw (g ∙ high_word t (2 * a) (2 * j + 1) a _ (omega arith) (omega arith) (omega arith), h ∙ high_word t (2 * a + 1) (2 * j + 1) a _ (omega arith) (omega arith) (omega arith));
  }

-- and a quantity has none with itself
own_word : (t : List ℤ) (x z : ℕ) → x / 2 ≡ z / 2 → pair_word t z x ≡ no_rule
own_word t x z e = pair_same t z x (sym e)

pub gathered_own : (j a : ℕ) (t plus minus : List ℤ) → a ≡ j
    → PairGathered j a t plus minus (set (set plus (2 * a) no_rule) (2 * a + 1) no_rule) (set (set minus (2 * a) no_rule) (2 * a + 1) no_rule)
gathered_own j a t plus minus e = record {
  plus_row = rw (own_word t (2 * a) (2 * j) (omega arith), own_word t (2 * a + 1) (2 * j) (omega arith));
  minus_row = rw (own_word t (2 * a) (2 * j + 1) (omega arith), own_word t (2 * a + 1) (2 * j + 1) (omega arith));
}

-- ---- as far as the gathering has come

-- a row has the words `word x` for the literals of the first i listed quantities
pub record FilledTo (i : ℕ) (live : List ℕ) (word : ℕ → ℤ) (row : List ℤ) : Type 0 where
  pub each : (h x : ℕ) → h < i → x / 2 ≡ get_or live h 0 → word_at row x ≡ word x

-- two words put in for one quantity: these, and else what was there
put_two : (a x : ℕ) (word : ℕ → ℤ) (row : List ℤ) → 2 * a + 2 ≤ length row → x / 2 ≡ a
    → word_at (set (set row (2 * a) (word (2 * a))) (2 * a + 1) (word (2 * a + 1))) x ≡ word x
put_two a x word row l e = go (eqb x (2 * a)) refl
  where
    first : List ℤ
    first = set row (2 * a) (word (2 * a))

    size : length first ≡ length row
    size = length-set row (2 * a) (word (2 * a))

    go : (b : Bool) → eqb x (2 * a) ≡ b → word_at (set first (2 * a + 1) (word (2 * a + 1))) x ≡ word x
    go true q = rw (eqb-true x (2 * a) q)
        (get_or-set_other first (2 * a + 1) (2 * a) (word (2 * a + 1)) (pos 0) (omega arith) ∙ get_or-set_same row (2 * a) (word (2 * a)) (pos 0) (omega arith))
    go false q =
        let d : x ≡ 2 * a + 1 = omega (arith, eqb-false x (2 * a) q) in
        rw d (get_or-set_same first (2 * a + 1) (word (2 * a + 1)) (pos 0) (omega (arith, size)))

put_other : (a x : ℕ) (u v : ℤ) (row : List ℤ) → (x / 2 ≡ a → ⊥) → word_at (set (set row (2 * a) u) (2 * a + 1) v) x ≡ word_at row x
put_other a x u v row d =
    get_or-set_other (set row (2 * a) u) (2 * a + 1) x v (pos 0) (λ e. d (omega arith)) ∙ get_or-set_other row (2 * a) x u (pos 0) (λ e. d (omega arith))

-- one listed quantity more: it is none of those before it
pub filled_more : (i : ℕ) (live : List ℕ) (word : ℕ → ℤ) (row row' : List ℤ) → Rising live → i < length live → 2 * get_or live i 0 + 2 ≤ length row
    → row' ≡ set (set row (2 * get_or live i 0) (word (2 * get_or live i 0))) (2 * get_or live i 0 + 1) (word (2 * get_or live i 0 + 1))
    → FilledTo i live word row → FilledTo (suc i) live word row'
filled_more i live word row row' r l room e f = record { each = λ h x k d. rw e (go h x k d (ltb h i) refl) }
  where
    a : ℕ
    a = get_or live i 0

    go : (h x : ℕ) → h < suc i → x / 2 ≡ get_or live h 0 → (b : Bool) → ltb h i ≡ b
        → word_at (set (set row (2 * a) (word (2 * a))) (2 * a + 1) (word (2 * a + 1))) x ≡ word x
    go h x k d true q =
        let below = rising_above live r h i (ltb-true h i q) l in
        put_other a x (word (2 * a)) (word (2 * a + 1)) row (λ u. omega arith) ∙ f.each h x (ltb-true h i q) d
    go h x k d false q =
        let same : h ≡ i = omega (arith, ltb-false h i q) in
        put_two a x word row room (rw same at d)

-- and at last all
pub filled_all : (n j : ℕ) (live : List ℕ) (t plus minus : List ℤ) → FilledTo (length live) live (pair_word t (2 * j)) plus
    → FilledTo (length live) live (pair_word t (2 * j + 1)) minus → Gathered n j live t plus minus
filled_all n j live t plus minus p m = record {
  plus_bounds = λ x l e. let s = listed_place live (x / 2) e in p.each s.place x s.inside (sym s.is);
  minus_bounds = λ x l e. let s = listed_place live (x / 2) e in m.each s.place x s.inside (sym s.is);
}
