-- What a changed list holds at each place, and how one more word is changed. Assumes nothing.
use mathlib.Core.Path.{◌≡◌, refl, sym, ◌∙◌, ap, ap₂}
use mathlib.Core.List.{List, [], ◌∷◌, ◌++◌}
use mathlib.Core.Logic.{◌≢◌}
use mathlib.Core.Bool.{Bool, true, false, cond}
use Prim.Native.Nat.{ℕ, zero, suc, ◌+◌, ◌-◌, ◌≤◌, ◌<◌, min}
use native.Mathlib.Nat.{add-zero, zero-add}
use native.Mathlib.Numerals.{add-one}
use native.Mathlib.Omega.{arith}
use lib.Dec.{eqb, ltb}
use lib.IntN.{ℤ, pos}
use lib.ListN.{length, set, take, drop, replicate, length-set}
use borrow.Rule.Slice.PartMut.{put_mid}
use Rattle.std.proofs.Common.{length-append, length-drop}
use Rattle.std.proofs.Math.ListN.{get_or-append}
use Rattle.std.proofs.Math.Seq.{length-take-le}
use Rattle.std.proofs.lemmas.List.{get_or-append_right, get_or-take, get_or-drop}
use lib.Seq.{get_or-set_same, get_or-set_other, set_out, ext_get_or}
use borrow.Author.Tests.{eqb-true, eqb-false, ltb-true, ltb-false, lt-ltb, le-ltb}
use Rattle.integers.specs.Bound.{smaller}
use Rattle.words.specs.Change.{word_at, change_from, change, starting_at, copying, fill_from, lowered}

-- ---- the first words changed

from_length : (i m : ℕ) (f : ℕ → ℤ → ℤ) (t : List ℤ) → length (change_from i m f t) ≡ length t
unfolding change_from
from_length i zero f t = refl
from_length i (suc m) f [] = refl
from_length i (suc m) f (w ∷ t) = ap suc (from_length (suc i) m f t)

pub change_length : (m : ℕ) (f : ℕ → ℤ → ℤ) (t : List ℤ) → length (change m f t) ≡ length t
unfolding change
change_length m f t = from_length 0 m f t

from_below : (i m : ℕ) (f : ℕ → ℤ → ℤ) (t : List ℤ) (k : ℕ) → k < m → k < length t → word_at (change_from i m f t) k ≡ f (i + k) (word_at t k)
unfolding change_from
from_below i zero f t k h l = let z : ⊥ = omega arith in absurd z
from_below i (suc m) f [] k h l = let z : ⊥ = omega arith in absurd z
from_below i (suc m) f (w ∷ t) zero h l = rw (add-zero i)
from_below i (suc m) f (w ∷ t) (suc k) h l = from_below (suc i) m f t k (omega arith) (omega arith) ∙ ap (λ (j : ℕ). f j (word_at t k)) (omega arith)

pub change_below : (m : ℕ) (f : ℕ → ℤ → ℤ) (t : List ℤ) (k : ℕ) → k < m → k < length t → word_at (change m f t) k ≡ f k (word_at t k)
unfolding change
change_below m f t k h l = from_below 0 m f t k h l ∙ rw (zero-add k)

from_past : (i m : ℕ) (f : ℕ → ℤ → ℤ) (t : List ℤ) (k : ℕ) → m ≤ k → word_at (change_from i m f t) k ≡ word_at t k
unfolding change_from
from_past i zero f t k h = refl
from_past i (suc m) f [] k h = refl
from_past i (suc m) f (w ∷ t) zero h = let z : ⊥ = omega arith in absurd z
from_past i (suc m) f (w ∷ t) (suc k) h = from_past (suc i) m f t k (omega arith)

pub change_past : (m : ℕ) (f : ℕ → ℤ → ℤ) (t : List ℤ) (k : ℕ) → m ≤ k → word_at (change m f t) k ≡ word_at t k
unfolding change
change_past m f t k h = from_past 0 m f t k h

-- the words past the first m stay as they are, as a list
from_drop : (i m : ℕ) (f : ℕ → ℤ → ℤ) (t : List ℤ) → drop m (change_from i m f t) ≡ drop m t
unfolding change_from
from_drop i zero f t = refl
from_drop i (suc m) f [] = refl
from_drop i (suc m) f (w ∷ t) = from_drop (suc i) m f t

pub change_drop : (m : ℕ) (f : ℕ → ℤ → ℤ) (t : List ℤ) → drop m (change m f t) ≡ drop m t
unfolding change
change_drop m f t = from_drop 0 m f t

pub change_none : (f : ℕ → ℤ → ℤ) (t : List ℤ) → change 0 f t ≡ t
unfolding change change_from
change_none f t = refl

-- a list that holds at each place what the changed one does is the changed one
pub change_is : (m : ℕ) (f : ℕ → ℤ → ℤ) (t u : List ℤ) → length u ≡ length t
    → ((k : ℕ) → k < m → k < length t → word_at u k ≡ f k (word_at t k))
    → ((k : ℕ) → m ≤ k → k < length t → word_at u k ≡ word_at t k)
    → u ≡ change m f t
change_is m f t u e below past = ext_get_or (pos 0) u (change m f t) (rw (change_length m f t) e) at_each
  where
    go : (k : ℕ) → k < length t → (b : Bool) → ltb k m ≡ b → word_at u k ≡ word_at (change m f t) k
    go k l true q = below k (ltb-true k m q) l ∙ sym (change_below m f t k (ltb-true k m q) l)
    go k l false q = past k (ltb-false k m q) l ∙ sym (change_past m f t k (ltb-false k m q))

    at_each : (k : ℕ) → k < length u → word_at u k ≡ word_at (change m f t) k
    at_each k l = go k (omega arith) (ltb k m) refl

-- one word more
pub change_more : (m : ℕ) (f : ℕ → ℤ → ℤ) (t : List ℤ) → m < length t → set (change m f t) m (f m (word_at t m)) ≡ change (suc m) f t
change_more m f t l = change_is (suc m) f t (set (change m f t) m (f m (word_at t m))) (length-set (change m f t) m _ ∙ change_length m f t) below past
  where
    go : (k : ℕ) → k < suc m → k < length t → (b : Bool) → eqb k m ≡ b → word_at (set (change m f t) m (f m (word_at t m))) k ≡ f k (word_at t k)
    go k h l true q = rw (eqb-true k m q) (get_or-set_same (change m f t) m _ (pos 0) (rw (change_length m f t) (omega (arith, eqb-true k m q))))
    go k h l false q = get_or-set_other (change m f t) m k _ (pos 0) (eqb-false k m q) ∙ change_below m f t k (omega (arith, eqb-false k m q)) l

    below : (k : ℕ) → k < suc m → k < length t → word_at (set (change m f t) m (f m (word_at t m))) k ≡ f k (word_at t k)
    below k h l = go k h l (eqb k m) refl

    past : (k : ℕ) → suc m ≤ k → k < length t → word_at (set (change m f t) m (f m (word_at t m))) k ≡ word_at t k
    past k h l = get_or-set_other (change m f t) m k _ (pos 0) (omega arith) ∙ change_past m f t k (omega arith)

-- where a change leaves every word as it is, so does it the list
pub change_nothing : (m : ℕ) (f : ℕ → ℤ → ℤ) (t : List ℤ) → ((k : ℕ) → k < m → f k (word_at t k) ≡ word_at t k) → change m f t ≡ t
change_nothing m f t h = sym (change_is m f t t refl (λ k p l. sym (h k p)) (λ k p l. refl))

-- words that a change leaves as they are may be passed over
pub change_skip : (a b : ℕ) (f : ℕ → ℤ → ℤ) (t : List ℤ) → a ≤ b → ((k : ℕ) → a ≤ k → k < b → f k (word_at t k) ≡ word_at t k) → change a f t ≡ change b f t
change_skip a b f t h same = change_is b f t (change a f t) (change_length a f t) below (λ k p l. change_past a f t k (omega arith))
  where
    go : (k : ℕ) → k < b → k < length t → (c : Bool) → ltb k a ≡ c → word_at (change a f t) k ≡ f k (word_at t k)
    go k p l true e = change_below a f t k (ltb-true k a e) l
    go k p l false e = change_past a f t k (ltb-false k a e) ∙ sym (same k (ltb-false k a e) p)

    below : (k : ℕ) → k < b → k < length t → word_at (change a f t) k ≡ f k (word_at t k)
    below k p l = go k p l (ltb k a) refl

-- two changes that do the same to every word are the same
pub change_same : (m : ℕ) (f g : ℕ → ℤ → ℤ) (t : List ℤ) → ((k : ℕ) → k < m → f k (word_at t k) ≡ g k (word_at t k)) → change m f t ≡ change m g t
change_same m f g t same = change_is m g t (change m f t) (change_length m f t)
    (λ k p l. change_below m f t k p l ∙ same k p)
    (λ k p l. change_past m f t k p)

-- a change of the first i words and then of those after them is one change
pub change_on : (i m : ℕ) (f : ℕ → ℤ → ℤ) (t : List ℤ) → i ≤ m → change m (starting_at i f) (change i f t) ≡ change m f t
change_on i m f t h = change_is m f t u (change_length m g v ∙ change_length i f t) below past
  where
    g : ℕ → ℤ → ℤ
    g = starting_at i f

    v : List ℤ
    v = change i f t

    u : List ℤ
    u = change m g v

    go : (k : ℕ) → k < m → k < length t → (c : Bool) → ltb k i ≡ c → word_at u k ≡ f k (word_at t k)
    go k p l true e = change_below m g v k p (rw (change_length i f t) l) ∙ rw e (change_below i f t k (ltb-true k i e) l)
    go k p l false e =
        change_below m g v k p (rw (change_length i f t) l) ∙ rw e (ap (f k) (change_past i f t k (ltb-false k i e)))

    below : (k : ℕ) → k < m → k < length t → word_at u k ≡ f k (word_at t k)
    below k p l = go k p l (ltb k i) refl

    past : (k : ℕ) → m ≤ k → k < length t → word_at u k ≡ word_at t k
    past k p l = change_past m g v k p ∙ change_past i f t k (omega arith)

-- a change that starts at a place changes nothing before it
pub starting_none : (i : ℕ) (f : ℕ → ℤ → ℤ) (t : List ℤ) → t ≡ change i (starting_at i f) t
starting_none i f t = sym (change_nothing i (starting_at i f) t (λ k h. rw (lt-ltb k i h)))

-- and from there on one word more
pub starting_more : (i k : ℕ) (f : ℕ → ℤ → ℤ) (t u : List ℤ) → i ≤ k → k < length t → u ≡ change k (starting_at i f) t
    → set u k (f k (word_at u k)) ≡ change (suc k) (starting_at i f) t
starting_more i k f t u h l q =
    rw (q, change_past k (starting_at i f) t k (omega arith)) (rw (le-ltb k i h) at (change_more k (starting_at i f) t l))

-- it may be done in two parts
pub starting_on : (i j m : ℕ) (f : ℕ → ℤ → ℤ) (t : List ℤ) → i ≤ j → j ≤ m
    → change m (starting_at j f) (change j (starting_at i f) t) ≡ change m (starting_at i f) t
starting_on i j m f t h g =
    change_same m (starting_at j f) (starting_at j (starting_at i f)) u (λ k p. go k (ltb k j) refl) ∙ change_on j m (starting_at i f) t g
  where
    u : List ℤ
    u = change j (starting_at i f) t

    go : (k : ℕ) → (b : Bool) → ltb k j ≡ b → starting_at j f k (word_at u k) ≡ starting_at j (starting_at i f) k (word_at u k)
    go k true e = rw e
    go k false e = rw (e, le-ltb k i (omega (arith, ltb-false k j e)))

-- a fill begins at its first place
pub fill_at : (from k : ℕ) (w v : ℤ) → from ≤ k → fill_from from w k v ≡ w
fill_at from k w v h = rw (le-ltb k from h)

-- a fill from the first place on is a run of one word, and the rest
front_from : (i m : ℕ) (w : ℤ) (t : List ℤ) → m ≤ length t → change_from i m (fill_from 0 w) t ≡ replicate m w ++ drop m t
unfolding change_from
front_from i zero w t h = refl
front_from i (suc m) w [] h = let z : ⊥ = omega arith in absurd z
front_from i (suc m) w (v ∷ t) h = ap₂ ◌∷◌ (fill_at 0 i w v (omega arith)) (front_from (suc i) m w t (omega arith))

pub fill_front : (m : ℕ) (w : ℤ) (t : List ℤ) → m ≤ length t → change m (fill_from 0 w) t ≡ replicate m w ++ drop m t
unfolding change
fill_front m w t h = front_from 0 m w t h

-- ---- words written by the library's methods

-- what stands at a place of a list whose first words are others
module _ (k : ℕ) (u t : List ℤ) (same : length u ≡ k) where
  front_at : (j : ℕ) → j < k → word_at (u ++ drop k t) j ≡ word_at u j
  front_at j h = get_or-append u (drop k t) (pos 0) j (omega arith)

  rest_at : (j : ℕ) → k ≤ j → word_at (u ++ drop k t) j ≡ word_at t j
  rest_at j h =
      let e : k + (j - k) ≡ j = omega arith in
      get_or-append_right u (drop k t) k j (pos 0) same h ∙ get_or-drop k t (j - k) (pos 0) ∙ ap (word_at t) e

-- of the first m words as many as both lists have are copied: one more,
pub copied_more : (k : ℕ) (s t u : List ℤ) → u ≡ change k (copying s) t → k < length t → k < length s → set u k (word_at s k) ≡ change (k + 1) (copying s) t
copied_more k s t u e l h = rw (e, add-one k) (rw (lt-ltb k (length s) h) at (change_more k (copying s) t l))

-- and all
pub copied : (m k : ℕ) (s t : List ℤ) → k ≡ min (min m (length t)) (length s) → change k (copying s) t ≡ change m (copying s) t
copied m k s t e = change_is m (copying s) t (change k (copying s) t) (change_length k (copying s) t) below past
  where
    go : (j : ℕ) → j < m → j < length t → (b : Bool) → ltb j k ≡ b → word_at (change k (copying s) t) j ≡ copying s j (word_at t j)
    go j p l true q = change_below k (copying s) t j (ltb-true j k q) l
    go j p l false q = change_past k (copying s) t j (ltb-false j k q) ∙ rw (le-ltb j (length s) (omega (arith, ltb-false j k q)))

    below : (j : ℕ) → j < m → j < length t → word_at (change k (copying s) t) j ≡ copying s j (word_at t j)
    below j p l = go j p l (ltb j k) refl

    past : (j : ℕ) → m ≤ j → j < length t → word_at (change k (copying s) t) j ≡ word_at t j
    past j p l = change_past k (copying s) t j (omega arith)

-- the words from a place on, up to another one or the end, set
pub filled : (from to k : ℕ) (w : ℤ) (t u : List ℤ) → from < min to (length t) → k ≡ min to (length t) - from → length u ≡ length (take k (drop from t))
    → ((j : ℕ) → j < length u → word_at u j ≡ w) → put_mid from k t u ≡ change to (fill_from from w) t
filled from to k w t u h e s set_to = change_is to (fill_from from w) t (put_mid from k t u) size below past
  where
    rest : List ℤ
    rest = drop from t

    within_rest : k ≤ length rest
    within_rest = omega (arith, length-drop from t)

    many : length u ≡ k
    many = s ∙ length-take-le k rest within_rest

    front : length (take from t) ≡ from
    front = length-take-le from t (omega arith)

    size : length (put_mid from k t u) ≡ length t
    size = simp (length-append, length-drop) (omega (arith, front, many))

    before : (j : ℕ) → j < from → word_at (put_mid from k t u) j ≡ word_at t j
    before j p = get_or-append (take from t) (u ++ drop k rest) (pos 0) j (omega (arith, front)) ∙ get_or-take from t j (pos 0) p

    behind : (j : ℕ) → from ≤ j → word_at (put_mid from k t u) j ≡ word_at (u ++ drop k rest) (j - from)
    behind j p = get_or-append_right (take from t) (u ++ drop k rest) from j (pos 0) front p

    within : (j : ℕ) → from ≤ j → j < from + k → word_at (put_mid from k t u) j ≡ w
    within j p q = behind j p ∙ front_at k u rest many (j - from) (omega arith) ∙ set_to (j - from) (omega (arith, many))

    after : (j : ℕ) → from + k ≤ j → word_at (put_mid from k t u) j ≡ word_at t j
    after j p =
        let all : from + (j - from) ≡ j = omega arith in
        behind j (omega arith) ∙ rest_at k u rest many (j - from) (omega arith) ∙ get_or-drop from t (j - from) (pos 0) ∙ ap (word_at t) all

    go : (j : ℕ) → j < to → j < length t → (b : Bool) → ltb j from ≡ b → word_at (put_mid from k t u) j ≡ cond b (word_at t j) w
    go j p l true q = before j (ltb-true j from q)
    go j p l false q = within j (ltb-false j from q) (omega (arith, ltb-false j from q))

    below : (j : ℕ) → j < to → j < length t → word_at (put_mid from k t u) j ≡ fill_from from w j (word_at t j)
    below j p l = go j p l (ltb j from) refl

    past : (j : ℕ) → to ≤ j → j < length t → word_at (put_mid from k t u) j ≡ word_at t j
    past j p l = after j (omega arith)

-- where there are none, nothing is set
pub unfilled : (from to : ℕ) (w : ℤ) (t : List ℤ) → min to (length t) ≤ from → t ≡ change to (fill_from from w) t
unfilled from to w t h = change_is to (fill_from from w) t t refl
    (λ k p l. let q : k < from = omega arith in rw (lt-ltb k from q))
    (λ k p l. refl)

-- ---- one word by minimum

pub lowered_length : (t : List ℤ) (k : ℕ) (w : ℤ) → length (lowered t k w) ≡ length t
unfolding lowered
lowered_length t k w = length-set t k (smaller (word_at t k) w)

pub lowered_same : (t : List ℤ) (k : ℕ) (w : ℤ) → k < length t → word_at (lowered t k w) k ≡ smaller (word_at t k) w
unfolding lowered
lowered_same t k w h = get_or-set_same t k (smaller (word_at t k) w) (pos 0) h

pub lowered_other : (t : List ℤ) (k j : ℕ) (w : ℤ) → j ≢ k → word_at (lowered t k w) j ≡ word_at t j
unfolding lowered
lowered_other t k j w h = get_or-set_other t k j (smaller (word_at t k) w) (pos 0) h

pub lowered_none : (t : List ℤ) (k : ℕ) (w : ℤ) → length t ≤ k → lowered t k w ≡ t
unfolding lowered
lowered_none t k w h = set_out t k (smaller (word_at t k) w) h
