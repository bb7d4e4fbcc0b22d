-- Marks never change a bound: hiding with marks has the bounds of hiding without them. And a place without a rule is never marked.
use mathlib.Core.Bool.{Bool, true, false, cond, ◌&&◌, ◌||◌}
use mathlib.Core.Path.{◌≡◌, refl, sym, ◌∙◌}
use mathlib.Core.List.{List, []}
use Prim.Native.Nat.{ℕ, zero, suc, ◌+◌, ◌*◌, ◌/◌, ◌≤◌, ◌<◌}
use native.Mathlib.Omega.{arith}
use lib.Dec.{eqb, ltb}
use lib.IntN.{ℤ, ◌+ℤ◌}
use lib.ListN.{length}
use lib.Signed.{◌≤ℤ◌, ≤ℤ_refl}
use borrow.Author.Tests.{eqb-false, ltb-true, ltb-false}
use Rattle.integers.specs.Bound.{half, smaller}
use Rattle.words.specs.Change.{word_at}
use Rattle.places.specs.Numbering.{block_start, place_of_one, place_of_two, place_of_pair, is_one, higher_at, lower_at}
use Rattle.places.proofs.Numbering.{one_below, pair_below, at_lower, at_below}
use Rattle.rules.specs.Limits.{no_rule}
use Rattle.rules.specs.Meaning.{names}
use Rattle.tables.specs.Places.{rule_at}
use Rattle.tables.specs.Meaning.{NoneAbove}
use Rattle.tables.proofs.Places.{names_bound}
use Rattle.tables.proofs.Without.{cleared_word}
use Rattle.marks.specs.Marks.{Marked, unruled, holds, meet, marked_sum, marked_half, with_marked_sum, with_marked_half, marked_of}
use Rattle.marks.proofs.WordOrder.{Sound, meet_sound}
use Rattle.elimination.specs.Hiding.{with_sum, with_half, pair_word, lone_word, on_one, on_two, live_at, every, pairing, paired, eliminated}
use Rattle.elimination.proofs.PairedWords.{paired_at}
use Rattle.elimination.proofs.Step.{paired_length}
use Rattle.keys.specs.Keys.{hide_up_to}
use Rattle.keys.proofs.Several.{hide_up_to_length}
use Rattle.rounded.specs.Hiding.{pair_marked, lone_marked, on_one_marked, on_two_marked, sums_marked, hide_marked, marked_up_to}

-- marked places over n quantities have the bounds of a table
abbrev pub Agrees : ℕ → (ℕ → Marked) → List ℤ → Type 0
Agrees n places t = (k : ℕ) → k < block_start n → (places k).bound ≡ word_at t k

-- and a place without a rule is not marked
abbrev pub Bare : ℕ → (ℕ → Marked) → Type 0
Bare n places = (k : ℕ) → k < block_start n → holds (places k) ≡ false → (places k).mark ≡ false

-- no bound is above the no-rule word: else a marked sum between could stand at a place and be no rule
abbrev pub Below : ℕ → (ℕ → Marked) → Type 0
Below n places = (k : ℕ) → k < block_start n → (places k).bound ≤ℤ no_rule

-- ---- turns

-- what the turn of each member keeps, of marked places and of a table, is kept by all
pub turns_keep : (P : (ℕ → Marked) → List ℤ → Type 0) (hidden : ℕ → Bool) (n m : ℕ) (places : ℕ → Marked) (t : List ℤ) → P places t
    → ((j : ℕ) → j < m → P (marked_up_to hidden j places) (hide_up_to hidden n j t) → P (hide_marked j (marked_up_to hidden j places)) (eliminated n j (hide_up_to hidden n j t)))
    → P (marked_up_to hidden m places) (hide_up_to hidden n m t)
unfolding marked_up_to hide_up_to
turns_keep P hidden n zero places t s step = s
turns_keep P hidden n (suc j) places t s step = go (turns_keep P hidden n j places t s (λ i h. step i (omega arith))) (hidden (suc j))
  where
    go : P (marked_up_to hidden j places) (hide_up_to hidden n j t)
        → (c : Bool) → P (cond c (hide_marked j (marked_up_to hidden j places)) (marked_up_to hidden j places)) (cond c (eliminated n j (hide_up_to hidden n j t)) (hide_up_to hidden n j t))
    go ih true = step j (omega arith) ih
    go ih false = ih

-- and of marked places alone
pub marks_keep : (P : (ℕ → Marked) → Type 0) (hidden : ℕ → Bool) (m : ℕ) (places : ℕ → Marked) → P places
    → ((j : ℕ) → j < m → P (marked_up_to hidden j places) → P (hide_marked j (marked_up_to hidden j places))) → P (marked_up_to hidden m places)
marks_keep P hidden m places s step = turns_keep (λ (p : ℕ → Marked) (t : List ℤ). P p) hidden 0 m places [] s step

-- ---- the bounds of sums with marks are those of sums without them

pub sum_bound : (a b w : Marked) → (with_marked_sum a b w).bound ≡ with_sum a.bound b.bound w.bound
unfolding with_marked_sum with_sum meet marked_sum
sum_bound a b w = go (holds a && holds b)
  where
    go : (c : Bool) → (cond c (meet w (marked_sum a b)) w).bound ≡ cond c (smaller w.bound (a.bound +ℤ b.bound)) w.bound
    go true = refl
    go false = refl

pub half_bound : (a b w : Marked) → (with_marked_half a b w).bound ≡ with_half a.bound b.bound w.bound
unfolding with_marked_half with_half meet marked_sum marked_half
half_bound a b w = go (holds a && holds b)
  where
    go : (c : Bool) → (cond c (meet w (marked_half (marked_sum a b))) w).bound ≡ cond c (smaller w.bound (half (a.bound +ℤ b.bound))) w.bound
    go true = refl
    go false = refl

module _ (plus minus : ℕ → Marked) (p m : Marked) (plus' minus' : ℕ → ℤ) (p' m' : ℤ) where
  one_bound : (x : ℕ) (w : Marked) (w' : ℤ) → (plus x).bound ≡ plus' x → (minus x).bound ≡ minus' x → p.bound ≡ p' → m.bound ≡ m' → w.bound ≡ w'
      → (on_one_marked plus minus p m x w).bound ≡ on_one plus' minus' p' m' x w'
  unfolding on_one_marked on_one
  one_bound x w w' a b c d e =
      rw (half_bound (plus x) (minus x) (with_marked_sum (plus x) m (with_marked_sum (minus x) p w)), sum_bound (plus x) m (with_marked_sum (minus x) p w), sum_bound (minus x) p w, a, b, c, d, e)

  two_bound : (x y : ℕ) (w : Marked) (w' : ℤ) → (plus x).bound ≡ plus' x → (minus x).bound ≡ minus' x → (plus y).bound ≡ plus' y → (minus y).bound ≡ minus' y → w.bound ≡ w'
      → (on_two_marked plus minus x y w).bound ≡ on_two plus' minus' x y w'
  unfolding on_two_marked on_two
  two_bound x y w w' a b c d e =
      rw (sum_bound (plus x) (minus y) (with_marked_sum (minus x) (plus y) w), sum_bound (minus x) (plus y) w, a, b, c, d, e)

  -- at a place of n quantities, where the rows agree as far as 2n
  sums_bound : (n k : ℕ) (w : Marked) (w' : ℤ) → ((x : ℕ) → x < 2 * n → (plus x).bound ≡ plus' x) → ((x : ℕ) → x < 2 * n → (minus x).bound ≡ minus' x)
      → p.bound ≡ p' → m.bound ≡ m' → w.bound ≡ w' → k < block_start n
      → (sums_marked plus minus p m k w).bound ≡ pairing every plus' minus' p' m' k w'
  unfolding sums_marked pairing live_at
  sums_bound n k w w' a b c d e h = go (is_one k) refl
    where
      high : higher_at k < 2 * n
      high = at_below n k h

      go : (o : Bool) → is_one k ≡ o
          → (cond o (on_one_marked plus minus p m (higher_at k) w) (on_two_marked plus minus (lower_at k) (higher_at k) w)).bound
          ≡ cond (true && (◌||◌ o true)) (cond o (on_one plus' minus' p' m' (higher_at k) w') (on_two plus' minus' (lower_at k) (higher_at k) w')) w'
      go true i = one_bound (higher_at k) w w' (a (higher_at k) high) (b (higher_at k) high) c d e
      go false i =
          let low : lower_at k < 2 * n = omega (arith, at_lower k i, high) in
          two_bound (lower_at k) (higher_at k) w w' (a (lower_at k) low) (b (lower_at k) low) (a (higher_at k) high) (b (higher_at k) high) e

-- ---- the places of two literals

apart : (x y : ℕ) → (x / 2 ≡ y / 2 → ⊥) → x ≤ y → x / 2 < y / 2
apart x y d l = omega arith

-- the place of two literals of n quantities is one of the table's
pub two_below : (n x y : ℕ) → (x / 2 ≡ y / 2 → ⊥) → x < 2 * n → y < 2 * n → place_of_two x y < block_start n
unfolding place_of_two
two_below n x y d h k = go (ltb x y) refl
  where
    go : (c : Bool) → ltb x y ≡ c → cond c (place_of_pair x y) (place_of_pair y x) < block_start n
    go true e = let l = ltb-true x y e in let f : x / 2 < y / 2 = apart x y d (omega arith) in pair_below n x y f k
    go false e = let l = ltb-false x y e in let f : y / 2 < x / 2 = apart y x (λ q. d (sym q)) (omega arith) in pair_below n y x f h

pub pair_bound : (n : ℕ) (places : ℕ → Marked) (t : List ℤ) (z x : ℕ) → Agrees n places t → z < 2 * n → x < 2 * n → (pair_marked places z x).bound ≡ pair_word t z x
unfolding pair_marked pair_word
pair_bound n places t z x e h k = go (eqb (x / 2) (z / 2)) refl
  where
    go : (c : Bool) → eqb (x / 2) (z / 2) ≡ c → (cond c unruled (places (place_of_two x z))).bound ≡ cond c no_rule (word_at t (place_of_two x z))
    go true d = refl
    go false d = e (place_of_two x z) (two_below n x z (eqb-false (x / 2) (z / 2) d) k h)

pub lone_bound : (n : ℕ) (places : ℕ → Marked) (t : List ℤ) (z : ℕ) → Agrees n places t → z < 2 * n → (lone_marked places z).bound ≡ lone_word t z
lone_bound n places t z e h = e (place_of_one z) (one_below n z h)

-- ---- a place without a rule is not marked, and no bound is above the no-rule word

sum_sound : (a b w : Marked) → Sound w → Sound (with_marked_sum a b w)
unfolding with_marked_sum
sum_sound a b w s = go (holds a && holds b)
  where
    go : (c : Bool) → Sound (cond c (meet w (marked_sum a b)) w)
    go true = meet_sound w (marked_sum a b) s
    go false = s

half_sound : (a b w : Marked) → Sound w → Sound (with_marked_half a b w)
unfolding with_marked_half
half_sound a b w s = go (holds a && holds b)
  where
    go : (c : Bool) → Sound (cond c (meet w (marked_half (marked_sum a b))) w)
    go true = meet_sound w (marked_half (marked_sum a b)) s
    go false = s

sums_sound : (plus minus : ℕ → Marked) (p m : Marked) (k : ℕ) (w : Marked) → Sound w → Sound (sums_marked plus minus p m k w)
unfolding sums_marked on_one_marked on_two_marked
sums_sound plus minus p m k w s = go (is_one k)
  where
    go : (o : Bool) → Sound (cond o (on_one_marked plus minus p m (higher_at k) w) (on_two_marked plus minus (lower_at k) (higher_at k) w))
    go true = half_sound (plus (higher_at k)) (minus (higher_at k)) _ (sum_sound (plus (higher_at k)) m _ (sum_sound (minus (higher_at k)) p w s))
    go false = sum_sound (plus (lower_at k)) (minus (higher_at k)) _ (sum_sound (minus (lower_at k)) (plus (higher_at k)) w s)

step_sound : (j : ℕ) (places : ℕ → Marked) (k : ℕ) → Sound (places k) → Sound (hide_marked j places k)
unfolding hide_marked
step_sound j places k s = go (names (suc j) (rule_at k (places k).bound))
  where
    sums : Marked
    sums = sums_marked (pair_marked places (2 * j)) (pair_marked places (2 * j + 1)) (lone_marked places (2 * j)) (lone_marked places (2 * j + 1)) k (places k)

    go : (c : Bool) → Sound (cond c unruled sums)
    go true = (≤ℤ_refl no_rule, λ e. refl)
    go false = sums_sound _ _ _ _ k (places k) s

keeps_sound : (hidden : ℕ → Bool) (m : ℕ) (places : ℕ → Marked) (k : ℕ) → Sound (places k) → Sound (marked_up_to hidden m places k)
keeps_sound hidden m places k s = marks_keep (λ (p : ℕ → Marked). Sound (p k)) hidden m places s (λ j h ih. step_sound j (marked_up_to hidden j places) k ih)

-- ---- the laws

pub start_agrees : (n : ℕ) (t : List ℤ) (marks : List ℕ) → Agrees n (marked_of t marks) t
unfolding marked_of
start_agrees n t marks k h = refl

pub start_bare : (n : ℕ) (t : List ℤ) (marks : List ℕ) → Bare n (marked_of t marks)
unfolding marked_of
start_bare n t marks k h e = rw e

pub start_below : (n : ℕ) (t : List ℤ) (marks : List ℕ) → NoneAbove (block_start n) t → Below n (marked_of t marks)
unfolding marked_of
start_below n t marks a k h = a k h

pub step_agrees : (n j : ℕ) (places : ℕ → Marked) (t : List ℤ) → block_start n ≤ length t → j < n → Agrees n places t → Agrees n (hide_marked j places) (eliminated n j t)
unfolding hide_marked eliminated
step_agrees n j places t room inside e k h =
    rw (cleared_word n (suc j) (paired every n j t) k (rw (paired_length every n j t) room) h, names_bound (suc j) k (places k).bound (word_at (paired every n j t) k))
    (go (names (suc j) (rule_at k (word_at (paired every n j t) k))))
  where
    sums : Marked
    sums = sums_marked (pair_marked places (2 * j)) (pair_marked places (2 * j + 1)) (lone_marked places (2 * j)) (lone_marked places (2 * j + 1)) k (places k)

    same : sums.bound ≡ word_at (paired every n j t) k
    same =
        sums_bound (pair_marked places (2 * j)) (pair_marked places (2 * j + 1)) (lone_marked places (2 * j)) (lone_marked places (2 * j + 1))
        (pair_word t (2 * j)) (pair_word t (2 * j + 1)) (lone_word t (2 * j)) (lone_word t (2 * j + 1)) n k (places k) (word_at t k)
        (λ x l. pair_bound n places t (2 * j) x e (omega arith) l)
        (λ x l. pair_bound n places t (2 * j + 1) x e (omega arith) l)
        (lone_bound n places t (2 * j) e (omega arith))
        (lone_bound n places t (2 * j + 1) e (omega arith))
        (e k h) h
        ∙ sym (paired_at every n j t room k h)

    go : (c : Bool) → (cond c unruled sums).bound ≡ cond c no_rule (word_at (paired every n j t) k)
    go true = refl
    go false = same

pub step_bare : (n j : ℕ) (places : ℕ → Marked) → j < n → Below n places → Bare n places → Bare n (hide_marked j places)
step_bare n j places inside b e k h = (step_sound j places k (b k h, e k h)).1

pub keeps_agrees : (hidden : ℕ → Bool) (n m : ℕ) (places : ℕ → Marked) (t : List ℤ) → block_start n ≤ length t → m ≤ n → Agrees n places t
    → Agrees n (marked_up_to hidden m places) (hide_up_to hidden n m t)
keeps_agrees hidden n m places t room most e =
    turns_keep (Agrees n) hidden n m places t e
    (λ j h ih. step_agrees n j (marked_up_to hidden j places) (hide_up_to hidden n j t) (rw (hide_up_to_length hidden n j t) room) (omega arith) ih)

pub keeps_bare : (hidden : ℕ → Bool) (n m : ℕ) (places : ℕ → Marked) → m ≤ n → Below n places → Bare n places → Bare n (marked_up_to hidden m places)
keeps_bare hidden n m places most b e k h = (keeps_sound hidden m places k (b k h, e k h)).1

pub keeps_below : (hidden : ℕ → Bool) (n m : ℕ) (places : ℕ → Marked) → Below n places → Bare n places → Below n (marked_up_to hidden m places)
keeps_below hidden n m places b e k h = (keeps_sound hidden m places k (b k h, e k h)).0
