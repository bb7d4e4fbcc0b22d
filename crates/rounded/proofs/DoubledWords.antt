-- Doubled words, one by one: the word of a sum is the sum of the words where one of the two is unmarked, and the word of a sum halved is the half of the words' where neither is marked. Assumes nothing.
use mathlib.Core.Path.{◌≡◌, refl, sym, ◌∙◌, ap, ap₂}
use mathlib.Core.Bool.{Bool, true, false, cond, ◌&&◌, ◌||◌}
use Prim.Native.Nat.{ℕ}
use native.Mathlib.Omega.{arith}
use lib.IntN.{ℤ, pos, ◌+ℤ◌}
use lib.Signed.{lt_z}
use Rattle.integers.specs.Bound.{half, odd, smaller}
use Rattle.integers.proofs.Parts.{linear, positive_part, negative_part, parts_add, parts_half, lt_z_true, lt_z_false, lt_lt_z, le_lt_z}
use Rattle.integers.proofs.Within.{within_to, within_mono, within_add, within_half}
use Rattle.rules.specs.Limits.{no_rule}
use Rattle.tables.proofs.Tests.{clash}
use Rattle.elimination.specs.Hiding.{with_sum, with_half, bare_below}
use Rattle.marks.specs.Marks.{Marked, holds, meet, marked_sum, marked_half, with_marked_sum, with_marked_half}
use Rattle.marks.specs.Doubled.{doubled_word}
use Rattle.marks.proofs.WordOrder.{Tame, large, twice, twice_parts, twice_least, twice_halved, doubled-rule, doubled_unmarked, doubled_held, doubled_meet, tame_meet}
use Rattle.marks.proofs.Splitting.{twice_half}
use Rattle.rounded.specs.Inner.{halves_below}

-- two bounds of at most this magnitude, 2 ^ 61 - 1, doubled have a sum below the no-rule word; their own sum is large at most
abbrev pub small : ℕ
small = 2305843009213693951

pub tame_large : (w : Marked) → Tame small w → Tame large w
tame_large w t e = within_mono (omega arith) (t e)

-- ---- sums

module _ (a b : Marked) (s : Tame small a) (t : Tame small b) (p : holds a ≡ true) (q : holds b ≡ true) where
  tame_sum : Tame large (marked_sum a b)
  unfolding marked_sum
  tame_sum e = within_mono (omega arith) (within_add (s p) (t q))

  tame_half : Tame large (marked_half (marked_sum a b))
  unfolding marked_half marked_sum
  tame_half e = within_half (within_mono (omega arith) (within_add (s p) (t q)))

  sum_held : holds (marked_sum a b) ≡ true
  unfolding marked_sum positive_part negative_part
  sum_held = lt_lt_z (a.bound +ℤ b.bound) no_rule (omega (linear, within_to (s p), within_to (t q), parts_add a.bound b.bound))

  half_held : holds (marked_half (marked_sum a b)) ≡ true
  unfolding marked_half marked_sum positive_part negative_part
  half_held =
      let u = within_half (within_add (s p) (t q)) in lt_lt_z (half (a.bound +ℤ b.bound)) no_rule (omega (linear, within_to u))

  -- the word of a sum
  sum_word : a.mark ≡ false → doubled_word (marked_sum a b) ≡ doubled_word a +ℤ doubled_word b
  unfolding marked_sum
  sum_word m =
      doubled-rule (marked_sum a b) sum_held ∙ ap (λ (c : Bool). twice (a.bound +ℤ b.bound) (c || b.mark)) m ∙ go b.mark
      ∙ ap₂ ◌+ℤ◌ (sym (doubled_unmarked a p m)) (sym (doubled-rule b q))
    where
      go : (c : Bool) → twice (a.bound +ℤ b.bound) c ≡ twice a.bound false +ℤ twice b.bound c
      go c = omega (
        linear,
        twice_parts (a.bound +ℤ b.bound) c,
        twice_parts a.bound false,
        twice_parts b.bound c,
        parts_add a.bound b.bound,
        parts_add (twice a.bound false) (twice b.bound c),
      )

  -- and of its half
  half_word : a.mark ≡ false → b.mark ≡ false → doubled_word (marked_half (marked_sum a b)) ≡ half (doubled_word a +ℤ doubled_word b)
  unfolding marked_half marked_sum
  half_word m o =
      doubled-rule (marked_half (marked_sum a b)) half_held
      ∙ ap₂ (λ (c d : Bool). twice (half sum) ((c || d) || odd sum)) m o
      ∙ sym (twice_halved sum)
      ∙ same
      ∙ ap half (ap₂ ◌+ℤ◌ (sym (doubled_unmarked a p m)) (sym (doubled_unmarked b q o)))
    where
      sum : ℤ
      sum = a.bound +ℤ b.bound

      same : sum ≡ half (twice a.bound false +ℤ twice b.bound false)
      same =
          let l = twice_parts a.bound false in
          let r = twice_parts b.bound false in
          let u = parts_add (twice a.bound false) (twice b.bound false) in
          omega (linear, parts_add a.bound b.bound, parts_half (twice a.bound false +ℤ twice b.bound false))

-- a place with the sum of two put in, where one of them is unmarked
pub doubled_sum : (a b w : Marked) → Tame small a → Tame small b → Tame large w → a.mark ≡ false
    → doubled_word (with_marked_sum a b w) ≡ with_sum (doubled_word a) (doubled_word b) (doubled_word w)
unfolding with_marked_sum with_sum
doubled_sum a b w s t u m = rw (doubled_held a (tame_large a s), doubled_held b (tame_large b t)) (go (holds a) refl (holds b) refl)
  where
    go : (c : Bool) → holds a ≡ c → (d : Bool) → holds b ≡ d
        → doubled_word (cond (c && d) (meet w (marked_sum a b)) w) ≡ cond (c && d) (smaller (doubled_word w) (doubled_word a +ℤ doubled_word b)) (doubled_word w)
    go true p true q = doubled_meet w (marked_sum a b) u (tame_sum a b s t p q) ∙ ap (smaller (doubled_word w)) (sum_word a b s t p q m)
    go true p false q = refl
    go false p d q = refl

-- and with the sum halved, where neither is marked
pub doubled_halved : (a b w : Marked) → Tame small a → Tame small b → Tame large w → a.mark ≡ false → b.mark ≡ false
    → doubled_word (with_marked_half a b w) ≡ with_half (doubled_word a) (doubled_word b) (doubled_word w)
unfolding with_marked_half with_half
doubled_halved a b w s t u m o = rw (doubled_held a (tame_large a s), doubled_held b (tame_large b t)) (go (holds a) refl (holds b) refl)
  where
    go : (c : Bool) → holds a ≡ c → (d : Bool) → holds b ≡ d
        → doubled_word (cond (c && d) (meet w (marked_half (marked_sum a b))) w)
        ≡ cond (c && d) (smaller (doubled_word w) (half (doubled_word a +ℤ doubled_word b))) (doubled_word w)
    go true p true q = doubled_meet w (marked_half (marked_sum a b)) u (tame_half a b s t p q) ∙ ap (smaller (doubled_word w)) (half_word a b s t p q m o)
    go true p false q = refl
    go false p d q = refl

pub tame_with : (a b w : Marked) → Tame small a → Tame small b → Tame large w → Tame large (with_marked_sum a b w)
unfolding with_marked_sum
tame_with a b w s t u = go (holds a) refl (holds b) refl
  where
    go : (c : Bool) → holds a ≡ c → (d : Bool) → holds b ≡ d → Tame large (cond (c && d) (meet w (marked_sum a b)) w)
    go true p true q = tame_meet large w (marked_sum a b) u (tame_sum a b s t p q)
    go true p false q = u
    go false p d q = u

-- a sum of unmarked ones leaves an unmarked place unmarked
pub unmarked_sum : (a b w : Marked) → a.mark ≡ false → b.mark ≡ false → w.mark ≡ false → (with_marked_sum a b w).mark ≡ false
unfolding with_marked_sum meet marked_sum
unmarked_sum a b w m o u = go (holds a && holds b)
  where
    pick : (c d : Bool) (x y : Bool) → x ≡ false → y ≡ false → cond c y (cond d x (x && y)) ≡ false
    pick true d x y e f = f
    pick false true x y e f = e
    pick false false x y e f = rw e

    go : (c : Bool) → (cond c (meet w (marked_sum a b)) w).mark ≡ false
    go true =
        pick (lt_z (a.bound +ℤ b.bound) w.bound) (lt_z w.bound (a.bound +ℤ b.bound)) w.mark (a.mark || b.mark) u (ap₂ ◌||◌ m o)
    go false = u

-- ---- bare sums

-- the sum of two words has the sign of the bounds' where they are unmarked,
sum_sign : (x y : ℤ) (c : Bool) → lt_z (x +ℤ y) (pos 0) ≡ c → lt_z (twice x false +ℤ twice y false) (pos 0) ≡ c
unfolding positive_part negative_part
sum_sign x y true e =
    let l = twice_parts x false in
    let r = twice_parts y false in
    lt_lt_z (twice x false +ℤ twice y false) (pos 0) (omega (linear, lt_z_true (x +ℤ y) (pos 0) e, parts_add x y, parts_add (twice x false) (twice y false)))
sum_sign x y false e =
    let l = twice_parts x false in
    let r = twice_parts y false in
    le_lt_z (twice x false +ℤ twice y false) (pos 0) (omega (linear, lt_z_false (x +ℤ y) (pos 0) e, parts_add x y, parts_add (twice x false) (twice y false)))

-- and else it is below 0 only where theirs is
sum_below : (x y : ℤ) (p q : Bool) → lt_z (twice x p +ℤ twice y q) (pos 0) ≡ true → lt_z (x +ℤ y) (pos 0) ≡ true
unfolding positive_part negative_part
sum_below x y p q e =
    let l = twice_least x p in
    let r = twice_least y q in
    lt_lt_z (x +ℤ y) (pos 0) (omega (linear, lt_z_true (twice x p +ℤ twice y q) (pos 0) e, parts_add x y, parts_add (twice x p) (twice y q)))

module _ (a b : Marked) (s : Tame small a) (t : Tame small b) where
  -- so of two unmarked ones the words' bare sum is a contradiction exactly where the bounds' is,
  pub bare_doubled : a.mark ≡ false → b.mark ≡ false → bare_below (doubled_word a) (doubled_word b) ≡ bare_below a.bound b.bound
  unfolding bare_below
  bare_doubled m o = rw (doubled_held a (tame_large a s), doubled_held b (tame_large b t)) (go (holds a) refl (holds b) refl)
    where
      go : (c : Bool) → holds a ≡ c → (d : Bool) → holds b ≡ d
          → ((c && d) && lt_z (doubled_word a +ℤ doubled_word b) (pos 0)) ≡ ((c && d) && lt_z (a.bound +ℤ b.bound) (pos 0))
      go true p true q =
          rw (doubled_unmarked a p m, doubled_unmarked b q o) (sum_sign a.bound b.bound (lt_z (a.bound +ℤ b.bound) (pos 0)) refl)
      go true p false q = refl
      go false p d q = refl

  -- and of any two only where it is
  pub bare_only : bare_below (doubled_word a) (doubled_word b) ≡ true → bare_below a.bound b.bound ≡ true
  unfolding bare_below
  bare_only = rw (doubled_held a (tame_large a s), doubled_held b (tame_large b t)) (go (holds a) refl (holds b) refl)
    where
      go : (c : Bool) → holds a ≡ c → (d : Bool) → holds b ≡ d
          → ((c && d) && lt_z (doubled_word a +ℤ doubled_word b) (pos 0)) ≡ true → ((c && d) && lt_z (a.bound +ℤ b.bound) (pos 0)) ≡ true
      go true p true q e =
          sum_below a.bound b.bound a.mark b.mark (rw (doubled-rule a p, doubled-rule b q) at e)
      go true p false q e = clash e refl
      go false p d q e = clash e refl

  -- the halves of the words tell it of any two
  pub bare_halves : halves_below (doubled_word a) (doubled_word b) ≡ bare_below a.bound b.bound
  unfolding halves_below bare_below
  bare_halves = rw (doubled_held a (tame_large a s), doubled_held b (tame_large b t)) (go (holds a) refl (holds b) refl)
    where
      go : (c : Bool) → holds a ≡ c → (d : Bool) → holds b ≡ d
          → ((c && d) && lt_z (half (doubled_word a) +ℤ half (doubled_word b)) (pos 0)) ≡ ((c && d) && lt_z (a.bound +ℤ b.bound) (pos 0))
      go true p true q =
          rw (doubled-rule a p, doubled-rule b q, twice_half a.bound a.mark, twice_half b.bound b.mark)
      go true p false q = refl
      go false p d q = refl
