-- Doubled words: the word of a marked place by its parts, and of two words the smaller one is that of the marked rule that is kept where they meet. Assumes nothing.
use mathlib.Core.Path.{◌≡◌, refl, sym, ◌∙◌, ap}
use mathlib.Core.Bool.{Bool, true, false, cond, ◌&&◌}
use Prim.Native.Nat.{ℕ, ◌+◌, ◌≤◌}
use native.Mathlib.Omega.{arith}
use lib.IntN.{ℤ, pos, ◌+ℤ◌}
use lib.Signed.{lt_z, ◌≤ℤ◌, ◌<ℤ◌}
use Rattle.integers.specs.Bound.{Within, half, odd, bit, smaller}
use Rattle.integers.proofs.Parts.{linear, positive_part, negative_part, parts_add, lt_z_true, lt_z_false, lt_lt_z, le_lt_z, smaller_either}
use Rattle.integers.proofs.Within.{within_to}
use Rattle.integers.proofs.Halving.{odd_whole, even_whole}
use Rattle.rules.specs.Limits.{no_rule}
use Rattle.tables.specs.Tables.{has_rule}
use Rattle.tables.proofs.Tests.{clash}
use Rattle.marks.specs.Marks.{Marked, holds, meet}
use Rattle.marks.specs.Doubled.{doubled_word}

-- a place has no rule, or one whose bound is at most B in magnitude
abbrev pub Tame : ℕ → Marked → Type 0
Tame B w = holds w ≡ true → Within (pos B) w.bound

-- the largest magnitude that, doubled and with 1 more, is below the no-rule word: 2 ^ 62 - 2
abbrev pub large : ℕ
large = 4611686018427387902

-- a bound is at most the no-rule word, and has no mark where it is that
abbrev pub Sound : Marked → Type 0
Sound w = (w.bound ≤ℤ no_rule) × (holds w ≡ false → w.mark ≡ false)

-- ---- the words of bounds

-- a bound doubled, and 1 more where it is marked
unfoldable pub twice : ℤ → Bool → ℤ
twice b m = (b +ℤ b) +ℤ pos (bit m)

pub twice_parts : (b : ℤ) (m : Bool) → positive_part (twice b m) + (negative_part b + negative_part b) ≡ positive_part b + positive_part b + bit m + negative_part (twice b m)
unfolding twice positive_part negative_part
twice_parts b m = let p = parts_add b b in omega (arith, parts_add (b +ℤ b) (pos (bit m)))

-- either way
pub twice_least : (b : ℤ) (m : Bool) → positive_part b + positive_part b + negative_part (twice b m) ≤ positive_part (twice b m) + (negative_part b + negative_part b)
twice_least b m = omega (arith, twice_parts b m)

pub twice_most : (b : ℤ) (m : Bool) → positive_part (twice b m) + (negative_part b + negative_part b) ≤ positive_part b + positive_part b + 1 + negative_part (twice b m)
twice_most b true = omega (arith, twice_parts b true)
twice_most b false = omega (arith, twice_parts b false)

-- a number doubled
pub twice_sum : (c : ℤ) → c +ℤ c ≡ twice c false
twice_sum c = omega (linear, twice_parts c false, parts_add c c)

-- a number by its half
pub twice_halved : (c : ℤ) → c ≡ twice (half c) (odd c)
unfolding twice
twice_halved c = go (odd c) refl
  where
    go : (b : Bool) → odd c ≡ b → c ≡ (half c +ℤ half c) +ℤ pos (bit b)
    go true e = odd_whole c e
    go false e = even_whole c e

-- the word of a rule, and of none
pub doubled-rule : (w : Marked) → holds w ≡ true → doubled_word w ≡ twice w.bound w.mark
unfolding doubled_word twice
doubled-rule w e = rw e

pub doubled_none : (w : Marked) → holds w ≡ false → doubled_word w ≡ no_rule
unfolding doubled_word
doubled_none w e = rw e

pub doubled_unmarked : (w : Marked) → holds w ≡ true → w.mark ≡ false → doubled_word w ≡ twice w.bound false
doubled_unmarked w e m = doubled-rule w e ∙ ap (twice w.bound) m

-- that of a rule which is not too large is a rule's
pub twice_below : (b : ℤ) (m : Bool) → Within (pos large) b → twice b m <ℤ no_rule
unfolding positive_part negative_part
twice_below b m h = omega (linear, within_to h, twice_most b m)

pub doubled_held : (w : Marked) → Tame large w → has_rule (doubled_word w) ≡ holds w
doubled_held w t = go (holds w) refl
  where
    go : (b : Bool) → holds w ≡ b → has_rule (doubled_word w) ≡ b
    go true e = rw (doubled-rule w e) (lt_lt_z (twice w.bound w.mark) no_rule (twice_below w.bound w.mark (t e)))
    go false e = rw (doubled_none w e)

-- ---- two that meet

smaller_first : (a b : ℤ) → a ≤ℤ b → smaller a b ≡ a
unfolding smaller
smaller_first a b h = rw (le_lt_z b a h)

smaller_second : (a b : ℤ) → b ≤ℤ a → smaller a b ≡ b
unfolding smaller
smaller_second a b h = go (lt_z b a) refl
  where
    go : (c : Bool) → lt_z b a ≡ c → cond c b a ≡ b
    go true e = refl
    go false e = omega (linear, lt_z_false b a e)

-- the smaller bound has the smaller word
doubled_lt : (v w : Marked) → Tame large v → v.bound <ℤ w.bound → doubled_word v ≤ℤ doubled_word w
doubled_lt v w t h = go (holds v) refl (holds w) refl
  where
    go : (a : Bool) → holds v ≡ a → (b : Bool) → holds w ≡ b → doubled_word v ≤ℤ doubled_word w
    go true e true f =
        rw (doubled-rule v e, doubled-rule w f) (omega (linear, twice_most v.bound v.mark, twice_least w.bound w.mark))
    go true e false f = let l = twice_below v.bound v.mark (t e) in rw (doubled-rule v e, doubled_none w f) (omega linear)
    go false e true f = let z : ⊥ = omega (linear, lt_z_false v.bound no_rule e, lt_z_true w.bound no_rule f) in absurd z
    go false e false f = rw (doubled_none v e, doubled_none w f) (omega linear)

-- and is kept
meet_first : (v w : Marked) → v.bound <ℤ w.bound → meet v w ≡ v
unfolding meet smaller
meet_first v w h = rw (le_lt_z w.bound v.bound (omega linear), lt_lt_z v.bound w.bound h)

meet_second : (v w : Marked) → w.bound <ℤ v.bound → meet v w ≡ w
unfolding meet smaller
meet_second v w h = rw (lt_lt_z w.bound v.bound h)

-- of equal bounds the unmarked one is
twice_equal : (a : ℤ) (t p q : Bool) → cond t (twice a (p && q)) no_rule ≡ smaller (cond t (twice a p) no_rule) (cond t (twice a q) no_rule)
twice_equal a true true true = sym (smaller_first (twice a true) (twice a true) (omega linear))
twice_equal a true true false = sym (smaller_second (twice a true) (twice a false) (omega (linear, twice_parts a true, twice_parts a false)))
twice_equal a true false q = sym (smaller_first (twice a false) (twice a q) (omega (linear, twice_parts a false, twice_least a q)))
twice_equal a false p q = sym (smaller_first no_rule no_rule (omega linear))

meet_equal : (v w : Marked) → v.bound ≡ w.bound → doubled_word (meet v w) ≡ smaller (doubled_word v) (doubled_word w)
unfolding doubled_word meet smaller twice
meet_equal v w e =
    rw (le_lt_z w.bound v.bound (omega linear), le_lt_z v.bound w.bound (omega linear), ← e)
    (twice_equal v.bound (holds v) v.mark w.mark)

-- where two meet, the word is the smaller of theirs
pub doubled_meet : (v w : Marked) → Tame large v → Tame large w → doubled_word (meet v w) ≡ smaller (doubled_word v) (doubled_word w)
doubled_meet v w s t = go (lt_z w.bound v.bound) (lt_z v.bound w.bound) refl refl
  where
    go : (c d : Bool) → lt_z w.bound v.bound ≡ c → lt_z v.bound w.bound ≡ d → doubled_word (meet v w) ≡ smaller (doubled_word v) (doubled_word w)
    go true d e f =
        let h : w.bound <ℤ v.bound = omega (linear, lt_z_true w.bound v.bound e) in
        ap doubled_word (meet_second v w h) ∙ sym (smaller_second (doubled_word v) (doubled_word w) (doubled_lt w v t h))
    go false true e f =
        let h : v.bound <ℤ w.bound = omega (linear, lt_z_true v.bound w.bound f) in
        ap doubled_word (meet_first v w h) ∙ sym (smaller_first (doubled_word v) (doubled_word w) (doubled_lt v w s h))
    go false false e f = meet_equal v w (omega (linear, lt_z_false w.bound v.bound e, lt_z_false v.bound w.bound f))

-- it is no larger than both are,
pub tame_meet : (B : ℕ) (v w : Marked) → Tame B v → Tame B w → Tame B (meet v w)
unfolding meet
tame_meet B v w s t = smaller_either (λ (z : ℤ). has_rule z ≡ true → Within (pos B) z) v.bound w.bound s t

-- and as sound as the first is
pub meet_sound : (v w : Marked) → Sound v → Sound (meet v w)
unfolding meet smaller
meet_sound v w s = go (lt_z w.bound v.bound) refl
  where
    stays : (c : Bool) → cond c false (false && w.mark) ≡ false
    stays true = refl
    stays false = refl

    lower : w.bound <ℤ v.bound → w.bound <ℤ no_rule
    lower h = let l = s.0 in omega linear

    go : (c : Bool) → lt_z w.bound v.bound ≡ c
        → (cond c w.bound v.bound ≤ℤ no_rule)
        × (has_rule (cond c w.bound v.bound) ≡ false → cond c w.mark (cond (lt_z v.bound w.bound) v.mark (v.mark && w.mark)) ≡ false)
    go true e = let l = lower (omega (linear, lt_z_true w.bound v.bound e)) in (omega linear, λ r. clash (lt_lt_z w.bound no_rule l) r)
    go false e = (s.0, λ r. rw (s.1 r) (stays (lt_z v.bound w.bound)))
