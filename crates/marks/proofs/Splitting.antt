-- A word taken apart; and a doubled word taken apart is the marked one that it was made of. Assumes nothing.
use mathlib.Core.Bool.{Bool, true, false, cond, ◌&&◌}
use mathlib.Core.Path.{◌≡◌, refl, sym, ◌∙◌, ap}
use lib.IntN.{ℤ}
use mir.Val.{bool_byte}
use lib.Signed.{◌≤ℤ◌}
use Rattle.integers.specs.Bound.{half, odd, bit}
use Rattle.integers.proofs.Parts.{linear, lt_z_false}
use Rattle.integers.proofs.Halving.{doubled_half, doubled_even, more_half, more_odd}
use Rattle.rules.specs.Limits.{no_rule}
use Rattle.tables.specs.Tables.{has_rule}
use Rattle.marks.specs.Marks.{Marked, holds}
use Rattle.marks.specs.Doubled.{doubled_word, split_word}
use Rattle.marks.proofs.WordOrder.{Tame, large, twice, twice_sum, doubled-rule, doubled_held}

-- the bound of a rule, its mark, and a word that is no rule
pub split_half : (v : ℤ) → has_rule v ≡ true → half v ≡ (split_word v).bound
unfolding split_word
split_half v h = rw h

pub split_told : (v : ℤ) (o : Bool) → has_rule v ≡ true → o ≡ odd v → bool_byte o ≡ bit (split_word v).mark
unfolding split_word
split_told v true h e = rw (h, ← e)
split_told v false h e = rw (h, ← e)

pub split_unruled : (v : ℤ) → v ≡ no_rule → (v ≡ (split_word v).bound) × (0 ≡ bit (split_word v).mark)
unfolding split_word
split_unruled v e = (rw e, rw e)

-- ---- a doubled word

-- its half is the bound, and it is odd where that is marked
pub twice_half : (b : ℤ) (m : Bool) → half (twice b m) ≡ b
unfolding twice
twice_half b true = more_half b
twice_half b false = ap half (sym (twice_sum b)) ∙ doubled_half b

twice_odd : (b : ℤ) (m : Bool) → odd (twice b m) ≡ m
unfolding twice
twice_odd b true = more_odd b
twice_odd b false = ap odd (sym (twice_sum b)) ∙ doubled_even b

-- so it gives the bound, where a place without a rule has the no-rule word,
pub split_bound : (w : Marked) → Tame large w → w.bound ≤ℤ no_rule → (split_word (doubled_word w)).bound ≡ w.bound
unfolding split_word
split_bound w t l = rw (doubled_held w t) (go (holds w) refl)
  where
    go : (c : Bool) → holds w ≡ c → cond c (half (doubled_word w)) no_rule ≡ w.bound
    go true e = rw (doubled-rule w e) (twice_half w.bound w.mark)
    go false e = omega (linear, lt_z_false w.bound no_rule e)

-- and the mark, where such a place has none
pub split_mark : (w : Marked) → Tame large w → (holds w ≡ false → w.mark ≡ false) → (split_word (doubled_word w)).mark ≡ w.mark
unfolding split_word
split_mark w t b = rw (doubled_held w t) (go (holds w) refl)
  where
    go : (c : Bool) → holds w ≡ c → (c && odd (doubled_word w)) ≡ w.mark
    go true e = rw (doubled-rule w e) (twice_odd w.bound w.mark)
    go false e = sym (b e)
