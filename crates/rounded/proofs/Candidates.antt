-- Which rules decide the mark of a place: of those that meet there, the ones of smallest bound. The mark is 0 exactly when one of these is unmarked. Assumes nothing.
use mathlib.Core.Bool.{Bool, true, false, cond, ◌&&◌, ◌||◌}
use mathlib.Core.Path.{◌≡◌, refl}
use lib.IntN.{ℤ, ◌+ℤ◌}
use lib.Signed.{lt_z, ◌≤ℤ◌, ≤ℤ_refl}
use Rattle.integers.specs.Bound.{half, odd, smaller}
use Rattle.integers.proofs.Parts.{linear}
use Rattle.tables.proofs.Tests.{clash, both_true, neither}
use Rattle.marks.specs.Marks.{Marked, holds, meet, marked_sum, marked_half, with_marked_sum, with_marked_half}

-- c is among the rules that met in w: w's bound is at most c's, and where c is unmarked and of w's bound, w is unmarked
abbrev pub Among : Marked → Marked → Type 0
Among c w = (w.bound ≤ℤ c.bound) × (c.mark ≡ false → c.bound ≤ℤ w.bound → w.mark ≡ false)

pub among_itself : (w : Marked) → Among w w
among_itself w = (≤ℤ_refl w.bound, λ e l. e)

-- ---- two rules meet

-- what was among the first is among what they leave, and the second is too,
pub meet_first : (c v w : Marked) → Among c v → Among c (meet v w)
unfolding meet smaller
meet_first c v w a = go (lt_z w.bound v.bound) refl (lt_z v.bound w.bound) refl
  where
    go : (d : Bool) → lt_z w.bound v.bound ≡ d → (e : Bool) → lt_z v.bound w.bound ≡ e
        → (cond d w.bound v.bound ≤ℤ c.bound)
        × (c.mark ≡ false → c.bound ≤ℤ cond d w.bound v.bound → cond d w.mark (cond e v.mark (v.mark && w.mark)) ≡ false)
    go true p e q = let b = a.0 in (omega linear, λ u l. let z : ⊥ = omega linear in absurd z)
    go false p true q = a
    go false p false q = (a.0, λ u l. rw (a.1 u l))

pub meet_second : (v w : Marked) → Among w (meet v w)
unfolding meet smaller
meet_second v w = go (lt_z w.bound v.bound) refl (lt_z v.bound w.bound) refl
  where
    last : (b : Bool) → (b && false) ≡ false
    last true = refl
    last false = refl

    go : (d : Bool) → lt_z w.bound v.bound ≡ d → (e : Bool) → lt_z v.bound w.bound ≡ e
        → (cond d w.bound v.bound ≤ℤ w.bound)
        × (w.mark ≡ false → w.bound ≤ℤ cond d w.bound v.bound → cond d w.mark (cond e v.mark (v.mark && w.mark)) ≡ false)
    go true p e q = (≤ℤ_refl w.bound, λ u l. u)
    go false p true q = (omega linear, λ u l. let z : ⊥ = omega linear in absurd z)
    go false p false q = (omega linear, λ u l. rw u (last v.mark))

-- and where what they leave is unmarked, its bound is that of one which is unmarked
pub meet_either : (P : ℤ → Type 0) (v w : Marked) → (v.mark ≡ false → P v.bound) → (w.mark ≡ false → P w.bound) → (meet v w).mark ≡ false → P (meet v w).bound
unfolding meet smaller
meet_either P v w a b = go (lt_z w.bound v.bound) refl (lt_z v.bound w.bound) refl
  where
    one : (d e : Bool) → (d && e) ≡ false → (d ≡ false → P v.bound) → (e ≡ false → P v.bound) → P v.bound
    one true e h f g = g h
    one false e h f g = f refl

    go : (d : Bool) → lt_z w.bound v.bound ≡ d → (e : Bool) → lt_z v.bound w.bound ≡ e
        → cond d w.mark (cond e v.mark (v.mark && w.mark)) ≡ false → P (cond d w.bound v.bound)
    go true p e q h = b h
    go false p true q h = a h
    go false p false q h =
        let s : w.bound ≡ v.bound = omega linear in
        one v.mark w.mark h a (λ u. rw s at (b u))

-- ---- a rule is put in where a test passes

put_first : (c v w : Marked) (d : Bool) → Among c w → Among c (cond d (meet w v) w)
put_first c v w true a = meet_first c w v a
put_first c v w false a = a

put_second : (v w : Marked) (d : Bool) → d ≡ true → Among v (cond d (meet w v) w)
put_second v w true e = meet_second w v
put_second v w false e = clash e refl

put_either : (P : ℤ → Type 0) (v w : Marked) (d : Bool) → (w.mark ≡ false → P w.bound) → (d ≡ true → v.mark ≡ false → P v.bound)
    → (cond d (meet w v) w).mark ≡ false → P (cond d (meet w v) w).bound
put_either P v w true a b = meet_either P w v a (b refl)
put_either P v w false a b = a

both : (a b : Bool) → a ≡ true → b ≡ true → (a && b) ≡ true
both a b d e = rw (d, e)

-- ---- a sum is put in, whole or halved

pub sum_first : (c a b w : Marked) → Among c w → Among c (with_marked_sum a b w)
unfolding with_marked_sum
sum_first c a b w h = put_first c (marked_sum a b) w (holds a && holds b) h

pub sum_second : (a b w : Marked) → holds a ≡ true → holds b ≡ true → Among (marked_sum a b) (with_marked_sum a b w)
unfolding with_marked_sum
sum_second a b w d e = put_second (marked_sum a b) w (holds a && holds b) (both (holds a) (holds b) d e)

pub sum_either : (P : ℤ → Type 0) (a b w : Marked) → (w.mark ≡ false → P w.bound)
    → (holds a ≡ true → holds b ≡ true → a.mark ≡ false → b.mark ≡ false → P (a.bound +ℤ b.bound))
    → (with_marked_sum a b w).mark ≡ false → P (with_marked_sum a b w).bound
unfolding with_marked_sum marked_sum
sum_either P a b w f g =
    put_either P (marked_sum a b) w (holds a && holds b) f
    (λ d e. let h = both_true (holds a) (holds b) d in
    let u = (neither a.mark b.mark).0 e in g h.0 h.1 u.0 u.1)

pub half_first : (c a b w : Marked) → Among c w → Among c (with_marked_half a b w)
unfolding with_marked_half
half_first c a b w h = put_first c (marked_half (marked_sum a b)) w (holds a && holds b) h

pub half_second : (a b w : Marked) → holds a ≡ true → holds b ≡ true → Among (marked_half (marked_sum a b)) (with_marked_half a b w)
unfolding with_marked_half
half_second a b w d e = put_second (marked_half (marked_sum a b)) w (holds a && holds b) (both (holds a) (holds b) d e)

pub half_either : (P : ℤ → Type 0) (a b w : Marked) → (w.mark ≡ false → P w.bound)
    → (holds a ≡ true → holds b ≡ true → a.mark ≡ false → b.mark ≡ false → odd (a.bound +ℤ b.bound) ≡ false → P (half (a.bound +ℤ b.bound)))
    → (with_marked_half a b w).mark ≡ false → P (with_marked_half a b w).bound
unfolding with_marked_half marked_sum marked_half
half_either P a b w f g =
    put_either P (marked_half (marked_sum a b)) w (holds a && holds b) f
    (λ d e. let h = both_true (holds a) (holds b) d in
    let o = (neither (a.mark || b.mark) (odd (a.bound +ℤ b.bound))).0 e in
    let u = (neither a.mark b.mark).0 o.0 in g h.0 h.1 u.0 u.1 o.1)

-- ---- unmarked sums leave an unmarked place where none is smaller

pub sum_clear : (a b w : Marked) → Among (marked_sum a b) w → a.mark ≡ false → b.mark ≡ false → w.bound ≡ a.bound +ℤ b.bound → w.mark ≡ false
unfolding marked_sum
sum_clear a b w h d e q = h.1 (rw (d, e)) (rw q (≤ℤ_refl (a.bound +ℤ b.bound)))

pub half_clear : (a b w : Marked) → Among (marked_half (marked_sum a b)) w → a.mark ≡ false → b.mark ≡ false → odd (a.bound +ℤ b.bound) ≡ false
    → w.bound ≡ half (a.bound +ℤ b.bound) → w.mark ≡ false
unfolding marked_sum marked_half
half_clear a b w h d e o q = h.1 (rw (d, e, o)) (rw q (≤ℤ_refl (half (a.bound +ℤ b.bound))))
