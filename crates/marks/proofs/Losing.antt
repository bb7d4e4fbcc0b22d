-- A place is marked exactly where it has a rule, and every rule with the smallest bound there loses a half. Assumes nothing.
use mathlib.Core.Path.{◌≡◌, refl, sym, ◌∙◌, ap, subst}
use mathlib.Core.Bool.{Bool, true, false, cond, ◌&&◌}
use mathlib.Core.List.{List, [], ◌∷◌}
use mathlib.Core.Logic.{◌↔◌}
use Prim.Native.Nat.{ℕ}
use lib.IntN.{ℤ}
use lib.Signed.{lt_z, ◌<ℤ◌}
use borrow.Author.Tests.{eqb-true, eq-eqb}
use Rattle.integers.specs.Bound.{smaller}
use Rattle.integers.proofs.Parts.{linear, lt_z_true, lt_z_false, lt_lt_z, smaller_left, smaller_right}
use Rattle.std.specs.Prelude.{Option, Some, None}
use Rattle.rules.specs.declared.rule.Rule.{Rule}
use Rattle.rules.specs.Limits.{no_rule}
use Rattle.rules.specs.Meaning.{bound_of}
use Rattle.rules.specs.Steps.{halved_of, loses_half}
use Rattle.tables.specs.Places.{find_place}
use Rattle.tables.specs.Tables.{has_rule, is_at, smallest_at}
use Rattle.tables.proofs.Tests.{clash, both_true}
use Rattle.tables.proofs.Lists.{smallest_most}
use Rattle.marks.specs.Marks.{meet, marked_rule, marked_at, AllLose, RestsOnHalves}
use Rattle.marks.proofs.Rules.{marked_smallest}

-- the test of a place
at_true : (k : ℕ) (p : Option ℕ) → is_at k p ≡ true → p ≡ Some k
at_true k (Some j) e = ap Some (sym (eqb-true k j e))
at_true k None e = clash e refl

true_at : (k : ℕ) (p : Option ℕ) → p ≡ Some k → is_at k p ≡ true
true_at k p e = ap (is_at k) e ∙ eq-eqb k k refl

-- no rule of the place has a bound below the smallest
below_none : (k : ℕ) (c : ℤ) (rs : List Rule) → c <ℤ smallest_at k rs → AllLose k c rs
unfolding smallest_at
below_none k c [] h = tt
below_none k c (r ∷ rs) h = go (is_at k (find_place (halved_of r))) refl h (below_none k c rs)
  where
    go : (t : Bool) → is_at k (find_place (halved_of r)) ≡ t → c <ℤ cond t (smaller (bound_of (halved_of r)) (smallest_at k rs)) (smallest_at k rs)
        → (c <ℤ smallest_at k rs → AllLose k c rs) → AllLose k c (r ∷ rs)
    go true e l f = (
      λ p q. let x = smaller_left (bound_of (halved_of r)) (smallest_at k rs) in let z : ⊥ = omega linear in absurd z,
      f (let x = smaller_right (bound_of (halved_of r)) (smallest_at k rs) in omega linear),
    )
    go false e l f = (λ p q. clash (true_at k (find_place (halved_of r)) p) e, f l)

-- a bound is a rule's, and every rule of the list that has it at the place loses a half
abbrev Lose : ℕ → ℤ → List Rule → Type 0
Lose k c rs = (has_rule c ≡ true) × AllLose k c rs

-- one more rule has the place
module _ (k : ℕ) (r : Rule) (rs : List Rule) (b m : ℤ) (is : bound_of (halved_of r) ≡ b) (least : smallest_at k rs ≡ m) (at : is_at k (find_place (halved_of r)) ≡ true) where
  -- with a smaller bound
  one_smaller : b <ℤ m → (loses_half r ≡ true) ↔ Lose k b (r ∷ rs)
  one_smaller l = (
    λ e. (lt_lt_z b no_rule (let x = smallest_most k rs in omega linear), (λ p q. e, below_none k b rs (rw least l))),
    λ h. h.1.0 (at_true k (find_place (halved_of r)) at) is,
  )

  -- with a larger one
  one_larger : (mark : Bool) → m <ℤ b → (mark ≡ true) ↔ Lose k m rs → (mark ≡ true) ↔ Lose k m (r ∷ rs)
  one_larger mark l w = (
    λ e. let h = w.0 e in (h.0, (λ p q. let z : ⊥ = omega linear in absurd z, h.1)),
    λ h. w.1 (h.0, h.1.1),
  )

  -- with the same
  one_equal : (mark : Bool) → b ≡ m → (mark ≡ true) ↔ Lose k m rs → (◌&&◌ (loses_half r) mark ≡ true) ↔ Lose k b (r ∷ rs)
  one_equal mark e w = (
    λ x. let p = both_true (loses_half r) mark x in let h = subst (λ (c : ℤ). Lose k c rs) (sym e) (w.0 p.1) in (h.0, (λ y z. p.0, h.1)),
    λ h. rw (h.1.0 (at_true k (find_place (halved_of r)) at) is) (w.1 (subst (λ (c : ℤ). Lose k c rs) e (h.0, h.1.1))),
  )

  -- with any
  one_more_lem : (mark : Bool) → (mark ≡ true) ↔ Lose k m rs
      → (cond (lt_z m b) mark (cond (lt_z b m) (loses_half r) (◌&&◌ (loses_half r) mark)) ≡ true) ↔ Lose k (smaller b m) (r ∷ rs)
  unfolding smaller
  one_more_lem mark w = go (lt_z m b) (lt_z b m) refl refl
    where
      go : (s t : Bool) → lt_z m b ≡ s → lt_z b m ≡ t
          → (cond s mark (cond t (loses_half r) (◌&&◌ (loses_half r) mark)) ≡ true) ↔ Lose k (cond s m b) (r ∷ rs)
      go true t d e = one_larger mark (omega (linear, lt_z_true m b d)) w
      go false true d e = one_smaller (omega (linear, lt_z_true b m e))
      go false false d e = one_equal mark (omega (linear, lt_z_false m b d, lt_z_false b m e)) w

marked_lose : (k : ℕ) (rs : List Rule) → ((marked_at k rs).mark ≡ true) ↔ Lose k (smallest_at k rs) rs
unfolding marked_at smallest_at meet
marked_lose k [] = (λ e. clash e refl, λ h. clash h.0 refl)
marked_lose k (r ∷ rs) = go (is_at k (find_place (halved_of r))) refl (marked_lose k rs) (marked_smallest k rs)
  where
    go : (t : Bool) → is_at k (find_place (halved_of r)) ≡ t → ((marked_at k rs).mark ≡ true) ↔ Lose k (smallest_at k rs) rs
        → (marked_at k rs).bound ≡ smallest_at k rs
        → ((cond t (meet (marked_rule r) (marked_at k rs)) (marked_at k rs)).mark ≡ true)
        ↔ Lose k (cond t (smaller (bound_of (halved_of r)) (smallest_at k rs)) (smallest_at k rs)) (r ∷ rs)
    go true e w f = rw f (one_more_lem k r rs (bound_of (halved_of r)) (smallest_at k rs) refl refl e (marked_at k rs).mark w)
    go false e w f = (
      λ x. let h = w.0 x in (h.0, (λ p q. clash (true_at k (find_place (halved_of r)) p) e, h.1)),
      λ h. w.1 (h.0, h.1.1),
    )

-- what the mark of a place means
pub marked_rests : (k : ℕ) (rs : List Rule) → ((marked_at k rs).mark ≡ true) ↔ RestsOnHalves k rs
marked_rests k rs = let w = marked_lose k rs in
    (λ e. let h = w.0 e in record { ruled = h.0; lose = h.1 }, λ h. w.1 (h.ruled, h.lose))

-- no rule of a list loses a half: then no place is marked
abbrev pub NoneLose : List Rule → Type 0
NoneLose [] = Unit {0}
NoneLose (r ∷ rs) = (loses_half r ≡ false) × NoneLose rs

pub none_marked : (k : ℕ) (rs : List Rule) → NoneLose rs → (marked_at k rs).mark ≡ false
unfolding marked_at meet
none_marked k [] h = refl
none_marked k (r ∷ rs) h =
    go (is_at k (find_place (halved_of r))) (lt_z (marked_at k rs).bound (bound_of (halved_of r))) (lt_z (bound_of (halved_of r)) (marked_at k rs).bound) refl refl
    (none_marked k rs h.1)
  where
    go : (b c d : Bool) → lt_z (marked_at k rs).bound (bound_of (halved_of r)) ≡ c → lt_z (bound_of (halved_of r)) (marked_at k rs).bound ≡ d
        → (marked_at k rs).mark ≡ false → (cond b (meet (marked_rule r) (marked_at k rs)) (marked_at k rs)).mark ≡ false
    go false c d e f n = n
    go true true d e f n = rw e n
    go true false true e f n = rw (e, f) h.0
    go true false false e f n = rw (e, f, h.0)
