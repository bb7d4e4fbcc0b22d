-- What is returned for a refusal tells which refusal it is. Assumes nothing.
use mathlib.Core.Path.{◌≡◌, refl, sym, ◌∙◌, ap, ap₂}
use Prim.Native.Nat.{ℕ, zero, suc, ◌≤◌, ◌<◌}
use native.Mathlib.Omega.{arith}
use lib.IntN.{pos, nat_abs}
use lib.ListN.{get_or}
use Rattle.rules.specs.declared.refusal.Refusal.{Refusal}
use Rattle.rules.specs.declared.refusal.Refusal.TheVariants.{Size, Malformed, OutOfLimit, Cancelling, NoAssignment, TooShort, Mismatch, ListSize, NotCanonical}
use Rattle.rules.specs.Refusal.{Beside, nothing_beside, line-beside, length_beside, beside_values, beside_value, refusal_number, refusal_beside, refusal_value, refusal_line, Returned, refused_as}

-- the refusal of a number and a value
unfoldable refusal_for : ℕ → ℕ → Refusal
refusal_for zero v = Size
refusal_for (suc zero) v = Size
refusal_for (suc (suc zero)) v = Malformed v
refusal_for (suc (suc (suc zero))) v = OutOfLimit v
refusal_for (suc (suc (suc (suc zero)))) v = Cancelling v
refusal_for (suc (suc (suc (suc (suc zero))))) v = NoAssignment
refusal_for (suc (suc (suc (suc (suc (suc zero)))))) v = TooShort v
refusal_for (suc (suc (suc (suc (suc (suc (suc zero))))))) v = Mismatch
refusal_for (suc (suc (suc (suc (suc (suc (suc (suc zero)))))))) v = ListSize
refusal_for (suc (suc (suc (suc (suc (suc (suc (suc (suc k))))))))) v = NotCanonical v

-- it is the one whose number and value they are
refusal-for : (f : Refusal) → refusal_for (refusal_number f) (refusal_value f) ≡ f
unfolding refusal_for
refusal-for Size = refl
refusal-for (Malformed line) = refl
refusal-for (OutOfLimit line) = refl
refusal-for (Cancelling line) = refl
refusal-for NoAssignment = refl
refusal-for (TooShort needed) = refl
refusal-for Mismatch = refl
refusal-for ListSize = refl
refusal-for (NotCanonical line) = refl

-- so two refusals with the same ones are the same
pub same_refusal_value : (f g : Refusal) → refusal_number f ≡ refusal_number g → refusal_value f ≡ refusal_value g → f ≡ g
same_refusal_value f g e d = sym (refusal-for f) ∙ ap₂ refusal_for e d ∙ refusal-for g

-- the values tell the value
first_value : (b : Beside) → nat_abs (get_or (beside_values b) 0 (pos 0)) ≡ beside_value b
first_value nothing_beside = refl
first_value (line-beside l) = refl
first_value (length_beside m) = refl

-- and two that are returned alike are the same
pub same_refusal : (f g : Refusal) → refused_as f ≡ refused_as g → f ≡ g
same_refusal f g e =
    same_refusal_value f g (ap (λ (r : Returned). r.number) e)
    (sym (first_value (refusal_beside f)) ∙ ap (λ (r : Returned). nat_abs (get_or r.values 0 (pos 0))) e ∙ first_value (refusal_beside g))

-- the numbers of refusals lie between 0, that of success, and those of verdicts
pub refusal_between : (f : Refusal) → (1 ≤ refusal_number f) × (refusal_number f < 100)
refusal_between Size = (omega arith, omega arith)
refusal_between (Malformed line) = (omega arith, omega arith)
refusal_between (OutOfLimit line) = (omega arith, omega arith)
refusal_between (Cancelling line) = (omega arith, omega arith)
refusal_between NoAssignment = (omega arith, omega arith)
refusal_between (TooShort needed) = (omega arith, omega arith)
refusal_between Mismatch = (omega arith, omega arith)
refusal_between ListSize = (omega arith, omega arith)
refusal_between (NotCanonical line) = (omega arith, omega arith)

pub refusal-number : (f : Refusal) → refusal_number f ≡ 0 → ⊥
refusal-number f e = omega (arith, refusal_between f, e)

pub refusal_below : (f : Refusal) → refusal_number f < 100
refusal_below f = (refusal_between f).1

-- what stands beside a number other than 6 is a line, or nothing
pub line_beside_it : (f : Refusal) → (refusal_number f ≡ 6 → ⊥) → refusal_line f ≡ refusal_value f
line_beside_it Size h = refl
line_beside_it (Malformed line) h = refl
line_beside_it (OutOfLimit line) h = refl
line_beside_it (Cancelling line) h = refl
line_beside_it NoAssignment h = refl
line_beside_it (TooShort needed) h = absurd (h refl)
line_beside_it Mismatch h = refl
line_beside_it ListSize h = refl
line_beside_it (NotCanonical line) h = refl

-- so two refusals with the same number, which is not 6, and the same line are the same
pub same_refusal_line : (f g : Refusal) → (refusal_number f ≡ 6 → ⊥) → refusal_number f ≡ refusal_number g → refusal_line f ≡ refusal_line g → f ≡ g
same_refusal_line f g h e d =
    same_refusal_value f g e (sym (line_beside_it f h) ∙ d ∙ line_beside_it g (λ z. h (e ∙ z)))
