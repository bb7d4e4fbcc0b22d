-- Literals: negation turns the sign and nothing else. Assumes nothing.
use mathlib.Core.Path.{◌≡◌, refl, ◌∙◌, ap}
use mathlib.Core.Bool.{Bool, true, false}
use mathlib.Core.Logic.{◌⊎◌, inl, inr, ⊎_elim}
use Prim.Native.Nat.{ℕ, zero, suc, ◌*◌, ◌+◌, ◌%◌}
use native.Mathlib.Omega.{arith}
use lib.Dec.{eqb}
use lib.IntN.{ℤ, pos, negsuc, neg_ℤ, neg_ℤ-neg_ℤ}
use borrow.Author.Tests.{eqb-true, eqb-false, eq-eqb, ne_eqb}
use Rattle.rules.specs.Literal.{quantity_of, negated, literal_of}
use Rattle.rules.specs.Meaning.{Assignment, literal_value, signed_value}
use Rattle.rules.specs.Steps.{is_none}

-- a literal with the other sign is of the same quantity
pub negated_quantity : (x : ℕ) → quantity_of (negated x) ≡ quantity_of x
negated_quantity x = omega arith

-- a literal is even with + and odd with -
pub sign_cases : (x : ℕ) → (x % 2 ≡ 0) ⊎ (x % 2 ≡ 1)
sign_cases x = go (eqb (x % 2) 0) refl
  where
    go : (t : Bool) → eqb (x % 2) 0 ≡ t → (x % 2 ≡ 0) ⊎ (x % 2 ≡ 1)
    go true e = inl (eqb-true (x % 2) 0 e)
    go false e = let h : x % 2 ≡ 0 → ⊥ = eqb-false (x % 2) 0 e in inr (omega arith)

pub value_plus : (σ : Assignment) (x : ℕ) → x % 2 ≡ 0 → literal_value σ x ≡ σ (quantity_of x)
unfolding literal_value
value_plus σ x e = rw (eq-eqb (x % 2) 0 e)

pub value_minus : (σ : Assignment) (x : ℕ) → x % 2 ≡ 1 → literal_value σ x ≡ neg_ℤ (σ (quantity_of x))
unfolding literal_value
value_minus σ x e = rw (ne_eqb (x % 2) 0 (omega arith))

pub value_negated : (σ : Assignment) (x : ℕ) → literal_value σ (negated x) ≡ neg_ℤ (literal_value σ x)
value_negated σ x =
    ⊎_elim
    (λ e. rw (value_minus σ (negated x) (omega arith), value_plus σ x e, negated_quantity x))
    (λ e. rw (value_plus σ (negated x) (omega arith), value_minus σ x e, negated_quantity x, neg_ℤ-neg_ℤ))
    (sign_cases x)

-- ---- signed quantity numbers

pub some_number : (q : ℤ) → (q ≡ pos 0 → ⊥) → is_none q ≡ false
some_number (pos zero) n = absurd (n refl)
some_number (pos (suc k)) n = refl
some_number (negsuc k) n = refl

pub none_value : (σ : Assignment) (q : ℤ) → is_none q ≡ true → signed_value σ q ≡ pos 0
none_value σ (pos zero) e = refl
none_value σ (pos (suc k)) e = cc
none_value σ (negsuc k) e = cc

-- the literal of a number is worth what the number names
pub some_value : (σ : Assignment) (q : ℤ) → is_none q ≡ false → literal_value σ (literal_of q) ≡ signed_value σ q
some_value σ (pos zero) e = cc
some_value σ (pos (suc k)) e = value_plus σ (2 * k) (omega arith) ∙ ap σ (omega arith)
some_value σ (negsuc k) e = value_minus σ (2 * k + 1) (omega arith) ∙ ap (λ (p : ℕ). neg_ℤ (σ p)) (omega arith)
