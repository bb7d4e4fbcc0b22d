-- What the term of a place is worth, and on what a term's worth depends: not on its bound, and only on the quantities that it names.
-- Assumes nothing.
use mathlib.Core.Path.{◌≡◌, refl, ◌∙◌, ap, ap₂}
use mathlib.Core.Bool.{Bool, true, false, cond, ◌||◌, or-true}
use Prim.Native.Nat.{ℕ, ◌%◌}
use lib.Dec.{eqb}
use lib.IntN.{ℤ, pos, neg_ℤ, ◌+ℤ◌}
use lib.Signed.{◌≤ℤ◌}
use borrow.Author.Tests.{eq-eqb}
use Rattle.places.specs.Numbering.{is_one, higher_at, lower_at}
use Rattle.rules.specs.declared.rule.Rule.{Rule}
use Rattle.rules.specs.declared.rule.Rule.TheVariants.{One, Two, Nothing}
use Rattle.rules.specs.Literal.{quantity_of}
use Rattle.rules.specs.Meaning.{Assignment, literal_value, term_value, bound_of, Meets, names}
use Rattle.rules.proofs.Meanings.{in_order_term}
use Rattle.tables.specs.Places.{rule_at, HasPlace}
use Rattle.tables.proofs.Places.{place_of, rule_at_bound, rule_at_in_order}

pub rule_at_value : (σ : Assignment) (k : ℕ) (c d : ℤ) → term_value σ (rule_at k c) ≡ term_value σ (rule_at k d)
unfolding rule_at
rule_at_value σ k c d = go (is_one k)
  where
    go : (b : Bool) → term_value σ (cond b (One (higher_at k) c) (Two (lower_at k) (higher_at k) c)) ≡ term_value σ (cond b (One (higher_at k) d) (Two (lower_at k) (higher_at k) d))
    go true = refl
    go false = refl

-- the term at the place of a rule is worth what the rule's own is
pub place_value : (n : ℕ) (σ : Assignment) (r : Rule) (c : ℤ) → HasPlace n r → term_value σ (rule_at (place_of r) c) ≡ term_value σ r
place_value n σ r c u =
    rule_at_value σ (place_of r) c (bound_of r) ∙ ap (term_value σ) (rule_at_in_order n r u) ∙ in_order_term σ r

-- a rule at a place is met where its term is at most the bound
pub meets_at : (σ : Assignment) (k : ℕ) (c : ℤ) → Meets σ (rule_at k c) → term_value σ (rule_at k (pos 0)) ≤ℤ c
meets_at σ k c m = rw (← rule_at_value σ k c (pos 0)) (rw (rule_at_bound k c) at m.met)

pub at_meets : (σ : Assignment) (k : ℕ) (c : ℤ) → term_value σ (rule_at k (pos 0)) ≤ℤ c → Meets σ (rule_at k c)
at_meets σ k c h = record { met = rw (rule_at_bound k c, rule_at_value σ k c (pos 0)) h }

-- ---- a term depends on the quantities that it names, and on no others

literal_named : (σ τ : Assignment) (x : ℕ) → σ (quantity_of x) ≡ τ (quantity_of x) → literal_value σ x ≡ literal_value τ x
unfolding literal_value
literal_named σ τ x e = ap (λ (z : ℤ). cond (eqb (x % 2) 0) z (neg_ℤ z)) e

pub term_named : (σ τ : Assignment) (r : Rule) → ((q : ℕ) → names q r ≡ true → σ q ≡ τ q) → term_value σ r ≡ term_value τ r
unfolding names
term_named σ τ (One x c) e = literal_named σ τ x (e (quantity_of x) (eq-eqb (quantity_of x) (quantity_of x) refl))
term_named σ τ (Two x y c) e = ap₂ ◌+ℤ◌ (literal_named σ τ x (e (quantity_of x) first)) (literal_named σ τ y (e (quantity_of y) second))
  where
    first : (eqb (quantity_of x) (quantity_of x) || eqb (quantity_of y) (quantity_of x)) ≡ true
    first = rw (eq-eqb (quantity_of x) (quantity_of x) refl)

    second : (eqb (quantity_of x) (quantity_of y) || eqb (quantity_of y) (quantity_of y)) ≡ true
    second = rw (eq-eqb (quantity_of y) (quantity_of y) refl) (or-true (eqb (quantity_of x) (quantity_of y)))
term_named σ τ (Nothing c) e = refl

pub meets_named : (σ τ : Assignment) (r : Rule) → ((q : ℕ) → names q r ≡ true → σ q ≡ τ q) → Meets σ r → Meets τ r
meets_named σ τ r e m = record { met = rw (← term_named σ τ r e) m.met }
