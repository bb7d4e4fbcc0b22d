-- What the functions promise: the answer, and what it means.
use Rattle.std.specs.Prelude.{◌≡◌, ◌↔◌, ◌⊎◌, Bool, true, false, ℕ, ◌<◌, ℤ, ◌+ℤ◌, ◌≤ℤ◌}
use Rattle.integers.specs.Bound.{in_word}
use Rattle.rules.specs.declared.rule.Rule.{Rule}
use Rattle.rules.specs.declared.rule.Rule.TheVariants.{One, Two, Nothing}
use Rattle.rules.specs.Hidden.{hidden_in, set_within}
use Rattle.rules.specs.Literal.{quantity_of, negated}
use Rattle.rules.specs.Meaning.{Assignment, Meets, signed_value, term_value, bound_of, names}
use Rattle.rules.specs.Steps.{trivial_rule, rule_of, opposite_of, halved_of, sum_over}

-- the answer whether a hidden set is in its range at n: it names no quantity past n
pub record InRange (n set : ℕ) (r : Bool) : Type 0 where
  pub reply : r ≡ set_within n set
  pub meaning : (r ≡ true) ↔ ((q : ℕ) → n < q → hidden_in set q ≡ false)

-- r is the rule of two signed quantity numbers and a bound: the two integers together are at most the bound
pub record Made (first second c : ℤ) (r : Rule) : Type 0 where
  pub reply : r ≡ rule_of first second c
  pub meaning : (σ : Assignment) → Meets σ r ↔ ((signed_value σ first +ℤ signed_value σ second) ≤ℤ c)

-- s is the opposite of r: met exactly where r is not
pub record Opposite (r s : Rule) : Type 0 where
  pub reply : s ≡ opposite_of r
  pub meaning : (σ : Assignment) → Meets σ s ↔ (Meets σ r → ⊥)

-- s is r halved: met by exactly the same integers
pub record Halved (r s : Rule) : Type 0 where
  pub reply : s ≡ halved_of r
  pub meaning : (σ : Assignment) → Meets σ s ↔ Meets σ r

-- the literal z stands in the rule's term
abbrev pub Stands : ℕ → Rule → Type 0
Stands z (One x c) = x ≡ z
Stands z (Two x y c) = (x ≡ z) ⊎ (y ≡ z)
Stands z (Nothing c) = ⊥

-- the rule's term has no quantity twice, as in +q+q and +q-q
abbrev pub Distinct : Rule → Type 0
Distinct (One x c) = Unit {0}
Distinct (Two x y c) = quantity_of x ≡ quantity_of y → ⊥
Distinct (Nothing c) = Unit {0}

-- t is the sum of r and s over z: every assignment that meets both meets it; where z cancels, and the bounds' sum is a word or t is not the
-- trivial rule, it says just that both terms together are at most both bounds together; and z's quantity is gone from it
pub record Added (z : ℕ) (r s t : Rule) : Type 0 where
  pub reply : t ≡ sum_over z r s
  pub sound : (σ : Assignment) → Meets σ r → Meets σ s → Meets σ t
  pub exact : Stands z r → Stands (negated z) s → (in_word (bound_of r +ℤ bound_of s) ≡ true) ⊎ (t ≡ trivial_rule → ⊥)
      → (σ : Assignment) → Meets σ t ↔ ((term_value σ r +ℤ term_value σ s) ≤ℤ (bound_of r +ℤ bound_of s))
  pub gone : Distinct r → Distinct s → names (quantity_of z) t ≡ false
