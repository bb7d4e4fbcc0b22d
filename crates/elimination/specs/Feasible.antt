-- Which integers the rules of one quantity leave it, given the values of others, the live ones: over unbounded integers, and apart from how one is chosen.
use Rattle.std.specs.Prelude.{Bool, true, List, ◌⊎◌, ◌≡◌, ℕ, suc, eqb, ℤ}
use Rattle.rules.specs.Meaning.{Assignment, Meets, names}
use Rattle.tables.specs.Meaning.{HoldsRule, rule_in, joined}

-- an assignment meets the rules of quantity j + 1 in a table over n quantities, alone and with live ones: those that name it and no other that is not live
pub record MeetsOwn (live : ℕ → Bool) (n j : ℕ) (t : List ℤ) (σ : Assignment) : Type 0 where
  pub each : (k : ℕ) → HoldsRule n t k → names (suc j) (rule_in t k) ≡ true
      → ((i : ℕ) → names (suc i) (rule_in t k) ≡ true → (i ≡ j) ⊎ (live i ≡ true))
      → Meets σ (rule_in t k)

-- these rules leave the quantity the integer v, the live ones having their integers from σ: with v for the quantity, all are met
abbrev pub Feasible : (ℕ → Bool) → ℕ → ℕ → List ℤ → Assignment → ℤ → Type 0
Feasible live n j t σ v = MeetsOwn live n j t (joined (eqb (suc j)) σ (λ q. v))
