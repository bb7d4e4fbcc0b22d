-- What a rule means, over unbounded integers and apart from any algorithm.
use Rattle.std.specs.Prelude.{Bool, false, cond, ◌||◌, true, ℕ, zero, suc, ◌%◌, eqb, ℤ, pos, negsuc, neg_ℤ, ◌+ℤ◌, ◌≤ℤ◌}
use Rattle.rules.specs.declared.rule.Rule.{Rule}
use Rattle.rules.specs.declared.rule.Rule.TheVariants.{One, Two, Nothing}
use Rattle.rules.specs.Literal.{quantity_of}

-- integers for quantities, by their numbers from 1
abbrev pub Assignment : Type 0
Assignment = ℕ → ℤ

-- the integer of a literal: that of its quantity, with its sign
unfoldable pub literal_value : Assignment → ℕ → ℤ
literal_value σ x = cond (eqb (x % 2) 0) (σ (quantity_of x)) (neg_ℤ (σ (quantity_of x)))

-- the integer of a signed quantity number, +q as q and -q as -q; that of 0, which names none, is 0
abbrev pub signed_value : Assignment → ℤ → ℤ
signed_value σ (pos zero) = pos 0
signed_value σ (pos (suc k)) = σ (suc k)
signed_value σ (negsuc k) = neg_ℤ (σ (suc k))

-- the integer of a rule's term: of one quantity, of two together, or 0 where the rule has none
abbrev pub term_value : Assignment → Rule → ℤ
term_value σ (One x c) = literal_value σ x
term_value σ (Two x y c) = literal_value σ x +ℤ literal_value σ y
term_value σ (Nothing c) = pos 0

-- the bound of a rule
abbrev pub bound_of : Rule → ℤ
bound_of (One x c) = c
bound_of (Two x y c) = c
bound_of (Nothing c) = c

-- an assignment meets a rule (document 01: satisfies it): the term is at most the bound
pub record Meets (σ : Assignment) (r : Rule) : Type 0 where
  pub met : term_value σ r ≤ℤ bound_of r

-- does a rule's term name quantity q?
unfoldable pub names : ℕ → Rule → Bool
names q (One x c) = eqb (quantity_of x) q
names q (Two x y c) = eqb (quantity_of x) q || eqb (quantity_of y) q
names q (Nothing c) = false

-- is the rule one of one or two quantities?
abbrev pub has_term : Rule → Bool
has_term (One x c) = true
has_term (Two x y c) = true
has_term (Nothing c) = false
