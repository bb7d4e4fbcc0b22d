-- How a value is chosen for a quantity, which document 01 leaves free ('Finding an assignment'): the integer nearest to 0, where its rules leave one.
-- Its rules with + bound it from above; those with - bound its negation from above, and so it from below. Feasible.antt says which integers the rules
-- leave, apart from these steps; that the value is the nearest to 0 of them is promised where one is chosen.
use Rattle.std.specs.Prelude.{Bool, cond, List, ℕ, zero, suc, ◌+◌, ◌*◌, ◌/◌, ℤ, pos, neg_ℤ, ◌+ℤ◌}
use Rattle.integers.specs.Bound.{smaller}
use Rattle.rules.specs.Meaning.{literal_value}
use Rattle.tables.specs.Tables.{has_rule}
use Rattle.tables.specs.Meaning.{assignment_of}
use Rattle.elimination.specs.Hiding.{pair_word, lone_word}

-- v lowered to what a bound leaves when the rest of its term has the value a; v where there is no rule
unfoldable pub with_upper : ℤ → ℤ → ℤ → ℤ
with_upper bound a v = cond (has_rule bound) (smaller v (bound +ℤ neg_ℤ a)) v

-- v lowered by the bounds `row x` of a literal with each literal x of a live quantity below the number given, which has the value `value x`
unfoldable pub with_uppers : (ℕ → Bool) → (ℕ → ℤ) → (ℕ → ℤ) → ℕ → ℤ → ℤ
with_uppers live value row zero v = v
with_uppers live value row (suc x) v = cond (live (x / 2)) (with_upper (row x) (value x) (with_uppers live value row x v)) (with_uppers live value row x v)

-- and by the bound of the literal alone
unfoldable pub bounded_by : (ℕ → Bool) → (ℕ → ℤ) → (ℕ → ℤ) → ℤ → ℕ → ℤ → ℤ
bounded_by live value row alone x v = with_uppers live value row x (with_upper alone (pos 0) v)

-- the integer nearest to 0 that the bounds of q and of -q leave, where they leave one: with x by `plus x` and `minus x`, alone by p and m
unfoldable pub chosen : (ℕ → Bool) → (ℕ → ℤ) → (ℕ → ℤ) → (ℕ → ℤ) → ℤ → ℤ → ℕ → ℤ
chosen live value plus minus p m x = neg_ℤ (bounded_by live value minus m x (neg_ℤ (bounded_by live value plus p x (pos 0))))

-- ---- in a table over n quantities, given the values of the live ones

-- the value chosen for quantity j + 1
unfoldable pub choice : (ℕ → Bool) → ℕ → List ℤ → ℕ → List ℤ → ℤ
choice live n t j values =
    chosen live (literal_value (assignment_of values)) (pair_word t (2 * j)) (pair_word t (2 * j + 1)) (lone_word t (2 * j)) (lone_word t (2 * j + 1)) (2 * n)
