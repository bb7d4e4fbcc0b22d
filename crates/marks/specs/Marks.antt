-- Marks (document 02, [6]): whether the bound of a rule lost a half when it was halved, or rests on one that did. A mark never changes a bound.
use Rattle.std.specs.Prelude.{Bool, true, false, cond, ◌&&◌, ◌||◌, ◌≡◌, List, [], ◌∷◌, ℕ, eqb, ℤ, ◌+ℤ◌, get_or, Some}
use Rattle.std.specs.Int.Signed.{lt_z}
use Rattle.integers.specs.Bound.{half, odd, smaller}
use Rattle.words.specs.Change.{word_at}
use Rattle.rules.specs.declared.rule.Rule.{Rule}
use Rattle.rules.specs.Limits.{no_rule}
use Rattle.rules.specs.Meaning.{bound_of}
use Rattle.rules.specs.Steps.{halved_of, loses_half}
use Rattle.tables.specs.Places.{find_place}
use Rattle.tables.specs.Tables.{has_rule, is_at, smallest_at}

-- the word of a place with its mark
pub record Marked : Type 0 where
  pub bound : ℤ
  pub mark : Bool

-- a place without a rule, which has no mark
abbrev pub unruled : Marked
unruled = record { bound = no_rule; mark = false }

-- does the place have a rule?
abbrev pub holds : Marked → Bool
holds w = has_rule w.bound

-- two rules meet at a place: the smaller bound stays, with its mark; "where two rules of equal bound meet, the unmarked one is kept"
unfoldable pub meet : Marked → Marked → Marked
meet v w = record {
  bound = smaller v.bound w.bound;
  mark = cond (lt_z w.bound v.bound) w.mark (cond (lt_z v.bound w.bound) v.mark (v.mark && w.mark));
}

-- "a sum is marked when either of its rules was,
unfoldable pub marked_sum : Marked → Marked → Marked
marked_sum v w = record { bound = v.bound +ℤ w.bound; mark = v.mark || w.mark }

-- or when its own halving was odd"
unfoldable pub marked_half : Marked → Marked
marked_half v = record { bound = half v.bound; mark = v.mark || odd v.bound }

-- a place with the sum of two rules put in, and with the sum halved; it stays where either is no rule
unfoldable pub with_marked_sum : Marked → Marked → Marked → Marked
with_marked_sum a b w = cond (holds a && holds b) (meet w (marked_sum a b)) w

unfoldable pub with_marked_half : Marked → Marked → Marked → Marked
with_marked_half a b w = cond (holds a && holds b) (meet w (marked_half (marked_sum a b))) w

-- ---- a table with marks

-- the mark of a place; 0 past the end
abbrev pub byte_at : List ℕ → ℕ → ℕ
byte_at marks k = get_or marks k 0

-- the places of a table and of its marks. What stands beside a place without a rule is no mark
unfoldable pub marked_of : List ℤ → List ℕ → ℕ → Marked
marked_of t marks k = record { bound = word_at t k; mark = has_rule (word_at t k) && eqb (byte_at marks k) 1 }

-- ---- rules with marks: "rules read from text as doubled terms follow the same rule"

-- a rule as it goes to its place, a doubled term halved
abbrev pub marked_rule : Rule → Marked
marked_rule r = record { bound = bound_of (halved_of r); mark = loses_half r }

-- what the rules of a list leave at a place
unfoldable pub marked_at : ℕ → List Rule → Marked
marked_at k [] = unruled
marked_at k (r ∷ rs) = cond (is_at k (find_place (halved_of r))) (meet (marked_rule r) (marked_at k rs)) (marked_at k rs)

-- by meaning: every rule of a list whose place is this and whose bound, a doubled term halved, is c loses a half
abbrev pub AllLose : ℕ → ℤ → List Rule → Type 0
AllLose k c [] = Unit {0}
AllLose k c (r ∷ rs) = (find_place (halved_of r) ≡ Some k → bound_of (halved_of r) ≡ c → loses_half r ≡ true) × AllLose k c rs

-- a place has a rule, and every rule of the list that has the smallest bound there loses a half
pub record RestsOnHalves (k : ℕ) (rules : List Rule) : Type 0 where
  pub ruled : has_rule (smallest_at k rules) ≡ true
  pub lose : AllLose k (smallest_at k rules) rules
