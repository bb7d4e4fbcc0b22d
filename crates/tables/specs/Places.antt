-- Which rule each place of a table holds, and which quantities it names (document 01, 'The table').
use Rattle.std.specs.Prelude.{cond, ◌≡◌, ℕ, ◌*◌, ◌<◌, ℤ, Option, Some, None}
use Rattle.rules.specs.declared.rule.Rule.{Rule}
use Rattle.rules.specs.declared.rule.Rule.TheVariants.{One, Two, Nothing}
use Rattle.rules.specs.Literal.{quantity_of}
use Rattle.places.specs.Numbering.{place_of_one, find_two, is_one, higher_at, lower_at}

-- the rule of place k with the bound c, the lower quantity first
unfoldable pub rule_at : ℕ → ℤ → Rule
rule_at k c = cond (is_one k) (One (higher_at k) c) (Two (lower_at k) (higher_at k) c)

-- a rule has a place in a table over n quantities: it is of one of them, or of two different ones
abbrev pub HasPlace : ℕ → Rule → Type 0
HasPlace n (One x c) = x < 2 * n
HasPlace n (Two x y c) = (x < 2 * n) × (y < 2 * n) × (quantity_of x ≡ quantity_of y → ⊥)
HasPlace n (Nothing c) = ⊥

-- where a rule's term stands; a doubled term, one that cancels and a bare rule have no place
unfoldable pub find_place : Rule → Option ℕ
find_place (One x c) = Some (place_of_one x)
find_place (Two x y c) = find_two x y
find_place (Nothing c) = None
