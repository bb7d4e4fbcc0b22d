-- Rule lines read in place order (document 02, [5]), with the place that a rule may not be before. These are steps, which compute.
use Rattle.std.specs.Prelude.{Bool, true, false, cond, Option, Some, None, List, [], ◌∷◌, ℕ, zero, suc, leb, ltb}
use Rattle.places.specs.Numbering.{place_of_one, place_of_pair}
use Rattle.rules.specs.declared.refusal.Refusal.TheVariants.{Malformed, NotCanonical}
use Rattle.rules.specs.declared.rule.Rule.{Rule}
use Rattle.rules.specs.declared.rule.Rule.TheVariants.{One, Two, Nothing}
use Rattle.rules.specs.Literal.{quantity_of}
use Rattle.lines.specs.Spelling.{Written, written_rule}
use Rattle.lines.specs.Lines.{Judged, accepted, refused, rule_judged}
use Rattle.reading.specs.Reading.{onward, rules_from}

-- where a rule's term stands that is of one quantity, or of two with the lower one first; any other rule has no place here
unfoldable pub canonical_place : Rule → Option ℕ
canonical_place (One x c) = Some (place_of_one x)
canonical_place (Two x y c) = cond (ltb (quantity_of x) (quantity_of y)) (Some (place_of_pair x y)) None
canonical_place (Nothing c) = None

-- what follows a rule at a place, which may not be before the least one; else 9 at this line
unfoldable pub from_place : {A : Type 0} → ℕ → ℕ → Option ℕ → (ℕ → Judged A) → Judged A
from_place least line (Some k) next = cond (leb least k) (next k) (refused (NotCanonical line))
from_place least line None next = refused (NotCanonical line)

-- so many rule lines, from the line of this number on, the first rule's place being the least one or after it and each other's after that of the one before; and then nothing more
unfoldable pub ordered_from : ℕ → ℕ → ℕ → ℕ → ℕ → List ℕ → Judged (List Written)
ordered_from n limit least zero line [] = accepted [] []
ordered_from n limit least zero line (b ∷ u) = refused (Malformed line)
ordered_from n limit least (suc m) line u =
    onward (rule_judged n limit line u) (λ r v.
    from_place least line (canonical_place (written_rule r)) (λ k.
    onward (ordered_from n limit (suc k) m (suc line) v) (λ rs. accepted (r ∷ rs))))

-- rule lines read in place order, from this least place on, or in any order
abbrev pub lines_by : Bool → ℕ → ℕ → ℕ → ℕ → ℕ → List ℕ → Judged (List Written)
lines_by true n limit least k line u = ordered_from n limit least k line u
lines_by false n limit least k line u = rules_from n limit k line u
