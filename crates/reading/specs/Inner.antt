-- What private functions answer; nothing here is promised to a caller.
use Rattle.std.specs.Prelude.{cond, Option, Some, None, ℕ, suc, leb}
use Rattle.rules.specs.declared.rule.Rule.{Rule}
use Rattle.reading.specs.Ordered.{canonical_place}

-- the least place of the next rule, after the place of the last one, where there is one
abbrev pub least_of : Option ℕ → ℕ
least_of None = 0
least_of (Some last) = suc last

-- a place that is not before the least one, or none
unfoldable pub not_before : ℕ → Option ℕ → Option ℕ
not_before least (Some k) = cond (leb least k) (Some k) None
not_before least None = None

-- the place of the next rule, or none where it is out of order
abbrev pub place_after : Option ℕ → Rule → Option ℕ
place_after last r = not_before (least_of last) (canonical_place r)
