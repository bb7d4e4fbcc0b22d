-- The sums of a step are those that the rule's own method hands back: `sum_over`, wherever the two bounds' sum is a word, as it is where words add. Assumes nothing.
use mathlib.Core.Path.{◌≡◌, sym, ◌∙◌, ap}
use mathlib.Core.Bool.{true}
use mathlib.Core.List.{List}
use Prim.Native.Nat.{ℕ, ◌+◌, ◌*◌}
use native.Mathlib.Omega.{arith}
use lib.IntN.{ℤ, ◌+ℤ◌}
use Rattle.integers.specs.Bound.{Within, in_word}
use Rattle.integers.proofs.Parts.{word_in_word}
use Rattle.integers.proofs.Within.{sum_word}
use Rattle.places.specs.Numbering.{block_start}
use Rattle.rules.specs.declared.rule.Rule.{Rule}
use Rattle.rules.specs.Literal.{negated}
use Rattle.rules.specs.Meaning.{bound_of}
use Rattle.rules.specs.Steps.{sum_over}
use Rattle.rules.proofs.Meanings.{stands_present, rest_word, fitted_word}
use Rattle.tables.specs.Meaning.{WordsWithin}
use Rattle.tables.proofs.Places.{rule_at_bound}
use Rattle.elimination.specs.ByRules.{RuleWith, IsSum}
use Rattle.elimination.specs.Magnitude.{add_limit}

-- -q is the negation of +q
minus_negated : (j : ℕ) → negated (2 * j) ≡ 2 * j + 1
minus_negated j = omega arith

-- where the bounds' sum is a word, the sum of the step is the sum of the rules
pub sum_over_lem : (n j : ℕ) (t : List ℤ) (u : Rule) (s : IsSum n j t u) → in_word (bound_of s.plus +ℤ bound_of s.minus) ≡ true
    → u ≡ sum_over (2 * j) s.plus s.minus
unfolding sum_over
sum_over_lem n j t u s w =
    let plus = stands_present (2 * j) s.plus s.with_plus.stands in
    let minus = stands_present (2 * j + 1) s.minus s.with_minus.stands in
    s.is ∙ sym (rw (minus_negated j) (fitted_word _ (rest_word _ _ _ plus minus w)))

-- a rule of a table whose words add has a bound that adds
bound_adds : (n z : ℕ) (t : List ℤ) (r : Rule) → WordsWithin (block_start n) add_limit t → RuleWith n z t r → Within add_limit (bound_of r)
bound_adds n z t r w p =
    rw (ap bound_of p.is ∙ rule_at_bound p.place _) (w.each p.place p.holds.inside p.holds.there p.holds.rule)

-- so there every sum of the step is one
pub sums_over : (n j : ℕ) (t : List ℤ) → WordsWithin (block_start n) add_limit t → (u : Rule) (s : IsSum n j t u) → u ≡ sum_over (2 * j) s.plus s.minus
sums_over n j t w u s = sum_over_lem n j t u s
    (word_in_word (sum_word {A = 4611686018427387903} {B = 4611686018427387903} (omega arith)
    (bound_adds n (2 * j) t s.plus w s.with_plus) (bound_adds n (2 * j + 1) t s.minus w s.with_minus)))
