-- The value of a rule's term, counted with words.
use Rattle.std.specs.Prelude.{ℤ, pos, ◌+ℤ◌}
use Rattle.integers.specs.Bound.{saturated}
use Rattle.rules.specs.declared.rule.Rule.{Rule}
use Rattle.rules.specs.declared.rule.Rule.TheVariants.{One, Two, Nothing}
use Rattle.rules.specs.Meaning.{Assignment, literal_value}

-- the word nearest to the value of a rule's term: the literals' values are taken as the nearest words, and so is their sum. It is the value itself where these
-- are words
unfoldable pub term_word : Assignment → Rule → ℤ
term_word σ (One x c) = saturated (literal_value σ x)
term_word σ (Two x y c) = saturated (saturated (literal_value σ x) +ℤ saturated (literal_value σ y))
term_word σ (Nothing c) = pos 0
