-- A rule as the numbers by which it is handed out: document 01's values, and three words for hosts.
use Rattle.std.specs.Prelude.{List, [], ◌∷◌, ℤ, pos, get_or}
use Rattle.rules.specs.declared.rule.Rule.{Rule}
use Rattle.rules.specs.declared.rule.Rule.TheVariants.{One, Two, Nothing}
use Rattle.rules.specs.Literal.{signed_of}
use Rattle.rules.specs.Steps.{rule_of}

-- a rule that is carried: its signed quantity numbers and its bound; nothing where it is none
abbrev pub rule_values : Rule → List ℤ
rule_values (One x c) = signed_of x ∷ c ∷ []
rule_values (Two x y c) = signed_of x ∷ signed_of y ∷ c ∷ []
rule_values (Nothing c) = []

-- three words that are no rule
abbrev pub no_rule_words : List ℤ
no_rule_words = pos 0 ∷ pos 0 ∷ pos 0 ∷ []

-- the same as three words for a host, which document 01 does not have: two signed quantity numbers, 0 for one that is not there, and the bound; all 0 where it is none
abbrev pub rule_words : Rule → List ℤ
rule_words (One x c) = signed_of x ∷ pos 0 ∷ c ∷ []
rule_words (Two x y c) = signed_of x ∷ signed_of y ∷ c ∷ []
rule_words (Nothing c) = no_rule_words

-- the rule of three words: the one that the constructor makes of them
abbrev pub rule_of_words : List ℤ → Rule
rule_of_words words = rule_of (get_or words 0 (pos 0)) (get_or words 1 (pos 0)) (get_or words 2 (pos 0))
