-- What private functions are asked: the pieces of a text that they measure and put, one after the other. No caller needs any of it.
use Rattle.std.specs.Prelude.{◌≡◌, cond, List, [], ◌∷◌, ◌++◌, ℕ, ◌+◌, ◌^◌, ◌<◌, eqb, ℤ, length}
use Rattle.std.specs.Int.Signed.{mag}
use Rattle.words.specs.Change.{word_at}
use Rattle.rules.specs.declared.rule.Rule.{Rule}
use Rattle.rules.specs.declared.rule.Rule.TheVariants.{One, Two, Nothing}
use Rattle.rules.specs.Hidden.{hidden_in}
use Rattle.tables.specs.Places.{rule_at}
use Rattle.tables.specs.Tables.{has_rule}
use Rattle.numerals.specs.Bytes.{comma, colon}
use Rattle.numerals.specs.Decimal.{decimal, signed_decimal}
use Rattle.lines.specs.Spelling.{quantities, hidden, rules, term_text, list_text}
use Rattle.reading.specs.Texts.{rule_lines, lines_text}
use Rattle.writing.specs.declared.write.Measure.{Measure}
use Rattle.writing.specs.Writing.{literal_term, rule_line_text, rules_at, hidden_list}

-- ---- a rule's line

-- a bound with the colon before it
abbrev pub bound_text : ℤ → List ℕ
bound_text c = colon ∷ signed_decimal c

-- a rule's value, its terms in their order and its bound; a bare rule's is empty
unfoldable pub rule_value_text : Rule → List ℕ
rule_value_text (One x c) = term_text (literal_term x) ++ bound_text c
rule_value_text (Two x y c) = term_text (literal_term x) ++ term_text (literal_term y) ++ bound_text c
rule_value_text (Nothing c) = []

-- ---- the lines of a table's rules

-- the line of the rule that the word of place k holds, where it holds one
unfoldable pub place_text : ℕ → ℤ → List ℕ
place_text k w = cond (has_rule w) (rule_line_text (rule_at k w)) []

-- the lines of the rules that words hold, the first being the word of place 0
unfoldable pub rules_text : List ℤ → List ℕ
rules_text t = lines_text (rule_lines (rules_at 0 t))

-- how many rules words of 64 bits hold, and how many bytes their lines take
pub record Measured (t : List ℤ) (r : Measure) : Type 0 where
  pub words : (k : ℕ) → k < length t → mag (word_at t k) < 2 ^ 63
  pub counted : r.rules ≡ length (rules_at 0 t)
  pub measured : r.bytes ≡ length (rules_text t)

-- the same with the word of place k more
pub record MeasuredMore (k : ℕ) (w : ℤ) (before after : Measure) : Type 0 where
  pub counted : after.rules ≡ before.rules + cond (has_rule w) 1 0
  pub measured : after.bytes ≡ before.bytes + length (place_text k w)

-- ---- the lines before them

-- what the list's text gets from quantity j + 1: its number, after a comma where others are before it
unfoldable pub member_text : ℕ → ℕ → List ℕ
member_text set j =
    cond (hidden_in set (j + 1)) (cond (eqb (length (list_text (hidden_list j set))) 0) (decimal (j + 1)) (comma ∷ decimal (j + 1))) []

-- the three lines before m rules
unfoldable pub head_text : ℕ → ℕ → ℕ → List ℕ
head_text n set m = lines_text (quantities n ∷ hidden (hidden_list n set) ∷ rules m ∷ [])
