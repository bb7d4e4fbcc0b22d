-- A text as it is spelled (document 01, 'Text'): three header lines and the lines of the rules. Sheets and scripts have one form.
use Rattle.std.specs.Prelude.{List, [], ◌∷◌, ◌++◌, ℕ, length}
use Rattle.lines.specs.Spelling.{Written, Line, quantities, hidden, rules, rule, line_text}

-- what a text writes: n, the hidden list, and the rules in their order
pub record Contents : Type 0 where
  pub count : ℕ
  pub hiddens : List ℕ
  pub written : List Written

-- a rule line for each rule
abbrev pub rule_lines : List Written → List Line
rule_lines [] = []
rule_lines (r ∷ rs) = rule r ∷ rule_lines rs

-- the three lines before the rules; the third has the number of rules
abbrev pub header_lines : Contents → List Line
header_lines c = quantities c.count ∷ hidden c.hiddens ∷ rules (length c.written) ∷ []

-- lines, one after the other
unfoldable pub lines_text : List Line → List ℕ
lines_text [] = []
lines_text (l ∷ ls) = line_text l ++ lines_text ls

unfoldable pub header_text : Contents → List ℕ
header_text c = lines_text (header_lines c)

-- the text of its contents
unfoldable pub sheet_text : Contents → List ℕ
sheet_text c = header_text c ++ lines_text (rule_lines c.written)
