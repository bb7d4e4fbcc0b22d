-- How the lines of a text are spelled (document 01, 'Text'), with numbers of any size, and the limits of these numbers. No reading is in it.
use Rattle.std.specs.Prelude.{Bool, true, false, cond, not, ◌&&◌, List, [], ◌∷◌, ◌++◌, ℕ, suc, ◌≤◌, leb, eqb, ℤ, pos, neg_ℤ, nat_abs}
use Rattle.std.specs.Bool.{beq}
use Rattle.numerals.specs.Bytes.{bytes, newline, plus, comma, minus, colon}
use Rattle.numerals.specs.Decimal.{decimal, signed_decimal}
use Rattle.rules.specs.declared.rule.Rule.{Rule}
use Rattle.rules.specs.Limits.{max_quantities, max_rules}
use Rattle.rules.specs.Steps.{rule_of}
use Rattle.rules.specs.Literal.{quantity_within}

-- the keys
abbrev pub quantities_key : List ℕ
quantities_key = bytes "quantities="

abbrev pub hidden_key : List ℕ
hidden_key = bytes "hidden="

abbrev pub rules_key : List ℕ
rules_key = bytes "rules="

abbrev pub rule_key : List ℕ
rule_key = bytes "rule="

-- a signed quantity number: its sign, and the number
pub record Term : Type 0 where
  pub negative : Bool
  pub quantity : ℕ

-- a rule as it is written: one or two signed quantity numbers in their order, and a bound
pub data Written : Type 0 where
  one : Term → ℤ → Written
  two : Term → Term → ℤ → Written

-- what one line writes
pub data Line : Type 0 where
  quantities : ℕ → Line
  hidden : List ℕ → Line
  rules : ℕ → Line
  rule : Written → Line

-- ---- spelling

unfoldable pub term_text : Term → List ℕ
term_text x = cond x.negative minus plus ∷ decimal x.quantity

-- a rule's value. That after `rule=` each byte of its line is a digit, a sign, a colon or the line end is a law of this spelling (`rule_bytes`)
unfoldable pub rule_text : Written → List ℕ
rule_text (one x c) = term_text x ++ (colon ∷ signed_decimal c)
rule_text (two x y c) = term_text x ++ (term_text y ++ (colon ∷ signed_decimal c))

-- numbers joined by commas
unfoldable pub joined_text : ℕ → List ℕ → List ℕ
joined_text q [] = decimal q
joined_text q (p ∷ ps) = decimal q ++ (comma ∷ joined_text p ps)

unfoldable pub list_text : List ℕ → List ℕ
list_text [] = []
list_text (q ∷ qs) = joined_text q qs

-- a line after its key, without its end
unfoldable pub value_text : Line → List ℕ
value_text (quantities n) = decimal n
value_text (hidden qs) = list_text qs
value_text (rules m) = decimal m
value_text (rule r) = rule_text r

abbrev pub key_text : Line → List ℕ
key_text (quantities n) = quantities_key
key_text (hidden qs) = hidden_key
key_text (rules m) = rules_key
key_text (rule r) = rule_key

-- a line with its end
unfoldable pub line_text : Line → List ℕ
line_text l = key_text l ++ (value_text l ++ newline ∷ [])

-- numbers that increase, the first being at least this
abbrev pub IncreasingFrom : ℕ → List ℕ → Type 0
IncreasingFrom least [] = Unit {0}
IncreasingFrom least (q ∷ qs) = (least ≤ q) × IncreasingFrom (suc q) qs

-- a list that does not increase is malformed
abbrev pub WellFormed : Line → Type 0
WellFormed (quantities n) = Unit {0}
WellFormed (hidden qs) = IncreasingFrom 0 qs
WellFormed (rules m) = Unit {0}
WellFormed (rule r) = Unit {0}

-- ---- limits

abbrev pub all_within : ℕ → List ℕ → Bool
all_within n [] = true
all_within n (q ∷ qs) = quantity_within n q && all_within n qs

-- the quantity numbers of a rule are of 1 to n, and its bound, as it is written, is at most `limit` in magnitude
abbrev pub rule_within : ℕ → ℕ → Written → Bool
rule_within n limit (one x c) = quantity_within n x.quantity && leb (nat_abs c) limit
rule_within n limit (two x y c) = quantity_within n x.quantity && quantity_within n y.quantity && leb (nat_abs c) limit

-- the numbers of a line are in their limits, in a text over n quantities with bounds up to `limit`
unfoldable pub line_within : ℕ → ℕ → Line → Bool
line_within n limit (quantities m) = quantity_within max_quantities m
line_within n limit (hidden qs) = all_within n qs
line_within n limit (rules m) = leb m max_rules
line_within n limit (rule r) = rule_within n limit r

-- `+q-q` or `-q+q`
unfoldable pub cancelling : Written → Bool
cancelling (one x c) = false
cancelling (two x y c) = eqb x.quantity y.quantity && not (beq x.negative y.negative)

abbrev pub line_cancels : Line → Bool
line_cancels (quantities m) = false
line_cancels (hidden qs) = false
line_cancels (rules m) = false
line_cancels (rule r) = cancelling r

-- ---- what is written

-- a signed quantity number as an integer
abbrev pub signed_quantity : Term → ℤ
signed_quantity x = cond x.negative (neg_ℤ (pos x.quantity)) (pos x.quantity)

-- the rule that is written, its terms in their order and a doubled one doubled
unfoldable pub written_rule : Written → Rule
written_rule (one x c) = rule_of (signed_quantity x) (pos 0) c
written_rule (two x y c) = rule_of (signed_quantity x) (signed_quantity y) c

abbrev pub written_rules : List Written → List Rule
written_rules [] = []
written_rules (r ∷ rs) = written_rule r ∷ written_rules rs
