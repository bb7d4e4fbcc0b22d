-- After `rule=`, each byte of a rule line is a digit, a sign, a colon or the line end (document 01, 'Text'). Assumes nothing.
use mathlib.Core.Path.{◌≡◌, refl, ◌∙◌, ap}
use mathlib.Core.Bool.{Bool, true, false, cond}
use mathlib.Core.List.{List, [], ◌∷◌, ◌++◌, append_assoc}
use Prim.Native.Nat.{ℕ, zero, suc, ◌+◌, ◌/◌, ◌%◌, ◌<◌}
use native.Mathlib.Omega.{arith}
use lib.Dec.{ltb}
use lib.IntN.{ℤ, pos, negsuc}
use borrow.Author.Tests.{ltb-true}
use Rattle.numerals.specs.declared.byte.Kind.{Kind}
use Rattle.numerals.specs.declared.byte.Kind.TheVariants.{Digit, Plus, Minus, Colon, Comma, LineEnd, Other}
use Rattle.numerals.specs.Bytes.{newline, plus, minus, digit_zero, kind_of}
use Rattle.numerals.specs.Decimal.{decimal_up_to, decimal, signed_decimal}
use Rattle.numerals.specs.Parsing.{parsed}
use Rattle.numerals.proofs.Keys.{is_digit_lem, digit_kind}
use Rattle.lines.specs.Spelling.{Term, Written, one, two, rule_key, term_text, rule_text, value_text, line_text}
use Rattle.lines.specs.Lines.{rule_line}
use Rattle.lines.proofs.Spellings.{rule_sound}

-- the kinds of these bytes
abbrev pub in_rule : Kind → Bool
in_rule Digit = true
in_rule Plus = true
in_rule Minus = true
in_rule Colon = true
in_rule Comma = false
in_rule LineEnd = true
in_rule Other = false

-- each byte is of one of them
abbrev pub RuleBytes : List ℕ → Type 0
RuleBytes [] = Unit {0}
RuleBytes (b ∷ u) = (in_rule (kind_of b) ≡ true) × RuleBytes u

-- such bytes after such bytes
append_bytes : (u v : List ℕ) → RuleBytes u → RuleBytes v → RuleBytes (u ++ v)
append_bytes [] v h l = l
append_bytes (b ∷ u) v h l = (h.0, append_bytes u v h.1 l)

-- the byte of a digit
digit_byte : (d : ℕ) → d < 10 → in_rule (kind_of (digit_zero + d)) ≡ true
digit_byte d h = ap in_rule (digit_kind (digit_zero + d) (is_digit_lem (digit_zero + d) (omega arith) (omega arith)))

-- a numeral
up_to_bytes : (k v : ℕ) → RuleBytes (decimal_up_to k v)
unfolding decimal_up_to
up_to_bytes zero v = (digit_byte (v % 10) (omega arith), tt)
up_to_bytes (suc k) v = go (ltb v 10) (ltb-true v 10) (up_to_bytes k (v / 10))
  where
    go : (t : Bool) → (t ≡ true → v < 10) → RuleBytes (decimal_up_to k (v / 10))
        → RuleBytes (cond t ((digit_zero + v) ∷ []) (decimal_up_to k (v / 10) ++ (digit_zero + v % 10) ∷ []))
    go true h front = (digit_byte v (h refl), tt)
    go false h front = append_bytes (decimal_up_to k (v / 10)) ((digit_zero + v % 10) ∷ []) front (digit_byte (v % 10) (omega arith), tt)

decimal_bytes : (v : ℕ) → RuleBytes (decimal v)
unfolding decimal
decimal_bytes v = up_to_bytes v v

-- a bound
signed_bytes : (c : ℤ) → RuleBytes (signed_decimal c)
unfolding signed_decimal kind_of
signed_bytes (pos v) = decimal_bytes v
signed_bytes (negsuc v) = (refl, decimal_bytes (suc v))

-- a sign
sign_byte : (s : Bool) → in_rule (kind_of (cond s minus plus)) ≡ true
unfolding kind_of
sign_byte true = refl
sign_byte false = refl

-- a signed quantity number
term-bytes : (x : Term) → RuleBytes (term_text x)
unfolding term_text
term-bytes x = (sign_byte x.negative, decimal_bytes x.quantity)

-- a rule's value
value_bytes : (r : Written) → RuleBytes (rule_text r)
unfolding rule_text kind_of
value_bytes (one x c) = append_bytes (term_text x) _ (term-bytes x) (refl, signed_bytes c)
value_bytes (two x y c) = append_bytes (term_text x) _ (term-bytes x) (append_bytes (term_text y) _ (term-bytes y) (refl, signed_bytes c))

-- a rule's value and its line's end
pub rule_bytes : (r : Written) → RuleBytes (rule_text r ++ newline ∷ [])
unfolding kind_of
rule_bytes r = append_bytes (rule_text r) (newline ∷ []) (value_bytes r) (refl, tt)

-- so a rule line that was read has no other byte after its key
pub rule_line_bytes : (u : List ℕ) (r : Written) (rest : List ℕ) → rule_line u ≡ parsed r rest
    → let v = rule_text r ++ newline ∷ [] in (u ≡ rule_key ++ (v ++ rest)) × RuleBytes v
unfolding line_text value_text
rule_line_bytes u r rest e = (rule_sound u r rest e ∙ append_assoc rule_key (rule_text r ++ newline ∷ []) rest, rule_bytes r)
