-- The line of a rule by the parts that are written one after the other, and how long they are. Assumes nothing.
use mathlib.Core.Path.{◌≡◌, refl, sym, ◌∙◌, ap}
use mathlib.Core.Bool.{Bool, true, false, cond}
use mathlib.Core.List.{List, [], ◌∷◌, ◌++◌, append_assoc}
use Prim.Native.Nat.{ℕ, suc, ◌+◌, ◌*◌, ◌%◌, ◌^◌, ◌≤◌, ◌<◌}
use native.Mathlib.Omega.{arith}
use lib.Dec.{eqb}
use lib.IntN.{ℤ, pos, negsuc}
use lib.ListN.{length, length-append}
use mir.Syntax.{w64}
use mir.Val.{SFits}
use Rattle.numerals.specs.Bytes.{newline, plus, minus}
use Rattle.numerals.specs.Decimal.{decimal, signed_decimal}
use Rattle.numerals.proofs.Decimals.{decimal_width, signed-width}
use Rattle.places.specs.Numbering.{is_one, higher_at, lower_at}
use Rattle.rules.specs.declared.rule.Rule.{Rule}
use Rattle.rules.specs.declared.rule.Rule.TheVariants.{One, Two, Nothing}
use Rattle.rules.specs.Limits.{max_quantities, max_rules}
use Rattle.rules.specs.Literal.{quantity_of}
use Rattle.rules.specs.Meaning.{bound_of}
use Rattle.tables.specs.Places.{rule_at, HasPlace}
use Rattle.lines.specs.Spelling.{rule_key, rule, term_text, rule_text, value_text, line_text}
use Rattle.writing.specs.Writing.{literal_term, written_of, rule_line_text, count_text}
use Rattle.writing.specs.Inner.{bound_text, rule_value_text}

-- ---- a key and a number

-- a line of a key and a number, as it is written
pub count-text : (key : List ℕ) (v : ℕ) → count_text key v ≡ key ++ decimal v ++ newline ∷ []
unfolding count_text
count-text key v = sym (append_assoc key (decimal v) (newline ∷ []))

-- its length
pub count_length : (key : List ℕ) (v : ℕ) → length (count_text key v) ≡ length key + length (decimal v) + 1
unfolding count_text
count_length key v = simp length-append (omega arith)

-- a count of rules, and so one of quantities, has at most 4 digits
pub numeral_short : (v : ℕ) → v ≤ max_rules → length (decimal v) ≤ 4
numeral_short v h = decimal_width 3 v (omega arith)

-- ---- a literal

-- its sign and its quantity's number
pub term-text : (x : ℕ) {b q : ℕ} → q ≡ quantity_of x → cond (eqb (x % 2) 1) minus plus ≡ b
    → term_text (literal_term x) ≡ (b ∷ []) ++ decimal q
unfolding term_text
term-text x e f = rw (f, e)

-- one byte more than the number
pub term_length : (x : ℕ) → length (term_text (literal_term x)) ≡ suc (length (decimal (quantity_of x)))
unfolding term_text
term_length x = refl

-- a literal of 32 bits has at most 11
pub literal_small : (x : ℕ) → x < 2 ^ 32 → length (term_text (literal_term x)) ≤ 11
literal_small x h = omega (arith, term_length x, decimal_width 9 (quantity_of x) (omega arith))

-- so it is with the number of a quantity that was told
pub term_told : (x : ℕ) {q w : ℕ} → x < 2 ^ 32 → q ≡ quantity_of x → w ≡ length (decimal q)
    → (1 + w ≡ length (term_text (literal_term x))) × (1 + w ≤ 11)
term_told x h e f = let g = f ∙ ap (λ (k : ℕ). length (decimal k)) e in (omega (arith, g, term_length x), omega (arith, g, term_length x, literal_small x h))

-- ---- a rule's value

-- of one literal
pub value_one : {x : ℕ} {c : ℤ} {r : Rule} → r ≡ One x c → rule_value_text r ≡ term_text (literal_term x) ++ bound_text c
unfolding rule_value_text
value_one e = ap rule_value_text e

-- of two
pub value_two : {x y : ℕ} {c : ℤ} {r : Rule} → r ≡ Two x y c
    → rule_value_text r ≡ term_text (literal_term x) ++ term_text (literal_term y) ++ bound_text c
unfolding rule_value_text
value_two e = ap rule_value_text e

-- of none
pub value_bare : {c : ℤ} {r : Rule} → r ≡ Nothing c → rule_value_text r ≡ []
unfolding rule_value_text
value_bare e = ap rule_value_text e

-- its length, of one literal
pub value_one_length : {x : ℕ} {c : ℤ} {r : Rule} → r ≡ One x c
    → length (rule_value_text r) ≡ length (term_text (literal_term x)) + length (bound_text c)
value_one_length {x} {c} e = rw (value_one e) (length-append (term_text (literal_term x)) (bound_text c))

-- and of two
pub value_two_length : {x y : ℕ} {c : ℤ} {r : Rule} → r ≡ Two x y c
    → length (rule_value_text r) ≡ length (term_text (literal_term x)) + length (term_text (literal_term y)) + length (bound_text c)
value_two_length e = rw (value_two e) (simp length-append)

-- ---- a rule's line

-- the key, the value and the line's end
pub rule-line : (r : Rule) → rule_line_text r ≡ rule_key ++ rule_value_text r ++ newline ∷ []
unfolding line_text value_text rule_text written_of rule_value_text
rule-line (One x c) = simp append_assoc
rule-line (Two x y c) = simp append_assoc
rule-line (Nothing c) = refl

-- at a place of a table it is the line of the rule as it is written
pub place_line : (k : ℕ) (w : ℤ) → rule_line_text (rule_at k w) ≡ line_text (rule (written_of (rule_at k w)))
unfolding rule_at
place_line k w = go (is_one k)
  where
    at_place : Bool → Rule
    at_place b = cond b (One (higher_at k) w) (Two (lower_at k) (higher_at k) w)

    go : (b : Bool) → rule_line_text (at_place b) ≡ line_text (rule (written_of (at_place b)))
    go true = refl
    go false = refl

-- ---- how long it is

-- a line has the key, the value and its end
pub line_length : (r : Rule) → length (rule_line_text r) ≡ 6 + length (rule_value_text r)
line_length r = rw (rule-line r) (simp length-append (omega arith))

-- a word has at most this many as a numeral, 19 digits and the sign
abbrev pub word_width : ℕ
word_width = 20

pub word_short : (c : ℤ) → SFits w64 c → length (signed_decimal c) ≤ word_width
word_short (pos v) f = signed-width 18 (pos v) (omega (arith, f.sfits))
word_short (negsuc v) f = signed-width 18 (negsuc v) (omega (arith, f.sfits))

-- a literal of a sheet has at most 3
literal_short : (x : ℕ) → x < 2 * max_quantities → length (term_text (literal_term x)) ≤ 3
literal_short x h = omega (arith, term_length x, decimal_width 1 (quantity_of x) (omega arith))

-- so the line of a table's rule has at most this many beside its bound's numeral: the key, two literals, the colon and the line's end
abbrev pub line_beside : ℕ
line_beside = 13

pub line_short : (n k : ℕ) (r : Rule) → n ≤ max_quantities → HasPlace n r → length (signed_decimal (bound_of r)) ≤ k
    → length (rule_line_text r) ≤ line_beside + k
line_short n k (One x c) h p l = omega (arith, line_length (One x c), value_one_length {x = x} {c = c} refl, literal_short x (omega arith))
line_short n k (Two x y c) h p l =
    let a = literal_short x (omega (arith, p.0)) in
    let b = literal_short y (omega (arith, p.1)) in
    omega (arith, line_length (Two x y c), value_two_length {x = x} {y = y} {c = c} refl)
line_short n k (Nothing c) h p l = absurd p
