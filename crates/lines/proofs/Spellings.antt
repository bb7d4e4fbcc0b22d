-- Each line is read exactly where it is spelled: the bytes of a line that was read are those of the line and what follows (`-sound`), and a line
-- before any bytes is read (`-complete`). Assumes nothing.
use mathlib.Core.Path.{◌≡◌, refl, sym, ◌∙◌, ap}
use mathlib.Core.List.{List, ◌∷◌, ◌++◌}
use Prim.Native.Nat.{ℕ}
use Rattle.numerals.specs.Bytes.{newline}
use Rattle.numerals.specs.Decimal.{decimal}
use Rattle.numerals.specs.Parsing.{parsed, and_then, numeral_of}
use Rattle.numerals.proofs.Keys.{expect_append}
use Rattle.numerals.proofs.Numerals.{numeral_sound, numeral_complete}
use Rattle.lines.specs.Spelling.{Written, quantities, hidden, rules, rule, quantities_key, hidden_key, rules_key, rule_key, rule_text, list_text, value_text, line_text, IncreasingFrom}
use Rattle.lines.specs.Lines.{ended, count_line, list_of, hidden_line, term_of, after_term, rule_line}
use Rattle.lines.proofs.Forms.{by_both, both_read, by_key, ended_sound, ended_complete, line_parts}
use Rattle.lines.proofs.WrittenRules.{rule_value_sound, rule_value_complete}
use Rattle.lines.proofs.Lists.{list_sound, list_complete}

-- ---- a key and a number

-- a key and a number that were read are spelled
pub count_sound : (key u : List ℕ) (n : ℕ) (rest : List ℕ) → count_line key u ≡ parsed n rest → u ≡ key ++ (decimal n ++ newline ∷ rest)
unfolding count_line
count_sound key u n rest e = by_key key u (λ v. and_then (numeral_of v) ended) n rest e (λ v p f.
    by_both (numeral_of v) ended n rest f (λ m w q g.
    let h = ended_sound m n w rest g in
    p ∙ ap (λ (x : List ℕ). key ++ x) (numeral_sound v m w q ∙ (cc (h.0, h.1)))))

-- and read where they are spelled
pub count_complete : (key : List ℕ) (n : ℕ) (rest : List ℕ) → count_line key (key ++ (decimal n ++ newline ∷ rest)) ≡ parsed n rest
unfolding count_line
count_complete key n rest =
    expect_append key (decimal n ++ newline ∷ rest) (λ v. and_then (numeral_of v) ended)
    ∙ both_read (numeral_of (decimal n ++ newline ∷ rest)) ended n (newline ∷ rest) (numeral_complete n (newline ∷ rest) refl)
    ∙ ended_complete n rest

-- the line of the number of quantities
pub quantities_sound : (u : List ℕ) (n : ℕ) (rest : List ℕ) → count_line quantities_key u ≡ parsed n rest → u ≡ line_text (quantities n) ++ rest
unfolding value_text
quantities_sound u n rest e = count_sound quantities_key u n rest e ∙ sym (line_parts (quantities n) rest)

pub quantities_complete : (n : ℕ) (rest : List ℕ) → count_line quantities_key (line_text (quantities n) ++ rest) ≡ parsed n rest
unfolding value_text
quantities_complete n rest = ap (count_line quantities_key) (line_parts (quantities n) rest) ∙ count_complete quantities_key n rest

-- the line of the number of rules
pub rules_sound : (u : List ℕ) (m : ℕ) (rest : List ℕ) → count_line rules_key u ≡ parsed m rest → u ≡ line_text (rules m) ++ rest
unfolding value_text
rules_sound u m rest e = count_sound rules_key u m rest e ∙ sym (line_parts (rules m) rest)

pub rules_complete : (m : ℕ) (rest : List ℕ) → count_line rules_key (line_text (rules m) ++ rest) ≡ parsed m rest
unfolding value_text
rules_complete m rest = ap (count_line rules_key) (line_parts (rules m) rest) ∙ count_complete rules_key m rest

-- ---- hidden quantities

-- a line of hidden quantities that was read is spelled, and they increase
hidden_both : (u qs rest : List ℕ) → hidden_line u ≡ parsed qs rest → (u ≡ line_text (hidden qs) ++ rest) × IncreasingFrom 0 qs
unfolding hidden_line value_text
hidden_both u qs rest e = by_key hidden_key u list_of qs rest e (λ v p f.
    let h = list_sound v qs rest f in (p ∙ ap (λ (w : List ℕ). hidden_key ++ w) h.0 ∙ sym (line_parts (hidden qs) rest), h.1))

pub hidden_sound : (u qs rest : List ℕ) → hidden_line u ≡ parsed qs rest → u ≡ line_text (hidden qs) ++ rest
hidden_sound u qs rest e = (hidden_both u qs rest e).0

pub hidden_increases : (u qs rest : List ℕ) → hidden_line u ≡ parsed qs rest → IncreasingFrom 0 qs
hidden_increases u qs rest e = (hidden_both u qs rest e).1

-- and one that increases is read where it is spelled
pub hidden_complete : (qs rest : List ℕ) → IncreasingFrom 0 qs → hidden_line (line_text (hidden qs) ++ rest) ≡ parsed qs rest
unfolding hidden_line value_text
hidden_complete qs rest o =
    ap hidden_line (line_parts (hidden qs) rest)
    ∙ expect_append hidden_key (list_text qs ++ newline ∷ rest) list_of
    ∙ list_complete qs rest o

-- ---- a rule

-- a rule line that was read is spelled
pub rule_sound : (u : List ℕ) (r : Written) (rest : List ℕ) → rule_line u ≡ parsed r rest → u ≡ line_text (rule r) ++ rest
unfolding rule_line value_text
rule_sound u r rest e = by_key rule_key u (λ v. and_then (term_of v) after_term) r rest e (λ v p f.
    p ∙ ap (λ (w : List ℕ). rule_key ++ w) (rule_value_sound v r rest f) ∙ sym (line_parts (rule r) rest))

-- and read where it is spelled
pub rule_complete : (r : Written) (rest : List ℕ) → rule_line (line_text (rule r) ++ rest) ≡ parsed r rest
unfolding rule_line value_text
rule_complete r rest =
    ap rule_line (line_parts (rule r) rest)
    ∙ expect_append rule_key (rule_text r ++ newline ∷ rest) (λ v. and_then (term_of v) after_term)
    ∙ rule_value_complete r rest
