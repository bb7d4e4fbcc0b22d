-- The kinds of line under one reader: what it finds of a kind is spelled there, and a line that is spelled is found. Assumes nothing.
use mathlib.Core.Path.{◌≡◌, refl, subst}
use mathlib.Core.List.{List, ◌++◌}
use Prim.Native.Nat.{ℕ}
use Rattle.numerals.specs.Parsing.{Parsed, parsed, malformed}
use Rattle.lines.specs.Spelling.{Written, Line, quantities, hidden, rules, rule, quantities_key, rules_key, line_text, WellFormed}
use Rattle.lines.specs.Lines.{count_line, hidden_line, rule_line}
use Rattle.lines.proofs.Spellings.{quantities_sound, quantities_complete, rules_sound, rules_complete, hidden_sound, hidden_increases, hidden_complete, rule_sound, rule_complete}
use Rattle.reading.specs.Meaning.{LineKind, quantities_line, hidden-line, rules_line, rule-line, no_line, line_kind}

-- what a line of a kind writes
abbrev pub Value : LineKind → Type 0
Value quantities_line = ℕ
Value hidden-line = List ℕ
Value rules_line = ℕ
Value rule-line = Written
Value no_line = ⊥

-- the line that writes it
abbrev pub line_with : (k : LineKind) → Value k → Line
line_with quantities_line n = quantities n
line_with hidden-line qs = hidden qs
line_with rules_line m = rules m
line_with rule-line r = rule r
line_with no_line a = absurd a

-- the reader of a kind
abbrev pub reader : (k : LineKind) → List ℕ → Parsed (Value k)
reader quantities_line u = count_line quantities_key u
reader hidden-line u = hidden_line u
reader rules_line u = count_line rules_key u
reader rule-line u = rule_line u
reader no_line u = malformed

-- a line is of its kind, and writes a value of this kind
pub line_with_kind : (k : LineKind) (a : Value k) → line_kind (line_with k a) ≡ k
line_with_kind quantities_line n = refl
line_with_kind hidden-line qs = refl
line_with_kind rules_line m = refl
line_with_kind rule-line r = refl
line_with_kind no_line a = absurd a

value-at : (l : Line) → (a : Value (line_kind l)) × (line_with (line_kind l) a ≡ l)
value-at (quantities n) = (n, refl)
value-at (hidden qs) = (qs, refl)
value-at (rules m) = (m, refl)
value-at (rule r) = (r, refl)

pub value_of : (k : LineKind) (l : Line) → line_kind l ≡ k → (a : Value k) × (line_with k a ≡ l)
value_of k l e = subst (λ (k : LineKind). (a : Value k) × (line_with k a ≡ l)) e (value-at l)

-- so no line is of no kind
pub some_kind : (l : Line) → line_kind l ≡ no_line → ⊥
some_kind l e = (value_of no_line l e).0

-- what is found is spelled, and well formed
pub reader_sound : (k : LineKind) (u : List ℕ) (a : Value k) (rest : List ℕ) → reader k u ≡ parsed a rest
    → (u ≡ line_text (line_with k a) ++ rest) × WellFormed (line_with k a)
reader_sound quantities_line u n rest e = (quantities_sound u n rest e, tt)
reader_sound hidden-line u qs rest e = (hidden_sound u qs rest e, hidden_increases u qs rest e)
reader_sound rules_line u m rest e = (rules_sound u m rest e, tt)
reader_sound rule-line u r rest e = (rule_sound u r rest e, tt)
reader_sound no_line u a rest e = absurd a

-- what is spelled, and well formed, is found
pub reader_complete : (k : LineKind) (a : Value k) (rest : List ℕ) → WellFormed (line_with k a)
    → reader k (line_text (line_with k a) ++ rest) ≡ parsed a rest
reader_complete quantities_line n rest f = quantities_complete n rest
reader_complete hidden-line qs rest f = hidden_complete qs rest f
reader_complete rules_line m rest f = rules_complete m rest
reader_complete rule-line r rest f = rule_complete r rest
reader_complete no_line a rest f = absurd a
