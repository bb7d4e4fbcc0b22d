-- The text of a table and a hidden set (document 01, 'Text'): the lower quantity first, rules in place order, absent places skipped, N being their count.
use Rattle.std.specs.Prelude.{Bool, false, cond, Result, Ok, Err, List, [], ◌∷◌, ◌++◌, ℕ, zero, suc, ◌%◌, leb, eqb, ℤ, pos, length, take, drop}
use Rattle.places.specs.Numbering.{block_start}
use Rattle.rules.specs.declared.rule.Rule.{Rule}
use Rattle.rules.specs.declared.rule.Rule.TheVariants.{One, Two, Nothing}
use Rattle.rules.specs.declared.refusal.Refusal.{Refusal}
use Rattle.rules.specs.declared.refusal.Refusal.TheVariants.{Size, OutOfLimit, TooShort}
use Rattle.rules.specs.Hidden.{hidden_in, set_within}
use Rattle.rules.specs.Literal.{quantity_of}
use Rattle.rules.specs.Refusal.{Returned, refused_as, refusal_value}
use Rattle.tables.specs.Places.{rule_at}
use Rattle.tables.specs.Tables.{has_rule, serves}
use Rattle.tables.specs.Replies.{Reply, is_done, check}
use Rattle.numerals.specs.Bytes.{newline}
use Rattle.numerals.specs.Decimal.{decimal}
use Rattle.lines.specs.Spelling.{Term, Written, rule_key, one, two, rule, line_text}
use Rattle.reading.specs.Texts.{Contents, sheet_text}

-- what writing answers: how many bytes were written, or the refusal
abbrev pub Writing : Type 0
Writing = Result ℕ Refusal

-- ---- rules

-- a literal as a signed quantity number
abbrev pub literal_term : ℕ → Term
literal_term x = record { negative = eqb (x % 2) 1; quantity = quantity_of x }

-- a rule as it is written; no table holds a bare one, which has the term +0 here
unfoldable pub written_of : Rule → Written
written_of (One x c) = one (literal_term x) c
written_of (Two x y c) = two (literal_term x) (literal_term y) c
written_of (Nothing c) = one (record { negative = false; quantity = 0 }) c

-- a rule's line; a bare rule's has the key alone
abbrev pub rule_line_text : Rule → List ℕ
rule_line_text (One x c) = line_text (rule (written_of (One x c)))
rule_line_text (Two x y c) = line_text (rule (written_of (Two x y c)))
rule_line_text (Nothing c) = rule_key ++ newline ∷ []

-- the rules that words hold, the first being the word of place k
unfoldable pub rules_at : ℕ → List ℤ → List Written
rules_at k [] = []
rules_at k (w ∷ t) = cond (has_rule w) (written_of (rule_at k w) ∷ rules_at (suc k) t) (rules_at (suc k) t)

-- the rules of a table over n quantities, in place order
abbrev pub table_rules : ℕ → List ℤ → List Written
table_rules n t = rules_at 0 (take (block_start n) t)

-- ---- the hidden list

-- the hidden ones of k quantities from q on
unfoldable pub hidden_from : (ℕ → Bool) → ℕ → ℕ → List ℕ
hidden_from member q zero = []
hidden_from member q (suc k) = cond (member q) (q ∷ hidden_from member (suc q) k) (hidden_from member (suc q) k)

-- the hidden ones of 1 to n, increasing
abbrev pub hidden_list : ℕ → ℕ → List ℕ
hidden_list n set = hidden_from (hidden_in set) 1 n

-- ---- the text

-- a line of a key and a number
unfoldable pub count_text : List ℕ → ℕ → List ℕ
count_text key v = key ++ (decimal v ++ newline ∷ [])

abbrev pub contents_of : ℕ → ℕ → List ℤ → Contents
contents_of n set t = record { count = n; hiddens = hidden_list n set; written = table_rules n t }

unfoldable pub written_text : ℕ → ℕ → List ℤ → List ℕ
written_text n set t = sheet_text (contents_of n set t)

-- ---- the reply

-- the checks, one after the other: 1 for n and the table, 3 for the hidden set, 6 for an output that has no room for the text
unfoldable pub write_checks : ℕ → ℕ → List ℤ → ℕ → Reply
write_checks n set t room =
    check (serves n (length t)) Size
    (check (set_within n set) (OutOfLimit 0)
    (check (leb (length (written_text n set t)) room) (TooShort (length (written_text n set t))) (Ok tt)))

-- a text of m bytes where the checks pass, else their refusal
abbrev pub text_or : Reply → ℕ → Writing
text_or (Ok tt) m = Ok m
text_or (Err f) m = Err f

unfoldable pub write_reply : ℕ → ℕ → List ℤ → ℕ → Writing
write_reply n set t room = text_or (write_checks n set t room) (length (written_text n set t))

-- the output afterwards: the text, and bytes past it as they were
unfoldable pub written : ℕ → ℕ → List ℤ → List ℕ → List ℕ
written n set t out = cond (is_done (write_checks n set t (length out))) (written_text n set t ++ drop (length (written_text n set t)) out) out

-- a text of m bytes as it is returned: 0 and m
abbrev pub text_returned : ℕ → Returned
text_returned m = record { number = 0; values = pos m ∷ [] }

-- a reply as it is returned
abbrev pub writing_returned : Writing → Returned
writing_returned (Ok m) = text_returned m
writing_returned (Err f) = refused_as f

abbrev pub writing_number : Writing → ℕ
writing_number r = (writing_returned r).number

-- what is returned beside the number as one number, 0 where there is none
abbrev pub writing_value : Writing → ℕ
writing_value (Ok m) = m
writing_value (Err f) = refusal_value f
