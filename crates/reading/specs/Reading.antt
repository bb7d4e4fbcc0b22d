-- Reading a text: its lines from the first, then the table (document 01, 'Returned to the caller').
use Rattle.std.specs.Prelude.{Bool, true, false, cond, Result, Ok, Err, List, [], ◌∷◌, ◌++◌, ℕ, zero, suc, ltb, ℤ, pos, length, drop}
use Rattle.places.specs.Numbering.{block_start}
use Rattle.rules.specs.declared.paper.Paper.{Paper}
use Rattle.rules.specs.declared.paper.Paper.TheVariants.{Sheet as OfSheet}
use Rattle.rules.specs.declared.refusal.Refusal.{Refusal}
use Rattle.rules.specs.declared.refusal.Refusal.TheVariants.{Size, Malformed, TooShort}
use Rattle.rules.specs.declared.sheet.Sheet.{Sheet}
use Rattle.rules.specs.Hidden.{set_of}
use Rattle.rules.specs.Limits.{max_quantities, bound_range, max_rules, max_text}
use Rattle.rules.specs.Refusal.{Returned, refused_as, refusal_value}
use Rattle.tables.specs.Tables.{table_of}
use Rattle.numerals.specs.Parsing.{cursor_of}
use Rattle.lines.specs.Spelling.{Written, quantities_key, rules_key, written_rules}
use Rattle.lines.specs.Lines.{Judged, accepted, refused, count_judged, hidden_judged, rule_judged}
use Rattle.reading.specs.declared.check.Passed.{Passed}
use Rattle.reading.specs.Texts.{Contents, header_text}

-- what a check answers: what the text's header writes and where its rule lines begin, or the refusal
abbrev pub Checked : Type 0
Checked = Result Passed Refusal

-- what reading into a table answers: n and the hidden set, or the refusal
abbrev pub Reading : Type 0
Reading = Result Sheet Refusal

-- a sheet's n and hidden set
abbrev pub sheet_of : ℕ → ℕ → Sheet
sheet_of n set = record { quantities = n; hidden = set }

-- a line's answer taken apart: what follows goes on with its value, or its refusal ends the reading
unfoldable pub onward : {A B : Type 0} → Judged A → (A → List ℕ → Judged B) → Judged B
onward (accepted a u) next = next a u
onward (refused r) next = refused r

-- so many rule lines, from the line of this number on, and then nothing more
unfoldable pub rules_from : ℕ → ℕ → ℕ → ℕ → List ℕ → Judged (List Written)
rules_from n limit zero line [] = accepted [] []
rules_from n limit zero line (b ∷ u) = refused (Malformed line)
rules_from n limit (suc k) line u =
    onward (rule_judged n limit line u) (λ r v. onward (rules_from n limit k (suc line) v) (λ rs. accepted (r ∷ rs)))

-- the three lines before the rules; what follows them goes on with n, the hidden list, N and the bytes after them
abbrev pub after_header : {A : Type 0} → List ℕ → (ℕ → List ℕ → ℕ → List ℕ → Judged A) → Judged A
after_header s next =
    onward (count_judged quantities_key 1 max_quantities 1 s) (λ n u.
    onward (hidden_judged n 2 u) (λ qs v.
    onward (count_judged rules_key 0 max_rules 3 v) (λ m w. next n qs m w)))

-- the lines of a text, taken as a paper: its header gives the limit of its bounds
unfoldable pub lines_from : Paper → List ℕ → Judged Contents
lines_from paper s = after_header s (λ n qs m w.
    onward (rules_from n (bound_range paper n (length qs)) m 4 w) (λ rs. accepted (record { count = n; hiddens = qs; written = rs })))

-- what a text writes, or its refusal: 1 for its size, else that of the first line that fails
unfoldable pub check_text : Paper → List ℕ → Judged Contents
check_text paper s = cond (ltb max_text (length s)) (refused Size) (lines_from paper s)

-- what a header writes: n, the hidden list and N
pub record Header : Type 0 where
  pub count : ℕ
  pub hiddens : List ℕ
  pub rules : ℕ

-- the same of a text's size and its header alone, whatever follows
unfoldable pub check_header : List ℕ → Judged Header
check_header s =
    cond (ltb max_text (length s)) (refused Size) (after_header s (λ n qs m w. accepted (record { count = n; hiddens = qs; rules = m }) w))

-- ---- what the program has of it

-- of a header n, the hidden set, the number of rules, and the cursor after it; or the refusal
unfoldable pub header_of : List ℕ → Judged Header → Checked
header_of s (accepted h u) = Ok (record { quantities = h.count; hidden = set_of h.hiddens; rules = h.rules; body = cursor_of s u })
header_of s (refused r) = Err r

-- of a text n, the hidden set, the number of rules, and the cursor at which the rule lines begin; or the refusal
unfoldable pub checked_of : Judged Contents → Checked
checked_of (accepted c u) =
    Ok (record { quantities = c.count; hidden = set_of c.hiddens; rules = length c.written; body = length (header_text c) })
checked_of (refused r) = Err r

-- of rule lines, where the header is read, the same; or their refusal
unfoldable pub checked_rules : Passed → Judged (List Written) → Checked
checked_rules header (accepted rs u) = Ok header
checked_rules header (refused r) = Err r

-- ---- a sheet into a table

-- the reply of reading into a table of so many words: the last check is its length
unfoldable pub reply_to : ℕ → Judged Contents → Reading
reply_to words (accepted c u) =
    cond (ltb words (block_start c.count)) (Err (TooShort (block_start c.count))) (Ok (sheet_of c.count (set_of c.hiddens)))
reply_to words (refused r) = Err r

unfoldable pub read_reply : List ℕ → ℕ → Reading
read_reply s words = reply_to words (check_text OfSheet s)

-- the table of a text's rules, put in one after the other; words past it stay
unfoldable pub filled : Judged Contents → List ℤ → List ℤ
filled (accepted c u) t = table_of c.count (written_rules c.written) ++ drop (block_start c.count) t
filled (refused r) t = t

-- the reply is no refusal
abbrev pub is_accepted : Reading → Bool
is_accepted (Ok sheet) = true
is_accepted (Err f) = false

-- the table afterwards
unfoldable pub read_table : List ℕ → List ℤ → List ℤ
read_table s t = cond (is_accepted (read_reply s (length t))) (filled (check_text OfSheet s) t) t

-- the reply and the table where the text was checked before: by what the check has answered; the rules are those of the text
unfoldable pub reply_after : ℕ → Checked → Reading
reply_after words (Ok p) =
    cond (ltb words (block_start p.quantities)) (Err (TooShort (block_start p.quantities))) (Ok (sheet_of p.quantities p.hidden))
reply_after words (Err f) = Err f

unfoldable pub table_after : List ℕ → Checked → List ℤ → List ℤ
table_after s r t = cond (is_accepted (reply_after (length t) r)) (filled (check_text OfSheet s) t) t

-- ---- as it is returned (document 01, 'Returned to the caller')

-- 0 where the text is accepted, with n and the hidden set
abbrev pub text_accepted : ℕ → ℕ → Returned
text_accepted n set = record { number = 0; values = pos n ∷ pos set ∷ [] }

abbrev pub reading_returned : Reading → Returned
reading_returned (Ok sheet) = text_accepted sheet.quantities sheet.hidden
reading_returned (Err f) = refused_as f

abbrev pub reading_number : Reading → ℕ
reading_number r = (reading_returned r).number

-- a refusal's line or length as one number, 0 where there is none
abbrev pub reading_value : Reading → ℕ
reading_value (Ok sheet) = 0
reading_value (Err f) = refusal_value f

-- of a text that is checked: beside 0 stand n, the hidden set, the number of rules and the cursor at which their lines begin
abbrev pub checked_returned : Checked → Returned
checked_returned (Ok p) = record { number = 0; values = pos p.quantities ∷ pos p.hidden ∷ pos p.rules ∷ pos p.body ∷ [] }
checked_returned (Err f) = refused_as f
