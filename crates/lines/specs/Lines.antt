-- Reading one line from the start of a list of bytes: its form, then its numbers, then whether it cancels (document 01: on one line 2 comes before 3 and
-- 3 before 4).
use Rattle.std.specs.Prelude.{Bool, false, true, cond, List, [], ◌∷◌, ℕ, zero, suc, leb, eqb, ℤ, pos, negsuc, length}
use Rattle.numerals.specs.Bytes.{newline, plus, comma, minus, colon}
use Rattle.numerals.specs.Parsing.{Parsed, parsed, malformed, and_then, expect, numeral_of}
use Rattle.rules.specs.declared.refusal.Refusal.{Refusal}
use Rattle.rules.specs.declared.refusal.Refusal.TheVariants.{Malformed, OutOfLimit, Cancelling}
use Rattle.lines.specs.Spelling.{Term, Written, one, two, hidden_key, rule_key, all_within, rule_within, cancelling}

-- ---- the form of each line

-- the end of a line
unfoldable pub ended : {A : Type 0} → A → List ℕ → Parsed A
ended a u = expect (newline ∷ []) u (parsed a)

-- a key and a number
unfoldable pub count_line : List ℕ → List ℕ → Parsed ℕ
count_line key u = expect key u (λ v. and_then (numeral_of v) ended)

-- a number put before a list
abbrev pub with_first : ℕ → List ℕ → List ℕ → Parsed (List ℕ)
with_first q qs u = parsed (q ∷ qs) u

-- after the number q: the line ends, or a comma and further numbers come
unfoldable pub members_after : (List ℕ → Parsed (List ℕ)) → ℕ → List ℕ → Parsed (List ℕ)
members_after further q [] = malformed
members_after further q (b ∷ u) =
    cond (eqb b newline) (parsed (q ∷ []) u) (cond (eqb b comma) (and_then (further u) (with_first q)) malformed)

-- a list of at least one number and at most k, the first at least this one, each above the one before
unfoldable pub members_from : ℕ → ℕ → List ℕ → Parsed (List ℕ)
members_from zero least u = malformed
members_from (suc k) least u = and_then (numeral_of u) (λ q v. cond (leb least q) (members_after (members_from k (suc q)) q v) malformed)

-- the list of hidden quantities
unfoldable pub list_of : List ℕ → Parsed (List ℕ)
list_of [] = malformed
list_of (b ∷ u) = cond (eqb b newline) (parsed [] u) (members_from (length (b ∷ u)) 0 (b ∷ u))

unfoldable pub hidden_line : List ℕ → Parsed (List ℕ)
hidden_line u = expect hidden_key u list_of

-- a signed quantity number
unfoldable pub term_of : List ℕ → Parsed Term
term_of [] = malformed
term_of (b ∷ u) =
    cond (eqb b plus) (and_then (numeral_of u) (λ q. parsed (record { negative = false; quantity = q })))
    (cond (eqb b minus) (and_then (numeral_of u) (λ q. parsed (record { negative = true; quantity = q }))) malformed)

-- the bound -v, which is not spelled where v is 0
abbrev pub below : ℕ → List ℕ → Parsed ℤ
below zero u = malformed
below (suc v) u = parsed (negsuc v) u

unfoldable pub bound_at : List ℕ → Parsed ℤ
bound_at [] = malformed
bound_at (b ∷ u) = cond (eqb b minus) (and_then (numeral_of u) below) (and_then (numeral_of (b ∷ u)) (λ v. parsed (pos v)))

-- a bound and the line's end
unfoldable pub bound_line : List ℕ → Parsed ℤ
bound_line u = and_then (bound_at u) ended

-- after the first term: a colon and the bound, or a second term before these
unfoldable pub after_term : Term → List ℕ → Parsed Written
after_term x [] = malformed
after_term x (b ∷ u) =
    cond (eqb b colon)
    (and_then (bound_line u) (λ c. parsed (one x c)))
    (and_then (term_of (b ∷ u)) (λ y v. expect (colon ∷ []) v (λ w. and_then (bound_line w) (λ c. parsed (two x y c)))))

unfoldable pub rule_line : List ℕ → Parsed Written
rule_line u = expect rule_key u (λ v. and_then (term_of v) after_term)

-- ---- the answer of each line

-- what a line writes and the bytes after it, or its refusal
pub data Judged (A : Type 0) : Type 0 where
  accepted : A → List ℕ → Judged A
  refused : Refusal → Judged A

-- 2 where the line is malformed, 3 where a number is outside its limit, 4 where it cancels
unfoldable pub judged : {A : Type 0} → ℕ → (A → Bool) → (A → Bool) → Parsed A → Judged A
judged line within cancels malformed = refused (Malformed line)
judged line within cancels (parsed a u) = cond (within a) (cond (cancels a) (refused (Cancelling line)) (accepted a u)) (refused (OutOfLimit line))

-- nothing of the kind cancels
abbrev pub never : {A : Type 0} → A → Bool
never a = false

-- a number from `least` to `most`
abbrev pub between : ℕ → ℕ → ℕ → Bool
between least most v = cond (leb least v) (leb v most) false

-- a line of a key and a number in these limits
unfoldable pub count_judged : List ℕ → ℕ → ℕ → ℕ → List ℕ → Judged ℕ
count_judged key least most line u = judged line (between least most) never (count_line key u)

unfoldable pub hidden_judged : ℕ → ℕ → List ℕ → Judged (List ℕ)
hidden_judged n line u = judged line (all_within n) never (hidden_line u)

unfoldable pub rule_judged : ℕ → ℕ → ℕ → List ℕ → Judged Written
rule_judged n limit line u = judged line (rule_within n limit) cancelling (rule_line u)
