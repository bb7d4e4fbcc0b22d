-- What private functions answer. Only contracts of functions that no other crate calls cite it: none of it has to be believed.
use Rattle.std.specs.Prelude.{Bool, true, false, cond, ◌&&◌, Option, Some, None, Result, Ok, Err, List, [], ◌∷◌, ℕ, suc, ◌+◌, leb, eqb, ℤ, pos, negsuc, neg_ℤ, nat_abs, length, drop}
use Rattle.numerals.specs.declared.read.Found.{Found}
use Rattle.numerals.specs.Bytes.{colon, newline, plus, minus}
use Rattle.numerals.specs.Decimal.{capped}
use Rattle.numerals.specs.Parsing.{Parsed, parsed, malformed, and_then, expect, starts_with, found_in}
use Rattle.rules.specs.declared.refusal.Refusal.{Refusal}
use Rattle.rules.specs.declared.refusal.Refusal.TheVariants.{Malformed}
use Rattle.rules.specs.Hidden.{bit_of}
use Rattle.rules.specs.Literal.{quantity_within}
use Rattle.lines.specs.declared.hidden.Members.{Members}
use Rattle.lines.specs.declared.spelled.Spelled.{Spelled}
use Rattle.lines.specs.Spelling.{Term, Written, one, two, all_within, signed_quantity}
use Rattle.lines.specs.Lines.{term_of, below, bound_line, members_from}

-- ---- signed numbers

-- an integer as the program has it, its magnitude capped
abbrev pub capped_integer : ℤ → ℤ
capped_integer (pos v) = pos (capped v)
capped_integer (negsuc v) = neg_ℤ (pos (capped (suc v)))

-- a number with a minus or without one
abbrev pub with_sign : Bool → ℕ → ℤ
with_sign true v = neg_ℤ (pos v)
with_sign false v = pos v

-- whether the sign that the bytes begin with is a minus
abbrev pub sign_of : List ℕ → Option Bool
sign_of [] = None
sign_of (b ∷ u) = cond (eqb b plus) (Some false) (cond (eqb b minus) (Some true) None)

-- the bound of a number that was read after a minus or without one
abbrev pub signed_bound : Bool → ℕ → List ℕ → Parsed ℤ
signed_bound true = below
signed_bound false = λ v. parsed (pos v)

-- a signed quantity number as the program has it
abbrev pub capped_term : Term → ℤ
capped_term x = capped_integer (signed_quantity x)

-- ---- the form of a line

-- what was found in the text s of what was read, as the program has it
abbrev pub found_answer : {A B : Type 0} → (A → B) → List ℕ → Parsed A → Option (Found B)
found_answer tell s (parsed a u) = Some (found_in s (tell a) u)
found_answer tell s malformed = None

-- what was read, or the refusal of a line that is malformed
abbrev pub well_formed : {A : Type 0} → ℕ → Option A → Result A Refusal
well_formed line (Some a) = Ok a
well_formed line None = Err (Malformed line)

-- what was found in the text s, where the line ends after it
abbrev pub ended_answer : {A : Type 0} → List ℕ → Found A → Option (Found A)
ended_answer s found =
    cond (starts_with (newline ∷ []) (drop found.next s)) (Some (record { value = found.value; next = found.next + 1 })) None

-- ---- the form of a rule line

-- a second term, a colon and the bound with its line's end
abbrev pub second_line : List ℕ → Parsed (Term × ℤ)
second_line u = and_then (term_of u) (λ y v. expect (colon ∷ []) v (λ w. and_then (bound_line w) (λ c. parsed (y, c))))

-- a rule as the program has it: after the first term x the bound alone, or a second term before it
abbrev pub one_form : ℤ → ℤ → Spelled
one_form x c = record { first = x; second = None; bound = capped_integer c }

abbrev pub two_form : ℤ → Term × ℤ → Spelled
two_form x p = record { first = x; second = Some (capped_term p.0); bound = capped_integer p.1 }

abbrev pub form : Written → Spelled
form (one x c) = one_form (capped_term x) c
form (two x y c) = two_form (capped_term x) (y, c)

-- ---- a rule by its form

-- a second term that may be missing is of 1 to n
abbrev pub second_within : ℕ → Option ℤ → Bool
second_within n None = true
second_within n (Some y) = quantity_within n (nat_abs y)

-- its numbers are in their limits
abbrev pub form_within : ℕ → ℕ → Spelled → Bool
form_within n limit f = quantity_within n (nat_abs f.first) && second_within n f.second && leb (nat_abs f.bound) limit

-- ---- the list of hidden quantities, number by number

-- what the number q adds to the hidden set over n quantities
unfoldable pub member_bit : ℕ → ℕ → ℕ
member_bit n q = cond (quantity_within n q) (bit_of q) 0

-- the bits of all numbers
abbrev pub set_within : ℕ → List ℕ → ℕ
set_within n [] = 0
set_within n (q ∷ qs) = member_bit n q + set_within n qs

-- these, and whether all numbers are within their limits
abbrev pub members_of : ℕ → List ℕ → Members
members_of n qs = record { set = set_within n qs; within = all_within n qs }

-- the answer of a list of at least one number at u, the last bytes of the text s
abbrev pub list_answer : ℕ → List ℕ → List ℕ → Option (Found Members)
list_answer n s u = found_answer (members_of n) s (members_from (length u) 0 u)
