-- Reading from the start of a list of bytes: what is there, and the bytes that follow. Numerals have any size here.
use Rattle.std.specs.Prelude.{Bool, true, false, cond, ◌&&◌, Option, Some, None, List, [], ◌∷◌, ℕ, ◌+◌, ◌-◌, ◌*◌, eqb, length}
use Rattle.numerals.specs.declared.read.Found.{Found}
use Rattle.numerals.specs.Bytes.{is_digit, digit_zero}
use Rattle.numerals.specs.Decimal.{capped}

-- what was read and the bytes after it, or nothing of the kind
pub data Parsed (A : Type 0) : Type 0 where
  parsed : A → List ℕ → Parsed A
  malformed : Parsed A

-- one thing after another
unfoldable pub and_then : {A B : Type 0} → Parsed A → (A → List ℕ → Parsed B) → Parsed B
and_then (parsed a u) next = next a u
and_then malformed next = malformed

-- these bytes, and then what comes next
unfoldable pub expect : {A : Type 0} → List ℕ → List ℕ → (List ℕ → Parsed A) → Parsed A
expect [] u next = next u
expect (k ∷ ks) [] next = malformed
expect (k ∷ ks) (b ∷ u) next = cond (eqb b k) (expect ks u next) malformed

-- do the bytes start with these?
unfoldable pub starts_with : List ℕ → List ℕ → Bool
starts_with [] u = true
starts_with (k ∷ ks) [] = false
starts_with (k ∷ ks) (b ∷ u) = eqb b k && starts_with ks u

-- is the first byte a digit?
abbrev pub digit_next : List ℕ → Bool
digit_next [] = false
digit_next (b ∷ u) = is_digit b

-- the value of digits after a numeral that begins with the value v
unfoldable pub digits_from : ℕ → List ℕ → Parsed ℕ
digits_from v [] = parsed v []
digits_from v (b ∷ u) = cond (is_digit b) (digits_from (10 * v + (b - digit_zero)) u) (parsed v (b ∷ u))

-- a numeral, all digits that stand here; one that begins with `0` has no other digit
unfoldable pub numeral_of : List ℕ → Parsed ℕ
numeral_of [] = malformed
numeral_of (b ∷ u) =
    cond (is_digit b)
    (cond (eqb b digit_zero) (cond (digit_next u) malformed (parsed 0 u)) (digits_from (b - digit_zero) u))
    malformed

-- the cursor in the text s at which its last bytes u begin
abbrev pub cursor_of : List ℕ → List ℕ → ℕ
cursor_of s u = length s - length u

-- the value that was found in the text s before its last bytes u
abbrev pub found_in : {A : Type 0} → List ℕ → A → List ℕ → Found A
found_in s a u = record { value = a; next = cursor_of s u }

-- the program's answer of a numeral in the text s
unfoldable pub numeral_answer : List ℕ → Parsed ℕ → Option (Found ℕ)
numeral_answer s (parsed v u) = Some (found_in s (capped v) u)
numeral_answer s malformed = None
