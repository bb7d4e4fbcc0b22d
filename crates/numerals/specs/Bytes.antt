-- The bytes that have a meaning in a text (document 01, 'Text'), and the kind of each.
use Rattle.std.specs.Prelude.{Bool, cond, ◌&&◌, ℕ, leb, eqb}
use mathlib.Core.List as L
use Prim.Native.Char.{code}
use Prim.Native.String.{String, [], ◌∷◌}
use Rattle.numerals.specs.declared.byte.Kind.{Kind}
use Rattle.numerals.specs.declared.byte.Kind.TheVariants.{Digit, Plus, Minus, Colon, Comma, LineEnd, Other}

-- the bytes of a text, each character being one byte
abbrev pub bytes : String → L.List ℕ
bytes [] = L.[]
bytes (c ∷ s) = L.◌∷◌ (code c) (bytes s)

-- the byte that ends a line
abbrev pub newline : ℕ
newline = 10

-- '+', ',', '-', '0' and ':'
abbrev pub plus : ℕ
plus = 43

abbrev pub comma : ℕ
comma = 44

abbrev pub minus : ℕ
minus = 45

abbrev pub digit_zero : ℕ
digit_zero = 48

abbrev pub colon : ℕ
colon = 58

-- '0' to '9'
abbrev pub is_digit : ℕ → Bool
is_digit b = leb digit_zero b && leb b 57

-- what a byte is
unfoldable pub kind_of : ℕ → Kind
kind_of b =
    cond (is_digit b) Digit
    (cond (eqb b plus) Plus
    (cond (eqb b minus) Minus
    (cond (eqb b colon) Colon
    (cond (eqb b comma) Comma
    (cond (eqb b newline) LineEnd Other)))))
