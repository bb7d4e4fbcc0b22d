-- Decimal numerals without leading zeros, zero being `0`.
use Rattle.std.specs.Prelude.{cond, List, [], ◌∷◌, ◌++◌, ℕ, zero, suc, ◌+◌, ◌/◌, ◌%◌, ltb, ℤ, pos, negsuc}
use Rattle.numerals.specs.Bytes.{digit_zero, minus}

-- the numeral of v, where v has at most one digit more than the first number
unfoldable pub decimal_up_to : ℕ → ℕ → List ℕ
decimal_up_to zero v = (digit_zero + v % 10) ∷ []
decimal_up_to (suc k) v = cond (ltb v 10) ((digit_zero + v) ∷ []) (decimal_up_to k (v / 10) ++ (digit_zero + v % 10) ∷ [])

-- the numeral of v
unfoldable pub decimal : ℕ → List ℕ
decimal v = decimal_up_to v v

-- the numeral of an integer, with `-` before it below 0
unfoldable pub signed_decimal : ℤ → List ℕ
signed_decimal (pos v) = decimal v
signed_decimal (negsuc v) = minus ∷ decimal (suc v)

-- the program reads a numeral's value up to this, which is above every limit of a paper: of all larger values it needs to know no more
abbrev pub cap : ℕ
cap = 9000000000000000000

-- the value as the program has it
unfoldable pub capped : ℕ → ℕ
capped v = cond (ltb v cap) v cap
