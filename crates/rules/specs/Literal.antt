-- A literal is a quantity with its sign (document 01: a signed quantity number), by its code: quantity q, counted from 1, has
-- code 2(q - 1) with + and 2(q - 1) + 1 with -.
use Rattle.std.specs.Prelude.{ℕ, zero, suc, ◌+◌, ◌-◌, ◌*◌, ◌/◌, ◌%◌, ℤ, pos, negsuc, neg_ℤ, Bool, cond, ◌&&◌, eqb, leb}

-- a quantity number is one of 1 to n
abbrev pub quantity_within : ℕ → ℕ → Bool
quantity_within n q = leb 1 q && leb q n

-- the quantity that a literal names, counted from 1
abbrev pub quantity_of : ℕ → ℕ
quantity_of x = x / 2 + 1

-- the same quantity with the other sign
abbrev pub negated : ℕ → ℕ
negated x = 2 * (x / 2) + (1 - x % 2)

-- the literal of a signed quantity number, +q or -q; 0 names no quantity and has none of its own
abbrev pub literal_of : ℤ → ℕ
literal_of (pos zero) = 0
literal_of (pos (suc k)) = 2 * k
literal_of (negsuc k) = 2 * k + 1

-- a literal as a signed quantity number, +q as q and -q as -q
abbrev pub signed_of : ℕ → ℤ
signed_of x = cond (eqb (x % 2) 0) (pos (quantity_of x)) (neg_ℤ (pos (quantity_of x)))
