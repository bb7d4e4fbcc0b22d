-- The bits of a number, counted from 0.
use Rattle.std.specs.Prelude.{Bool, ℕ, ◌/◌, ◌%◌, ◌^◌, eqb}

-- is bit i of a number 1?
abbrev pub bit_at : ℕ → ℕ → Bool
bit_at h i = eqb (h / 2 ^ i % 2) 1
