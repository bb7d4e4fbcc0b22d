-- The hidden set of a sheet, as document 01 writes it in a number, decoded here alone: bit q - 1 stands for quantity q.
use Rattle.std.specs.Prelude.{Bool, false, ◌||◌, cond, List, [], ◌∷◌, ℕ, zero, suc, ◌+◌, ◌-◌, ◌^◌, eqb, ltb}
use Rattle.rules.specs.Bits.{bit_at}

-- is quantity q in the set h?
abbrev pub hidden_in : ℕ → ℕ → Bool
hidden_in h zero = false
hidden_in h (suc j) = bit_at h j

-- the set h names no quantity past n: no bit past bit n - 1
abbrev pub set_within : ℕ → ℕ → Bool
set_within n h = ltb h (2 ^ n)

-- the set of quantity q alone
abbrev pub bit_of : ℕ → ℕ
bit_of q = 2 ^ (q - 1)

-- the set of a list of different quantities
unfoldable pub set_of : List ℕ → ℕ
set_of [] = 0
set_of (q ∷ qs) = bit_of q + set_of qs

-- is q in the list?
unfoldable pub is_listed : ℕ → List ℕ → Bool
is_listed q [] = false
is_listed q (p ∷ ps) = eqb q p || is_listed q ps

-- how many of the first m quantities are members of a set
unfoldable pub member_count : (ℕ → Bool) → ℕ → ℕ
member_count members zero = 0
member_count members (suc j) = cond (members (suc j)) (suc (member_count members j)) (member_count members j)
