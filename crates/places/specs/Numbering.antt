-- The numbering of terms (document 01, 'The table'): each term of one or two quantities has its place, counted from 0. Literals are codes:
-- quantity q has 2(q - 1) with + and 2(q - 1) + 1 with -.
use Rattle.std.specs.Prelude.{Bool, cond, ℕ, zero, suc, ◌+◌, ◌-◌, ◌*◌, ◌/◌, ◌%◌, leb, ltb, eqb, Option, Some, None}

-- where the block of quantity j + 1 starts; so a table over n quantities has block_start n words
unfoldable pub block_start : ℕ → ℕ
block_start j = 2 * (j * j)

-- +q and -q are the first words of q's block
unfoldable pub place_of_one : ℕ → ℕ
place_of_one x = block_start (x / 2) + x % 2

-- then, for each lower quantity p, the words +p+q, +p-q, -p+q, -p-q; here x is the literal of p and y that of q
unfoldable pub place_of_pair : ℕ → ℕ → ℕ
place_of_pair x y = block_start (y / 2) + 2 + 2 * x + y % 2

-- the place of two literals of different quantities, in either order
unfoldable pub place_of_two : ℕ → ℕ → ℕ
place_of_two x y = cond (ltb x y) (place_of_pair x y) (place_of_pair y x)

-- where the term of two literals stands; two of one quantity have no place
unfoldable pub find_two : ℕ → ℕ → Option ℕ
find_two x y = cond (eqb (x / 2) (y / 2)) None (Some (place_of_two x y))

-- the largest j, up to the first number, whose block starts at the place k or before it
unfoldable pub block_up_to : ℕ → ℕ → ℕ
block_up_to zero k = 0
block_up_to (suc j) k = cond (leb (block_start (suc j)) k) (suc j) (block_up_to j k)

-- the block in which a place lies, by its quantity less 1, and how far in
unfoldable pub block_of : ℕ → ℕ
block_of k = block_up_to k k

unfoldable pub offset_of : ℕ → ℕ
offset_of k = k - block_start (block_of k)

-- the term at a place is of one quantity, or of two
unfoldable pub is_one : ℕ → Bool
is_one k = ltb (offset_of k) 2

-- its literal of the block's own quantity, the higher one where there are two
unfoldable pub higher_at : ℕ → ℕ
higher_at k = 2 * block_of k + offset_of k % 2

-- its literal of the lower quantity, where there are two
unfoldable pub lower_at : ℕ → ℕ
lower_at k = (offset_of k - 2) / 2
