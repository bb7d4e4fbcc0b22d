-- Document 01's places: quantity 3 starts at 8, and +1+3 has place 10; and the four of quantities 1 and 2 in the document's order, +1+2, +1-2, -1+2, -1-2.
-- Both ways: the place of the term, and the term at the place. Assumes nothing.
use mathlib.Core.Path.{◌≡◌, refl}
use mathlib.Core.Bool.{true, false}
use Rattle.std.specs.Prelude.{Some, None}
use Rattle.places.specs.Numbering.{block_start, place_of_one, place_of_pair, place_of_two, find_two, block_up_to, block_of, offset_of, is_one, higher_at, lower_at}

-- ---- quantity 3: +3 is literal 4, and +1 is literal 0

plus_3 : place_of_one 4 ≡ 8
unfolding place_of_one block_start
plus_3 = refl

-- in either order
plus_1_plus_3 : place_of_two 0 4 ≡ 10
unfolding place_of_two place_of_pair block_start
plus_1_plus_3 = refl

plus_3_plus_1 : place_of_two 4 0 ≡ 10
unfolding place_of_two place_of_pair block_start
plus_3_plus_1 = refl

lower_at_10 : lower_at 10 ≡ 0
unfolding lower_at offset_of block_of block_up_to block_start
lower_at_10 = refl

higher_at_10 : higher_at 10 ≡ 4
unfolding higher_at offset_of block_of block_up_to block_start
higher_at_10 = refl

-- ---- a table over quantities 1 and 2, whole: literals +1, -1, +2, -2 are 0, 1, 2, 3

-- quantity 1 has places 0 and 1, and quantity 2 starts at 2
ones : (place_of_one 0 ≡ 0) × (place_of_one 1 ≡ 1) × (place_of_one 2 ≡ 2) × (place_of_one 3 ≡ 3)
unfolding place_of_one block_start
ones = (refl, refl, refl, refl)

-- +1+2, +1-2, -1+2, -1-2 have places 4 to 7
twos : (find_two 0 2 ≡ Some 4) × (find_two 0 3 ≡ Some 5) × (find_two 1 2 ≡ Some 6) × (find_two 1 3 ≡ Some 7)
unfolding find_two place_of_two place_of_pair block_start
twos = (refl, refl, refl, refl)

-- with the higher quantity first they have the same ones
twos_turned : (find_two 2 0 ≡ Some 4) × (find_two 3 0 ≡ Some 5) × (find_two 2 1 ≡ Some 6) × (find_two 3 1 ≡ Some 7)
unfolding find_two place_of_two place_of_pair block_start
twos_turned = (refl, refl, refl, refl)

-- +1+1 and +1-1 have none
none : (find_two 0 0 ≡ None) × (find_two 0 1 ≡ None)
unfolding find_two
none = (refl, refl)

-- and back: at places 0 to 3 stand terms of one quantity,
ones_at : (is_one 0 ≡ true) × (is_one 1 ≡ true) × (is_one 2 ≡ true) × (is_one 3 ≡ true)
unfolding is_one offset_of block_of block_up_to block_start
ones_at = (refl, refl, refl, refl)

-- +1, -1, +2, -2,
one_literals_at : (higher_at 0 ≡ 0) × (higher_at 1 ≡ 1) × (higher_at 2 ≡ 2) × (higher_at 3 ≡ 3)
unfolding higher_at offset_of block_of block_up_to block_start
one_literals_at = (refl, refl, refl, refl)

-- and at places 4 to 7 terms of two:
twos_at : (is_one 4 ≡ false) × (is_one 5 ≡ false) × (is_one 6 ≡ false) × (is_one 7 ≡ false)
unfolding is_one offset_of block_of block_up_to block_start
twos_at = (refl, refl, refl, refl)

-- +1, +1, -1, -1 first,
lower_literals_at : (lower_at 4 ≡ 0) × (lower_at 5 ≡ 0) × (lower_at 6 ≡ 1) × (lower_at 7 ≡ 1)
unfolding lower_at offset_of block_of block_up_to block_start
lower_literals_at = (refl, refl, refl, refl)

-- +2, -2, +2, -2 second
higher_literals_at : (higher_at 4 ≡ 2) × (higher_at 5 ≡ 3) × (higher_at 6 ≡ 2) × (higher_at 7 ≡ 3)
unfolding higher_at offset_of block_of block_up_to block_start
higher_literals_at = (refl, refl, refl, refl)
