-- Document 02's words on marks, on numbers: how marked rules add, are halved and meet.
use mathlib.Core.Bool.{true, false}
use mathlib.Core.Path.{◌≡◌, refl}
use lib.IntN.{ℤ, pos, negsuc}
use Rattle.integers.specs.Bound.{half, odd, smaller}
use Rattle.marks.specs.Marks.{Marked, meet, marked_sum, marked_half}

-- a bound with its mark
abbrev marked : ℤ → Marked
marked c = record { bound = c; mark = true }

abbrev unmarked : ℤ → Marked
unmarked c = record { bound = c; mark = false }

-- 'a sum is marked when either of its rules was'
either_marked : marked_sum (marked (pos 3)) (unmarked (pos 2)) ≡ marked (pos 5)
unfolding marked_sum
either_marked = refl

neither_marked : marked_sum (unmarked (pos 3)) (unmarked (pos 2)) ≡ unmarked (pos 5)
unfolding marked_sum
neither_marked = refl

-- 'or when its own halving was odd': 7 was, 6 was not, and -1 was
odd_halved : marked_half (unmarked (pos 7)) ≡ marked (pos 3)
unfolding marked_half half odd
odd_halved = refl

even_halved : marked_half (unmarked (pos 6)) ≡ unmarked (pos 3)
unfolding marked_half half odd
even_halved = refl

even_stays_marked : marked_half (marked (pos 6)) ≡ marked (pos 3)
unfolding marked_half half odd
even_stays_marked = refl

least_odd_halved : marked_half (unmarked (negsuc 0)) ≡ marked (negsuc 0)
unfolding marked_half half odd
least_odd_halved = refl

-- 'where two rules of equal bound meet, the unmarked one is kept', in either order
equal_bounds : meet (marked (pos 3)) (unmarked (pos 3)) ≡ unmarked (pos 3)
unfolding meet smaller
equal_bounds = refl

equal_bounds_other : meet (unmarked (pos 3)) (marked (pos 3)) ≡ unmarked (pos 3)
unfolding meet smaller
equal_bounds_other = refl

-- a smaller marked one stands over a larger unmarked one
smaller_marked : meet (unmarked (pos 4)) (marked (pos 3)) ≡ marked (pos 3)
unfolding meet smaller
smaller_marked = refl
