-- Marks of small papers by the definitions that the contracts cite (document 02, [6]). Assumes nothing.
use mathlib.Core.Path.{◌≡◌, refl}
use mathlib.Core.Bool.{true, false}
use mathlib.Core.List.{[], ◌∷◌}
use lib.IntN.{ℤ, pos}
use Rattle.integers.specs.Bound.{odd}
use Rattle.rules.specs.declared.rule.Rule.TheVariants.{One, Two}
use Rattle.rules.specs.Hidden.{hidden_in}
use Rattle.rules.specs.Steps.{loses_half}
use Rattle.marks.specs.Marks.{Marked, meet, marked_sum, marked_half, with_marked_sum, with_marked_half, marked_of, marked_at}
use Rattle.keys.proofs.Sheets.{sheet_a, sheet_table, steps}
use Rattle.rounded.specs.Hiding.{pair_marked, on_one_marked, on_two_marked, sums_marked, hide_marked, marked_up_to, marked_key}

-- a rule with its mark
abbrev marked : ℤ → Marked
marked c = record { bound = c; mark = true }

abbrev unmarked : ℤ → Marked
unmarked c = record { bound = c; mark = false }

-- ---- rules read

-- +1+1:7 is +1:3, and lost a half
pub doubled_marked : marked_at 0 (Two 0 0 (pos 7) ∷ []) ≡ marked (pos 3)
unfolding steps marked_at meet loses_half odd
doubled_marked = refl

-- beside +1:3, in either order, the unmarked one is kept
pub first_kept : marked_at 0 (One 0 (pos 3) ∷ Two 0 0 (pos 7) ∷ []) ≡ unmarked (pos 3)
unfolding steps marked_at meet loses_half odd
first_kept = refl

pub second_kept : marked_at 0 (Two 0 0 (pos 7) ∷ One 0 (pos 3) ∷ []) ≡ unmarked (pos 3)
unfolding steps marked_at meet loses_half odd
second_kept = refl

-- +1+1:6 lost none
pub even_unmarked : marked_at 0 (Two 0 0 (pos 6) ∷ []) ≡ unmarked (pos 3)
unfolding steps marked_at meet loses_half odd
even_unmarked = refl

-- ---- sheet A: hidden 2, +1+2:5, +1-2:2, +3-2:0

-- its key has +1:3, of the sum +1+1:7, and that is marked
pub half_lost : marked_key (hidden_in 2) 3 (marked_of (sheet_table sheet_a) []) 0 ≡ marked (pos 3)
unfolding steps odd marked_of meet marked_sum marked_half with_marked_sum with_marked_half pair_marked on_one_marked on_two_marked sums_marked hide_marked marked_up_to
half_lost = refl

-- and +1+3:5, which is not
pub sum_unmarked : marked_key (hidden_in 2) 3 (marked_of (sheet_table sheet_a) []) 10 ≡ unmarked (pos 5)
unfolding steps odd marked_of meet marked_sum marked_half with_marked_sum with_marked_half pair_marked on_one_marked on_two_marked sums_marked hide_marked marked_up_to
sum_unmarked = refl

-- with the mark of +1-2:2 set the sum +1+1:7 is marked by it as well, and +1+3:5 is not: it is of +1+2:5 and +3-2:0
pub mark-passed : marked_key (hidden_in 2) 3 (marked_of (sheet_table sheet_a) (0 ∷ 0 ∷ 0 ∷ 0 ∷ 0 ∷ 1 ∷ [])) 10 ≡ unmarked (pos 5)
unfolding steps odd marked_of meet marked_sum marked_half with_marked_sum with_marked_half pair_marked on_one_marked on_two_marked sums_marked hide_marked marked_up_to
mark-passed = refl

-- with the mark of +1+2:5 it is
pub mark_taken : marked_key (hidden_in 2) 3 (marked_of (sheet_table sheet_a) (0 ∷ 0 ∷ 0 ∷ 0 ∷ 1 ∷ [])) 10 ≡ marked (pos 5)
unfolding steps odd marked_of meet marked_sum marked_half with_marked_sum with_marked_half pair_marked on_one_marked on_two_marked sums_marked hide_marked marked_up_to
mark_taken = refl
