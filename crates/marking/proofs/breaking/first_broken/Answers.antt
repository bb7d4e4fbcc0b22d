-- `breaking::first_broken` meets its contract: the script's least bounds at the back, then the first rule at the front that is below its one. Assumes nothing.
use native.Mathlib.Omega.{arith}
use Rattle.tables.proofs.Sizes.{size_known}
use Rattle.marking.proofs.Broken.{front_comparable, front_none, front_found}
use Rattle.marking.proofs.breaking.first_broken.Goals as goal

pub split_at_mut-front-requires : goal.split_at_mut-front-requires
split_at_mut-front-requires c = omega (arith, size_known _ _ c.requires.fits.sums.most c.size.ensures, c.requires.room)

pub least_bounds-requires : goal.least_bounds-requires
least_bounds-requires c =
    (c.requires.fits, c.requires.alone, omega (arith, size_known _ _ c.requires.fits.sums.most c.size.ensures, c.requires.room, c.split_at_mut-front.ensures.back_len))

pub returns-then-least_bounds : goal.returns-then-least_bounds
returns-then-least_bounds c =
    front_none _ _ _ _ _ _ _ _ _ c.requires.fits.sums.most c.size.ensures c.split_at_mut-front.ensures.value c.split_at_mut-front.ensures.front_len c.least_bounds.ensures
    c.if-least_bounds.true

pub first_below-requires : goal.first_below-requires
first_below-requires c =
    front_comparable _ _ _ _ _ _ _ _ _ c.requires.fits.sums.most c.size.ensures c.split_at_mut-front.ensures.value c.split_at_mut-front.ensures.front_len c.least_bounds.ensures
    c.requires.room c.requires.alone.listed

pub returns : goal.returns
returns c =
    front_found _ _ _ _ _ _ _ _ _ c.requires.fits.sums.most c.size.ensures c.split_at_mut-front.ensures.value c.split_at_mut-front.ensures.front_len c.least_bounds.ensures
    c.if-least_bounds.false _ c.first_below.ensures
