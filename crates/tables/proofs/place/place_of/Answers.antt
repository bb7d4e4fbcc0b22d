-- `place::place_of` meets its contract: each variant finds what the definition does. Assumes nothing.
use Rattle.std.proofs.Common.{rules}
use Rattle.tables.specs.Places.{find_place}
use Rattle.tables.proofs.Promised.{placed}
use Rattle.tables.proofs.place.place_of.Goals as goal

pub returns-in-One : goal.returns-in-One
unfolding find_place
returns-in-One c = placed _ _ (search rules)

pub returns-in-Two : goal.returns-in-Two
unfolding find_place
returns-in-Two c = placed _ _ (search rules)
