-- `breaking::least_bounds` meets its contract: the table is copied, and its copy made the tightest. Assumes nothing.
use Rattle.marking.proofs.Broken.{copy_comparable, copy_least}
use Rattle.marking.proofs.breaking.least_bounds.Goals as goal

pub tighten-requires : goal.tighten-requires
tighten-requires c =
    copy_comparable _ _ _ _ _ _ c.requires.0 c.requires.1 c.requires.2 c.size.ensures c.copy.ensures

pub returns : goal.returns
returns c =
    copy_least _ _ _ _ _ _ c.requires.0 c.requires.1 c.requires.2 c.size.ensures c.copy.ensures _ _ c.tighten.ensures
