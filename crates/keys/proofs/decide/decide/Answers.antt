-- `decide::decide` meets its contract: the table is copied, and all quantities that its rules name are eliminated in the copy. Assumes nothing.
use Rattle.keys.proofs.Deciding.{copy_fits, copy_decides}
use Rattle.keys.proofs.decide.decide.Goals as goal

pub eliminate-requires : goal.eliminate-requires
eliminate-requires c =
    copy_fits _ _ _ _ _ _ c.requires.0 c.requires.1 c.size.ensures c.copy.ensures

pub returns : goal.returns
returns c =
    copy_decides _ _ _ _ _ _ c.requires.0 c.requires.1 c.size.ensures c.copy.ensures _ _ c.eliminate.ensures
