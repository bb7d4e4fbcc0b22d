-- `turns::read_back` meets its contract. Assumes nothing.
use Rattle.keys.proofs.ReadBack.{part_read}
use Rattle.keys.proofs.turns.read_back.Goals as goal

pub returns-then-n-le-SMALL : goal.returns-then-n-le-SMALL
returns-then-n-le-SMALL c = part_read _ _ _ _ _ _ c.requires c.choose_values.ensures

pub returns-then-n-le-MIDDLE : goal.returns-then-n-le-MIDDLE
returns-then-n-le-MIDDLE c = part_read _ _ _ _ _ _ c.requires c.choose_values-then-n-le-MIDDLE.ensures

pub returns-else-n-le-MIDDLE : goal.returns-else-n-le-MIDDLE
returns-else-n-le-MIDDLE c = part_read _ _ _ _ _ _ c.requires c.choose_values-else-n-le-MIDDLE.ensures
