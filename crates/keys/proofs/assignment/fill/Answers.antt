-- `assignment::fill` meets its contract: all values 0, then those outside the set read back. Assumes nothing.
use mathlib.Core.Path.{◌∙◌}
use Rattle.keys.proofs.Filling.{fillable_readable, filled}
use Rattle.keys.proofs.assignment.fill.Goals as goal

pub read_back-requires : goal.read_back-requires
read_back-requires c =
    rw c.fill.ensures (fillable_readable _ _ _ _ c.requires)

pub returns : goal.returns
returns c =
    filled _ _ _ _ _ c.requires (c.read_back.ensures.words ∙ rw c.fill.ensures)
