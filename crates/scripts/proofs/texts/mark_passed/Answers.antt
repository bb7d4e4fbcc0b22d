-- `texts::mark_passed` meets its contract: both tables are filled, and how they are marked is how the texts are. Assumes nothing.
use Rattle.scripts.proofs.Promised.{filled_tables, filled_marked}
use Rattle.scripts.proofs.texts.mark_passed.Goals as goal

pub mark_filled-requires : goal.mark_filled-requires
mark_filled-requires c =
    filled_tables {p = c.args.pair} (record { passed = c.requires; sheet-filled = c.fill.ensures; script-filled = c.fill-2.ensures })

pub returns : goal.returns
returns c =
    filled_marked {p = c.args.pair} (record { passed = c.requires; sheet-filled = c.fill.ensures; script-filled = c.fill-2.ensures }) c.mark_filled.ensures
