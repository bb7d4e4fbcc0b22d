-- `read::read` meets its contract: the text is checked, and what was checked is read. Assumes nothing.
use Rattle.reading.proofs.ReadTexts.{checked_vouched, read_whole}
use Rattle.reading.proofs.read.read.Goals as goal

pub read_checked-requires : goal.read_checked-requires
read_checked-requires c = checked_vouched _ _ c.check-checked.ensures.reply

pub returns : goal.returns
returns c = read_whole _ _ c.check-checked.result _ _ c.check-checked.ensures.reply c.read_checked.ensures
