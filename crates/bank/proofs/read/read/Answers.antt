-- `read::read` meets its contract: the text is checked, and what was checked is read. Assumes nothing.
use Rattle.bank.proofs.Promised.{bank_vouched, bank_read}
use Rattle.bank.proofs.read.read.Goals as goal

pub read_checked-requires : goal.read_checked-requires
read_checked-requires c = bank_vouched _ _ c.check.ensures.reply

pub returns : goal.returns
returns c = bank_read _ _ c.check.result _ _ c.check.ensures.reply c.read_checked.ensures
