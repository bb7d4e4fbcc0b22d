-- `acornsled_bank_read` meets its contract. Assumes nothing.
use Rattle.acornsled.proofs.Promised.{bank_answer}
use Rattle.acornsled.proofs.acornsled_bank_read.Goals as goal

pub returns : goal.returns
returns c = bank_answer _ _ _ _ _ _ _ _ _ _ c.read.ensures c.tell.ensures
