-- `acornsled_read` meets its contract. Assumes nothing.
use Rattle.acornsled.proofs.Promised.{read_answer}
use Rattle.acornsled.proofs.acornsled_read.Goals as goal

pub returns : goal.returns
returns c = read_answer _ _ _ _ _ _ _ _ _ _ c.read.ensures c.tell.ensures
