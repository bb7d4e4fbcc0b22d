-- `acornsled_write` meets its contract. Assumes nothing.
use Rattle.acornsled.proofs.Promised.{write_answer}
use Rattle.acornsled.proofs.acornsled_write.Goals as goal

pub returns : goal.returns
returns c = write_answer _ _ _ _ _ _ _ _ c.write-written.ensures c.number_of.ensures c.value.ensures
