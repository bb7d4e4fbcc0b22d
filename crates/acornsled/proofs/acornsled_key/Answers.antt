-- `acornsled_key` meets its contract. Assumes nothing.
use Rattle.acornsled.proofs.Promised.{key_answer}
use Rattle.acornsled.proofs.acornsled_key.Goals as goal

pub returns : goal.returns
returns c = key_answer _ _ _ _ _ _ _ _ _ c.key.ensures c.told.ensures.number c.told.ensures.value
