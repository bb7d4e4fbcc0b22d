-- `acornsled_tight_key` meets its contract. Assumes nothing.
use Rattle.acornsled.proofs.Promised.{tight_answer}
use Rattle.acornsled.proofs.acornsled_tight_key.Goals as goal

pub returns : goal.returns
returns c = tight_answer _ _ _ _ _ _ _ _ _ c.tight_key.ensures c.told.ensures.number c.told.ensures.value
