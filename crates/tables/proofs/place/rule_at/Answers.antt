-- `place::rule_at` meets its contract: the block and the offset are the definition's. Assumes nothing.
use Rattle.integers.proofs.Parts.{word_value}
use Rattle.tables.proofs.Promised.{at_place_of_one, at_place_of_two}
use Rattle.tables.proofs.place.rule_at.Goals as goal

pub returns-then-offset-lt2 : goal.returns-then-offset-lt2
returns-then-offset-lt2 c = at_place_of_one _ _ _ _ c.block-block.ensures c.if-offset-lt2.true (word_value c.ranges.bound)

pub returns : goal.returns
returns c = at_place_of_two _ _ _ _ c.block-block.ensures c.if-offset-lt2.false (word_value c.ranges.bound)
