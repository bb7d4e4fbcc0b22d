-- `step::follow_in` meets its contract: with the first quantities listed, their blocks are done. Assumes nothing.
use Rattle.steps.proofs.Listing.{all_alone}
use Rattle.steps.proofs.Following.{point_between, point_end}
use Rattle.steps.proofs.step.follow_in.Goals as goal

pub hide-requires-clause-names_alone : goal.hide-requires-clause-names_alone
hide-requires-clause-names_alone g c = all_alone _ _ _ _ c.list.ensures

pub returns-then-blocks-n : goal.returns-then-blocks-n
returns-then-blocks-n g c = point_between _ _ _ _ _ _ _ c.list.ensures c.if-blocks-n.true c.pair.ensures

pub returns-else-blocks-n : goal.returns-else-blocks-n
returns-else-blocks-n g c = point_end _ _ _ _ _ _ c.if-blocks-n.false c.hide.ensures
