-- `breaking::break_rule` meets its contract: the rule's opposite goes into the table, in which all quantities outside the set are eliminated, and the values are read back from it.
-- Assumes nothing.
use Rattle.keys.proofs.Opposites.{put_opposed, opposed_fits, opposed_fillable, opposed_broken}
use Rattle.keys.proofs.breaking.break_rule.Goals as goal

pub eliminate-requires : goal.eliminate-requires
eliminate-requires c =
    let p = c.requires in
    opposed_fits _ _ _ _ _ p _ (put_opposed _ _ _ _ _ p _ _ _ c.opposite.ensures.reply c.put.ensures)

pub fill-requires : goal.fill-requires
fill-requires c =
    let p = c.requires in
    opposed_fillable _ _ _ _ _ p _ _ _ (put_opposed _ _ _ _ _ p _ _ _ c.opposite.ensures.reply c.put.ensures) c.eliminate.ensures

pub returns : goal.returns
returns c =
    let p = c.requires in
    opposed_broken _ _ _ _ _ p _ _ _ _ (put_opposed _ _ _ _ _ p _ _ _ c.opposite.ensures.reply c.put.ensures) c.eliminate.ensures c.fill.ensures
