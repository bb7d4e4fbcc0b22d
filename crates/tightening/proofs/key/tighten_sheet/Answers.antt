-- `key::tighten_sheet` meets its contract: the sheet is copied, its hidden quantities hidden in the copy, and the key tightened there. Assumes nothing.
use Rattle.keys.proofs.Making.{copy_fits}
use Rattle.tightening.proofs.TightMaking.{tight_ready, tight_early, tight_tried}
use Rattle.tightening.proofs.key.tighten_sheet.Goals as goal

pub hide_set-requires : goal.hide_set-requires
hide_set-requires c =
    copy_fits _ _ _ _ _ _ c.requires c.size.ensures c.copy.ensures

pub returns-then-hide_set : goal.returns-then-hide_set
returns-then-hide_set c =
    tight_early _ _ _ _ _ _ c.requires c.size.ensures c.copy.ensures _ _ c.hide_set.ensures c.if-hide_set.true

pub tighten-requires : goal.tighten-requires
tighten-requires c =
    tight_ready _ _ _ _ _ _ c.requires c.size.ensures c.copy.ensures _ _ c.hide_set.ensures c.if-hide_set.false _ _ c.list-count.ensures

pub returns : goal.returns
returns c =
    tight_tried _ _ _ _ _ _ c.requires c.size.ensures c.copy.ensures _ _ c.hide_set.ensures c.if-hide_set.false _ _ c.tighten.ensures
