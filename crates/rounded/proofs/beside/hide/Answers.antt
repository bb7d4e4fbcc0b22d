-- `beside::hide` meets its contract. Assumes nothing.
use Rattle.std.proofs.Common.{◌∙◌}
use Rattle.rounded.proofs.MarkedFits.{marked_fits}
use Rattle.rounded.proofs.BesideHidden.{mask_ready, hidden_met, part_ready, compare_ready, marked_some, marked_none}
use Rattle.rounded.proofs.beside.hide.Goals as goal
use Rattle.rounded.proofs.beside.hide.Goals.{then-count-n, else-count-n}

pub mask-requires : goal.mask-requires
mask-requires c = mask_ready _ c.args.set _ _ _ c.args.copy.now c.requires.0 c.requires.1 c.size-m.ensures

pub hide_set-requires : goal.hide_set-requires
hide_set-requires c = marked_fits _ _ _ c.requires.0

pub returns-then-hide_set : goal.returns-then-hide_set
returns-then-hide_set c = hidden_met _ _ _ _ _ _ c.requires.0 c.requires.1 c.size-m.ensures _ c.mask.ensures _ _ c.hide_set.ensures c.if-hide_set.true

pub eliminate-requires : goal.eliminate-requires
eliminate-requires c =
    part_ready _ _ _ _ _ _ c.requires.0 c.requires.1 c.size-m.ensures _ c.mask.ensures _ _ c.hide_set.ensures c.if-hide_set.false
    (rw c.count.ensures at c.if-count-n.true)

pub compare-requires : goal.compare-requires
compare-requires c =
    compare_ready _ _ _ _ _ _ c.requires.0 c.requires.1 c.size-m.ensures _ c.mask.ensures _ _ c.hide_set.ensures c.if-hide_set.false c.if-count-n.copy
    (c.if-count-n.auto.copy ∙ c.mask.ensures.lent.size)

pub returns : goal.returns
returns c = elim c.if-count-n.branch [
  | then-count-n w ↦ marked_some _ _ _ _ _ _ c.requires.0 c.requires.1 c.size-m.ensures _ c.mask.ensures _ _ c.hide_set.ensures c.if-hide_set.false
      (rw c.count.ensures at w.if-count-n.true) _ _ _ w.eliminate.ensures (rw w.copy-is at c.compare.ensures)
  | else-count-n w ↦ marked_none _ _ _ _ _ _ c.requires.0 c.requires.1 c.size-m.ensures _ c.mask.ensures _ _ c.hide_set.ensures c.if-hide_set.false
      (rw c.count.ensures at w.if-count-n.false) _ _ c.compare.ensures
]
