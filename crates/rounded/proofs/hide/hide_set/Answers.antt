-- `hide::hide_set` meets its contract: either way of hiding meets it. Assumes nothing.
use Rattle.rounded.proofs.hide.hide_set.Goals as goal

pub hide-requires : goal.hide-requires
hide-requires c = (c.requires.0, rw (← c.count.ensures) c.if-count-n.true, c.is_any_marked.ensures.none (c.if-not-is_any_marked.true))
