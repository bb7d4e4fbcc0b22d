-- `doubled::hide` meets its contract: the table is doubled, the set hidden in it turn after turn, and what is left taken apart. Assumes nothing.
use Rattle.std.proofs.Common.{arith, sym, ap, length}
use Rattle.tables.proofs.Sizes.{size_known}
use Rattle.rounded.proofs.DoubledFits.{doublable, doubled_fits}
use Rattle.rounded.proofs.DoubledSets.{cleared_length, turns_clash, halves_clash, set_split}
use Rattle.rounded.proofs.doubled.hide.Goals as goal

pub double-requires : goal.double-requires
double-requires c = doublable _ _ _ _ c.requires.0 (size_known _ _ c.requires.0.most c.size-m.ensures)

pub eliminate-requires : goal.eliminate-requires
eliminate-requires c =
    let d = rw (size_known _ _ c.requires.0.most c.size-m.ensures) at c.double.ensures in
    doubled_fits _ _ _ _ c.requires.0 c.requires.1 _ d

pub returns-then-eliminate : goal.returns-then-eliminate
returns-then-eliminate c =
    let d = rw (size_known _ _ c.requires.0.most c.size-m.ensures) at c.double.ensures in
    turns_clash _ _ _ _ c.requires.0 c.requires.1 c.requires.2 _ d _ c.eliminate.ensures.lent (c.eliminate.ensures.met c.if-eliminate.true)

pub returns-then-is_any_below : goal.returns-then-is_any_below
returns-then-is_any_below c =
    let d = rw (size_known _ _ c.requires.0.most c.size-m.ensures) at c.double.ensures in
    halves_clash _ _ _ _ c.requires.0 c.requires.1 c.requires.2 _ d _ c.eliminate.ensures.lent (c.eliminate.ensures.some c.if-eliminate.false) (sym c.if-is_any_below.ensures)

pub split-requires : goal.split-requires
split-requires c =
    let s = size_known _ _ c.requires.0.most c.size-m.ensures in
    let d = rw s at c.double.ensures in
    let l = cleared_length c.args.n c.args.set c.eliminate.new.table in
    (omega (arith, ap length c.clear_set.ensures, c.eliminate.ensures.lent.size, d.size, c.requires.0.room), omega (arith, c.requires.0.marks_room))

pub returns : goal.returns
returns c =
    let s = size_known _ _ c.requires.0.most c.size-m.ensures in
    let d = rw s at c.double.ensures in
    set_split _ _ _ _ c.requires.0 c.requires.1 c.requires.2 _ d _ c.eliminate.ensures.lent (c.eliminate.ensures.some c.if-eliminate.false) (sym c.if-is_any_below.ensures) _ _
    (rw (s, c.clear_set.ensures) at c.split.ensures)
