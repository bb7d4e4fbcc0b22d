-- `below::first_below` meets its contract. The loop's invariant: the blocks of the first i live quantities have no place that is looked for. Assumes nothing.
use mathlib.Core.Path.{◌≡◌}
use Prim.Native.Nat.{suc, ◌<◌}
use native.Mathlib.Omega.{arith}
use lib.ListN.{length, get_or}
use Rattle.places.proofs.Numbering.{block_start_mono}
use Rattle.tightening.proofs.FirstBelow.{passed_all, first_at, table_parts}
use Rattle.tightening.proofs.below.first_below.Goals as goal

pub first_in_block-requires : goal.first_in_block-requires
first_in_block-requires c =
    let b = get_or c.args.live.now c.loop-i.i 0 in
    let below : b < c.args.n = c.requires.listed.below c.loop-i.i c.loop-i-test.true in
    let ends = block_start_mono {a = suc b} {b = c.args.n} below in
    record { some = c.loop-i-test.true; rising = c.requires.listed.rising; most = omega arith; rules_room = omega arith; least_room = omega arith }

pub returns-in-Some : goal.returns-in-Some
returns-in-Some c =
    first_at _ _ _ _ _ (table_parts c.args.n c.args.live.now c.requires.listed) c.loop-i.i _ c.loop-i-test.true c.loop-i.invariant c.in-Some.ensures

pub returns : goal.returns
returns c =
    let live = c.args.live.now in
    let e : c.loop-i.i ≡ length live = omega arith in
    passed_all _ _ _ _ _ (table_parts c.args.n live c.requires.listed) (rw e at c.loop-i.invariant)
