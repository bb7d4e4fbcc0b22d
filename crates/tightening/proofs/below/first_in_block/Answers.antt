-- `below::first_in_block` meets its contract. The loop's invariant: neither the run of the block's quantity alone nor those with the lower ones passed have a place that is
-- looked for. Assumes nothing.
use mathlib.Core.Path.{◌≡◌}
use Prim.Native.Nat.{suc}
use native.Mathlib.Numerals.{add-one}
use native.Mathlib.Omega.{arith}
use lib.ListN.{get_or, take, length}
use lib.Seq.{length-take-le}
use Rattle.places.specs.Numbering.{block_start}
use Rattle.places.proofs.Numbering.{block_start_suc}
use Rattle.tables.proofs.Sizes.{small_square}
use Rattle.tightening.proofs.FirstBelow.{passed_none, passed_more, passed_all, first_at, lower_live, block_parts}
use Rattle.tightening.proofs.below.first_in_block.Goals as goal

pub first_of-requires : goal.first_of-requires
unfolding block_start
first_of-requires c =
    let b = get_or c.args.live.now c.args.i 0 in
    record { rules_room = omega (arith, block_start_suc b); least_room = omega (arith, block_start_suc b) }

pub returns-in-Some : goal.returns-in-Some
unfolding block_start
returns-in-Some c =
    first_at _ _ _ _ _ (block_parts c.args.i c.args.live.now c.requires.rising c.requires.some) 0 _ (omega arith) (passed_none _ _ _) c.in-Some.ensures

pub loop-a-init : goal.loop-a-init
unfolding block_start
loop-a-init c = passed_more _ _ _ 0 _ (passed_none _ _ _) c.in_default.is c.first_of.ensures

pub overflow_mul-a : goal.overflow_mul-a
overflow_mul-a c =
    let l = lower_live c.args.i c.loop-a.a-index c.args.live.now c.requires.rising c.requires.some c.loop-a-test.true in
    omega arith

pub overflow_add-start-in-loop-a : goal.overflow_add-start-in-loop-a
overflow_add-start-in-loop-a c =
    let l = lower_live c.args.i c.loop-a.a-index c.args.live.now c.requires.rising c.requires.some c.loop-a-test.true in
    omega (arith, small_square (get_or c.args.live.now c.args.i 0) (omega arith))

pub first_of-requires-in-loop-a : goal.first_of-requires-in-loop-a
unfolding block_start
first_of-requires-in-loop-a c =
    let b = get_or c.args.live.now c.args.i 0 in
    let l = lower_live c.args.i c.loop-a.a-index c.args.live.now c.requires.rising c.requires.some c.loop-a-test.true in
    record { rules_room = omega (arith, block_start_suc b); least_room = omega (arith, block_start_suc b) }

pub returns-in-Some-first_of : goal.returns-in-Some-first_of
unfolding block_start
returns-in-Some-first_of c =
    let l = lower_live c.args.i c.loop-a.a-index c.args.live.now c.requires.rising c.requires.some c.loop-a-test.true in
    first_at _ _ _ _ _ (block_parts c.args.i c.args.live.now c.requires.rising c.requires.some) (suc c.loop-a.a-index) _ (omega arith) c.loop-a.invariant
    (rw l.1 at c.in-Some-first_of.ensures)

pub loop-a-preserved : goal.loop-a-preserved
unfolding block_start
loop-a-preserved c =
    let l = lower_live c.args.i c.loop-a.a-index c.args.live.now c.requires.rising c.requires.some c.loop-a-test.true in
    rw (add-one c.loop-a.a-index)
    (passed_more _ _ _ (suc c.loop-a.a-index) _ c.loop-a.invariant c.in_default-first_of.is (rw l.1 at c.first_of-in-loop-a.ensures))

pub returns : goal.returns
returns c =
    let e : length (take c.args.i c.args.live.now) ≡ c.args.i = length-take-le _ _ (omega arith) in
    let d : c.loop-a.a-index ≡ c.args.i = omega arith in
    passed_all _ _ _ _ _ (block_parts c.args.i c.args.live.now c.requires.rising c.requires.some) (rw d at c.loop-a.invariant)
