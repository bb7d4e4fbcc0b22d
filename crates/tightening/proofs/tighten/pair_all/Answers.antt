-- `tighten::pair_all` meets its contract. The loop's invariant: all quantities below the one at its turn in the list, or all where the list has ended, are paired
-- without a contradiction. Assumes nothing.
use native.Mathlib.Numerals.{add-one}
use native.Mathlib.Omega.{arith}
use Rattle.tightening.proofs.Walking.{walk_first, walk_ready, walk_on, walk_clash, walk_end}
use Rattle.tightening.proofs.tighten.pair_all.Goals as goal

pub loop-j-init : goal.loop-j-init
loop-j-init c = walk_first c.args.n c.args.live.now c.args.table.now c.requires.0 c.requires.1

pub pair-requires : goal.pair-requires
pair-requires c =
    let l = c.loop-j in
    record {
      ready = walk_ready c.args.n c.args.live.now c.args.table.now c.requires.0 c.requires.1 l.j-index l.table c.loop-j-test.true l.invariant;
      listed = c.requires.1.listed;
      plus_room = omega arith;
      minus_room = omega arith;
    }

pub returns-then-pair : goal.returns-then-pair
returns-then-pair c =
    let l = c.loop-j in
    walk_clash c.args.n c.args.live.now c.args.table.now c.requires.0 c.requires.1 l.j-index l.table _ _ c.loop-j-test.true l.invariant c.pair.ensures c.if-pair.true

pub loop-j-preserved : goal.loop-j-preserved
loop-j-preserved c =
    let l = c.loop-j in
    rw (add-one l.j-index)
    (walk_on c.args.n c.args.live.now c.args.table.now c.requires.0 c.requires.1 l.j-index l.table _ _ c.loop-j-test.true l.invariant c.pair.ensures c.if-pair.false)

pub returns : goal.returns
returns c =
    let l = c.loop-j in
    walk_end c.args.n c.args.live.now c.args.table.now c.requires.0 c.requires.1 l.j-index l.table c.loop-j-test.false l.invariant
