-- `tighten::gather_lone` meets its contract. The loop's invariant: the bounds of the quantities passed are gathered. Assumes nothing.
use mathlib.Core.Path.{◌≡◌}
use Prim.Native.Nat.{◌+◌, ◌*◌, ◌≤◌}
use native.Mathlib.Numerals.{add-one}
use native.Mathlib.Omega.{arith}
use lib.ListN.{length, get_or}
use Rattle.std.proofs.Common.{rules}
use Rattle.elimination.specs.Hiding.{lone_word}
use Rattle.elimination.proofs.Rows.{filled_more}
use Rattle.tightening.proofs.Strengthening.{lone_places, plus_lone, minus_lone, lone_all}
use Rattle.tightening.proofs.tighten.gather_lone.Goals as goal

pub bounds-table-start : goal.bounds-table-start
bounds-table-start c =
    let p = lone_places c.args.n (get_or c.args.live.now c.loop-a.a-index 0) c.requires.most (c.requires.listed.below c.loop-a.a-index c.loop-a-test.true) in
    omega arith

pub bounds-table-start-in-loop-a : goal.bounds-table-start-in-loop-a
bounds-table-start-in-loop-a c =
    let p = lone_places c.args.n (get_or c.args.live.now c.loop-a.a-index 0) c.requires.most (c.requires.listed.below c.loop-a.a-index c.loop-a-test.true) in
    omega arith

pub loop-a-preserved : goal.loop-a-preserved
loop-a-preserved c =
    let live = c.args.live.now in
    let t = c.args.table.now in
    let a = get_or live c.loop-a.a-index 0 in
    let below = c.requires.listed.below c.loop-a.a-index c.loop-a-test.true in
    let room : 2 * a + 2 ≤ length c.loop-a.row = omega arith in
    let plus = plus_lone t a in
    let minus = minus_lone t a in
    rw (add-one c.loop-a.a-index)
    (filled_more c.loop-a.a-index live (lone_word t) c.loop-a.row _ c.requires.listed.rising c.loop-a-test.true room (search rules) c.loop-a.invariant)

pub returns : goal.returns
returns c =
    let l = c.loop-a in
    let e : l.a-index ≡ length c.args.live.now = omega arith in
    lone_all _ _ _ _ (rw e at l.invariant)
