-- `row::gather` meets its contract. Assumes nothing.
use mathlib.Core.Path.{◌≡◌}
use Prim.Native.Nat.{suc, ◌<◌}
use native.Mathlib.Omega.{arith}
use lib.ListN.{length, get_or}
use Rattle.places.proofs.Numbering.{block_start_mono}
use Rattle.elimination.proofs.Rows.{filled_all}
use Rattle.elimination.proofs.row.gather.Goals as goal

pub gather_pair-requires : goal.gather_pair-requires
gather_pair-requires c =
    let r = c.requires.ready in
    let a = get_or c.args.live.now c.loop-a.a-index 0 in
    let below : a < c.args.n = c.requires.listed.below c.loop-a.a-index (omega arith) in
    record {
      one = omega (arith, r.one, r.most);
      other = omega (arith, r.most);
      one_room = omega (arith, r.room, r.one, block_start_mono {a = suc c.args.j} {b = c.args.n} r.one);
      other_room = omega (arith, r.room, block_start_mono {a = suc a} {b = c.args.n} (omega arith));
      plus_room = omega (arith, c.requires.plus_room);
      minus_room = omega (arith, c.requires.minus_room);
    }

pub returns : goal.returns
returns c =
    let passed : c.loop-a.a-index ≡ length c.args.live.now = omega (arith, c.loop-a.auto.a-index-end) in
    filled_all _ _ _ _ _ _ (rw passed at c.loop-a.invariant.plus_filled) (rw passed at c.loop-a.invariant.minus_filled)
