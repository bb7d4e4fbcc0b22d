-- `live::list` meets its contract. The loop's invariant: the live ones of the quantities passed are listed, at most as many as were passed. Assumes nothing.
use mathlib.Core.Path.{sym, ◌∙◌}
use Prim.Native.Nat.{◌<◌}
use native.Mathlib.Numerals.{add-one}
use native.Mathlib.Omega.{arith}
use lib.ListN.{length}
use Rattle.keys.proofs.Listing.{live_none, live_passed, live_put}
use Rattle.keys.proofs.live.list.Goals.{then-is_live, else-is_live}
use Rattle.keys.proofs.live.list.Goals as goal

pub loop-i-init : goal.loop-i-init
loop-i-init c = record { most = omega arith; listed = live_none _ _ _ _ _ c.first-i.ensures }

pub loop-i-preserved : goal.loop-i-preserved
loop-i-preserved c =
    let l = c.loop-i in
    let live = c.is_live.ensures in
    let last : l.count < length l.out = omega arith in
    rw (add-one l.i)
    (elim c.if-is_live.branch [
      | then-is_live w ↦ rw (w.out-is, w.count-is, add-one l.count)
          (record { most = omega arith; listed = live_put _ _ _ l.i l.count l.out (sym live ∙ w.if-is_live.true) last l.invariant.listed })
      | else-is_live w ↦ rw (w.out-is, w.count-is)
          (record { most = omega arith; listed = live_passed _ _ _ l.i l.count l.out (sym live ∙ w.if-is_live.false) l.invariant.listed })
    ])
