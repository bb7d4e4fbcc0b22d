-- `mark::print_mark` meets its contract: what is printed is the reply's text, and there is room for it. Assumes nothing.
use mathlib.Core.Path.{sym}
use native.Mathlib.Omega.{arith}
use lib.Seq.{length-take-le}
use Rattle.reports.proofs.MarkRoom.{verdict_room, refusal_room}
use Rattle.reports.proofs.MarkPromised.{reply_marked, reply_refused, mark_printed}
use Rattle.reports.proofs.mark.print_mark.Goals as goal

pub slice_bounds-values-end : goal.slice_bounds-values-end
slice_bounds-values-end c = (verdict_room c.mark_in_own_room.ensures (omega arith) c.in-Ok.is).0

pub slice_bounds-put_verdict-end-in-Ok : goal.slice_bounds-put_verdict-end-in-Ok
slice_bounds-put_verdict-end-in-Ok c = sym (length-take-le _ _ (verdict_room c.mark_in_own_room.ensures (omega arith) c.in-Ok.is).0)

pub put_verdict-requires : goal.put_verdict-requires
put_verdict-requires c = omega (arith, (verdict_room c.mark_in_own_room.ensures (omega arith) c.in-Ok.is).1)

pub put_refused-requires : goal.put_refused-requires
put_refused-requires c = omega (arith, refusal_room c.mark_in_own_room.ensures c.in-Err.is)

pub returns-in-Ok : goal.returns-in-Ok
returns-in-Ok c = mark_printed c.mark_in_own_room.ensures (omega arith) (reply_marked _ c.in-Ok.is) c.put_verdict.ensures

pub returns-in-Err : goal.returns-in-Err
returns-in-Err c = mark_printed c.mark_in_own_room.ensures (omega arith) (reply_refused _ c.in-Err.is) c.put_refused.ensures
