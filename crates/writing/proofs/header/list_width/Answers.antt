-- `header::list_width` meets its contract. The loop's invariant: the total is the width of the list of the quantities passed. Assumes nothing.
use mathlib.Core.Path.{sym, ap}
use native.Mathlib.Omega.{arith}
use lib.ListN.{length}
use Rattle.writing.proofs.ListTexts.{list_none, member_short}
use Rattle.writing.proofs.Lengths.{hidden_length}
use Rattle.writing.proofs.header.list_width.Goals as goal

pub loop-j-init : goal.loop-j-init
loop-j-init c = sym (ap length (list_none c.args.set))

pub overflow_add-total : goal.overflow_add-total
overflow_add-total c =
    let s = c.args.set in
    omega (arith, hidden_length c.loop-j.j s (omega arith), member_short s c.loop-j.j (omega arith))
