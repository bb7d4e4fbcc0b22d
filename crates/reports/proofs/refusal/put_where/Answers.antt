-- `refusal::put_where` meets its contract. Assumes nothing.
use native.Mathlib.Omega.{arith}
use Rattle.reports.proofs.refusal.put_where.Goals as goal

pub put_count-requires : goal.put_count-requires
put_count-requires c = rw c.line.ensures (omega arith)

pub returns : goal.returns
returns c = rw c.line.ensures at c.put_count.ensures
