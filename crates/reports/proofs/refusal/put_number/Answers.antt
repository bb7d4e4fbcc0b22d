-- `refusal::put_number` meets its contract. Assumes nothing.
use native.Mathlib.Omega.{arith}
use Rattle.reports.proofs.refusal.put_number.Goals as goal

pub put_count-requires : goal.put_count-requires
put_count-requires c = rw c.number.ensures (omega arith)

pub returns : goal.returns
returns c = rw c.number.ensures at c.put_count.ensures
