-- `limit::is_table_in` meets its contract. The loop's invariant: the words before the present one pass. Assumes nothing.
use Rattle.tables.proofs.Limits.{PassBefore}
use Rattle.tables.proofs.limit.is_table_in.Given as goal

abbrev pub invariant-loop-w : goal.invariant-loop-w
invariant-loop-w l = PassBefore l.w-index l.limit l.w-items
