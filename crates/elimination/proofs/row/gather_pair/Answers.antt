-- `row::gather_pair` meets its contract: the places read are those of the two quantities' terms, in the block of the higher one. Assumes nothing.
use Rattle.std.proofs.Common.{arith, rules}
use Rattle.elimination.proofs.Rows.{gathered_low, gathered_high, gathered_own}
use Rattle.elimination.proofs.row.gather_pair.Goals as goal

pub returns-then-a-j : goal.returns-then-a-j
returns-then-a-j c = gathered_low c.args.j c.args.a c.args.table.now c.args.plus.now c.args.minus.now c.if-a-j.true (search rules) (search rules) (search rules) (search rules)

pub returns-then-j-a : goal.returns-then-j-a
returns-then-j-a c = gathered_high c.args.j c.args.a c.args.table.now c.args.plus.now c.args.minus.now c.if-j-a.true (search rules) (search rules) (search rules) (search rules)

pub returns-else-j-a : goal.returns-else-j-a
returns-else-j-a c = gathered_own c.args.j c.args.a c.args.table.now c.args.plus.now c.args.minus.now (omega arith)
