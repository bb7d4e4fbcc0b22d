-- `beside::compare` meets its contract. Assumes nothing.
use Rattle.std.proofs.Common.{rules, arith, ◌≡◌}
use Rattle.marks.proofs.Pointwise.{done_more, done_rest}
use Rattle.rounded.proofs.beside.compare.Invariants.{told_at}
use Rattle.rounded.proofs.beside.compare.Goals as goal

pub loop-i-preserved : goal.loop-i-preserved
loop-i-preserved c =
    let e : c.from.result ≡ told_at c.args.table.now c.args.copy.now c.loop-i.i = search rules in
    done_more _ _ _ _ _ _ c.loop-i.invariant (omega arith) e

pub returns : goal.returns
returns c =
    let e : c.loop-i.i ≡ c.args.m = omega arith in
    let d = rw e at c.loop-i.invariant in
    record { size = d.size; each = d.each; rest = done_rest _ _ _ _ _ d }
