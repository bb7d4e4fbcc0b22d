-- `words::copy` meets its contract. Assumes nothing.
use mathlib.Core.Path.{◌≡◌, sym, ◌∙◌}
use native.Mathlib.Omega.{arith}
use Rattle.std.proofs.Common.{rules}
use Rattle.words.proofs.Change.{change_none, copied_more, copied}
use Rattle.words.proofs.copy.Goals as goal

pub loop-i-init : goal.loop-i-init
loop-i-init c = sym (change_none _ _)

pub loop-i-preserved : goal.loop-i-preserved
loop-i-preserved c = search (rules, copied_more c.loop-i.i c.args.from.now c.args.t.now c.loop-i.t c.loop-i.invariant (omega arith) (omega arith))

pub returns : goal.returns
returns c =
    let e : c.loop-i.i ≡ c.min-end.result = omega arith in
    c.loop-i.invariant ∙ rw e (copied c.args.m c.min-end.result c.args.from.now c.args.t.now (omega arith))
