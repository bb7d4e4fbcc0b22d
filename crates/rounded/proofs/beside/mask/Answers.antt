-- `beside::mask` meets its contract. Assumes nothing.
use Rattle.std.proofs.Common.{arith, ◌≡◌}
use Rattle.std.proofs.lemmas.Grind.{common_steps}
use Rattle.marks.specs.Marks.{marked_of}
use Rattle.marks.proofs.Pointwise.{done_more, done_rest}
use Rattle.rounded.proofs.beside.mask.Goals as goal

pub loop-i-preserved : goal.loop-i-preserved
unfolding marked_of
loop-i-preserved c = done_more _ _ _ _ _ _ c.loop-i.invariant (omega arith) (grind (arith, common_steps))

pub returns : goal.returns
returns c =
    let e : c.loop-i.i ≡ c.args.m = omega arith in
    let d = rw e at c.loop-i.invariant in
    record { each = d.each; lent = record { size = d.size; rest = done_rest _ _ _ _ _ d; kept = λ f. cc } }
