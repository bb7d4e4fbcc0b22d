-- `hidden::count` meets its contract: past the set's bits there are no more. Assumes nothing.
use mathlib.Core.Path.{◌≡◌, ◌∙◌}
use Prim.Native.Nat.{min}
use native.Mathlib.Omega.{arith}
use Rattle.rules.proofs.Counts.{count_min}
use Rattle.rules.proofs.hidden.count.Goals as goal

pub returns : goal.returns
returns c =
    let all : c.loop-i.i ≡ min c.args.n 32 = omega (arith, c.min-i-end.ensures) in
    c.loop-i.invariant ∙ rw all (count_min c.args.set c.args.n c.ranges.set.fits)
