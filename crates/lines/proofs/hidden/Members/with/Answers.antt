-- `hidden::Members::with` meets its contract: a number is outside its limits, or its bit is set apart from those of the set. Assumes nothing.
use mathlib.Core.Logic.{⊎_elim}
use native.Mathlib.Omega.{arith}
use Rattle.lines.proofs.Bits.{within_zero, within_above, within_inside, bit_inside, bit_outside}
use Rattle.lines.proofs.hidden.Members.with.Goals as goal

pub returns-then-q-lt1-clause-set : goal.returns-then-q-lt1-clause-set
returns-then-q-lt1-clause-set c = let a = c.args in
    ⊎_elim (λ l. omega (arith, bit_outside a.n a.q (within_zero a.n a.q l))) (λ l. omega (arith, bit_outside a.n a.q (within_above a.n a.q l.0 l.1)))
    c.then-q-lt1.either

pub returns-clause-set : goal.returns-clause-set
returns-clause-set c = let a = c.args in
    rw (c.bit.ensures, bit_inside a.n a.q (within_inside a.n a.q c.if-q-lt1.false c.if-n-q.false))
