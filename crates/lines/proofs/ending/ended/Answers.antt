-- `ending::ended` meets its contract. Assumes nothing.
use mathlib.Core.Path.{refl}
use native.Mathlib.Omega.{arith}
use Rattle.numerals.specs.declared.byte.Kind.TheVariants.{LineEnd}
use Rattle.numerals.specs.Bytes.{newline}
use Rattle.numerals.proofs.Keys.{kind_holds, kind_fails, byte_inside}
use Rattle.lines.proofs.ending.ended.Goals as goal

pub returns-then-ne : goal.returns-then-ne
returns-then-ne g c = rw (kind_fails LineEnd c.args.s.now c.args.found.next refl c.byte_at.ensures c.from.ensures c.ne.ensures c.if-ne.true)

pub overflow_add-result : goal.overflow_add-result
overflow_add-result g c = let s = c.args.s.now in let next = c.args.found.next in
    omega (arith, byte_inside newline s next (kind_holds LineEnd s next refl c.byte_at.ensures c.from.ensures c.ne.ensures c.if-ne.false))

pub returns : goal.returns
returns g c = rw (kind_holds LineEnd c.args.s.now c.args.found.next refl c.byte_at.ensures c.from.ensures c.ne.ensures c.if-ne.false)
