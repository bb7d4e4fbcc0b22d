-- `line::put_value` meets its contract: the terms in their order and then the bound, and nothing for a bare rule. Assumes nothing.
use native.Mathlib.Omega.{arith}
use mir.Syntax.{w64}
use mir.Val.{SFits}
use Rattle.integers.proofs.Parts.{word_value}
use Rattle.numerals.proofs.Splices.{spliced_none, spliced_more}
use Rattle.writing.proofs.Lines.{value_one, value_two, value_bare, value_two_length}
use Rattle.writing.proofs.line.put_value.Goals as goal

pub put_term-next-requires : goal.put_term-next-requires
put_term-next-requires c = omega (arith, value_two_length c.in-Two.is)

pub returns-in-One : goal.returns-in-One
returns-in-One c =
    let fits : SFits w64 c.in-One.bound = record { sfits = omega arith } in
    let bound = rw (word_value fits) at c.put_bound.ensures in
    rw (value_one c.in-One.is) (spliced_more c.put_term-colon.ensures bound (omega arith))

pub returns-in-Two : goal.returns-in-Two
returns-in-Two c =
    let fits : SFits w64 c.in-Two.bound = record { sfits = omega arith } in
    let bound = rw (word_value fits) at c.put_bound-in-Two.ensures in
    rw (value_two c.in-Two.is)
    (spliced_more (spliced_more c.put_term-next.ensures c.put_term-colon-in-Two.ensures (omega arith)) bound (omega arith))

pub returns-in-Nothing : goal.returns-in-Nothing
returns-in-Nothing c = rw (value_bare c.in-Nothing.is) (spliced_none c.args.out.now c.args.at)
