-- `compare::is_smaller` meets its contract. Assumes nothing.
use mathlib.Core.Path.{◌∙◌}
use borrow.Author.Tests.{eq-eqb, ne_eqb}
use Rattle.numerals.specs.Order.{smaller_numeral}
use Rattle.numerals.proofs.Order.{compared, library_earlier}
use Rattle.numerals.proofs.compare.is_smaller.Goals as goal

pub returns-then-x-y : goal.returns-then-x-y
unfolding smaller_numeral
returns-then-x-y c = compared _ _ _ (rw (eq-eqb _ _ c.if-x-y.true) (c.lt.ensures ∙ library_earlier c.args.x.now c.args.y.now c.if-x-y.true))

pub returns : goal.returns
unfolding smaller_numeral
returns c = compared _ _ _ (rw (ne_eqb _ _ c.if-x-y.false))
