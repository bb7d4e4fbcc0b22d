-- `line::term_width` meets its contract: a sign and the numeral of the quantity. Assumes nothing.
use native.Mathlib.Omega.{arith}
use Rattle.writing.proofs.Lines.{term_told}
use Rattle.writing.proofs.line.term_width.Goals as goal

pub overflow_add-result : goal.overflow_add-result
overflow_add-result c = omega (arith, term_told c.args.x c.ranges.x.fits c.quantity.ensures c.width.ensures)

pub returns : goal.returns
returns c = term_told c.args.x c.ranges.x.fits c.quantity.ensures c.width.ensures
