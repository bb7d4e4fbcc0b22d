-- `write::signed_width` meets its contract: the numeral of the magnitude, and the sign. Assumes nothing.
use mathlib.Core.Path.{◌∙◌, sym, ap}
use native.Mathlib.Omega.{arith}
use lib.ListN.{length}
use Rattle.numerals.proofs.Decimals.{decimal_width, word_below, word_above}
use Rattle.numerals.proofs.write.signed_width.Goals as goal

pub overflow_add-result : goal.overflow_add-result
overflow_add-result c = omega (arith, decimal_width 19 c.magnitude.result (omega arith))

pub returns-then-c-lt0 : goal.returns-then-c-lt0
returns-then-c-lt0 c = omega (arith, ap length (word_below c.ranges.c c.if-c-lt0.true c.magnitude.ensures))

pub returns-else-c-lt0 : goal.returns-else-c-lt0
returns-else-c-lt0 c = c.width-digits.ensures ∙ sym (ap length (word_above c.ranges.c c.if-c-lt0.false c.magnitude.ensures))
