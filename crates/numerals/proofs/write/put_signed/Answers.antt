-- `write::put_signed` meets its contract: the sign and then the numeral of the magnitude. Assumes nothing.
use mathlib.Core.Path.{ap}
use native.Mathlib.Omega.{arith}
use lib.ListN.{length}
use Rattle.numerals.proofs.Decimals.{signed_some, word_below, word_above}
use Rattle.numerals.proofs.Splices.{spliced_more}
use Rattle.numerals.proofs.write.put_signed.Goals as goal
use Rattle.numerals.proofs.write.put_signed.Goals.{then-c-lt0, else-c-lt0}

pub put_byte-digits-requires : goal.put_byte-digits-requires
put_byte-digits-requires c = omega (arith, signed_some c.args.c)

pub put_number-requires : goal.put_number-requires
put_number-requires c =
    elim c.if-c-lt0.branch [
      | then-c-lt0 w ↦ omega (arith, ap length (word_below c.ranges.c w.if-c-lt0.true c.magnitude.ensures), w.put_byte-digits.ensures.cursor)
      | else-c-lt0 w ↦ omega (arith, ap length (word_above c.ranges.c w.if-c-lt0.false c.magnitude.ensures))
    ]

pub returns : goal.returns
returns c =
    elim c.if-c-lt0.branch [
      | then-c-lt0 w ↦ rw (word_below c.ranges.c w.if-c-lt0.true c.magnitude.ensures)
          (spliced_more w.put_byte-digits.ensures (rw (w.out-is, w.digits-is) at c.put_number.ensures) (omega arith))
      | else-c-lt0 w ↦ rw (word_above c.ranges.c w.if-c-lt0.false c.magnitude.ensures) (rw (w.out-is, w.digits-is) at c.put_number.ensures)
    ]
