-- `line::put_bound` meets its contract: the colon and the numeral. Assumes nothing.
use native.Mathlib.Omega.{arith}
use Rattle.integers.proofs.Parts.{word_value}
use Rattle.numerals.proofs.Splices.{spliced_more}
use Rattle.writing.proofs.line.put_bound.Goals as goal

pub returns : goal.returns
returns c =
    let signed = rw (word_value c.ranges.bound) at c.put_signed.ensures in
    spliced_more c.put_byte-digits.ensures signed (omega arith)
