-- `line::put_count` meets its contract: the key, the numeral and the line's end. Assumes nothing.
use native.Mathlib.Omega.{arith}
use Rattle.numerals.proofs.Splices.{spliced_more}
use Rattle.writing.proofs.Lines.{count-text}
use Rattle.writing.proofs.line.put_count.Goals as goal

pub returns : goal.returns
returns c =
    rw (count-text c.args.key.now c.args.value)
    (spliced_more (spliced_more c.put_text-from.ensures c.put_number-end.ensures (omega arith)) c.put_byte.ensures (omega arith))
