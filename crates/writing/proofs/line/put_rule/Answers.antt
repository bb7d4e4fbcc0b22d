-- `line::put_rule` meets its contract: the key, the value and the line's end. Assumes nothing.
use native.Mathlib.Omega.{arith}
use Rattle.numerals.proofs.Splices.{spliced_more}
use Rattle.writing.proofs.Lines.{rule-line}
use Rattle.writing.proofs.line.put_rule.Goals as goal

pub returns : goal.returns
returns c =
    rw (rule-line c.args.rule)
    (spliced_more (spliced_more c.put_text-value.ensures c.put_value-end.ensures (omega arith)) c.put_byte.ensures (omega arith))
