-- `mark::put_values` meets its contract: the key, the integers and the line's end. Assumes nothing.
use native.Mathlib.Omega.{arith}
use Rattle.numerals.proofs.Splices.{spliced_more}
use Rattle.reports.proofs.MarkTexts.{values-text, values_length}
use Rattle.reports.proofs.mark.put_values.Goals as goal

pub put_text-first-requires : goal.put_text-first-requires
put_text-first-requires c =
    let a = c.args in
    omega (arith, values_length a.values.now)

pub put_integers-end-requires : goal.put_integers-end-requires
put_integers-end-requires c =
    let a = c.args in
    omega (arith, c.put_text-first.auto.out, values_length a.values.now)

pub put_byte-requires : goal.put_byte-requires
put_byte-requires c =
    let a = c.args in
    omega (arith, c.put_integers-end.auto.out, c.put_text-first.auto.out, values_length a.values.now)

pub returns : goal.returns
returns c =
    let a = c.args in
    rw (values-text a.values.now)
    (spliced_more (spliced_more c.put_text-first.ensures c.put_integers-end.ensures (omega arith)) c.put_byte.ensures (omega arith))
