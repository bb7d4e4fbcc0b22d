-- `mark::put_word` meets its contract: the key, the word and the line's end. Assumes nothing.
use native.Mathlib.Omega.{arith}
use Rattle.numerals.proofs.Splices.{spliced_more}
use Rattle.reports.proofs.MarkTexts.{word-text, word_length}
use Rattle.reports.proofs.mark.put_word.Goals as goal

pub put_text-value-requires : goal.put_text-value-requires
put_text-value-requires c =
    let a = c.args in
    omega (arith, word_length a.key.now a.word.now)

pub put_text-end-requires : goal.put_text-end-requires
put_text-end-requires c =
    let a = c.args in
    omega (arith, c.put_text-value.auto.out, word_length a.key.now a.word.now)

pub put_byte-requires : goal.put_byte-requires
put_byte-requires c =
    let a = c.args in
    omega (arith, c.put_text-end.auto.out, c.put_text-value.auto.out, word_length a.key.now a.word.now)

pub returns : goal.returns
returns c =
    let a = c.args in
    rw (word-text a.key.now a.word.now)
    (spliced_more (spliced_more c.put_text-value.ensures c.put_text-end.ensures (omega arith)) c.put_byte.ensures (omega arith))
