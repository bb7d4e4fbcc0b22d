-- `header::put_header` meets its contract: the three lines one after the other. Assumes nothing.
use native.Mathlib.Omega.{arith}
use Rattle.numerals.proofs.Splices.{spliced_more}
use Rattle.writing.proofs.Texts.{head-text}
use Rattle.writing.proofs.header.put_header.Goals as goal

pub returns : goal.returns
returns c =
    let a = c.args in
    let hidden = spliced_more (spliced_more c.put_count-second.ensures c.put_text-list.ensures (omega arith)) c.put_list-end.ensures (omega arith) in
    rw (head-text a.n a.set a.count)
    (spliced_more (spliced_more hidden c.put_byte-third.ensures (omega arith)) c.put_count.ensures (omega arith))
