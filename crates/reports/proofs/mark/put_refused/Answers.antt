-- `mark::put_refused` meets its contract: the three lines one after the other. Assumes nothing.
use native.Mathlib.Omega.{arith}
use Rattle.numerals.proofs.Splices.{spliced_more}
use Rattle.reports.proofs.MarkTexts.{refused_text, refused_length}
use Rattle.reports.proofs.mark.put_refused.Goals as goal

pub put_number-first-requires : goal.put_number-first-requires
put_number-first-requires c = let a = c.args in omega (arith, refused_length a.paper a.r)

pub put_paper-second-requires : goal.put_paper-second-requires
put_paper-second-requires c =
    let a = c.args in
    omega (arith, c.put_number-first.auto.out, c.put_number-first.ensures.cursor, refused_length a.paper a.r)

pub put_where-requires : goal.put_where-requires
put_where-requires c =
    let a = c.args in
    omega (arith, c.put_paper-second.auto.out, c.put_number-first.auto.out, c.put_paper-second.ensures.cursor, c.put_number-first.ensures.cursor, refused_length a.paper a.r)

pub returns : goal.returns
returns c =
    let a = c.args in
    rw (refused_text a.paper a.r)
    (spliced_more (spliced_more c.put_number-first.ensures c.put_paper-second.ensures (omega arith)) c.put_where.ensures (omega arith))
