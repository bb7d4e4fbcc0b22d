-- `mark::put_shown` meets its contract: the rule's line and the assignment's. Assumes nothing.
use native.Mathlib.Omega.{arith}
use Rattle.numerals.proofs.Splices.{spliced_more}
use Rattle.reports.specs.Marks.{shown_text}
use Rattle.reports.proofs.MarkTexts.{shown_length}
use Rattle.reports.proofs.mark.put_shown.Goals as goal

pub put_rule-next-requires : goal.put_rule-next-requires
put_rule-next-requires c =
    let a = c.args in
    omega (arith, shown_length a.rule a.values.now)

pub put_values-requires : goal.put_values-requires
put_values-requires c =
    let a = c.args in
    omega (arith, c.put_rule-next.auto.out, shown_length a.rule a.values.now)

pub returns : goal.returns
unfolding shown_text
returns c =
    spliced_more c.put_rule-next.ensures c.put_values.ensures (omega arith)
