-- `refusal::put_refusal` meets its contract: the two lines one after the other. Assumes nothing.
use native.Mathlib.Omega.{arith}
use Rattle.numerals.proofs.Splices.{spliced_more}
use Rattle.reports.specs.Refusals.{refusal_text}
use Rattle.reports.proofs.RefusalLengths.{refusal_parts}
use Rattle.reports.proofs.refusal.put_refusal.Goals as goal

pub put_number-next-requires : goal.put_number-next-requires
put_number-next-requires c = omega (arith, refusal_parts c.args.r)

pub put_where-requires : goal.put_where-requires
put_where-requires c =
    omega (arith, c.put_number-next.auto.out, c.put_number-next.ensures.cursor, refusal_parts c.args.r)

pub returns : goal.returns
unfolding refusal_text
returns c =
    spliced_more c.put_number-next.ensures c.put_where.ensures (omega arith)
