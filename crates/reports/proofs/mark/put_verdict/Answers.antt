-- `mark::put_verdict` meets its contract: the first line names the verdict, and loose and tight have two more. Assumes nothing.
use mathlib.Core.List.{append-nil}
use native.Mathlib.Omega.{arith}
use Rattle.numerals.specs.Bytes.{bytes}
use Rattle.numerals.proofs.Splices.{spliced_more}
use Rattle.reports.specs.Marks.{verdict_key, word_text}
use Rattle.reports.proofs.MarkTexts.{verdict-text, verdict_length}
use Rattle.reports.proofs.mark.put_verdict.Goals as goal

pub put_word-requires : goal.put_word-requires
put_word-requires c =
    omega (arith, verdict_length c.args.values.now c.in-Equal.is)

pub put_word-next-requires : goal.put_word-next-requires
put_word-next-requires c =
    omega (arith, verdict_length c.args.values.now c.in-Loose.is)

pub put_shown-requires : goal.put_shown-requires
put_shown-requires c =
    omega (arith, c.put_word-next.auto.out, verdict_length c.args.values.now c.in-Loose.is)

pub put_word-next-requires-in-Tight : goal.put_word-next-requires-in-Tight
put_word-next-requires-in-Tight c =
    omega (arith, verdict_length c.args.values.now c.in-Tight.is)

pub put_shown-requires-in-Tight : goal.put_shown-requires-in-Tight
put_shown-requires-in-Tight c =
    omega (arith, c.put_word-next-in-Tight.auto.out, verdict_length c.args.values.now c.in-Tight.is)

pub returns-in-Equal : goal.returns-in-Equal
returns-in-Equal c =
    rw (verdict-text c.args.values.now c.in-Equal.is, append-nil (word_text verdict_key (bytes "equal"))) c.put_word.ensures

pub returns-in-Loose : goal.returns-in-Loose
returns-in-Loose c =
    rw (verdict-text c.args.values.now c.in-Loose.is) (spliced_more c.put_word-next.ensures c.put_shown.ensures (omega arith))

pub returns-in-Tight : goal.returns-in-Tight
returns-in-Tight c =
    rw (verdict-text c.args.values.now c.in-Tight.is) (spliced_more c.put_word-next-in-Tight.ensures c.put_shown-in-Tight.ensures (omega arith))
