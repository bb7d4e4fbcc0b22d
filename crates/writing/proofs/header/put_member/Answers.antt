-- `header::put_member` meets its contract: its tests are the definition's. Assumes nothing.
use mathlib.Core.Path.{sym, ◌∙◌}
use native.Mathlib.Omega.{arith}
use Rattle.numerals.proofs.Splices.{spliced_none, spliced_more}
use Rattle.writing.proofs.ListTexts.{member_absent, member_next}
use Rattle.writing.proofs.header.put_member.Goals as goal

pub returns-then-not-is_hidden : goal.returns-then-not-is_hidden
returns-then-not-is_hidden c =
    let a = c.args in
    rw (member_absent a.set a.j (sym c.is_hidden.ensures ∙ c.if-not-is_hidden.true)) (spliced_none a.out.now a.at)

pub returns : goal.returns
returns c =
    rw (member_next c.args.set c.args.j (sym c.is_hidden.ensures ∙ c.if-not-is_hidden.false) (λ z. omega arith))
    (spliced_more c.put_byte-next.ensures c.put_number-2.ensures (omega arith))
