-- `write::write` meets its contract: its tests are the definition's, and the header and the rules' lines are the text. Assumes nothing.
use mathlib.Core.Path.{refl, sym, ◌∙◌}
use native.Mathlib.Omega.{arith}
use lib.ListN.{length}
use Rattle.numerals.specs.Writing.{Spliced}
use Rattle.numerals.proofs.Splices.{spliced_more}
use Rattle.writing.specs.Writing.{written_text}
use Rattle.writing.proofs.Texts.{front_of, front_small, front_words, front_text, front_length}
use Rattle.writing.proofs.Lengths.{head_short}
use Rattle.writing.proofs.Promised.{reply_tested, reply_short, reply_text, promised_refused, promised_text}
use Rattle.writing.proofs.write.write.Goals as goal

pub returns-then-not-serves : goal.returns-then-not-serves
returns-then-not-serves c =
    let a = c.args in
    promised_refused _ _ _ _ _
    (reply_tested a.n a.set a.table.now (length a.out.now) (sym c.serves.ensures ∙ c.if-not-serves.true) refl refl)

pub returns-then-not-is_within : goal.returns-then-not-is_within
returns-then-not-is_within c =
    let a = c.args in
    let outside = sym c.is_within.ensures.reply ∙ c.if-not-is_within.true in
    promised_refused _ _ _ _ _
    (reply_tested a.n a.set a.table.now (length a.out.now) (sym c.serves.ensures ∙ c.if-not-serves.false) outside refl)

pub slice_bounds-places-end : goal.slice_bounds-places-end
slice_bounds-places-end c =
    c.size.ensures ∙ (front_of _ _ _ (sym c.serves.ensures ∙ c.if-not-serves.false) c.size.ensures).size

pub measured-rules-requires : goal.measured-rules-requires
measured-rules-requires c = (front_of _ _ _ (sym c.serves.ensures ∙ c.if-not-serves.false) c.size.ensures).few

pub header_width-requires : goal.header_width-requires
header_width-requires c =
    let p = front_of _ _ _ (sym c.serves.ensures ∙ c.if-not-serves.false) c.size.ensures in
    (p.most, omega (arith, p.rules, front_small c.args.set p c.measured-rules.ensures))

pub overflow_add-needed : goal.overflow_add-needed
overflow_add-needed c =
    let a = c.args in
    let p = front_of _ _ _ (sym c.serves.ensures ∙ c.if-not-serves.false) c.size.ensures in
    let small = front_small a.set p c.measured-rules.ensures in
    omega (arith, p.rules, small, head_short a.n a.set c.measured-rules.result.rules p.most (omega (arith, p.rules, small)), c.header_width.ensures)

pub returns-then-out-needed : goal.returns-then-out-needed
returns-then-out-needed c =
    let a = c.args in
    let p = front_of _ _ _ (sym c.serves.ensures ∙ c.if-not-serves.false) c.size.ensures in
    promised_refused _ _ _ _ _
    (reply_short a.n a.set a.table.now (length a.out.now) _ p.served (sym c.is_within.ensures.reply ∙ c.if-not-is_within.false)
    (front_length a.set p c.measured-rules.ensures c.header_width.ensures) c.if-out-needed.true)

pub put_header-body-requires : goal.put_header-body-requires
put_header-body-requires c =
    let p = front_of _ _ _ (sym c.serves.ensures ∙ c.if-not-serves.false) c.size.ensures in
    (p.most, omega (arith, c.header_width.ensures, c.if-out-needed.false))

pub put_rules-end-requires : goal.put_rules-end-requires
put_rules-end-requires c =
    let p = front_of _ _ _ (sym c.serves.ensures ∙ c.if-not-serves.false) c.size.ensures in (
      p.few,
      omega (
        arith,
        c.put_header-body.auto.out,
        c.put_header-body.ensures.cursor,
        c.header_width.ensures,
        c.measured-rules.ensures.measured,
        c.if-out-needed.false,
      ),
    )

pub returns : goal.returns
returns c =
    let a = c.args in
    let t = a.table.now in
    let p = front_of _ _ _ (sym c.serves.ensures ∙ c.if-not-serves.false) c.size.ensures in
    let needed = front_length a.set p c.measured-rules.ensures c.header_width.ensures in
    let text : Spliced a.out.now 0 (written_text a.n a.set t) c.put_rules-end.result c.put_rules-end.new.out =
    rw (front_text a.set p c.measured-rules.ensures) (spliced_more c.put_header-body.ensures c.put_rules-end.ensures (omega arith)) in
    promised_text a.n a.set t a.out.now c.put_rules-end.result c.put_rules-end.new.out
    (reply_text a.n a.set t (length a.out.now) c.put_rules-end.result p.served (sym c.is_within.ensures.reply ∙ c.if-not-is_within.false)
    (omega (arith, text.cursor)) (omega (arith, text.cursor, needed, c.if-out-needed.false)))
    text
    (front_words a.set p c.measured-rules.ensures)
