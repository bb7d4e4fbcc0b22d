-- `mark::put_integers` meets its contract: the first integer, and each later one after a comma. Assumes nothing.
use mathlib.Core.Path.{refl}
use Prim.Native.Nat.{◌^◌, ◌<◌}
use native.Mathlib.Omega.{arith}
use lib.Signed.{mag}
use Rattle.std.proofs.lemmas.List.{take_all}
use Rattle.integers.proofs.Parts.{held_value}
use Rattle.words.specs.Change.{word_at}
use Rattle.numerals.proofs.Splices.{spliced_none, spliced_more}
use Rattle.reports.proofs.MarkTexts.{integers_none, integers-text, integers_length, further_none, further_more, further_room}
use Rattle.reports.proofs.mark.put_integers.Goals as goal

pub returns-in_default : goal.returns-in_default
returns-in_default c = rw (integers_none c.args.values.now c.in_default.ensures.cases) (spliced_none c.args.out.now c.args.at)

pub put_signed-next-requires : goal.put_signed-next-requires
put_signed-next-requires c =
    let g : mag c.in-Some.first.now < 2 ^ 63 = omega arith in
    rw (held_value g) (omega (arith, integers_length c.in-Some.ensures.cases.0))

pub loop-value-init : goal.loop-value-init
loop-value-init c = (refl, rw (further_none c.in-Some.rest.now) (spliced_none c.put_signed-next.new.out c.put_signed-next.result))

pub put_byte-next-requires : goal.put_byte-next-requires
put_byte-next-requires c =
    let g : mag c.in-Some.first.now < 2 ^ 63 = omega arith in
    let first = rw (held_value g) at c.put_signed-next.ensures.cursor in
    let parts = integers_length c.in-Some.ensures.cases.0 in
    let more = further_room c.loop-value.value-index c.in-Some.rest.now c.loop-value-test.true in
    omega (arith, c.put_signed-next.auto.out, c.loop-value.invariant.1.cursor)

pub put_signed-next-requires-in-loop-value : goal.put_signed-next-requires-in-loop-value
put_signed-next-requires-in-loop-value c =
    let g : mag c.in-Some.first.now < 2 ^ 63 = omega arith in
    let h : mag (word_at c.in-Some.rest.now c.loop-value.value-index) < 2 ^ 63 = omega arith in
    let first = rw (held_value g) at c.put_signed-next.ensures.cursor in
    let parts = integers_length c.in-Some.ensures.cases.0 in
    let more = further_room c.loop-value.value-index c.in-Some.rest.now c.loop-value-test.true in
    rw (held_value h) (omega (arith, c.put_byte-next.auto.out, c.put_signed-next.auto.out, c.put_byte-next.ensures.cursor, c.loop-value.invariant.1.cursor))

pub loop-value-preserved : goal.loop-value-preserved
loop-value-preserved c =
    let g : mag c.in-Some.first.now < 2 ^ 63 = omega arith in
    let h : mag (word_at c.in-Some.rest.now c.loop-value.value-index) < 2 ^ 63 = omega arith in
    let first = rw (held_value g) at c.put_signed-next.ensures.cursor in
    let word = rw (held_value h) at c.put_signed-next-in-loop-value.ensures in
    let parts = integers_length c.in-Some.ensures.cases.0 in
    let more = further_room c.loop-value.value-index c.in-Some.rest.now c.loop-value-test.true in (
      omega (arith, c.put_byte-next.auto.out, c.put_signed-next-in-loop-value.auto.out),
      rw (further_more c.loop-value.value-index c.in-Some.rest.now c.loop-value-test.true)
          (spliced_more (spliced_more c.loop-value.invariant.1 c.put_byte-next.ensures (omega arith)) word (omega arith)),
    )

pub returns : goal.returns
returns c =
    let g : mag c.in-Some.first.now < 2 ^ 63 = omega arith in
    let first = rw (held_value g) at c.put_signed-next.ensures in
    let rest = rw (take_all c.loop-value.value-index c.in-Some.rest.now (omega arith)) at c.loop-value.invariant.1 in
    let parts = integers_length c.in-Some.ensures.cases.0 in
    rw (integers-text c.in-Some.ensures.cases.0) (spliced_more first rest (omega arith))
