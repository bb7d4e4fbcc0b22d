-- `write::put_rules` meets its contract. The loop's invariant: the lines of the places passed are written. Assumes nothing.
use Prim.Native.Nat.{suc}
use native.Mathlib.Numerals.{add-one}
use native.Mathlib.Omega.{arith}
use mir.Syntax.{w64}
use mir.Val.{SFits}
use Rattle.integers.proofs.Parts.{word_value}
use Rattle.words.specs.Change.{word_at}
use Rattle.rules.specs.Limits.{max_quantities}
use Rattle.tables.proofs.Sizes.{small_start}
use Rattle.numerals.proofs.Splices.{spliced_none, spliced_more}
use Rattle.writing.proofs.Texts.{text_none, text_more, text_more_length, text_front}
use Rattle.writing.proofs.write.put_rules.Goals as goal

pub loop-k-init : goal.loop-k-init
loop-k-init c = rw (text_none c.args.places.now) (spliced_none c.args.out.now c.args.from)

pub overflow_cast-k : goal.overflow_cast-k
overflow_cast-k c = omega (arith, small_start max_quantities (omega arith))

pub put_place-at-requires : goal.put_place-at-requires
put_place-at-requires c =
    let t = c.args.places.now in
    let k = c.loop-k.k in
    let fits : SFits w64 (word_at t k) = record { sfits = omega arith } in
    rw (word_value fits) (omega (arith, text_more_length k t (omega arith), text_front (suc k) t (omega arith)))

pub loop-k-preserved : goal.loop-k-preserved
loop-k-preserved c =
    let t = c.args.places.now in
    let fits : SFits w64 (word_at t c.loop-k.k) = record { sfits = omega arith } in
    let line = rw (word_value fits) at c.put_place-at.ensures in
    rw (add-one c.loop-k.k, text_more c.loop-k.k t (omega arith)) (spliced_more c.loop-k.invariant line (omega arith))
