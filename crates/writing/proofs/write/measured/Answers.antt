-- `write::measured` meets its contract. The loop's invariant: the total is that of the places passed. Assumes nothing.
use native.Mathlib.Numerals.{add-one}
use native.Mathlib.Omega.{arith}
use mir.Syntax.{w64}
use mir.Val.{SFits}
use Rattle.integers.proofs.Parts.{word_value}
use Rattle.words.specs.Change.{word_at}
use Rattle.rules.specs.Limits.{max_quantities}
use Rattle.tables.proofs.Sizes.{small_start}
use Rattle.writing.proofs.Texts.{measure_none, measure_more, measure_small}
use Rattle.writing.proofs.write.measured.Goals as goal

pub loop-k-init : goal.loop-k-init
loop-k-init c = measure_none c.args.places.now

pub overflow_cast-k : goal.overflow_cast-k
overflow_cast-k c = omega (arith, small_start max_quantities (omega arith))

pub with-total-requires : goal.with-total-requires
with-total-requires c =
    omega (arith, measure_small c.loop-k.k c.args.places.now c.loop-k.invariant (omega arith) (omega arith))

pub loop-k-preserved : goal.loop-k-preserved
loop-k-preserved c =
    let t = c.args.places.now in
    let fits : SFits w64 (word_at t c.loop-k.k) = record { sfits = omega arith } in
    rw (add-one c.loop-k.k)
    (measure_more c.loop-k.k t c.loop-k.invariant (omega arith) fits.sfits (word_value fits) c.with-total.ensures)
