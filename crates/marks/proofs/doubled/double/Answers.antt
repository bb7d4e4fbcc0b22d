-- `doubled::double` meets its contract: each word with a rule goes to its place with its mark, and the others stay. Assumes nothing.
use mathlib.Core.Path.{◌≡◌, sym, ◌∙◌}
use native.Mathlib.Omega.{arith}
use Rattle.std.proofs.Common.{rules}
use lib.IntN.{pos}
use mir.Syntax.{w64}
use mir.Val.{SFits}
use Rattle.integers.proofs.Parts.{word_value}
use Rattle.words.specs.Change.{word_at}
use Rattle.marks.proofs.Pointwise.{done_more, done_kept, done_rest}
use Rattle.marks.proofs.Doubling.{unruled_word, place_doubled, place_unruled}
use Rattle.marks.proofs.doubled.double.Invariants.{doubled_at}
use Rattle.marks.proofs.doubled.double.Goals as goal
use Rattle.marks.proofs.doubled.double.Goals.{then-bound-lt-NO_RULE, else-bound-lt-NO_RULE}

pub loop-i-preserved : goal.loop-i-preserved
loop-i-preserved c =
    let t = c.args.table.now in
    let marks = c.args.marks.now in
    let i = c.loop-i.i in
    let done = c.loop-i.invariant in
    let present = done.rest i (omega arith) in
    let fits : SFits w64 (word_at c.loop-i.table i) = search rules in
    elim c.if-bound-lt-NO_RULE.branch [
      | then-bound-lt-NO_RULE w ↦
          let ruled = rw (word_value fits) at w.if-bound-lt-NO_RULE.true in
          let small = c.requires.words.each i c.loop-i-test.true (omega (arith, c.requires.room)) (rw present at ruled) in
          rw w.table-is (done_more (pos 0) i (doubled_at t marks) t c.loop-i.table _ done (omega (arith, c.requires.room))
          (place_doubled t marks i _ _ (sym present) fits ruled (rw (sym present) at small) w.from.ensures))
      | else-bound-lt-NO_RULE w ↦
          rw w.table-is (done_kept (pos 0) i (doubled_at t marks) t c.loop-i.table done
          (place_unruled t marks i (sym present ∙ unruled_word _ fits (rw (word_value fits) at w.if-bound-lt-NO_RULE.false))))
    ]

pub returns : goal.returns
returns c =
    let m : c.loop-i.i ≡ c.args.m = omega arith in
    let done = rw m at c.loop-i.invariant in
    record { size = done.size; words = record { each = done.each }; rest = done_rest (pos 0) c.args.m (doubled_at c.args.table.now c.args.marks.now) c.args.table.now c.loop-i.table done }
