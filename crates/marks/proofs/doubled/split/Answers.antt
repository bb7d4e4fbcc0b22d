-- `doubled::split` meets its contract: each word with a rule is halved and its byte says whether it was odd, and the others stay. Assumes nothing.
use mathlib.Core.Path.{◌≡◌, sym, ◌∙◌, ap}
use native.Mathlib.Omega.{arith}
use Rattle.std.proofs.Common.{rules}
use lib.IntN.{pos}
use mir.Syntax.{w64}
use mir.Val.{SFits}
use Rattle.integers.specs.Bound.{half, odd}
use Rattle.integers.proofs.Parts.{word_value}
use Rattle.integers.proofs.Halving.{halves_half, halves_odd}
use Rattle.words.specs.Change.{word_at}
use Rattle.marks.proofs.Pointwise.{done_more, done_kept, done_rest}
use Rattle.marks.proofs.Doubling.{unruled_word}
use Rattle.marks.proofs.Splitting.{split_half, split_told, split_unruled}
use Rattle.marks.proofs.doubled.split.Invariants.{bound_at, mark_at}
use Rattle.marks.proofs.doubled.split.Goals as goal
use Rattle.marks.proofs.doubled.split.Goals.{then-word-lt-NO_RULE, else-word-lt-NO_RULE}

pub loop-i-preserved : goal.loop-i-preserved
loop-i-preserved c =
    let t = c.args.table.now in
    let marks = c.args.marks.now in
    let i = c.loop-i.i in
    let done = c.loop-i.invariant in
    let present = done.words.rest i (omega arith) in
    let fits : SFits w64 (word_at c.loop-i.table i) = search rules in
    let word = done_more (pos 0) i (bound_at t) t c.loop-i.table in
    let byte = done_more 0 i (mark_at t) marks c.loop-i.marks in
    elim c.if-word-lt-NO_RULE.branch [
      | then-word-lt-NO_RULE w ↦
          let ruled = rw (word_value fits, present) at w.if-word-lt-NO_RULE.true in
          let h = w.halve-halved.ensures in
          record {
            words = rw w.table-is (word _ done.words (omega (arith, c.requires)) (halves_half fits h ∙ ap half present ∙ split_half (word_at t i) ruled));
            bytes = rw w.marks-is (byte _ done.bytes (omega (arith, c.requires)) (w.from.ensures ∙ split_told (word_at t i) _ ruled (halves_odd fits h ∙ ap odd present)));
          }
      | else-word-lt-NO_RULE w ↦
          let e = split_unruled (word_at t i) (sym present ∙ unruled_word _ fits (rw (word_value fits) at w.if-word-lt-NO_RULE.false)) in
          record {
            words = rw w.table-is (done_kept (pos 0) i (bound_at t) t c.loop-i.table done.words e.0);
            bytes = rw w.marks-is (byte _ done.bytes (omega (arith, c.requires)) e.1);
          }
    ]

pub returns : goal.returns
returns c =
    let m : c.loop-i.i ≡ c.args.m = omega arith in
    let done = rw m at c.loop-i.invariant in
    record {
      size = done.words.size;
      words = done.words.each;
      rest = done_rest (pos 0) c.args.m (bound_at c.args.table.now) c.args.table.now c.loop-i.table done.words;
      marks_size = done.bytes.size;
      bytes = done.bytes.each;
      marks_rest = done_rest 0 c.args.m (mark_at c.args.table.now) c.args.marks.now c.loop-i.marks done.bytes;
    }
