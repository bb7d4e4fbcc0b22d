-- `words::fill` meets its contract: it sets the words from the first place on, up to the last or to the end. Assumes nothing.
use Prim.Native.Nat.{◌-◌}
use native.Mathlib.Omega.{arith}
use Rattle.integers.proofs.Parts.{word_value}
use Rattle.words.proofs.Change.{filled, unfilled}
use Rattle.words.proofs.fill.Goals as goal

pub returns-after-loop-word : goal.returns-after-loop-word
returns-after-loop-word c =
    let end = c.min-end.ensures in
    filled c.args.from c.args.to (c.min-end.result - c.args.from) c.args.w c.args.t.now c.loop-word.word-items (omega arith) (rw end) c.loop-word.auto.word-items
    (λ j h. rw (word_value c.ranges.w) at (c.loop-word.invariant j (omega (arith, c.loop-word.auto.word-items))))

pub returns-else-from-end : goal.returns-else-from-end
returns-else-from-end c = let end = c.min-end.ensures in unfilled c.args.from c.args.to c.args.w c.args.t.now (omega arith)
