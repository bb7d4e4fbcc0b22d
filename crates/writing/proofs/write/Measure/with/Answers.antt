-- `write::Measure::with` meets its contract: a word that holds a rule adds one rule and its line. Assumes nothing.
use mathlib.Core.Path.{◌≡◌, ap}
use mathlib.Core.Bool.{true, false}
use native.Mathlib.Omega.{arith}
use lib.ListN.{length}
use Rattle.integers.proofs.Parts.{word_value}
use Rattle.rules.specs.Limits.{max_quantities}
use Rattle.tables.specs.Tables.{has_rule}
use Rattle.tables.proofs.Sizes.{small_start}
use Rattle.writing.proofs.Texts.{place_rule, place_none, place_short}
use Rattle.writing.proofs.write.Measure.with.Goals as goal

pub overflow_add-result-then-w-lt-NO_RULE : goal.overflow_add-result-then-w-lt-NO_RULE
overflow_add-result-then-w-lt-NO_RULE c =
    let f = word_value c.ranges.w in
    let line = place_rule c.args.k (rw f at c.if-w-lt-NO_RULE.true) f c.rule_at.ensures.reply in
    omega (arith, ap length line, place_short c.args.k c.args.w (omega arith) c.ranges.w, small_start max_quantities (omega arith))

pub returns-then-w-lt-NO_RULE : goal.returns-then-w-lt-NO_RULE
returns-then-w-lt-NO_RULE c =
    let f = word_value c.ranges.w in
    let holds : has_rule c.args.w ≡ true = rw f at c.if-w-lt-NO_RULE.true in
    record { counted = rw holds; measured = omega (arith, ap length (place_rule c.args.k holds f c.rule_at.ensures.reply)) }

pub returns : goal.returns
returns c =
    let none : has_rule c.args.w ≡ false = rw (word_value c.ranges.w) at c.if-w-lt-NO_RULE.false in
    record { counted = rw none (omega arith); measured = omega (arith, ap length (place_none c.args.k c.args.w none)) }
