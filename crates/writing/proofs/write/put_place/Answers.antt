-- `write::put_place` meets its contract: the line of the rule found, and nothing where there is none. Assumes nothing.
use mathlib.Core.Path.{◌≡◌, ap}
use mathlib.Core.Bool.{false}
use native.Mathlib.Omega.{arith}
use lib.ListN.{length}
use Rattle.integers.proofs.Parts.{word_value}
use Rattle.numerals.proofs.Splices.{spliced_none}
use Rattle.tables.specs.Tables.{has_rule}
use Rattle.writing.proofs.Texts.{place_rule, place_none}
use Rattle.writing.proofs.write.put_place.Goals as goal

pub put_rule-requires : goal.put_rule-requires
put_rule-requires c =
    let f = word_value c.ranges.w in
    omega (arith, ap length (place_rule c.args.k (rw f at c.if-w-lt-NO_RULE.true) f c.rule_at.ensures.reply))

pub returns-then-w-lt-NO_RULE : goal.returns-then-w-lt-NO_RULE
returns-then-w-lt-NO_RULE c =
    let f = word_value c.ranges.w in
    rw (place_rule c.args.k (rw f at c.if-w-lt-NO_RULE.true) f c.rule_at.ensures.reply) c.put_rule.ensures

pub returns : goal.returns
returns c =
    let none : has_rule c.args.w ≡ false = rw (word_value c.ranges.w) at c.if-w-lt-NO_RULE.false in
    rw (place_none c.args.k c.args.w none) (spliced_none c.args.out.now c.args.at)
