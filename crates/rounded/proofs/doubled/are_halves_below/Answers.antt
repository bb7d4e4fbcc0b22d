-- `doubled::are_halves_below` meets its contract: the tests are the definition's, and the sum of two halves fits. Assumes nothing.
use Rattle.std.proofs.Common.{rules, ◌≡◌, true}
use mir.Syntax.{w64}
use mir.Val.{to_z, of_z}
use Rattle.integers.specs.Bound.{half}
use Rattle.integers.proofs.Parts.{word_value}
use Rattle.tables.specs.Tables.{has_rule}
use Rattle.rounded.specs.Inner.{halves_below}
use Rattle.rounded.proofs.HalvesBelow.{halves_fit}
use Rattle.rounded.proofs.doubled.are_halves_below.Goals as goal
use Rattle.rounded.proofs.doubled.are_halves_below.Goals.{then-p-lt-NO_RULE, else-p-lt-NO_RULE}

pub returns-then-m-lt-NO_RULE : goal.returns-then-m-lt-NO_RULE
unfolding halves_below
returns-then-m-lt-NO_RULE c =
    let a : to_z w64 (of_z w64 c.halved.result) ≡ half c.args.p = search rules in
    let b : to_z w64 (of_z w64 c.halved-then-m-lt-NO_RULE.result) ≡ half c.args.m = search rules in
    rw (a, b, word_value (halves_fit c.args.p c.args.m c.ranges.p c.ranges.m)) (elim c.if-p-lt-NO_RULE.branch [
      | then-p-lt-NO_RULE w ↦
          let p : has_rule c.args.p ≡ true = search rules in
          let m : has_rule c.args.m ≡ true = search rules in
          rw (p, m)
      | else-p-lt-NO_RULE w ↦ cc
    ])
