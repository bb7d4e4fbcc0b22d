-- `rule::Rule::new` meets its contract: each number that is not 0 gives its literal. Assumes nothing.
use Rattle.integers.proofs.Parts.{word_value}
use Rattle.rules.specs.Steps.{rule_of}
use Rattle.rules.proofs.Literals.{some_number}
use Rattle.rules.proofs.Promised.{made}
use Rattle.rules.proofs.Words.{narrow_value, zero_bits, nonzero_bits}
use Rattle.rules.proofs.rule.Rule.new.Goals as goal

pub returns-in-0-default : goal.returns-in-0-default
unfolding rule_of
returns-in-0-default c = made _ _ _ _
    (rw (word_value c.ranges.bound, c.of_signed.ensures, narrow_value c.ranges.second)
    (rw (zero_bits c.ranges.first c.in-0-default.is-0, some_number c.args.second (nonzero_bits c.in-0-default.is-1.1))))

pub returns-in_default-eq0 : goal.returns-in_default-eq0
unfolding rule_of
returns-in_default-eq0 c = made _ _ _ _
    (rw (word_value c.ranges.bound, c.of_signed-in_default-eq0.ensures, narrow_value c.ranges.first)
    (rw (zero_bits c.ranges.second c.in_default-eq0.is-1, some_number c.args.first (nonzero_bits c.in_default-eq0.is-0.1))))

pub returns-in_default : goal.returns-in_default
unfolding rule_of
returns-in_default c = made _ _ _ _
    (rw (word_value c.ranges.bound, c.of_signed-in_default.ensures, c.of_signed-in_default-2.ensures, narrow_value c.ranges.first, narrow_value c.ranges.second)
    (rw (some_number c.args.first (nonzero_bits c.in_default.is-0.1), some_number c.args.second (nonzero_bits c.in_default.is-1.1))))
