-- `given::of_numbers` meets its contract: the limits of its numbers, whether they have the sum 0, then the rule. Assumes nothing.
use Rattle.std.proofs.Common.{rules, ◌≡◌, true, nat_abs}
use Rattle.integers.proofs.Parts.{word_value}
use Rattle.rules.specs.Literal.{quantity_within}
use Rattle.rules.proofs.Quantities.{within_narrow}
use Rattle.rules.proofs.Words.{narrow_value}
use Rattle.tables.proofs.Giving.{limit_in, limit_out, sum_zero, sum_other, given_first, given_bound, given_one, given_second, given_cancels, given_two}
use Rattle.tables.proofs.given.of_numbers.Goals as goal
use Rattle.tables.proofs.given.of_numbers.Goals.{then-not-is_quantity-via-then-not-is_quantity, then-not-is_quantity-via-else-not-is_quantity+then-most-magnitude}

pub returns-then-not-is_quantity : goal.returns-then-not-is_quantity
returns-then-not-is_quantity c = elim c.then-not-is_quantity.branch [
  | then-not-is_quantity-via-then-not-is_quantity w ↦ given_first _ _ _ _ (search rules)
  | then-not-is_quantity-via-else-not-is_quantity+then-most-magnitude w ↦
      given_bound _ _ _ _ (limit_out _ w.magnitude.result _ c.args.bound c.bound_limit-most.ensures (search rules) w.if-most-magnitude.true)
]

pub returns-then-second-eq0 : goal.returns-then-second-eq0
returns-then-second-eq0 c =
    let p : quantity_within c.args.n (nat_abs c.args.first) ≡ true = search rules in
    given_one _ _ _ _ p (limit_in _ c.magnitude.result _ c.args.bound c.bound_limit-most.ensures (search rules) c.if-most-magnitude.false) _ (search rules)
    (rw (word_value c.ranges.first, narrow_value (within_narrow _ _ c.requires p), word_value c.ranges.bound) at c.new.ensures.reply)

pub returns-then-not-is_quantity-2 : goal.returns-then-not-is_quantity-2
returns-then-not-is_quantity-2 c =
    given_second _ _ _ _ (search rules) (limit_in _ c.magnitude.result _ c.args.bound c.bound_limit-most.ensures (search rules) c.if-most-magnitude.false)
    (search rules) (search rules)

pub returns-then-first-second-eq0 : goal.returns-then-first-second-eq0
returns-then-first-second-eq0 c =
    let p : quantity_within c.args.n (nat_abs c.args.first) ≡ true = search rules in
    let q : quantity_within c.args.n (nat_abs c.args.second) ≡ true = search rules in
    given_cancels _ _ _ _ p (limit_in _ c.magnitude.result _ c.args.bound c.bound_limit-most.ensures (search rules) c.if-most-magnitude.false)
    (search rules) q (sum_zero _ _ _ c.requires c.ranges.first c.ranges.second p q c.if-first-second-eq0.true)

pub returns : goal.returns
returns c =
    let p : quantity_within c.args.n (nat_abs c.args.first) ≡ true = search rules in
    let q : quantity_within c.args.n (nat_abs c.args.second) ≡ true = search rules in
    given_two _ _ _ _ p (limit_in _ c.magnitude.result _ c.args.bound c.bound_limit-most.ensures (search rules) c.if-most-magnitude.false) (search rules) q _ (sum_other _ _ c.ranges.first c.ranges.second c.if-first-second-eq0.false)
    (rw (word_value c.ranges.first, narrow_value (within_narrow _ _ c.requires p), word_value c.ranges.second, narrow_value (within_narrow _ _ c.requires q), word_value c.ranges.bound) at c.new-2.ensures.reply)
