-- `rule::Rule::opposite` meets its contract: each variant negates its literals, and the bound is the opposite's. Assumes nothing.
use Rattle.integers.proofs.Parts.{held_value}
use Rattle.rules.specs.Steps.{opposite_of}
use Rattle.rules.proofs.Promised.{is_opposite}
use Rattle.rules.proofs.rule.Rule.opposite.Goals as goal

pub returns-in-One : goal.returns-in-One
unfolding opposite_of
returns-in-One c = is_opposite _ _
    (rw (held_value c.opposite-bound.type_inv, c.opposite-bound.ensures, held_value c.bound.type_inv, c.bound.ensures, c.negate.ensures, c.in-One.is))

pub returns-in-Two : goal.returns-in-Two
unfolding opposite_of
returns-in-Two c = is_opposite _ _
    (rw (held_value c.opposite-bound.type_inv, c.opposite-bound.ensures, held_value c.bound.type_inv, c.bound.ensures)
    (rw (c.negate-in-Two-2.ensures, c.negate-in-Two.ensures, c.in-Two.is)))

pub returns-in-Nothing : goal.returns-in-Nothing
unfolding opposite_of
returns-in-Nothing c = is_opposite _ _
    (rw (held_value c.opposite-bound.type_inv, c.opposite-bound.ensures, held_value c.bound.type_inv, c.bound.ensures, c.in-Nothing.is))
