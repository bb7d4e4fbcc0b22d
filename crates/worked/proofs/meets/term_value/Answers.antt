-- `meets::term_value` meets its contract: the literals' values are those of `meets::literal_value`. Assumes nothing.
use mathlib.Core.Path.{◌∙◌}
use Rattle.integers.proofs.Parts.{held_value}
use Rattle.worked.specs.Values.{term_word}
use Rattle.worked.proofs.meets.term_value.Goals as goal

pub returns-in-One : goal.returns-in-One
unfolding term_word
returns-in-One c = rw c.in-One.is (held_value c.literal_value.type_inv ∙ c.literal_value.ensures)

pub returns-in-Two : goal.returns-in-Two
unfolding term_word
returns-in-Two c = let a = c.literal_value-in-Two in let b = c.literal_value-in-Two-2 in
    rw c.in-Two.is
    (held_value c.saturating_add.type_inv
    ∙ rw (held_value a.type_inv, a.ensures, held_value b.type_inv, b.ensures) at c.saturating_add.ensures)

pub returns-in-Nothing : goal.returns-in-Nothing
unfolding term_word
returns-in-Nothing c = rw c.in-Nothing.is
