-- `turns::choose_value` meets its contract: a quantity that is not of the part keeps its word, and another gets the value that its rules with those listed leave. Assumes nothing.
use mathlib.Core.Path.{sym, ◌∙◌}
use native.Mathlib.Numerals.{add-one}
use native.Mathlib.Omega.{arith}
use Rattle.integers.proofs.Parts.{held_value}
use Rattle.keys.proofs.Taking.{value_passed, value_chosen, value_ready}
use Rattle.keys.proofs.turns.choose_value.Goals as goal

pub choose-requires : goal.choose-requires
choose-requires g c = (
  record { ready = c.requires.0; listed = c.list-count.ensures.listed; plus_room = omega arith; minus_room = omega arith },
  value_ready _ _ _ _ _ _ _ _ (add-one _) c.list-count.ensures c.requires.2,
)

pub returns-then-is_member : goal.returns-then-is_member
returns-then-is_member g c =
    rw (held_value c.choose.type_inv)
    (value_chosen _ _ _ _ _ _ _ _ _ _ (add-one _) c.list-count.ensures (sym c.is_member.ensures ∙ c.if-is_member.true) c.choose.ensures)

pub returns-else-is_member : goal.returns-else-is_member
returns-else-is_member g c = value_passed _ _ _ _ _ _ (sym c.is_member.ensures ∙ c.if-is_member.false)
