-- `check::numbers_within` meets its contract. Assumes nothing.
use mathlib.Core.Path.{sym, ◌∙◌}
use Rattle.integers.proofs.Parts.{held_value}
use Rattle.tables.proofs.Tests.{clash}
use Rattle.keys.proofs.Checking.{bounds_test}
use Rattle.marking.proofs.Checking.{set_outside, sheet_outside, script_decides}
use Rattle.marking.proofs.check.numbers_within.Goals as goal
use Rattle.marking.proofs.check.numbers_within.Goals.{then-is_within, else-is_within}

pub returns-then-is_table_in : goal.returns-then-is_table_in
returns-then-is_table_in c = elim c.if-is_within.branch [
  | then-is_within w ↦
      script_decides _ _ _ _ _ (sym c.is_within.ensures.reply ∙ w.if-is_within.true)
      (bounds_test _ _ _ _ _ _ _ c.requires (held_value w.bound_limit.type_inv ∙ w.bound_limit.ensures) w.is_table_in.ensures ∙ sym w.value-is ∙ c.if-is_table_in.true)
      (bounds_test _ _ _ _ _ _ _ c.requires (held_value c.bound_limit-then-is_table_in.type_inv ∙ c.bound_limit-then-is_table_in.ensures) c.is_table_in-then-is_table_in.ensures)
  | else-is_within w ↦ clash (sym w.value-is ∙ c.if-is_table_in.true) w.if-is_within.false
]

pub returns-else-is_table_in : goal.returns-else-is_table_in
returns-else-is_table_in c = c.if-is_table_in.false ∙ elim c.if-is_within.branch [
  | then-is_within w ↦
      sheet_outside _ _ _ _
      (bounds_test _ _ _ _ _ _ _ c.requires (held_value w.bound_limit.type_inv ∙ w.bound_limit.ensures) w.is_table_in.ensures ∙ sym w.value-is ∙ c.if-is_table_in.false)
  | else-is_within w ↦ set_outside _ _ _ _ (sym c.is_within.ensures.reply ∙ w.if-is_within.false)
]
