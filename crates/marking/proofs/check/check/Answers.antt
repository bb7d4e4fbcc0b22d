-- `check::check` meets its contract: at each check either its refusal stands or the next is made. Assumes nothing.
use mathlib.Core.Path.{sym, ◌∙◌}
use native.Mathlib.Omega.{arith}
use Rattle.tables.proofs.Sizes.{serves_sized}
use Rattle.marking.proofs.Checking.{both_serve, both_small, sheet_refused, script_refused, workspace_refused, values_refused, numbers_refused, names_refused, names_passed}
use Rattle.marking.proofs.check.check.Goals as goal
use Rattle.marking.proofs.check.check.Goals.{then-not-serves-via-then-not-serves, then-not-serves-via-else-not-serves+then-not-serves-2}

pub returns-then-not-serves : goal.returns-then-not-serves
returns-then-not-serves c = elim c.then-not-serves.branch [
  | then-not-serves-via-then-not-serves w ↦ sheet_refused _ _ _ _ _ _ (sym c.serves.ensures ∙ w.if-not-serves.true)
  | then-not-serves-via-else-not-serves+then-not-serves-2 w ↦ script_refused _ _ _ _ _ _ (sym w.serves-else-not-serves.ensures ∙ w.if-not-serves-2.true)
]

pub overflow_mul-m : goal.overflow_mul-m
overflow_mul-m c = omega (arith, both_small _ _ _ _ (both_serve _ _ _ _ c.if-not-serves.ensures c.if-not-serves-2.ensures c.size-m.ensures))

pub overflow_mul-result : goal.overflow_mul-result
overflow_mul-result c = omega (arith, both_small _ _ _ _ (both_serve _ _ _ _ c.if-not-serves.ensures c.if-not-serves-2.ensures c.size-m.ensures))

pub returns-then-workspace-m : goal.returns-then-workspace-m
returns-then-workspace-m c =
    workspace_refused _ _ _ _ _ _ _ (both_serve _ _ _ _ c.if-not-serves.ensures c.if-not-serves-2.ensures c.size-m.ensures) c.if-workspace-m.true

pub returns-then-values-n : goal.returns-then-values-n
returns-then-values-n c =
    values_refused _ _ _ _ _ _ _ (both_serve _ _ _ _ c.if-not-serves.ensures c.if-not-serves-2.ensures c.size-m.ensures) c.if-workspace-m.false c.if-values-n.true

pub numbers_within-requires : goal.numbers_within-requires
numbers_within-requires c = (both_serve _ _ _ _ c.if-not-serves.ensures c.if-not-serves-2.ensures c.size-m.ensures).size

pub returns-then-not-numbers_within : goal.returns-then-not-numbers_within
returns-then-not-numbers_within c =
    numbers_refused _ _ _ _ _ _ _ (both_serve _ _ _ _ c.if-not-serves.ensures c.if-not-serves-2.ensures c.size-m.ensures) c.if-workspace-m.false c.if-values-n.false
    (sym c.if-not-numbers_within.ensures)

pub any_names_hidden-requires : goal.any_names_hidden-requires
any_names_hidden-requires c = (serves_sized _ _).0 (sym c.if-not-serves-2.ensures)

pub returns-then-any_names_hidden : goal.returns-then-any_names_hidden
returns-then-any_names_hidden c =
    names_refused _ _ _ _ _ _ _ (both_serve _ _ _ _ c.if-not-serves.ensures c.if-not-serves-2.ensures c.size-m.ensures) c.if-workspace-m.false c.if-values-n.false
    (sym c.if-not-numbers_within.ensures) c.if-any_names_hidden.ensures.reply

pub returns : goal.returns
returns c =
    names_passed _ _ _ _ _ _ _ (both_serve _ _ _ _ c.if-not-serves.ensures c.if-not-serves-2.ensures c.size-m.ensures) c.if-workspace-m.false c.if-values-n.false
    (sym c.if-not-numbers_within.ensures) c.if-any_names_hidden.ensures.reply
