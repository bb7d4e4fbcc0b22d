-- `check::check` meets its contract: at each check either its refusal stands or the next is made. Assumes nothing.
use mathlib.Core.Path.{sym, ◌∙◌}
use mathlib.Core.Logic.{◌⊎◌}
use Prim.Native.Nat.{◌<◌}
use Rattle.std.proofs.Common.{rules}
use Rattle.integers.proofs.Parts.{held_value}
use Rattle.tables.proofs.Sizes.{serves_sized}
use Rattle.questions.proofs.Checking.{ask_size, ask_listed, ask_short, ask_words, ask_list}
use Rattle.questions.proofs.check.check.Goals as goal

pub returns-then-not-serves : goal.returns-then-not-serves
returns-then-not-serves c = ask_size _ _ _ _ (sym c.if-not-serves.ensures)

pub returns-then-not-contains : goal.returns-then-not-contains
returns-then-not-contains c =
    let h : (c.count-count.result < 1) ⊎ (64 < c.count-count.result) = search rules in
    ask_listed _ _ _ _ (sym c.if-not-serves.ensures) _ c.count-count.ensures h

pub returns-then-workspace-needed : goal.returns-then-workspace-needed
returns-then-workspace-needed c =
    ask_short _ _ _ _ (sym c.if-not-serves.ensures) _ c.count-count.ensures (search rules) (search rules) _ c.size-needed.ensures c.if-workspace-needed.true

pub returns-then-not-is_table_in : goal.returns-then-not-is_table_in
returns-then-not-is_table_in c =
    ask_words _ _ _ _ (sym c.if-not-serves.ensures) _ c.count-count.ensures (search rules) (search rules) _ c.size-needed.ensures c.if-workspace-needed.false
    _ (held_value c.bound_limit-most.type_inv ∙ c.bound_limit-most.ensures) _ c.is_table_in.ensures c.if-not-is_table_in.true

pub check-requires : goal.check-requires
check-requires c = ((serves_sized _ _).0 (sym c.if-not-serves.ensures)).most

pub returns : goal.returns
returns c =
    ask_list _ _ _ _ (sym c.if-not-serves.ensures) _ c.count-count.ensures (search rules) (search rules) _ c.size-needed.ensures c.if-workspace-needed.false
    _ (held_value c.bound_limit-most.type_inv ∙ c.bound_limit-most.ensures) _ c.is_table_in.ensures c.if-not-is_table_in.false _ c.check.ensures
