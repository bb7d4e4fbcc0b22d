-- `key::check` meets its contract: at each check either its refusal stands or the next is made. Assumes nothing.
use mathlib.Core.Path.{refl, sym, ◌∙◌}
use Rattle.std.proofs.lemmas.Result.{err_from_is_err_and}
use Rattle.integers.proofs.Parts.{held_value}
use Rattle.keys.proofs.Checking.{lent_limit, lent_held, key_lent, key_set, key_words, key_passes}
use Rattle.keys.proofs.key.check.Goals as goal

pub returns-in_err-lent : goal.returns-in_err-lent
returns-in_err-lent c =
    let p = err_from_is_err_and c.from_residual.result c.from_residual.ensures.1 in
    rw (p.1, p.2) (key_lent _ _ _ _ _ _ c.in_err-lent.ensures refl)

pub returns-then-not-is_within : goal.returns-then-not-is_within
returns-then-not-is_within c =
    key_set _ _ _ _ (sym c.in_ok-lent.ensures)
    (sym c.is_within.ensures.reply ∙ c.if-not-is_within.true)

pub returns-then-not-is_table_in : goal.returns-then-not-is_table_in
returns-then-not-is_table_in c =
    let lent = sym c.in_ok-lent.ensures in
    key_words _ _ _ _ lent
    (lent_limit _ _ _ _ _ _ _ _ lent c.size.ensures (held_value c.bound_limit-most.type_inv ∙ c.bound_limit-most.ensures) c.is_table_in.ensures
    ∙ c.if-not-is_table_in.true)

pub returns : goal.returns
returns c =
    let lent = sym c.in_ok-lent.ensures in
    key_passes _ _ _ _ lent (sym c.is_within.ensures.reply ∙ c.if-not-is_within.false)
    (lent_limit _ _ _ _ _ _ _ _ lent c.size.ensures (held_value c.bound_limit-most.type_inv ∙ c.bound_limit-most.ensures) c.is_table_in.ensures
    ∙ c.if-not-is_table_in.false)
    (lent_held _ _ _ _ _ _ lent c.size.ensures c.is_table_in.ensures (c.if-not-is_table_in.false))
