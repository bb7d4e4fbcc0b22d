-- `key::key` meets its contract: the checks, then the key made where some integers satisfy the sheet. Assumes nothing.
use mathlib.Core.Path.{refl}
use Rattle.std.proofs.lemmas.Result.{err_from_is_err_and}
use Rattle.keys.proofs.Checking.{key_stands}
use Rattle.keys.proofs.Promised.{untouched, key_refused, key_five, plain_done}
use Rattle.keys.proofs.key.key.Goals as goal

pub returns-in_err-check : goal.returns-in_err-check
returns-in_err-check c =
    let p = err_from_is_err_and c.from_residual.result c.from_residual.ensures.1 in
    rw (p.1, p.2) (key_refused _ _ _ _ _ _ _ _ _ (key_stands _ _ _ _ _ _ c.in_err-check.ensures.reply refl) refl (untouched _ _ _))

pub returns-then-try_key : goal.returns-then-try_key
returns-then-try_key c =
    key_five _ _ _ _ _ _ _ _ (c.in_ok-check.ensures.passes refl) (rw c.if-try_key.true at c.try_key.ensures)

pub returns : goal.returns
returns c =
    plain_done _ _ _ _ _ _ (c.in_ok-check.ensures.passes refl) (rw c.if-try_key.false at c.try_key.ensures)
