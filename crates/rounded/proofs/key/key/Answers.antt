-- `key::key` meets its contract: the checks, then the key and its marks made where some integers satisfy the sheet. Assumes nothing.
use Rattle.std.proofs.Common.{refl}
use Rattle.std.proofs.lemmas.Result.{err_from_is_err_and}
use Rattle.keys.proofs.Promised.{untouched}
use Rattle.rounded.proofs.Checking.{marked_stands}
use Rattle.rounded.proofs.Promised.{marked_refused, marked_five, marked_made}
use Rattle.rounded.proofs.key.key.Goals as goal

pub returns-in_err-check : goal.returns-in_err-check
returns-in_err-check c =
    let p = err_from_is_err_and c.from_residual.result c.from_residual.ensures.1 in
    rw (p.1, p.2) (marked_refused _ _ _ _ _ _ _ _ (marked_stands _ _ _ _ _ _ c.in_err-check.ensures.reply) refl (untouched _ _ _))

pub try_key-requires : goal.try_key-requires
try_key-requires c = (c.in_ok-check.ensures.passes refl, c.in_ok-check.ensures.words refl)

pub returns-then-try_key : goal.returns-then-try_key
returns-then-try_key c = marked_five _ _ _ _ _ _ _ _ (c.in_ok-check.ensures.passes refl) c.if-try_key.ensures

pub returns : goal.returns
returns c = marked_made _ _ _ _ _ _ _ _ (c.in_ok-check.ensures.passes refl) (c.in_ok-check.ensures.words refl) c.if-try_key.ensures
