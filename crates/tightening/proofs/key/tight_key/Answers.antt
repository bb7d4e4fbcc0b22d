-- `key::tight_key` meets its contract: the key call's checks, then the tight key made where some integers satisfy the sheet. Assumes nothing.
use mathlib.Core.Path.{refl}
use Rattle.std.proofs.lemmas.Result.{err_from_is_err_and}
use Rattle.keys.proofs.Checking.{key_stands}
use Rattle.keys.proofs.Promised.{untouched, key_refused, key_five}
use Rattle.tightening.proofs.TightMaking.{tight_keyed, tight_stops, tight_copied, tight_finished}
use Rattle.tightening.proofs.key.tight_key.Goals as goal

pub returns-in_err-check : goal.returns-in_err-check
returns-in_err-check c =
    let p = err_from_is_err_and c.from_residual.result c.from_residual.ensures.1 in
    rw (p.1, p.2) (tight_keyed (key_refused _ _ _ _ _ _ _ _ _ (key_stands _ _ _ _ _ _ c.in_err-check.ensures.reply refl) refl (untouched _ _ _)))

pub tighten_sheet-requires : goal.tighten_sheet-requires
tighten_sheet-requires c = c.in_ok-check.ensures.passes refl

pub returns-then-tighten_sheet : goal.returns-then-tighten_sheet
returns-then-tighten_sheet c =
    tight_keyed (key_five _ _ _ _ _ _ _ _ (c.in_ok-check.ensures.passes refl) (tight_stops _ _ _ _ _ (rw c.if-tighten_sheet.true at c.tighten_sheet.ensures)))

pub returns : goal.returns
returns c =
    let k = c.in_ok-check.ensures in
    let p = k.passes refl in
    tight_finished _ _ _ _ _ _ p (k.words refl)
    (tight_copied _ _ _ _ _ _ _ p.0 c.size.ensures c.copy.ensures (rw c.if-tighten_sheet.false at c.tighten_sheet.ensures))
