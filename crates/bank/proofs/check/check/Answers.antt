-- `check::check` meets its contract: a header that is refused ends it with its refusal, and after another the lines of the rules decide. Assumes nothing.
use mathlib.Core.Path.{refl, ◌∙◌}
use Rattle.std.proofs.lemmas.Result.{err_from_is_err_and}
use Rattle.rules.specs.declared.paper.Paper.TheVariants.{Sheet}
use Rattle.reading.proofs.Limits.{limit_told, cap_casts, cap_value}
use Rattle.reading.proofs.CheckedHeaders.{header_found}
use Rattle.bank.proofs.Promised.{bank_checked}
use Rattle.bank.proofs.BankChecking.{header_checked, rules_checked}
use Rattle.bank.proofs.check.check.Goals as goal

pub returns-in_err-header : goal.returns-in_err-header
returns-in_err-header c =
    let s = c.args.s.now in
    let p = err_from_is_err_and c.from_residual.result c.from_residual.ensures.1 in
    rw (p.1, p.2) (bank_checked s _ (header_checked s _ _ c.in_err-header.ensures refl))

pub overflow_cast-limit : goal.overflow_cast-limit
overflow_cast-limit c =
    let h = c.in_ok-header.header in
    cap_casts _ _ c.bound_limit-limit.ensures (limit_told Sheet h.quantities h.hidden (header_found c.args.s.now _ h c.in_ok-header.ensures refl).high)

pub check_rules-requires : goal.check_rules-requires
check_rules-requires c =
    let h = c.in_ok-header.header in
    let found = header_found c.args.s.now _ h c.in_ok-header.ensures refl in
    let below = limit_told Sheet h.quantities h.hidden found.high in
    (found.low, found.high, rw (cap_value _ _ c.bound_limit-limit.ensures below) below, found.few)

pub returns : goal.returns
returns c =
    let s = c.args.s.now in
    let h = c.in_ok-header.header in
    let found = header_found s _ h c.in_ok-header.ensures refl in
    let limit = cap_value _ _ c.bound_limit-limit.ensures (limit_told Sheet h.quantities h.hidden found.high) in
    let p = rw limit at c.check_rules.ensures in
    bank_checked s _ (p.reply ∙ rules_checked s h found)
