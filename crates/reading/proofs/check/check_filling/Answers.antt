-- `check::check_filling` meets its contract: a header that is refused ends it with its refusal, and after another the lines of the rules decide. Assumes
-- nothing.
use mathlib.Core.Path.{refl, ◌∙◌}
use Rattle.std.proofs.lemmas.Result.{err_from_is_err_and}
use Rattle.reading.proofs.Limits.{limit_told, cap_casts, cap_value}
use Rattle.reading.proofs.FillingOnce.{header_refused, text_filled}
use Rattle.reading.proofs.CheckedHeaders.{header_found}
use Rattle.reading.proofs.Checking.{rules_checked}
use Rattle.reading.proofs.check.check_filling.Goals as goal

pub returns-in_err-header : goal.returns-in_err-header
returns-in_err-header c =
    let p = err_from_is_err_and c.from_residual.result c.from_residual.ensures.1 in
    rw (p.1, p.2) (header_refused c.args.paper c.args.s.now _ _ _ c.in_err-header.ensures refl)

pub overflow_cast-limit : goal.overflow_cast-limit
overflow_cast-limit c =
    let h = c.in_ok-header.header in
    cap_casts _ _ c.bound_limit-limit.ensures (limit_told c.args.paper h.quantities h.hidden (header_found c.args.s.now _ h c.in_ok-header.ensures refl).high)

pub check_rules-requires : goal.check_rules-requires
check_rules-requires c =
    let h = c.in_ok-header.header in
    let found = header_found c.args.s.now _ h c.in_ok-header.ensures refl in
    let below = limit_told c.args.paper h.quantities h.hidden found.high in
    (found.low, found.high, rw (cap_value _ _ c.bound_limit-limit.ensures below) below, found.few)

pub returns : goal.returns
returns c =
    let a = c.args in
    let h = c.in_ok-header.header in
    let found = header_found a.s.now _ h c.in_ok-header.ensures refl in
    let limit = cap_value _ _ c.bound_limit-limit.ensures (limit_told a.paper h.quantities h.hidden found.high) in
    let p = rw limit at c.check_rules.ensures in
    text_filled a.paper a.s.now h _ _ _ found.high (p.reply ∙ rules_checked a.s.now h found a.paper) p
