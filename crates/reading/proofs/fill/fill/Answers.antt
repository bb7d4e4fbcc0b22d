-- `fill::fill` meets its contract: the rule lines of a text that passed fill the table that it asks for. Assumes nothing.
use native.Mathlib.Omega.{arith}
use Rattle.reading.proofs.Limits.{cap_casts, cap_value}
use Rattle.reading.proofs.Headers.{passed_opened}
use Rattle.reading.proofs.FillingOnce.{rules_fill}
use Rattle.reading.proofs.fill.fill.Goals as goal

pub overflow_cast-limit : goal.overflow_cast-limit
overflow_cast-limit c = cap_casts _ _ c.bound_limit-limit.ensures (passed_opened _ _ _ _ _ _ c.requires.0).told

pub check_rules-requires : goal.check_rules-requires
check_rules-requires c =
    let o = passed_opened _ _ _ _ _ _ c.requires.0 in
    (o.some, o.most, rw (cap_value _ _ c.bound_limit-limit.ensures o.told) o.told, omega (arith, o.lines))

pub returns : goal.returns
returns c =
    let a = c.args in
    let o = passed_opened _ _ _ _ _ _ c.requires.0 in
    rules_fill a.paper a.s.now a.passed _ _ _ c.requires.0 c.requires.1 (rw (cap_value _ _ c.bound_limit-limit.ensures o.told) at c.check_rules.ensures)
