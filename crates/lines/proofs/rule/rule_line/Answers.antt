-- `rule::rule_line` meets its contract: the form, its limits, and then whether its terms cancel. Assumes nothing.
use mathlib.Core.Path.{sym, ◌∙◌}
use Rattle.std.proofs.lemmas.Result.{err_from_is_err_and}
use Rattle.integers.proofs.Parts.{word_value}
use Rattle.rules.proofs.Words.{narrow_value}
use Rattle.lines.proofs.RuleLimits.{small_narrow, small_word, form_small, bits_zero, bits_other, form_words, rule_malformed, rule_outside, rule_cancels, rule_accepted}
use Rattle.lines.proofs.rule.rule_line.Goals as goal

pub returns-in_err-found : goal.returns-in_err-found
returns-in_err-found c = let a = c.args in
    let p = err_from_is_err_and c.from_residual.result c.from_residual.ensures.1 in
    rw (p.1, p.2) (rule_malformed a.s.now a.at a.n a.limit a.line _ c.spelled_at.ensures c.requires.0 c.requires.1 _ c.in_err-found.ensures)

pub returns-then-not-is_within : goal.returns-then-not-is_within
returns-then-not-is_within c = let a = c.args in
    rule_outside a.s.now a.at a.n a.limit a.line _ c.spelled_at.ensures c.requires.0 c.requires.1 c.in_ok-found.found c.in_ok-found.ensures
    (sym c.is_within.ensures ∙ c.if-not-is_within.true)

pub returns-then-form-second-eq0 : goal.returns-then-form-second-eq0
returns-then-form-second-eq0 c = let a = c.args in let it = c.in_ok-found.found in
    let within = sym c.is_within.ensures ∙ c.if-not-is_within.false in
    let small = form_small a.n a.limit it.value c.requires.0 within in
    let words = form_words a.s.now _ _ a.line it c.spelled_at.ensures c.in_ok-found.ensures in
    rule_cancels a.s.now a.at a.n a.limit a.line _ c.spelled_at.ensures c.requires.0 c.requires.1 it c.in_ok-found.ensures within
    (bits_zero words.0 (small_word _ small.second) small.sum (rw c.unwrap_or-second.ensures at c.if-form-second-eq0.true))

pub returns : goal.returns
returns c = let a = c.args in let it = c.in_ok-found.found in
    let within = sym c.is_within.ensures ∙ c.if-not-is_within.false in
    let small = form_small a.n a.limit it.value c.requires.0 within in
    let words = form_words a.s.now _ _ a.line it c.spelled_at.ensures c.in_ok-found.ensures in
    rule_accepted a.s.now a.at a.n a.limit a.line _ c.spelled_at.ensures c.requires.0 c.requires.1 it c.in_ok-found.ensures within
    (bits_other words.0 (small_word _ small.second) (rw c.unwrap_or-second.ensures at c.if-form-second-eq0.false))
    c.new.result
    (rw (
      c.unwrap_or-second.ensures,
      word_value words.0,
      narrow_value (small_narrow _ small.first),
      word_value (small_word _ small.second),
      narrow_value (small_narrow _ small.second),
      word_value words.1,
    ) at c.new.ensures.reply)
