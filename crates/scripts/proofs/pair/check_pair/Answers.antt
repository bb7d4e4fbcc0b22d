-- `pair::check_pair` meets its contract: each answer is the definition's. Assumes nothing.
use Rattle.std.proofs.Common.{rules}
use mathlib.Core.Path.{sym, ◌∙◌}
use Rattle.std.proofs.lemmas.Result.{err_from_is_err_and}
use Rattle.rules.specs.declared.paper.Paper.TheVariants.{Sheet}
use Rattle.scripts.specs.declared.reply.Subject.TheVariants.{Both}
use Rattle.scripts.specs.declared.reply.Subject.TheVariants.{Sheet as OfSheet}
use Rattle.scripts.specs.declared.reply.Subject.TheVariants.{Script as OfScript}
use Rattle.scripts.specs.Inner.{checked_pair}
use Rattle.scripts.proofs.Papers.{about_ok, about_err}
use Rattle.scripts.proofs.Promised.{passed_range}
use Rattle.scripts.proofs.pair.check_pair.Goals as goal

pub check_fit-requires : goal.check_fit-requires
check_fit-requires c =
    passed_range Sheet c.check.ensures (about_ok OfSheet c.check.result c.in_ok-sheet.ensures)

pub returns-in_err-sheet : goal.returns-in_err-sheet
unfolding checked_pair
returns-in_err-sheet c =
    let p = err_from_is_err_and c.from_residual.result c.from_residual.ensures.1 in
    let f = about_err OfSheet c.check.result c.in_err-sheet.ensures in
    rw (p.1, p.2, f.2, sym c.check.ensures.reply ∙ f.1)

pub returns-in_err-script : goal.returns-in_err-script
unfolding checked_pair
returns-in_err-script c =
    let p = err_from_is_err_and c.from_residual-in_err-script.result c.from_residual-in_err-script.ensures.1 in
    let s = about_ok OfSheet c.check.result c.in_ok-sheet.ensures in
    let f = about_err OfScript c.check-2.result c.in_err-script.ensures in
    rw (p.1, p.2, f.2, sym c.check.ensures.reply ∙ s, sym c.check-2.ensures.reply ∙ f.1)

pub returns-in_err-about : goal.returns-in_err-about
unfolding checked_pair
returns-in_err-about c =
    let p = err_from_is_err_and c.from_residual-in_err-about.result c.from_residual-in_err-about.ensures.1 in
    let s = about_ok OfSheet c.check.result c.in_ok-sheet.ensures in
    let t = about_ok OfScript c.check-2.result c.in_ok-script.ensures in
    let f = about_err Both c.check_fit.result c.in_err-about.ensures in
    rw (p.1, p.2, f.2, sym c.check.ensures.reply ∙ s, sym c.check-2.ensures.reply ∙ t, sym c.check_fit.ensures ∙ f.1)

pub returns : goal.returns
unfolding checked_pair
returns c =
    let s = about_ok OfSheet c.check.result c.in_ok-sheet.ensures in
    let t = about_ok OfScript c.check-2.result c.in_ok-script.ensures in
    let f = about_ok Both c.check_fit.result c.in_ok-about.ensures in
    rw (sym c.check.ensures.reply ∙ s, sym c.check-2.ensures.reply ∙ t, sym c.check_fit.ensures ∙ f)
