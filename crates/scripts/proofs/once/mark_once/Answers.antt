-- `once::mark_once` meets its contract: each answer, and then what marking the filled tables promises. Assumes nothing.
use Rattle.std.proofs.Common.{rules}
use Rattle.std.proofs.lemmas.Result.{err_from_is_err_and}
use Rattle.rules.specs.declared.paper.Paper.TheVariants.{Sheet}
use Rattle.scripts.specs.declared.reply.Subject.TheVariants.{Both}
use Rattle.scripts.specs.declared.reply.Subject.TheVariants.{Sheet as OfSheet}
use Rattle.scripts.specs.declared.reply.Subject.TheVariants.{Script as OfScript}
use Rattle.scripts.proofs.Papers.{about_ok, about_err}
use Rattle.scripts.proofs.Promised.{passed_range}
use Rattle.scripts.proofs.ReadOnce.{sheet_refused, script_refused, pair_refused, once_filled, once_marked}
use Rattle.scripts.proofs.once.mark_once.Goals as goal

pub check_fit-requires : goal.check_fit-requires
check_fit-requires c =
    passed_range Sheet c.check_filling.ensures.checked (about_ok OfSheet c.check_filling.result c.in_ok-header.ensures)

pub returns-in_err-header : goal.returns-in_err-header
returns-in_err-header c =
    let p = err_from_is_err_and c.from_residual.result c.from_residual.ensures.1 in
    let f = about_err OfSheet c.check_filling.result c.in_err-header.ensures in
    rw (p.1, p.2, f.2) (sheet_refused c.check_filling.ensures f.1)

pub returns-in_err-script_header : goal.returns-in_err-script_header
returns-in_err-script_header c =
    let p = err_from_is_err_and c.from_residual-in_err-script_header.result c.from_residual-in_err-script_header.ensures.1 in
    let s = about_ok OfSheet c.check_filling.result c.in_ok-header.ensures in
    let f = about_err OfScript c.check_filling-2.result c.in_err-script_header.ensures in
    rw (p.1, p.2, f.2) (script_refused c.check_filling.ensures s c.check_filling-2.ensures f.1)

pub returns-in_err-about : goal.returns-in_err-about
returns-in_err-about c =
    let p = err_from_is_err_and c.from_residual-in_err-about.result c.from_residual-in_err-about.ensures.1 in
    let s = about_ok OfSheet c.check_filling.result c.in_ok-header.ensures in
    let t = about_ok OfScript c.check_filling-2.result c.in_ok-script_header.ensures in
    let f = about_err Both c.check_fit.result c.in_err-about.ensures in
    rw (p.1, p.2, f.2)
    (pair_refused c.check_filling.ensures s c.check_filling-2.ensures t c.args.values.now (rw c.own_lengths-lent.ensures at c.check_fit.ensures) f.1)

pub mark_filled-requires : goal.mark_filled-requires
mark_filled-requires c =
    let s = about_ok OfSheet c.check_filling.result c.in_ok-header.ensures in
    let t = about_ok OfScript c.check_filling-2.result c.in_ok-script_header.ensures in
    let f = about_ok Both c.check_fit.result c.in_ok-about.ensures in
    once_filled c.check_filling.ensures s c.check_filling-2.ensures t c.args.values.now (rw c.own_lengths-lent.ensures at c.check_fit.ensures) f
    c.args.workspace.now c.requires

pub returns : goal.returns
returns c =
    let s = about_ok OfSheet c.check_filling.result c.in_ok-header.ensures in
    let t = about_ok OfScript c.check_filling-2.result c.in_ok-script_header.ensures in
    let f = about_ok Both c.check_fit.result c.in_ok-about.ensures in
    once_marked c.check_filling.ensures s c.check_filling-2.ensures t c.args.values.now (rw c.own_lengths-lent.ensures at c.check_fit.ensures) f
    c.args.workspace.now c.requires c.mark_filled.ensures
