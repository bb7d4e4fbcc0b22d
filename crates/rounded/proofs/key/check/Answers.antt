-- `key::check` meets its contract: the marks' length before the key call's checks, the marks after them. Assumes nothing.
use Rattle.std.proofs.lemmas.Result.{err_from_is_err_and}
use Rattle.rounded.proofs.Checking.{checked_short, checked_before, checked_marks, checked_done}
use Rattle.rounded.proofs.key.check.Goals as goal

pub returns-then-marks-m : goal.returns-then-marks-m
returns-then-marks-m c = checked_short _ _ _ _ _ _ c.size-m.ensures c.if-marks-m.true

pub returns-in_err-check : goal.returns-in_err-check
returns-in_err-check c =
    let p = err_from_is_err_and c.from_residual.result c.from_residual.ensures.1 in
    rw (p.1, p.2) (checked_before _ _ _ _ _ _ c.size-m.ensures c.if-marks-m.false _ c.in_err-check.ensures)

pub returns-then-not-are_marks : goal.returns-then-not-are_marks
returns-then-not-are_marks c = checked_marks _ _ _ _ _ _ c.size-m.ensures c.if-marks-m.false c.in_ok-check.ensures _ c.are_marks.ensures.reply c.if-not-are_marks.true

pub returns : goal.returns
returns c = checked_done _ _ _ _ _ _ c.size-m.ensures c.if-marks-m.false c.in_ok-check.ensures _ c.are_marks.ensures.reply c.if-not-are_marks.false
