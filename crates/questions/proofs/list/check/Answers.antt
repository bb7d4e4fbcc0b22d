-- `list::check` meets its contract: each question is checked in turn, and what was found is the reply. Assumes nothing.
use native.Mathlib.Omega.{arith}
use Rattle.std.proofs.lemmas.List.{length_push}
use Rattle.questions.proofs.Cutting.{piece, left_more, left_none, same_given}
use Rattle.questions.proofs.Listing.{checked_first, checked_cancels, checked_stated, reply_outside, reply_cancels, reply_done}
use Rattle.questions.proofs.list.check.Goals as goal

pub loop-question-init : goal.loop-question-init
loop-question-init c = record { left = record { begins = cc; three = cc; reached = omega arith }; checked = checked_first _ _ }

pub returns-in-Err-Outside : goal.returns-in-Err-Outside
returns-in-Err-Outside c =
    let p = piece _ _ _ _ _ _ c.loop-question.invariant.left c.in-Some.ensures.steps.1 in
    reply_outside _ _ _ _ _ p.among (same_given p _ _ c.rule_of.ensures) (cc)

pub loop-question-preserved-in-Err-Vanishes : goal.loop-question-preserved-in-Err-Vanishes
loop-question-preserved-in-Err-Vanishes c =
    let l = c.loop-question.invariant in
    let s = c.in-Some.ensures.steps in
    rw (length_push c.loop-question.yielded c.in-Some.question)
    (record { left = left_more _ _ _ _ _ _ l.left s.1 _ s.0; checked = checked_cancels _ _ _ _ _ l.checked (same_given (piece _ _ _ _ _ _ l.left s.1) _ _ c.rule_of.ensures) (cc) })

pub loop-question-preserved : goal.loop-question-preserved
loop-question-preserved c =
    let l = c.loop-question.invariant in
    let s = c.in-Some.ensures.steps in
    rw (length_push c.loop-question.yielded c.in-Some.question)
    (record { left = left_more _ _ _ _ _ _ l.left s.1 _ s.0; checked = checked_stated _ _ _ _ _ l.checked (same_given (piece _ _ _ _ _ _ l.left s.1) _ _ c.rule_of.ensures) _ c.in-Ok.is })

pub returns-then-cancels : goal.returns-then-cancels
returns-then-cancels c =
    let l = c.loop-question.invariant in
    reply_cancels _ _ _ (rw (left_none l.left c.in-None.ensures.steps.1.0, c.if-cancels.true) at l.checked)

pub returns : goal.returns
returns c =
    let l = c.loop-question.invariant in
    reply_done _ _ _ (rw (left_none l.left c.in-None.ensures.steps.1.0, c.if-cancels.false) at l.checked)
