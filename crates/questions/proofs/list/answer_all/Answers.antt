-- `list::answer_all` meets its contract: the bit of each question is put above those of the questions before it. Assumes nothing.
use mathlib.Core.Path.{sym, ◌∙◌, ap}
use Prim.Native.Nat.{ℕ, ◌+◌}
use native.Mathlib.Omega.{arith}
use Rattle.std.proofs.lemmas.List.{length_push}
use Rattle.questions.specs.Questions.{yes_up_to}
use Rattle.questions.proofs.Bits.{yes_zero, put_room, put_yes, put_no}
use Rattle.questions.proofs.Cutting.{piece, left_more, left_none, same_answer, answerable}
use Rattle.questions.proofs.list.answer_all.Goals as goal

pub loop-i-init : goal.loop-i-init
loop-i-init c = record { left = record { begins = cc; three = cc; reached = omega arith }; number = cc; answers = sym (yes_zero c.args.tight.now c.args.questions.now) }

pub answer_to-requires : goal.answer_to-requires
answer_to-requires c = answerable (piece _ _ _ _ _ _ c.loop-i.invariant.left c.in-Some.ensures.steps.0.1) _ _ c.requires

pub overflow_add-bits : goal.overflow_add-bits
overflow_add-bits c =
    let l = c.loop-i.invariant in
    let s = c.in-Some.ensures.steps in
    put_room _ _ _ _ _ (omega (arith, c.requires.few, (piece _ _ _ _ _ _ l.left s.0.1).among)) (s.1 ∙ l.number) l.answers

pub loop-i-preserved-then-answer_to : goal.loop-i-preserved-then-answer_to
loop-i-preserved-then-answer_to c =
    let l = c.loop-i.invariant in
    let s = c.in-Some.ensures.steps in
    let p = piece _ _ _ _ _ _ l.left s.0.1 in
    rw (length_push c.loop-i.yielded (c.in-Some.i, c.in-Some.question))
    (record {
      left = left_more _ _ _ _ _ _ l.left s.0.1 _ s.0.0;
      number = s.2 ∙ ap (λ (k : ℕ). k + 1) l.number;
      answers = put_yes _ _ _ _ _ (omega (arith, c.requires.few, p.among)) (s.1 ∙ l.number) l.answers (c.if-answer_to.ensures ∙ same_answer p c.args.tight.now);
    })

pub loop-i-preserved : goal.loop-i-preserved
loop-i-preserved c =
    let l = c.loop-i.invariant in
    let s = c.in-Some.ensures.steps in
    let p = piece _ _ _ _ _ _ l.left s.0.1 in
    rw (length_push c.loop-i.yielded (c.in-Some.i, c.in-Some.question))
    (record {
      left = left_more _ _ _ _ _ _ l.left s.0.1 _ s.0.0;
      number = s.2 ∙ ap (λ (k : ℕ). k + 1) l.number;
      answers = put_no _ _ _ _ _ (omega (arith, c.requires.few, p.among)) (s.1 ∙ l.number) l.answers (c.if-answer_to.ensures ∙ same_answer p c.args.tight.now);
    })

pub returns : goal.returns
returns c =
    let l = c.loop-i.invariant in
    l.answers ∙ ap (yes_up_to c.args.tight.now c.args.questions.now) (left_none l.left c.in-None.ensures.steps.0.1.0)
