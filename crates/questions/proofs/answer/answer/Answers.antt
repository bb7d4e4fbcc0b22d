-- `answer::answer` meets its contract: the no-rule word answers no, and any other is compared with the halved question's bound. Assumes nothing.
use mathlib.Core.Path.{sym}
use Rattle.integers.proofs.Parts.{held_value, word_value}
use Rattle.questions.proofs.Answering.{answers_from}
use Rattle.questions.proofs.answer.answer.Goals as goal

pub returns-then-word-lt-NO_RULE : goal.returns-then-word-lt-NO_RULE
returns-then-word-lt-NO_RULE c =
    answers_from _ _ _ (rw (word_value c.ranges.word, held_value c.bound.type_inv, c.bound.ensures, c.halved.ensures.reply) (sym (rw (rw (word_value c.ranges.word) at c.if-word-lt-NO_RULE.true))))

pub returns-else-word-lt-NO_RULE : goal.returns-else-word-lt-NO_RULE
returns-else-word-lt-NO_RULE c =
    let e = rw (word_value c.ranges.word) at c.if-word-lt-NO_RULE.false in
    answers_from _ _ _ (rw (word_value c.ranges.word, e))
