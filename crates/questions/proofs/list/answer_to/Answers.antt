-- `list::answer_to` meets its contract: a question that passed the check is a rule with a place, and its answer is the one from the word there. Assumes nothing.
use mathlib.Core.Path.{◌∙◌}
use Rattle.std.proofs.Common.{rules}
use Rattle.integers.proofs.Parts.{held_value}
use Rattle.words.specs.Change.{word_at}
use native.Mathlib.Omega.{arith}
use Rattle.tables.proofs.Sizes.{small_start}
use Rattle.questions.proofs.Finding.{given_somewhere, given_inside, given_answer}
use Rattle.questions.proofs.list.answer_to.Goals as goal

pub returns-in_default-place_of : goal.returns-in_default-place_of
returns-in_default-place_of c = absurd (given_somewhere _ c.args.question.now 0 _ _ _ c.in-Ok.ensures c.halved.ensures.reply c.place_of.ensures.reply c.in_default-place_of.is)

pub offset_bounds-tight-k : goal.offset_bounds-tight-k
offset_bounds-tight-k c =
    omega (arith, given_inside _ c.args.question.now 0 _ _ _ c.in-Ok.ensures c.halved.ensures.reply c.place_of.ensures.reply _ c.in-Some.is, small_start _ c.requires.most)

pub bounds-tight-k : goal.bounds-tight-k
bounds-tight-k c =
    omega (arith, given_inside _ c.args.question.now 0 _ _ _ c.in-Ok.ensures c.halved.ensures.reply c.place_of.ensures.reply _ c.in-Some.is, c.requires.tight_room)

pub returns : goal.returns
returns c =
    let w = word_at c.args.tight.now c.in-Some.k in
    rw (held_value {z = w} (search rules)) at c.answer.ensures.reply
    ∙ given_answer _ c.args.question.now 0 _ _ _ c.in-Ok.ensures c.halved.ensures.reply c.place_of.ensures.reply _ c.in-Some.is c.args.tight.now
