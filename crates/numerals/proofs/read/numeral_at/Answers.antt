-- `read::numeral_at` meets its contract: each way of the code is one of the definition's. Assumes nothing.
use mathlib.Core.Path.{sym, ◌∙◌, ap}
use Rattle.numerals.specs.Parsing.{numeral_answer}
use Rattle.numerals.proofs.Reading.{answer_missing, answer_first, answer_leading, answer_zero}
use Rattle.numerals.proofs.read.numeral_at.Goals as goal

pub returns-then-not-is_digit_at : goal.returns-then-not-is_digit_at
returns-then-not-is_digit_at c = answer_missing c.args.s.now c.args.at (sym c.is_digit_at.ensures ∙ c.if-not-is_digit_at.true)

pub returns-then-b-ne48 : goal.returns-then-b-ne48
returns-then-b-ne48 c = let a = c.args in
    c.digits.ensures
    ∙ ap (numeral_answer a.s.now) (sym (answer_first a.s.now a.at (sym c.is_digit_at.ensures ∙ c.if-not-is_digit_at.false) c.if-b-ne48.true))

pub returns-then-is_digit_at : goal.returns-then-is_digit_at
returns-then-is_digit_at c = answer_leading c.args.s.now c.args.at (sym c.is_digit_at.ensures ∙ c.if-not-is_digit_at.false) c.if-b-ne48.false
    (sym c.is_digit_at-2.ensures ∙ c.if-is_digit_at.true)

pub returns : goal.returns
returns c = answer_zero c.args.s.now c.args.at (sym c.is_digit_at.ensures ∙ c.if-not-is_digit_at.false) c.if-b-ne48.false
    (sym c.is_digit_at-2.ensures ∙ c.if-is_digit_at.false)
