-- `signed::sign_at` meets its contract. Assumes nothing.
use mathlib.Core.Path.{sym, ◌∙◌}
use Rattle.numerals.proofs.Keys.{kind_read}
use Rattle.lines.proofs.SignedNumbers.{sign_plus, sign_minus, sign_other}
use Rattle.lines.proofs.signed.sign_at.Goals as goal

pub returns-in-Plus : goal.returns-in-Plus
returns-in-Plus c = sign_plus _ (sym (kind_read c.args.s.now c.args.at c.byte_at.ensures c.from.ensures) ∙ c.in-Plus.is)

pub returns-in-Minus : goal.returns-in-Minus
returns-in-Minus c = sign_minus _ (sym (kind_read c.args.s.now c.args.at c.byte_at.ensures c.from.ensures) ∙ c.in-Minus.is)

pub returns-in_default : goal.returns-in_default
returns-in_default c = let k = kind_read c.args.s.now c.args.at c.byte_at.ensures c.from.ensures in
    sign_other _ (λ q. c.in_default.not-Plus (k ∙ q)) (λ q. c.in_default.not-Minus (k ∙ q))
