-- `byte::is_digit_at` meets its contract: digits are the bytes of their kind. Assumes nothing.
use mathlib.Core.Path.{◌∙◌}
use Rattle.numerals.proofs.Keys.{same_digit}
use Rattle.numerals.proofs.byte.is_digit_at.Goals as goal

pub returns : goal.returns
returns c = c.eq.ensures ∙ rw (c.from.ensures, c.byte_at.ensures) (same_digit c.args.s.now c.args.at)
