-- `write::width` meets its contract: one digit more than the power of ten that the number reaches. Assumes nothing.
use Rattle.numerals.proofs.Decimals.{power_width}
use Rattle.numerals.proofs.write.width.Goals as goal

pub returns : goal.returns
returns c = rw c.unwrap_or-above_one.ensures
    (power_width c.args.v c.checked_ilog10.result c.checked_ilog10.ensures.none c.checked_ilog10.ensures.power_le c.checked_ilog10.ensures.next_power_gt)
