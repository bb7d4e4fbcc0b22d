-- `read::with_digit` meets its contract. Assumes nothing.
use mathlib.Core.Path.{sym, ◌∙◌}
use Prim.Native.Nat.{◌+◌, ◌-◌, ◌*◌}
use native.Mathlib.Omega.{arith}
use Rattle.numerals.specs.Bytes.{digit_zero}
use Rattle.numerals.proofs.Keys.{digit_range}
use Rattle.numerals.proofs.Values.{capped_below, capped_above}
use Rattle.numerals.proofs.read.with_digit.Goals as goal

pub returns-then-v : goal.returns-then-v
returns-then-v c = let a = c.args in
    sym (capped_below (10 * a.v + (a.b - digit_zero)) (omega (arith, digit_range a.b c.requires)) ∙ omega arith)

pub returns : goal.returns
returns c = let a = c.args in sym (capped_above (10 * a.v + (a.b - digit_zero)) (omega arith))
