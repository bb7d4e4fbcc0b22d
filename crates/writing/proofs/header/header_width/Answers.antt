-- `header::header_width` meets its contract: the widths of its parts. Assumes nothing.
use native.Mathlib.Omega.{arith}
use Rattle.writing.proofs.Lengths.{hidden_length}
use Rattle.writing.proofs.Lines.{numeral_short}
use Rattle.writing.proofs.header.header_width.Goals as goal

pub overflow_add-result-2 : goal.overflow_add-result-2
overflow_add-result-2 c =
    let a = c.args in
    omega (arith, numeral_short a.n (omega arith), hidden_length a.n a.set (omega arith))

pub overflow_add-result-3 : goal.overflow_add-result-3
overflow_add-result-3 c =
    let a = c.args in
    omega (arith, numeral_short a.n (omega arith), numeral_short a.count (omega arith), hidden_length a.n a.set (omega arith))
