-- `line::put_term` meets its contract: the sign and then the numeral of the quantity. Assumes nothing.
use mathlib.Core.Path.{◌≡◌, sym}
use mathlib.Core.Bool.{cond}
use Prim.Native.Nat.{◌%◌}
use native.Mathlib.Omega.{arith}
use lib.Dec.{eqb}
use borrow.Author.Tests.{eq-eqb, ne_eqb}
use Rattle.numerals.specs.Bytes.{plus, minus}
use Rattle.numerals.proofs.Splices.{spliced_more}
use Rattle.writing.proofs.Lines.{term-text}
use Rattle.writing.proofs.line.put_term.Goals as goal
use Rattle.writing.proofs.line.put_term.Goals.{then-x-eq1, else-x-eq1}

pub returns : goal.returns
returns c =
    let x = c.args.x in
    let told : cond (eqb (x % 2) 1) minus plus ≡ c.if-x-eq1.sign =
    elim c.if-x-eq1.branch [
      | then-x-eq1 w ↦ rw (eq-eqb (x % 2) 1 w.if-x-eq1.true) (sym w.sign-is)
      | else-x-eq1 w ↦ rw (ne_eqb (x % 2) 1 w.if-x-eq1.false) (sym w.sign-is)
    ] in
    rw (term-text x {b = c.if-x-eq1.sign} c.quantity.ensures told) (spliced_more c.put_byte-digits.ensures c.put_number.ensures (omega arith))
