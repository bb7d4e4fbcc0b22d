-- `signed::term_at` meets its contract: a number after a sign. Assumes nothing.
use mathlib.Core.Path.{sym}
use native.Mathlib.Omega.{arith}
use Rattle.integers.proofs.Parts.{held_value}
use Rattle.lines.proofs.SignedNumbers.{answer_cap, term_unsigned, sign_inside, term_bare, term_told}
use Rattle.lines.proofs.signed.term_at.Goals as goal

pub returns-in_err-minus : goal.returns-in_err-minus
returns-in_err-minus c = rw c.from_residual.ensures (term_unsigned c.args.s.now c.args.at c.in_err-minus.ensures)

pub overflow_add-at : goal.overflow_add-at
overflow_add-at c = omega (arith, sign_inside c.args.s.now c.args.at c.in_ok-minus.minus c.in_ok-minus.ensures)

pub returns-in_err-found : goal.returns-in_err-found
returns-in_err-found c = rw c.from_residual-in_err-found.ensures
    (term_bare c.args.s.now c.args.at c.in_ok-minus.minus c.in_ok-minus.ensures c.in_err-found.ensures)

pub with_sign-requires : goal.with_sign-requires
with_sign-requires c = answer_cap _ _ _ (sym c.in_ok-found.ensures)

pub returns : goal.returns
returns c = rw (held_value c.with_sign.type_inv, c.with_sign.ensures)
    (term_told c.args.s.now c.args.at c.in_ok-minus.minus c.in_ok-minus.ensures c.in_ok-found.found c.in_ok-found.ensures)
