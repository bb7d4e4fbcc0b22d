-- `signed::bound_at` meets its contract: the number after the minus, with its sign. Assumes nothing.
use mathlib.Core.Path.{refl, sym, ◌∙◌, ap}
use Prim.Native.Nat.{◌^◌}
use native.Mathlib.Omega.{arith}
use Rattle.numerals.specs.declared.byte.Kind.TheVariants.{Minus}
use Rattle.numerals.proofs.Keys.{kind_told}
use Rattle.lines.specs.Inner.{found_answer, capped_integer}
use Rattle.lines.proofs.SignedNumbers.{bound_from, bound_inside}
use Rattle.lines.proofs.signed.bound_at.Goals as goal

pub overflow_add-at : goal.overflow_add-at
overflow_add-at c = let a = c.args in
    let e = kind_told Minus a.s.now a.at refl c.byte_at.ensures c.from.ensures c.eq-minus.ensures in
    record { fits = bound_inside a.s.now a.at (2 ^ 64) _ e (omega arith) (omega arith) }

pub returns : goal.returns
returns c = let a = c.args in
    c.after_sign.ensures
    ∙ ap (found_answer capped_integer a.s.now) (sym (bound_from a.s.now a.at _ (kind_told Minus a.s.now a.at refl c.byte_at.ensures c.from.ensures c.eq-minus.ensures)))
