-- `read::digits` meets its contract. The loop's invariant: the answer is that of the digits that are left, after the value so far. Assumes nothing.
use mathlib.Core.Path.{refl, sym, ◌∙◌}
use mathlib.Core.Path.{◌≡◌, ap}
use mathlib.Core.Bool.{true}
use Prim.Native.Nat.{ℕ, ◌<◌}
use native.Mathlib.Omega.{arith}
use lib.ListN.{length, get_or}
use Rattle.std.specs.Prelude.{Some}
use Rattle.numerals.specs.Bytes.{is_digit}
use Rattle.numerals.proofs.Keys.{digit_at, digit_end}
use Rattle.numerals.proofs.Reading.{answer_next, answer_stop}
use Rattle.numerals.proofs.read.digits.Goals as goal

pub loop-next-init : goal.loop-next-init
loop-next-init c = (omega arith, refl)

pub returns-then-not-is_digit_at : goal.returns-then-not-is_digit_at
returns-then-not-is_digit_at c = let i = c.loop-next in
    answer_stop c.args.s.now i.value i.next i.invariant.0 (omega arith) (sym c.is_digit_at.ensures ∙ c.if-not-is_digit_at.true) ∙ i.invariant.1

pub with_digit-value-requires : goal.with_digit-value-requires
with_digit-value-requires c = let s = c.args.s.now in
    sym (digit_at s c.loop-next.next (omega arith)) ∙ sym c.is_digit_at.ensures ∙ c.if-not-is_digit_at.false

pub loop-next-preserved : goal.loop-next-preserved
loop-next-preserved c = let s = c.args.s.now in let i = c.loop-next in
    let digit : is_digit (get_or s i.next 0) ≡ true = sym (digit_at s i.next (omega arith)) ∙ sym c.is_digit_at.ensures ∙ c.if-not-is_digit_at.false in
    let here : i.next < length s = omega arith in
    let n = answer_next s i.value i.next _ here digit c.with_digit-value.ensures in
    (n.0, n.1 ∙ i.invariant.1)

pub returns : goal.returns
returns c = let i = c.loop-next in let s = c.args.s.now in
    let end : i.next ≡ length s = omega arith in
    ap (λ (x : ℕ). Some (record { value = i.value; next = x })) (sym end)
    ∙ answer_stop s i.value i.next i.invariant.0 (omega arith) (digit_end s i.next (omega arith))
    ∙ i.invariant.1
