-- `write::put_number` meets its contract. The loop's invariant: with the digits of the rest before the cursor the buffer is the one that is
-- asked for. Assumes nothing.
use mathlib.Core.Path.{◌≡◌, sym, ◌∙◌, ap}
use mathlib.Core.List.{List}
use Prim.Native.Nat.{ℕ, suc, ◌+◌, ◌-◌, ◌/◌, ◌%◌, ◌≤◌, ◌<◌}
use native.Mathlib.Omega.{arith}
use lib.ListN.{length, set}
use Rattle.numerals.specs.Bytes.{digit_zero}
use Rattle.numerals.specs.Writing.{splice}
use Rattle.numerals.proofs.Decimals.{last_digits, last_none, last_more, last_length, decimal_last}
use Rattle.numerals.proofs.Splices.{splice_none, splice_before}
use Rattle.numerals.proofs.write.put_number.Goals as goal

-- a turn: the digit that is stored is the last one that the rest has yet to give
turn : (out : List ℕ) (at i rest : ℕ) → at < i → i ≤ length out
    → splice (set out (i - 1) (digit_zero + rest % 10)) at (last_digits (i - 1 - at) (rest / 10)) ≡ splice out at (last_digits (i - at) rest)
turn out at i rest h l =
    let k : ℕ = i - 1 - at in
    let ds : List ℕ = last_digits k (rest / 10) in
    let place : i - 1 ≡ at + length ds = omega (arith, last_length k (rest / 10)) in
    let count : suc k ≡ i - at = omega arith in
    ap (λ (j : ℕ). splice (set out j (digit_zero + rest % 10)) at ds) place
    ∙ splice_before out at ds (digit_zero + rest % 10) (omega arith)
    ∙ ap (splice out at) (sym (last_more k rest) ∙ ap (λ (j : ℕ). last_digits j rest) count)

pub loop-i-init : goal.loop-i-init
loop-i-init c =
    let digits = decimal_last (c.args.at + c.width.result - c.args.at) c.args.v (omega arith) in
    (omega arith, omega arith, ap (splice c.args.out.now c.args.at) (sym digits))

pub loop-i-preserved : goal.loop-i-preserved
loop-i-preserved c =
    (omega arith, omega arith, turn c.loop-i.out c.args.at c.loop-i.i c.loop-i.rest (omega arith) (omega arith) ∙ c.loop-i.invariant.2)

pub returns : goal.returns
returns c =
    let none : c.loop-i.i - c.args.at ≡ 0 = omega arith in
    record {
      cursor = omega arith;
      buffer = sym (splice_none c.loop-i.out c.args.at) ∙ rw (none, last_none c.loop-i.rest) at c.loop-i.invariant.2;
    }
