-- Signed quantity numbers: which are of 1 to n, that these fit their words, and that 0 is none. Assumes nothing.
use mathlib.Core.Path.{◌≡◌, refl, sym, ap, subst}
use mathlib.Core.Bool.{Bool, true, false, ◌&&◌}
use Prim.Native.Nat.{ℕ, zero, suc, ◌+◌, ◌≤◌}
use native.Mathlib.Omega.{arith}
use lib.Dec.{leb, T}
use lib.IntN.{ℤ, pos, negsuc, nat_abs, ◌+ℤ◌}
use mir.Syntax.{w32, w64}
use mir.Val.{SFits}
use borrow.Author.Tests.{leb-true}
use Rattle.integers.proofs.Parts.{positive_part, negative_part, parts_add, word_of}
use Rattle.rules.specs.Limits.{max_quantities}
use Rattle.rules.specs.Literal.{quantity_within}
use Rattle.rules.specs.Steps.{is_none}

both : (a b : Bool) → ◌&&◌ a b ≡ true → (a ≡ true) × (b ≡ true)
both true b e = (refl, e)
both false b e = absurd (subst T (sym e) tt)

-- ---- of 1 to n

pub within_range : (n q : ℕ) → quantity_within n q ≡ true → (1 ≤ q) × (q ≤ n)
within_range n q e = let p = both (leb 1 q) (leb q n) e in (leb-true 1 q p.0, leb-true q n p.1)

-- an integer of such a magnitude fits the word of a signed quantity number
pub within_narrow : (n : ℕ) (z : ℤ) → n ≤ max_quantities → quantity_within n (nat_abs z) ≡ true → SFits w32 z
within_narrow n (pos q) h e = record { sfits = omega (arith, within_range n q e) }
within_narrow n (negsuc q) h e = record { sfits = omega (arith, within_range n (suc q) e) }

-- the sum of two such fits a word
pub within_sum : (n : ℕ) (x y : ℤ) → n ≤ max_quantities → quantity_within n (nat_abs x) ≡ true → quantity_within n (nat_abs y) ≡ true
    → SFits w64 (x +ℤ y)
unfolding positive_part negative_part
within_sum n x y h e f = word_of
    (omega (arith, parts_add x y, within_parts x, within_parts y, within_range n (nat_abs x) e, within_range n (nat_abs y) f))
    (omega (arith, parts_add x y, within_parts x, within_parts y, within_range n (nat_abs x) e, within_range n (nat_abs y) f))
  where
    within_parts : (z : ℤ) → positive_part z + negative_part z ≡ nat_abs z
    within_parts (pos v) = omega arith
    within_parts (negsuc v) = omega arith

-- ---- no quantity

-- 0 is none
pub none_zero : (z : ℤ) → z ≡ pos 0 → is_none z ≡ true
none_zero z e = ap is_none e

-- nothing else is
pub none_other : (z : ℤ) → (z ≡ pos 0 → ⊥) → is_none z ≡ false
none_other (pos zero) h = absurd (h refl)
none_other (pos (suc n)) h = refl
none_other (negsuc n) h = refl
