-- Integers with their magnitudes capped. Assumes nothing.
use mathlib.Core.Path.{◌≡◌, refl, sym, ◌∙◌, ap}
use mathlib.Core.Bool.{Bool, true, false, cond}
use mathlib.Core.List.{List}
use Prim.Native.Nat.{ℕ, zero, suc, ◌≤◌, ◌<◌}
use native.Mathlib.Omega.{arith}
use lib.IntN.{ℤ, pos, negsuc, neg_ℤ, nat_abs}
use mir.Syntax.{w64}
use mir.Val.{SFits}
use Rattle.integers.proofs.Parts.{positive_part, negative_part, parts_neg, word_of}
use Rattle.std.specs.Prelude.{Some}
use Rattle.numerals.specs.declared.read.Found.{Found}
use Rattle.numerals.specs.Parsing.{Parsed, parsed, malformed, found_in}
use Rattle.numerals.specs.Decimal.{cap, capped}
use Rattle.numerals.proofs.Cases.{by_below}
use Rattle.numerals.proofs.Values.{capped_cap, capped_below, capped_above, capped_exact, capped_upto}
use Rattle.lines.specs.Spelling.{Term, signed_quantity}
use Rattle.lines.specs.Inner.{capped_integer, found_answer}

-- a number has one magnitude with either sign
nat_abs_neg : (v : ℕ) → nat_abs (neg_ℤ (pos v)) ≡ v
nat_abs_neg zero = refl
nat_abs_neg (suc v) = refl

-- the magnitude of a capped integer is its magnitude, capped
pub nat_abs_capped : (z : ℤ) → nat_abs (capped_integer z) ≡ capped (nat_abs z)
nat_abs_capped (pos v) = refl
nat_abs_capped (negsuc v) = nat_abs_neg (capped (suc v))

-- one that is below the cap is the integer itself
pub capped_integer_exact : (z : ℤ) → nat_abs (capped_integer z) < cap → capped_integer z ≡ z
capped_integer_exact (pos v) h = ap pos (capped_exact v h)
capped_integer_exact (negsuc v) h = ap (λ (m : ℕ). neg_ℤ (pos m)) (capped_exact (suc v) (omega (arith, nat_abs_neg (capped (suc v)))))

-- the sign of a number does not change how it is capped
pub capped_neg : (v : ℕ) → capped_integer (neg_ℤ (pos v)) ≡ neg_ℤ (pos (capped v))
capped_neg zero = ap pos zero_capped ∙ ap (λ (m : ℕ). neg_ℤ (pos m)) (sym zero_capped)
  where
    zero_capped : capped 0 ≡ 0
    zero_capped = capped_upto 0 (omega arith)
capped_neg (suc v) = refl

-- a number above 0 stays above 0
pub capped_positive : (v : ℕ) → 0 < capped (suc v)
capped_positive v = by_below (suc v) cap (λ h. omega (arith, capped_below (suc v) h)) (λ h. omega (arith, capped_above (suc v) h))

-- a number up to the cap is a word with either sign
pub cap_word : (v : ℕ) → v ≤ cap → SFits w64 (pos v)
unfolding positive_part negative_part
cap_word v h = word_of (omega arith) (omega arith)

-- (below 0)
pub cap_word_neg : (v : ℕ) → v ≤ cap → SFits w64 (neg_ℤ (pos v))
unfolding positive_part negative_part
cap_word_neg v h = word_of (omega (arith, parts_neg (pos v))) (omega (arith, parts_neg (pos v)))

-- so is each capped integer
pub capped_word : (z : ℤ) → SFits w64 (capped_integer z)
capped_word (pos v) = cap_word (capped v) (capped_cap v)
capped_word (negsuc v) = cap_word_neg (capped (suc v)) (capped_cap (suc v))

-- and each that was found
pub found_word : {A : Type 0} (number : A → ℤ) (s : List ℕ) (p : Parsed A) (it : Found ℤ) → Some it ≡ found_answer (λ a. capped_integer (number a)) s p
    → SFits w64 it.value
found_word number s (parsed a u) it e = let q : it ≡ found_in s (capped_integer (number a)) u = cc in rw q (capped_word (number a))
found_word number s malformed it e = cc

-- the magnitude of a signed quantity number is the number
pub nat_abs_signed : (x : Term) → nat_abs (signed_quantity x) ≡ x.quantity
nat_abs_signed x = go x.negative
  where
    go : (t : Bool) → nat_abs (cond t (neg_ℤ (pos x.quantity)) (pos x.quantity)) ≡ x.quantity
    go true = nat_abs_neg x.quantity
    go false = refl
