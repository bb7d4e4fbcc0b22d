-- A hidden set that is within n has no quantity past n, and a set of some bits that has none is within n; the bit of a quantity. Assumes nothing.
use mathlib.Core.Path.{◌≡◌, refl}
use mathlib.Core.Bool.{true, false}
use Prim.Native.Nat.{ℕ, zero, suc, ◌+◌, ◌*◌, ◌/◌, ◌%◌, ◌^◌, ◌≤◌, ◌<◌}
use native.Mathlib.Numerals.{unary_clauses}
use native.Mathlib.Nat.{div-eq_of_lt, div-lt_iff_lt-mul, lt_of_lt_of_le, add-zero, add-suc}
use native.Mathlib.Omega.{arith}
use lib.Pow.{pow_pos, pow_mono, pow-add}
use borrow.Author.Tests.{ltb-true, lt-ltb, eqb-false}
use Rattle.rules.specs.Hidden.{hidden_in, set_within, bit_of}

pub past_hidden : (n h : ℕ) → h < 2 ^ n → (q : ℕ) → n < q → hidden_in h q ≡ false
past_hidden n h l zero g = refl
past_hidden n h l (suc j) g = rw (div-eq_of_lt (lt_of_lt_of_le l (pow_mono {i = n} {j = j} (omega arith))))

pub within_hidden : (n h : ℕ) → set_within n h ≡ true → (q : ℕ) → n < q → hidden_in h q ≡ false
within_hidden n h e = past_hidden n h (ltb-true h (2 ^ n) e)

-- the highest bit of a set that has not its quantity is 0
lower : (k h : ℕ) → h < 2 ^ suc k → hidden_in h (suc k) ≡ false → h < 2 ^ k
lower k h l e =
    let double : h < 2 * 2 ^ k = omega arith in
    let below_two : h / 2 ^ k < 2 = (div-lt_iff_lt-mul (pow_pos k)).1 double in
    let not_one : h / 2 ^ k % 2 ≡ 1 → ⊥ = eqb-false (h / 2 ^ k % 2) 1 e in
    let none : h / 2 ^ k < 1 = omega arith in
    let once : h < 1 * 2 ^ k = (div-lt_iff_lt-mul (pow_pos k)).0 none in
    omega arith

pub hidden_within : (n m h : ℕ) → h < 2 ^ (n + m) → ((q : ℕ) → n < q → hidden_in h q ≡ false) → set_within n h ≡ true
hidden_within n zero h l f = lt-ltb h (2 ^ n) (rw add-zero at l)
hidden_within n (suc m) h l f = hidden_within n m h (lower (n + m) h (rw add-suc at l) (f (suc (n + m)) (omega arith))) f

-- ---- the bit of a quantity

-- twice the bit
pub bit_twice : (q : ℕ) → 1 ≤ q → 2 * bit_of q ≡ 2 ^ q
bit_twice zero h = let z : ⊥ = omega arith in absurd z
bit_twice (suc j) h = simp unary_clauses (omega (arith, pow-add 2 1 j))
