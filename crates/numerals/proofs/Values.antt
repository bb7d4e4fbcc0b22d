-- Values as the program tells them: all that are not below the cap are told alike. Assumes nothing.
use mathlib.Core.Path.{◌≡◌, sym, ◌∙◌, ap}
use Prim.Native.Nat.{ℕ, ◌+◌, ◌*◌, ◌≤◌, ◌<◌}
use native.Mathlib.Omega.{arith}
use lib.Dec.{leb}
use borrow.Author.Tests.{lt-ltb, le-ltb, le-leb, lt-leb}
use Rattle.numerals.specs.Decimal.{cap, capped}
use Rattle.numerals.proofs.Cases.{by_below}

-- a value below the cap is told as it is
pub capped_below : (v : ℕ) → v < cap → capped v ≡ v
unfolding capped
capped_below v h = rw (lt-ltb v cap h)

-- every other is told as the cap
pub capped_above : (v : ℕ) → cap ≤ v → capped v ≡ cap
unfolding capped
capped_above v h = rw (le-ltb v cap h)

-- no value is told above the cap
pub capped_cap : (v : ℕ) → capped v ≤ cap
capped_cap v = by_below v cap (λ h. omega (arith, capped_below v h)) (λ h. omega (arith, capped_above v h))

-- a value that is told below the cap is the one told
pub capped_exact : (v : ℕ) → capped v < cap → capped v ≡ v
capped_exact v l = by_below v cap (capped_below v) (λ h. let z : ⊥ = omega (arith, capped_above v h) in absurd z)

-- a value that is not above the cap is told as it is
pub capped_upto : (v : ℕ) → v ≤ cap → capped v ≡ v
capped_upto v l = by_below v cap (capped_below v) (λ h. capped_above v h ∙ omega arith)

-- a value as it is told is told as it is
pub capped_idem : (v : ℕ) → capped (capped v) ≡ capped v
capped_idem v = capped_upto (capped v) (capped_cap v)

-- one digit more: it does not matter whether the value before it was told or known
pub capped_digit : (v d : ℕ) → capped (10 * capped v + d) ≡ capped (10 * v + d)
capped_digit v d = by_below v cap
    (λ h. ap (λ (x : ℕ). capped (10 * x + d)) (capped_below v h))
    (λ h. ap (λ (x : ℕ). capped (10 * x + d)) (capped_above v h)
    ∙ capped_above (10 * cap + d) (omega arith)
    ∙ sym (capped_above (10 * v + d) (omega arith)))

-- a limit below the cap is kept by the value told where the value keeps it
pub capped_most : (v m : ℕ) → m < cap → leb (capped v) m ≡ leb v m
capped_most v m l = by_below v cap
    (λ h. ap (λ (x : ℕ). leb x m) (capped_below v h))
    (λ h. lt-leb (capped v) m (omega (arith, capped_above v h)) ∙ sym (lt-leb v m (omega arith)))

-- and a least value that is not above the cap is reached by it where the value reaches it
pub capped_least : (v m : ℕ) → m ≤ cap → leb m (capped v) ≡ leb m v
capped_least v m l = by_below v cap
    (λ h. ap (leb m) (capped_below v h))
    (λ h. le-leb m (capped v) (omega (arith, capped_above v h)) ∙ sym (le-leb m v (omega arith)))
