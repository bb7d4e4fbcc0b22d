-- Tests and numbers by their cases. Assumes nothing.
use mathlib.Core.Path.{◌≡◌, refl}
use mathlib.Core.Bool.{Bool, true, false, ◌&&◌}
use Prim.Native.Nat.{ℕ, ◌≤◌, ◌<◌}
use native.Mathlib.Omega.{arith}
use lib.Dec.{ltb}
use borrow.Author.Tests.{ltb-true, ltb-false}

-- no test is passed and failed
pub clash {ℓ} : {X : Type ℓ} {b : Bool} → b ≡ true → b ≡ false → X
clash e f = let z : ◌≡◌ {A = ℕ} 0 1 = cc in let y : ⊥ = omega arith in absurd y

-- a test that is not passed is failed
pub failed : (b : Bool) → (b ≡ true → ⊥) → b ≡ false
failed true h = absurd (h refl)
failed false h = refl

-- both of two tests are passed
pub both_true : (a b : Bool) → ◌&&◌ a b ≡ true → (a ≡ true) × (b ≡ true)
both_true true b e = (refl, e)
both_true false b e = clash e refl

-- a number is below another or not
pub by_below : {X : Type 0} (v m : ℕ) → (v < m → X) → (m ≤ v → X) → X
by_below {X} v m below above = go (ltb v m) refl
  where
    go : (t : Bool) → ltb v m ≡ t → X
    go true e = below (ltb-true v m e)
    go false e = above (ltb-false v m e)

-- of two numbers the one is smaller, or they are equal, or the other is smaller
pub by_order : {X : Type 0} (v w : ℕ) → (v < w → X) → (v ≡ w → X) → (w < v → X) → X
by_order v w less same more = by_below v w less (λ l. by_below w v more (λ h. same (omega arith)))
