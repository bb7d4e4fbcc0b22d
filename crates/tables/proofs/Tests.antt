-- What a computed reply or test tells. Assumes nothing.
use mathlib.Core.Path.{◌≡◌, refl}
use mathlib.Core.Bool.{Bool, true, false, cond, ◌&&◌, ◌||◌}
use mathlib.Core.Logic.{◌↔◌}
use Rattle.rules.specs.declared.refusal.Refusal.{Refusal}
use Rattle.tables.specs.Replies.{Reply}
use Rattle.std.specs.Prelude.{Result, Ok, Err}

-- a refusal is not done
pub refused_done : {A : Type 0} {f : Refusal} {a : A} → ◌≡◌ {A = Result A Refusal} (Err f) (Ok a) → ⊥
refused_done e = cc

pub clash {ℓ} : {X : Type ℓ} {b : Bool} → b ≡ true → b ≡ false → X
clash e f = cc

-- a reply that is done passed its test
pub passed : (b : Bool) (r : Reply) (f : Refusal) → cond b r (Err f) ≡ Ok tt → (b ≡ true) × (r ≡ Ok tt)
passed true r f e = (refl, e)
passed false r f e = absurd (refused_done e)

pub both_true : (a b : Bool) → ◌&&◌ a b ≡ true → (a ≡ true) × (b ≡ true)
both_true true b e = (refl, e)
both_true false b e = clash e refl

-- neither of two tests passes
pub neither : (a b : Bool) → (◌||◌ a b ≡ false) ↔ ((a ≡ false) × (b ≡ false))
neither true b = (λ e. clash refl e, λ p. p.0)
neither false b = (λ e. (refl, e), λ p. p.1)

-- a test that fails says that what it tests is not so, and back
pub fails : {P : Type 0} {b : Bool} → (b ≡ true) ↔ P → b ≡ false → P → ⊥
fails w e p = clash (w.1 p) e

pub not_so : {P : Type 0} {b : Bool} → (b ≡ true) ↔ P → (P → ⊥) → b ≡ false
not_so {b = true} w h = absurd (h (w.0 refl))
not_so {b = false} w h = refl
