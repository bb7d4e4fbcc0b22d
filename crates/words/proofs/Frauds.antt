-- What a lent slice rules out, on one of three words of which two are lent, as of a table of n 1. Assumes nothing.
use mathlib.Core.Path.{◌≡◌, refl}
use mathlib.Core.Bool.{Bool, false}
use mathlib.Core.List.{[], ◌∷◌}
use Prim.Native.Nat.{ℕ}
use native.Mathlib.Omega.{arith}
use lib.IntN.{pos}
use Rattle.words.specs.Lent.{Lent}

-- a program that changes a word past those lent, be they free or not
pub past_changed : (free : Bool) → Lent 2 free (pos 1 ∷ pos 2 ∷ pos 3 ∷ []) (pos 1 ∷ pos 2 ∷ pos 4 ∷ []) → ⊥
past_changed free l = let e = l.rest in let z : ◌≡◌ {A = ℕ} 4 3 = cc in omega arith

-- one that changes a word of those lent where they are not free
pub kept_changed : Lent 2 false (pos 1 ∷ pos 2 ∷ pos 3 ∷ []) (pos 0 ∷ pos 2 ∷ pos 3 ∷ []) → ⊥
kept_changed l = let e = l.kept refl in let z : ◌≡◌ {A = ℕ} 0 1 = cc in omega arith

-- one that leaves fewer words
pub shortened : (free : Bool) → Lent 2 free (pos 1 ∷ pos 2 ∷ pos 3 ∷ []) (pos 1 ∷ pos 2 ∷ []) → ⊥
shortened free l = omega (arith, l.size)
