-- A refusal with the paper that it is about: what an answer is that names a paper with its refusal. Assumes nothing.
use mathlib.Core.Path.{◌≡◌, refl}
use Prim.Native.Nat.{ℕ}
use native.Mathlib.Omega.{arith}
use Rattle.std.specs.Prelude.{Result, Ok, Err}
use Rattle.rules.specs.declared.refusal.Refusal.{Refusal}
use Rattle.scripts.specs.declared.reply.Subject.{Subject}
use Rattle.scripts.specs.declared.reply.PaperRefusal.{PaperRefusal}
use Rattle.scripts.specs.Replies.{about}

-- a value is the answer's
pub about_ok : {A : Type 0} (p : Subject) (r : Result A Refusal) {a : A} → Ok a ≡ about p r → r ≡ Ok a
about_ok {A} p (Ok x) {a} h = let v : x ≡ a = value h in rw v
  where
    value : {x y : A} → ◌≡◌ {A = Result A PaperRefusal} (Ok x) (Ok y) → y ≡ x
    value e = cc
about_ok p (Err f) h = let z : ◌≡◌ {A = ℕ} 0 1 = cc in absurd (omega arith)

-- and a refusal the answer's, with that paper
pub about_err : {A : Type 0} (p : Subject) (r : Result A Refusal) {y : PaperRefusal} → Err y ≡ about p r
    → (f : Refusal) × (r ≡ Err f) × (y ≡ record { paper = p; refusal = f })
about_err p (Ok x) h = let z : ◌≡◌ {A = ℕ} 0 1 = cc in absurd (omega arith)
about_err {A} p (Err f) {y} h = (f, refl, refused h)
  where
    refused : {x y : PaperRefusal} → ◌≡◌ {A = Result A PaperRefusal} (Err x) (Err y) → x ≡ y
    refused e = cc
