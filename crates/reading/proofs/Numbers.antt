-- What is returned tells which reply it is. Assumes nothing.
use mathlib.Core.Path.{◌≡◌, refl, sym, ap, ap₂}
use mathlib.Core.List.{List, [], ◌∷◌}
use mathlib.Core.Logic.{◌↔◌}
use Rattle.std.specs.Prelude.{Ok, Err}
use Prim.Native.Nat.{ℕ}
use lib.IntN.{ℤ, pos, nat_abs}
use lib.ListN.{get_or}
use Rattle.rules.specs.declared.refusal.Refusal.{Refusal}
use Rattle.rules.specs.Refusal.{Returned, refused_as}
use Rattle.rules.proofs.Refusals.{same_refusal, refusal-number}
use Rattle.reading.specs.declared.check.Passed.{Passed}
use Rattle.reading.specs.Reading.{Checked, Reading, sheet_of, checked_returned, reading_returned, reading_number}
use Rattle.reading.proofs.Answered.{same_passed}

-- the value at a place of those returned, and that a refusal is not returned with 0
abbrev value_at : ℕ → Returned → ℕ
value_at i r = nat_abs (get_or r.values i (pos 0))

not-zero {ℓ} : {X : Type ℓ} (f : Refusal) (vs : List ℤ) → refused_as f ≡ record { number = 0; values = vs } → X
not-zero f vs e = absurd (refusal-number f (ap (λ (x : Returned). x.number) e))

-- a refusal
pub returned_refused : (r : Reading) (f : Refusal) → (reading_returned r ≡ refused_as f) ↔ (r ≡ Err f)
returned_refused r f = (go r, λ e. rw e)
  where
    go : (r : Reading) → reading_returned r ≡ refused_as f → r ≡ Err f
    go (Ok sheet) e = not-zero f _ (sym e)
    go (Err g) e = ap Err (same_refusal g f e)

-- a text that is accepted
pub returned_accepted : (r : Reading) (n set : ℕ)
    → (reading_returned r ≡ record { number = 0; values = pos n ∷ pos set ∷ [] }) ↔ (r ≡ Ok (sheet_of n set))
returned_accepted r n set = (go r, λ e. rw e)
  where
    go : (r : Reading) → reading_returned r ≡ record { number = 0; values = pos n ∷ pos set ∷ [] } → r ≡ Ok (sheet_of n set)
    go (Ok sheet) e = ap₂ (λ k h. Ok (sheet_of k h)) (ap (value_at 0) e) (ap (value_at 1) e)
    go (Err g) e = not-zero g _ e

-- a text that is refused when it is checked
pub returned_failed : (r : Checked) (f : Refusal) → (checked_returned r ≡ refused_as f) ↔ (r ≡ Err f)
returned_failed r f = (go r, λ e. rw e)
  where
    go : (r : Checked) → checked_returned r ≡ refused_as f → r ≡ Err f
    go (Ok p) e = not-zero f _ (sym e)
    go (Err g) e = ap Err (same_refusal g f e)

-- one that passes
pub returned_passed : (r : Checked) (p : Passed)
    → (checked_returned r ≡ record { number = 0; values = pos p.quantities ∷ pos p.hidden ∷ pos p.rules ∷ pos p.body ∷ [] }) ↔ (r ≡ Ok p)
returned_passed r p = (go r, λ e. rw e)
  where
    go : (r : Checked) → checked_returned r ≡ record { number = 0; values = pos p.quantities ∷ pos p.hidden ∷ pos p.rules ∷ pos p.body ∷ [] } → r ≡ Ok p
    go (Ok q) e = ap Ok (same_passed q p (ap (value_at 0) e) (ap (value_at 1) e) (ap (value_at 2) e) (ap (value_at 3) e))
    go (Err g) e = not-zero g _ e

-- with the number 0 a text is accepted
pub record WithSet (r : Reading) : Type 0 where
  pub count : ℕ
  pub set : ℕ
  pub is : r ≡ Ok (sheet_of count set)

pub zero_accepted : (r : Reading) → reading_number r ≡ 0 → WithSet r
zero_accepted (Ok sheet) e = record { count = sheet.quantities; set = sheet.hidden; is = refl }
zero_accepted (Err f) e = absurd (refusal-number f e)
