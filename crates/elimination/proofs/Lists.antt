-- Lists of quantities in increasing number: where a quantity stands in one, and that none stands between two neighbours. Assumes nothing.
use mathlib.Core.Path.{◌≡◌, refl, sym}
use mathlib.Core.Bool.{Bool, true, false, ◌||◌}
use mathlib.Core.List.{List, [], ◌∷◌}
use Prim.Native.Nat.{ℕ, zero, suc, ◌<◌}
use native.Mathlib.Omega.{arith}
use lib.Dec.{eqb, ltb}
use lib.ListN.{length, get_or, take}
use borrow.Author.Tests.{eqb-true, eq-eqb, ltb-true, ltb-false}
use Rattle.std.proofs.lemmas.List.{get_or-take, length-take-le}
use Rattle.rules.specs.Hidden.{is_listed}
use Rattle.tables.proofs.Tests.{clash}
use Rattle.elimination.specs.Inner.{among, Rising, Listed}

-- ---- where a quantity stands

-- one that stands at a place is listed
pub listed_at : (list : List ℕ) (i : ℕ) → i < length list → among list (get_or list i 0) ≡ true
unfolding is_listed
listed_at [] i h = let z : ⊥ = omega arith in absurd z
listed_at (a ∷ more) zero h = rw (eq-eqb a a refl)
listed_at (a ∷ more) (suc i) h = go (eqb (get_or more i 0) a) (listed_at more i (omega arith))
  where
    go : (b : Bool) → is_listed (get_or more i 0) more ≡ true → (b || is_listed (get_or more i 0) more) ≡ true
    go true e = refl
    go false e = e

-- and one that is listed stands at a place
pub record StandsAt (list : List ℕ) (a : ℕ) : Type 0 where
  pub place : ℕ
  pub inside : place < length list
  pub is : get_or list place 0 ≡ a

pub listed_place : (list : List ℕ) (a : ℕ) → among list a ≡ true → StandsAt list a
unfolding is_listed
listed_place [] a e = clash e refl
listed_place (b ∷ bs) a e = go (eqb a b) refl (listed_place bs a)
  where
    go : (c : Bool) → eqb a b ≡ c → (is_listed a bs ≡ true → StandsAt bs a) → StandsAt (b ∷ bs) a
    go true d ih = record { place = 0; inside = omega arith; is = sym (eqb-true a b d) }
    go false d ih = let s = ih (rw d at e) in record { place = suc s.place; inside = omega (arith, s.inside); is = s.is }

-- so one that stands nowhere is not listed
pub unlisted : (list : List ℕ) (a : ℕ) → (StandsAt list a → ⊥) → among list a ≡ false
unlisted list a none = go (among list a) refl
  where
    go : (b : Bool) → among list a ≡ b → b ≡ false
    go true e = absurd (none (listed_place list a e))
    go false e = refl

-- ---- in increasing number

module _ (list : List ℕ) (r : Rising list) where
  -- one that stands later is higher
  pub rising_above : (i k : ℕ) → i < k → k < length list → get_or list i 0 < get_or list k 0
  rising_above i zero h l = let z : ⊥ = omega arith in absurd z
  rising_above i (suc k) h l = go (ltb i k) refl (rising_above i k)
    where
      go : (b : Bool) → ltb i k ≡ b → (i < k → k < length list → get_or list i 0 < get_or list k 0) → get_or list i 0 < get_or list (suc k) 0
      go true e ih = omega (arith, ih (ltb-true i k e) (omega arith), r.rises k l)
      go false e ih = let d : i ≡ k = omega (arith, ltb-false i k e) in rw d (r.rises k l)

  -- as among those before a place, of which each is lower than the one there
  pub record LowerAt (i k : ℕ) : Type 0 where
    pub before : k < i
    pub is : get_or (take i list) k 0 ≡ get_or list k 0
    pub below : get_or list k 0 < get_or list i 0

  pub lower_at : (i k : ℕ) → i < length list → k < length (take i list) → LowerAt i k
  lower_at i k h l =
      let before : k < i = omega (arith, length-take-le i list (omega arith)) in
      record { before = before; is = get_or-take i list k 0 before; below = rising_above k i before h }

  -- and one that is higher stands later
  pub rising_later : (i k : ℕ) → i < length list → k < length list → get_or list i 0 < get_or list k 0 → i < k
  rising_later i k h l e = go (ltb i k) refl (ltb k i) refl
    where
      go : (b : Bool) → ltb i k ≡ b → (c : Bool) → ltb k i ≡ c → i < k
      go true d c f = ltb-true i k d
      go false d true f = let z : ⊥ = omega (arith, rising_above k i (ltb-true k i f) h) in absurd z
      go false d false f =
          let q : i ≡ k = omega (arith, ltb-false i k d, ltb-false k i f) in
          let z : ⊥ = omega (arith, rw q at e) in absurd z

  -- none stands between neighbours,
  pub none_between : (i a : ℕ) → suc i < length list → get_or list i 0 < a → a < get_or list (suc i) 0 → among list a ≡ false
  none_between i a h f g = unlisted list a (λ s.
      let above = rising_later i s.place (omega arith) s.inside (omega (arith, s.is)) in
      let below = rising_later s.place (suc i) s.inside h (omega (arith, s.is)) in
      omega arith)

  -- before the first,
  pub none_before : (a : ℕ) → 0 < length list → a < get_or list 0 0 → among list a ≡ false
  none_before a h g = unlisted list a (λ s. let below = rising_later s.place 0 s.inside h (omega (arith, s.is)) in omega arith)

  -- or after the last
  pub none_after : (i a : ℕ) → suc i ≡ length list → get_or list i 0 < a → among list a ≡ false
  none_after i a h f = unlisted list a (λ s.
      let above = rising_later i s.place (omega arith) s.inside (omega (arith, s.is)) in
      omega (arith, s.inside))

-- those of n quantities are below n
pub listed_below : (n : ℕ) (list : List ℕ) → Listed n list → (a : ℕ) → among list a ≡ true → a < n
listed_below n list l a e = let s = listed_place list a e in omega (arith, l.below s.place s.inside, s.is)
