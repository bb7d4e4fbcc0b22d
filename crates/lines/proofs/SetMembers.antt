-- The set of a list of quantities that increases has the list's members and no others. Assumes nothing.
use mathlib.Core.Path.{◌≡◌, refl, sym, ◌∙◌, ap}
use mathlib.Core.Bool.{Bool, true, false, ◌||◌}
use mathlib.Core.List.{List, [], ◌∷◌}
use Prim.Native.Nat.{ℕ, zero, suc, ◌+◌, ◌-◌, ◌*◌, ◌/◌, ◌%◌, ◌^◌, ◌≤◌, ◌<◌}
use native.Mathlib.Nat.{add_comm, zero-div, mul-mod_right}
use native.Mathlib.Omega.{arith}
use lib.Dec.{leb, ltb, eqb}
use lib.Pow.{pow-lt, pow-add, shl-shr, shr-shr, high}
use borrow.Author.Tests.{leb-true, ltb-true, ltb-false, eqb-true, eqb-false, eq-eqb, ne_eqb}
use Rattle.numerals.proofs.Cases.{both_true}
use Rattle.rules.specs.Hidden.{hidden_in, set_of, is_listed}
use Rattle.rules.specs.Literal.{quantity_within}
use Rattle.lines.specs.Spelling.{IncreasingFrom, all_within}

-- what increases from a number increases from a smaller one
pub increasing_less : (a b : ℕ) (qs : List ℕ) → a ≤ b → IncreasingFrom b qs → IncreasingFrom a qs
increasing_less a b [] h i = tt
increasing_less a b (q ∷ qs) h i = (omega arith, i.1)

-- a power of 2 by the one before
pub power_more : (j : ℕ) → 2 ^ suc j ≡ 2 * 2 ^ j
power_more j = omega arith

-- one member more
pub set_more : (j : ℕ) (qs : List ℕ) → set_of (suc j ∷ qs) ≡ 2 ^ j + set_of qs
unfolding set_of
set_more j qs = ap (λ (i : ℕ). 2 ^ i + set_of qs) (omega arith)

-- a number that the list is past is not in it
pub member_none : (q least : ℕ) (ps : List ℕ) → q < least → IncreasingFrom least ps → is_listed q ps ≡ false
unfolding is_listed
member_none q least [] h i = refl
member_none q least (p ∷ ps) h i = rw (ne_eqb q p (omega (arith, i.0))) (member_none q (suc p) ps (omega (arith, i.0)) i.1)

-- how many times 2 ^ m the set of a list of quantities past m is
unfoldable above : ℕ → List ℕ → ℕ
above m [] = 0
above m (p ∷ ps) = 2 ^ (p - suc m) + above m ps

-- it is that many times
set_above : (m : ℕ) (ps : List ℕ) → IncreasingFrom (suc m) ps → set_of ps ≡ above m ps * 2 ^ m
unfolding set_of above
set_above m [] i = omega arith
set_above m (p ∷ ps) i =
    let place : p - 1 ≡ (p - suc m) + m = omega (arith, i.0) in
    rw (place, pow-add 2 (p - suc m) m, set_above m ps (increasing_less (suc m) (suc p) ps (omega (arith, i.0)) i.1)) (omega arith)

-- a set whose lowest bit is bit m has no bit below it
lower_bit : (m s j : ℕ) → j < m → hidden_in (2 ^ m + s * 2 ^ suc m) (suc j) ≡ false
lower_bit m s j h = rw (whole, shl-shr (2 * ((1 + 2 * s) * w)) j, mul-mod_right 2 ((1 + 2 * s) * w))
  where
    w : ℕ
    w = 2 ^ (m - suc j)

    exponent : m ≡ suc (m - suc j + j)
    exponent = omega arith

    power : 2 ^ m ≡ 2 * (w * 2 ^ j)
    power = ap (λ (i : ℕ). 2 ^ i) exponent ∙ power_more (m - suc j + j) ∙ ap (λ (v : ℕ). 2 * v) (pow-add 2 (m - suc j) j)

    whole : 2 ^ m + s * 2 ^ suc m ≡ 2 * ((1 + 2 * s) * w) * 2 ^ j
    whole = rw (power_more m, power) (omega arith)

-- has that bit
lowest_bit : (m s : ℕ) → hidden_in (2 ^ m + s * 2 ^ suc m) (suc m) ≡ true
lowest_bit m s = rw (whole, shl-shr (1 + 2 * s) m) (eq-eqb ((1 + 2 * s) % 2) 1 (omega arith))
  where
    whole : 2 ^ m + s * 2 ^ suc m ≡ (1 + 2 * s) * 2 ^ m
    whole = rw (power_more m) (omega arith)

-- and above it the bits of the rest
higher_bit : (m s j : ℕ) → m < j → hidden_in (2 ^ m + s * 2 ^ suc m) (suc j) ≡ hidden_in (s * 2 ^ suc m) (suc j)
higher_bit m s j h = ap (λ (v : ℕ). eqb (v % 2) 1) (from (2 ^ m + s * 2 ^ suc m) one ∙ sym (from (s * 2 ^ suc m) (shl-shr s (suc m))))
  where
    exponent : j ≡ suc m + (j - suc m)
    exponent = omega arith

    from : (v : ℕ) → v / 2 ^ suc m ≡ s → v / 2 ^ j ≡ s / 2 ^ (j - suc m)
    from v e = ap (λ (i : ℕ). v / 2 ^ i) exponent ∙ sym (shr-shr v (suc m) (j - suc m)) ∙ rw e

    one : (2 ^ m + s * 2 ^ suc m) / 2 ^ suc m ≡ s
    one = rw (add_comm (2 ^ m) (s * 2 ^ suc m)) (high s (suc m) (pow-lt (omega arith)))

-- by the order of m and j
by_order : (P : Type 0) (j m : ℕ) → (j < m → P) → (j ≡ m → P) → (m < j → P) → P
by_order P j m less same more = go (ltb j m) refl (eqb j m) refl
  where
    go : (b : Bool) → ltb j m ≡ b → (c : Bool) → eqb j m ≡ c → P
    go true e c q = less (ltb-true j m e)
    go false e true q = same (eqb-true j m q)
    go false e false q = more (omega (arith, ltb-false j m e, eqb-false j m q))

-- a quantity is hidden in the set of a list exactly where it is a member
pub set_members : (qs : List ℕ) → IncreasingFrom 1 qs → (q : ℕ) → hidden_in (set_of qs) q ≡ is_listed q qs
unfolding set_of is_listed
set_members qs i zero = sym (member_none 0 1 qs (omega arith) i)
set_members [] i (suc j) = rw (zero-div (2 ^ j))
set_members (zero ∷ qs) i (suc j) = let z : ⊥ = omega (arith, i.0) in absurd z
set_members (suc m ∷ qs) i (suc j) = go (set_members qs (increasing_less 1 (suc (suc m)) qs (omega arith) i.1) (suc j))
  where
    rest : set_of qs ≡ above (suc m) qs * 2 ^ suc m
    rest = set_above (suc m) qs i.1

    whole : set_of (suc m ∷ qs) ≡ 2 ^ m + above (suc m) qs * 2 ^ suc m
    whole = set_more m qs ∙ ap (λ (v : ℕ). 2 ^ m + v) rest

    go : hidden_in (set_of qs) (suc j) ≡ is_listed (suc j) qs → hidden_in (set_of (suc m ∷ qs)) (suc j) ≡ (eqb (suc j) (suc m) || is_listed (suc j) qs)
    go ih =
        by_order (hidden_in (set_of (suc m ∷ qs)) (suc j) ≡ (eqb (suc j) (suc m) || is_listed (suc j) qs)) j m
        (λ h. ap (λ (v : ℕ). hidden_in v (suc j)) whole ∙ lower_bit m (above (suc m) qs) j h
        ∙ rw (ne_eqb (suc j) (suc m) (omega arith)) (sym (member_none (suc j) (suc (suc m)) qs (omega arith) i.1)))
        (λ h. rw (h, eq-eqb (suc m) (suc m) refl) (ap (λ (v : ℕ). hidden_in v (suc m)) whole ∙ lowest_bit m (above (suc m) qs)))
        (λ h. ap (λ (v : ℕ). hidden_in v (suc j)) whole ∙ higher_bit m (above (suc m) qs) j h ∙ ap (λ (v : ℕ). hidden_in v (suc j)) (sym rest)
        ∙ rw (ne_eqb (suc j) (suc m) (omega arith)) ih)

-- of a list as a line has it, within its limits
pub list_members : (n : ℕ) (qs : List ℕ) → IncreasingFrom 0 qs → all_within n qs ≡ true → (q : ℕ) → hidden_in (set_of qs) q ≡ is_listed q qs
list_members n [] i w = set_members [] tt
list_members n (q ∷ qs) i w =
    set_members (q ∷ qs) (leb-true 1 q (both_true (leb 1 q) (leb q n) (both_true (quantity_within n q) (all_within n qs) w).0).0, i.1)
