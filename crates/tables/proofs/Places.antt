-- Places and terms go together one by one: each term of one or two different quantities of 1 to n has a place below 2n², and each such place is that of
-- exactly one, which is `rule_at`. Assumes nothing.
use mathlib.Core.Path.{◌≡◌, refl, sym, ◌∙◌, ap}
use mathlib.Core.Bool.{Bool, true, false, cond, ◌||◌, or-true, or_comm}
use mathlib.Core.Logic.{◌↔◌, ◌⊎◌, inl, inr}
use Prim.Native.Nat.{ℕ, suc, ◌+◌, ◌*◌, ◌/◌, ◌<◌, ◌≤◌}
use native.Mathlib.Omega.{arith}
use lib.Dec.{ltb, eqb}
use lib.IntN.{ℤ}
use borrow.Author.Tests.{ltb-true, ltb-false, lt-ltb, le-ltb, eqb-true, eqb-false, eq-eqb, ne_eqb}
use Rattle.std.specs.Prelude.{Option, Some, None}
use Rattle.places.specs.Numbering.{block_start, place_of_one, place_of_pair, place_of_two, find_two, block_of, offset_of, is_one, higher_at, lower_at}
use Rattle.places.proofs.Numbering.{block_ends, one_below, pair_below, one_is_one, one_higher, pair_is_one, pair_higher, pair_lower, higher_half, at_one, at_lower, at_pair, at_below}
use Rattle.rules.specs.declared.rule.Rule.{Rule}
use Rattle.rules.specs.declared.rule.Rule.TheVariants.{One, Two, Nothing}
use Rattle.rules.specs.Literal.{quantity_of}
use Rattle.rules.specs.Meaning.{bound_of, names}
use Rattle.rules.specs.Steps.{in_order}
use Rattle.tables.specs.Places.{rule_at, find_place, HasPlace}

-- the place of a term of one quantity, or of two different ones
unfoldable pub place_of : Rule → ℕ
place_of (One x c) = place_of_one x
place_of (Two x y c) = place_of_two x y
place_of (Nothing c) = 0

-- ---- each place is that of a term

pub rule_at_bound : (k : ℕ) (c : ℤ) → bound_of (rule_at k c) ≡ c
unfolding rule_at
rule_at_bound k c = go (is_one k)
  where
    go : (b : Bool) → bound_of (cond b (One (higher_at k) c) (Two (lower_at k) (higher_at k) c)) ≡ c
    go true = refl
    go false = refl

pub rule_at_place : (k : ℕ) (c : ℤ) → place_of (rule_at k c) ≡ k
unfolding rule_at place_of place_of_two
rule_at_place k c = go (is_one k) refl
  where
    go : (b : Bool) → is_one k ≡ b → place_of (cond b (One (higher_at k) c) (Two (lower_at k) (higher_at k) c)) ≡ k
    go true e = at_one k e
    go false e = rw (lt-ltb (lower_at k) (higher_at k) (omega (arith, at_lower k e))) (at_pair k e)

pub rule_at_has_place : (n k : ℕ) (c : ℤ) → k < block_start n → HasPlace n (rule_at k c)
unfolding rule_at
rule_at_has_place n k c h = go (is_one k) refl
  where
    go : (b : Bool) → is_one k ≡ b → HasPlace n (cond b (One (higher_at k) c) (Two (lower_at k) (higher_at k) c))
    go true e = at_below n k h
    go false e = (omega (arith, at_below n k h, at_lower k e), at_below n k h, λ q. omega (arith, at_lower k e))

-- ---- each term has its place

pub has_place_below : (n : ℕ) (r : Rule) → HasPlace n r → place_of r < block_start n
unfolding place_of place_of_two
has_place_below n (One x c) u = one_below n x u
has_place_below n (Two x y c) u = go (ltb x y) refl
  where
    go : (b : Bool) → ltb x y ≡ b → cond b (place_of_pair x y) (place_of_pair y x) < block_start n
    go true e = pair_below n x y (omega (arith, ltb-true x y e, u.2)) u.1
    go false e = pair_below n y x (omega (arith, ltb-false x y e, u.2)) u.0
has_place_below n (Nothing c) u = absurd u

-- and is the one there
pub rule_at_in_order : (n : ℕ) (r : Rule) → HasPlace n r → rule_at (place_of r) (bound_of r) ≡ in_order r
unfolding rule_at place_of place_of_two in_order
rule_at_in_order n (One x c) u = rw (one_is_one x, one_higher x)
rule_at_in_order n (Two x y c) u = go (ltb x y) refl
  where
    go : (b : Bool) → ltb x y ≡ b → rule_at (cond b (place_of_pair x y) (place_of_pair y x)) c ≡ cond b (Two x y c) (Two y x c)
    go true e = let l : x / 2 < y / 2 = omega (arith, ltb-true x y e, u.2) in rw (pair_is_one x y l, pair_higher x y l, pair_lower x y l)
    go false e = let l : y / 2 < x / 2 = omega (arith, ltb-false x y e, u.2) in rw (pair_is_one y x l, pair_higher y x l, pair_lower y x l)
rule_at_in_order n (Nothing c) u = absurd u

-- so it is found there
pub found_two : (x y : ℕ) → (quantity_of x ≡ quantity_of y → ⊥) → find_two x y ≡ Some (place_of_two x y)
unfolding find_two
found_two x y u = rw (ne_eqb (x / 2) (y / 2) (λ e. u (omega arith)))

pub has_place_found : (n : ℕ) (r : Rule) → HasPlace n r → find_place r ≡ Some (place_of r)
unfolding find_place place_of
has_place_found n (One x c) u = refl
has_place_found n (Two x y c) u = found_two x y u.2
has_place_found n (Nothing c) u = absurd u

pub rule_at_found : (k : ℕ) (c : ℤ) → find_place (rule_at k c) ≡ Some k
rule_at_found k c =
    has_place_found (suc (block_of k)) (rule_at k c) (rule_at_has_place (suc (block_of k)) k c (block_ends k)) ∙ ap Some (rule_at_place k c)

-- ---- what it tells where a rule is found

pub at_nowhere : {k : ℕ} → Some k ≡ None → ⊥
at_nowhere e = let z : ◌≡◌ {A = ℕ} 0 1 = cc in omega arith

-- as many quantities as a rule's literals need
abbrev enough : Rule → ℕ
enough (One x c) = suc x
enough (Two x y c) = suc (x + y)
enough (Nothing c) = 0

-- a rule that is found somewhere has a place in some table
found_has_place : (r : Rule) (k : ℕ) → find_place r ≡ Some k → HasPlace (enough r) r
unfolding find_place find_two
found_has_place (One x c) k e = omega arith
found_has_place (Two x y c) k e = go (eqb (x / 2) (y / 2)) refl e
  where
    go : (b : Bool) → eqb (x / 2) (y / 2) ≡ b → cond b None (Some (place_of_two x y)) ≡ Some k → HasPlace (suc (x + y)) (Two x y c)
    go true d f = absurd (at_nowhere (sym f))
    go false d f = (omega arith, omega arith, λ q. eqb-false (x / 2) (y / 2) d (omega arith))
found_has_place (Nothing c) k e = absurd (at_nowhere (sym e))

-- and is found at that place
found_place : (r : Rule) (k : ℕ) → find_place r ≡ Some k → place_of r ≡ k
found_place r k e = let f = has_place_found (enough r) r (found_has_place r k e) in cc

-- the rule there is the rule itself, the lower quantity first
pub found_in_order : (r : Rule) (k : ℕ) → find_place r ≡ Some k → rule_at k (bound_of r) ≡ in_order r
found_in_order r k e = rw (← found_place r k e) (rule_at_in_order (enough r) r (found_has_place r k e))

in_order_has_place : (n : ℕ) (r : Rule) → HasPlace n (in_order r) → HasPlace n r
unfolding in_order
in_order_has_place n (One x c) u = u
in_order_has_place n (Two x y c) u = go (ltb x y) u
  where
    go : (b : Bool) → HasPlace n (cond b (Two x y c) (Two y x c)) → HasPlace n (Two x y c)
    go true u = u
    go false u = (u.1, u.0, λ e. u.2 (sym e))
in_order_has_place n (Nothing c) u = u

-- the tables that have the place are those that have room for the rule
pub found_inside : (r : Rule) (k : ℕ) → find_place r ≡ Some k → (n : ℕ) → (k < block_start n) ↔ HasPlace n r
found_inside r k e n = (
  λ h. in_order_has_place n r (rw (found_in_order r k e) at (rule_at_has_place n k (bound_of r) h)),
  λ u. rw (found_place r k e) at (has_place_below n r u),
)

-- and a rule is found nowhere where no table has
pub found_nowhere : (r : Rule) → (find_place r ≡ None) ↔ ((n : ℕ) → HasPlace n r → ⊥)
found_nowhere r = (λ e n u. at_nowhere (sym (has_place_found n r u) ∙ e), λ none. go none (find_place r) refl)
  where
    go : ((n : ℕ) → HasPlace n r → ⊥) → (p : Option ℕ) → find_place r ≡ p → p ≡ None
    go none (Some k) e = absurd (none (enough r) (found_has_place r k e))
    go none None e = refl

-- ---- which places name a quantity

-- a rule of a place names the quantities of its one or two literals
names_one : (q k : ℕ) (c : ℤ) → is_one k ≡ true → names q (rule_at k c) ≡ eqb (quantity_of (higher_at k)) q
unfolding names rule_at
names_one q k c e = rw e

names_two : (q k : ℕ) (c : ℤ) → is_one k ≡ false → names q (rule_at k c) ≡ (eqb (quantity_of (lower_at k)) q || eqb (quantity_of (higher_at k)) q)
unfolding names rule_at
names_two q k c e = rw e

-- quantity j + 1 is named by all of its own block,
pub own_named : (j k : ℕ) (c : ℤ) → block_of k ≡ j → names (suc j) (rule_at k c) ≡ true
own_named j k c h = go (is_one k) refl
  where
    own : eqb (quantity_of (higher_at k)) (suc j) ≡ true
    own = eq-eqb (quantity_of (higher_at k)) (suc j) (omega (arith, higher_half k))

    go : (b : Bool) → is_one k ≡ b → names (suc j) (rule_at k c) ≡ true
    go true e = names_one (suc j) k c e ∙ own
    go false e = names_two (suc j) k c e ∙ rw own (or-true (eqb (quantity_of (lower_at k)) (suc j)))

-- by four places of each block after it,
pub four_named : (j k : ℕ) (c : ℤ) → 4 * j + 2 ≤ offset_of k → offset_of k < 4 * j + 6 → names (suc j) (rule_at k c) ≡ true
unfolding is_one lower_at
four_named j k c h g =
    names_two (suc j) k c (le-ltb (offset_of k) 2 (omega arith)) ∙ rw (eq-eqb (quantity_of (lower_at k)) (suc j) (omega arith))

-- and by no other
pub not_named : (j k : ℕ) (c : ℤ) → (block_of k ≡ j → ⊥) → (offset_of k < 4 * j + 2) ⊎ (4 * j + 6 ≤ offset_of k) → names (suc j) (rule_at k c) ≡ false
unfolding is_one lower_at
not_named j k c n o = go o (is_one k) refl
  where
    other : eqb (quantity_of (higher_at k)) (suc j) ≡ false
    other = ne_eqb (quantity_of (higher_at k)) (suc j) (λ e. n (omega (arith, higher_half k)))

    go : (offset_of k < 4 * j + 2) ⊎ (4 * j + 6 ≤ offset_of k) → (b : Bool) → is_one k ≡ b → names (suc j) (rule_at k c) ≡ false
    go o true e = names_one (suc j) k c e ∙ other
    go (inl h) false e =
        names_two (suc j) k c e ∙ rw (ne_eqb (quantity_of (lower_at k)) (suc j) (λ q. omega (arith, ltb-false (offset_of k) 2 e)), other)
    go (inr h) false e = names_two (suc j) k c e ∙ rw (ne_eqb (quantity_of (lower_at k)) (suc j) (λ q. omega arith), other)

-- an undoubled rule over n quantities names quantities of 1 to n alone
pub has_place_names : (n q : ℕ) (r : Rule) → HasPlace n r → names q r ≡ true → (1 ≤ q) × (q ≤ n)
unfolding names
has_place_names n q (One x c) u e = let h = eqb-true (quantity_of x) q e in omega arith
has_place_names n q (Two x y c) u e = go (eqb (quantity_of x) q) refl e
  where
    go : (b : Bool) → eqb (quantity_of x) q ≡ b → (b || eqb (quantity_of y) q) ≡ true → (1 ≤ q) × (q ≤ n)
    go true d e = let h = eqb-true (quantity_of x) q d in let l = u.0 in omega arith
    go false d e = let h = eqb-true (quantity_of y) q e in let l = u.1 in omega arith
has_place_names n q (Nothing c) u e = absurd u

-- which quantities the rule of a place names does not depend on its bound,
pub names_bound : (q k : ℕ) (c d : ℤ) → names q (rule_at k c) ≡ names q (rule_at k d)
unfolding names rule_at
names_bound q k c d = go (is_one k)
  where
    go : (b : Bool) → names q (cond b (One (higher_at k) c) (Two (lower_at k) (higher_at k) c)) ≡ names q (cond b (One (higher_at k) d) (Two (lower_at k) (higher_at k) d))
    go true = refl
    go false = refl

in_order_names : (q : ℕ) (r : Rule) → names q (in_order r) ≡ names q r
unfolding names in_order
in_order_names q (One x c) = refl
in_order_names q (Two x y c) = go (ltb x y)
  where
    go : (b : Bool) → names q (cond b (Two x y c) (Two y x c)) ≡ names q (Two x y c)
    go true = refl
    go false = or_comm (eqb (quantity_of y) q) (eqb (quantity_of x) q)
in_order_names q (Nothing c) = refl

-- and at the place of a rule's term they are the rule's own
pub place_names : (n q : ℕ) (r : Rule) (c : ℤ) → HasPlace n r → names q (rule_at (place_of r) c) ≡ names q r
place_names n q r c u = names_bound q (place_of r) c (bound_of r) ∙ ap (names q) (rule_at_in_order n r u) ∙ in_order_names q r
