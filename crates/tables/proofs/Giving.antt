-- A rule given by three numbers: its tests are its limits, and a rule that passes them has a place. Assumes nothing.
use mathlib.Core.Path.{◌≡◌, refl, sym, ◌∙◌, ap}
use mathlib.Core.Bool.{Bool, true, false, cond, ◌&&◌, ◌||◌, and-false}
use mathlib.Core.Logic.{◌↔◌, ◌⊎◌, inl, inr, ⊎_elim}
use Prim.Native.Nat.{ℕ, zero, suc, ◌+◌, ◌*◌, ◌≤◌, ◌<◌}
use native.Mathlib.Omega.{arith}
use lib.Dec.{leb, eqb}
use lib.IntN.{ℤ, pos, negsuc, nat_abs, ◌+ℤ◌}
use mir.Syntax.{w64}
use mir.Val.{SFits, to_z, of_z}
use borrow.Author.Tests.{leb-true, le-leb, lt-leb, eqb-true, eqb-false, eq-eqb, ne_eqb}
use Rattle.integers.specs.Bound.{Within, half}
use Rattle.integers.proofs.Parts.{linear, positive_part, negative_part, parts_add, word_value}
use Rattle.integers.proofs.Within.{within_to, within_of}
use Rattle.rules.specs.declared.rule.Rule.{Rule}
use Rattle.rules.specs.declared.rule.Rule.TheVariants.{One, Two, Nothing}
use Rattle.rules.specs.declared.paper.Paper.TheVariants.{Sheet}
use Rattle.rules.specs.Limits.{bound_limit, max_quantities}
use Rattle.rules.specs.Literal.{quantity_within, negated, literal_of}
use Rattle.rules.specs.Steps.{is_none, rule_of, halved_of}
use Rattle.rules.proofs.Quantities.{within_range, within_sum, none_zero, none_other}
use Rattle.std.specs.Prelude.{Ok, Err}
use Rattle.tables.specs.declared.given.Misstated.TheVariants.{Outside, Vanishes}
use Rattle.tables.specs.Tables.{cancels}
use Rattle.tables.specs.Meaning.{Cancels}
use Rattle.tables.specs.Places.{HasPlace}
use Rattle.tables.specs.Given.{Given, NamesOneOf, GivenWithin, given_within, given_of, GivenAs}
use Rattle.tables.proofs.Tests.{clash, both_true}
use Rattle.tables.proofs.Putting.{different_quantities}

-- ---- the tests

number_in : (n : ℕ) (z : ℤ) → (quantity_within n (nat_abs z) ≡ true) ↔ NamesOneOf n z
number_in n z = (within_range n (nat_abs z), λ p. rw (le-leb 1 (nat_abs z) p.0, le-leb (nat_abs z) n p.1))

magnitude_parts : (z : ℤ) → (nat_abs z ≡ positive_part z + negative_part z) × ((positive_part z ≡ 0) ⊎ (negative_part z ≡ 0))
unfolding positive_part negative_part
magnitude_parts (pos v) = (omega arith, inr refl)
magnitude_parts (negsuc v) = (omega arith, inl refl)

bound_in : (B : ℕ) (z : ℤ) → (leb (nat_abs z) B ≡ true) ↔ Within (pos B) z
bound_in B z = (
  λ e. let h = leb-true (nat_abs z) B e in within_of (omega (arith, (magnitude_parts z).0)) (omega (arith, (magnitude_parts z).0)),
  λ w. le-leb (nat_abs z) B (⊎_elim (λ p. omega (arith, within_to w, (magnitude_parts z).0)) (λ p. omega (arith, within_to w, (magnitude_parts z).0)) (magnitude_parts z).1),
)

none_is : (z : ℤ) → is_none z ≡ true → z ≡ pos 0
none_is (pos zero) e = refl
none_is (pos (suc k)) e = clash e refl
none_is (negsuc k) e = clash e refl

other_in : (n : ℕ) (z : ℤ) → (◌||◌ (is_none z) (quantity_within n (nat_abs z)) ≡ true) ↔ ((z ≡ pos 0) ⊎ NamesOneOf n z)
other_in n z = (go (is_none z) refl, λ s. ⊎_elim (λ e. rw (none_zero z e)) (λ p. rest (is_none z) ((number_in n z).1 p)) s)
  where
    go : (b : Bool) → is_none z ≡ b → ◌||◌ b (quantity_within n (nat_abs z)) ≡ true → (z ≡ pos 0) ⊎ NamesOneOf n z
    go true e d = inl (none_is z e)
    go false e d = inr ((number_in n z).0 d)

    rest : (b : Bool) → quantity_within n (nat_abs z) ≡ true → ◌||◌ b (quantity_within n (nat_abs z)) ≡ true
    rest true e = refl
    rest false e = e

pub within_test : (n : ℕ) (p q c : ℤ) → (given_within n p q c ≡ true) ↔ GivenWithin n p q c
unfolding given_within
within_test n p q c = (to, λ w. rw ((number_in n p).1 w.named, (other_in n q).1 w.other, (bound_in (bound_limit Sheet n 0) c).1 w.limit))
  where
    to : ◌&&◌ (quantity_within n (nat_abs p)) (◌&&◌ (◌||◌ (is_none q) (quantity_within n (nat_abs q))) (leb (nat_abs c) (bound_limit Sheet n 0))) ≡ true → GivenWithin n p q c
    to e =
        let a = both_true (quantity_within n (nat_abs p)) (◌&&◌ (◌||◌ (is_none q) (quantity_within n (nat_abs q))) (leb (nat_abs c) (bound_limit Sheet n 0))) e in
        let b = both_true (◌||◌ (is_none q) (quantity_within n (nat_abs q))) (leb (nat_abs c) (bound_limit Sheet n 0)) a.1 in
        record { named = (number_in n p).0 a.0; other = (other_in n q).0 b.0; limit = (bound_in (bound_limit Sheet n 0) c).0 b.1 }

pub cancels_test : (r : Rule) → (cancels r ≡ true) ↔ Cancels r
cancels_test (One x c) = (λ e. clash e refl, λ z. absurd z)
cancels_test (Two x y c) = (eqb-true y (negated x), eq-eqb y (negated x))
cancels_test (Nothing c) = (λ e. clash e refl, λ z. absurd z)

-- the limit is a word, and so is its magnitude
limit_word : (n : ℕ) → SFits w64 (pos (bound_limit Sheet n 0))
unfolding bound_limit
limit_word n = record { sfits = omega arith }

-- a bound is in the limit or not, as the magnitudes say
limit_value : (n : ℕ) (z : ℤ) → z ≡ pos (bound_limit Sheet n 0) → nat_abs (to_z w64 (of_z w64 z)) ≡ bound_limit Sheet n 0
limit_value n z e = rw (e, word_value (limit_word n))

pub limit_in : (n m : ℕ) (z c : ℤ) → z ≡ pos (bound_limit Sheet n 0) → m ≡ nat_abs c → m ≤ nat_abs (to_z w64 (of_z w64 z))
    → leb (nat_abs c) (bound_limit Sheet n 0) ≡ true
limit_in n m z c e f l = le-leb (nat_abs c) (bound_limit Sheet n 0) (omega (arith, limit_value n z e))

pub limit_out : (n m : ℕ) (z c : ℤ) → z ≡ pos (bound_limit Sheet n 0) → m ≡ nat_abs c → nat_abs (to_z w64 (of_z w64 z)) < m
    → leb (nat_abs c) (bound_limit Sheet n 0) ≡ false
limit_out n m z c e f l = lt-leb (nat_abs c) (bound_limit Sheet n 0) (omega (arith, limit_value n z e))

-- ---- +q-q is the sum 0

-- the sum of two quantity numbers is 0 exactly where its bits are
sum_word : (n : ℕ) (p q : ℤ) → n ≤ max_quantities → SFits w64 p → SFits w64 q → quantity_within n (nat_abs p) ≡ true → quantity_within n (nat_abs q) ≡ true
    → to_z w64 (of_z w64 (to_z w64 (of_z w64 p) +ℤ to_z w64 (of_z w64 q))) ≡ p +ℤ q
sum_word n p q h f g d e = rw (word_value f, word_value g) (word_value (within_sum n p q h d e))

pub sum_zero : (n : ℕ) (p q : ℤ) → n ≤ max_quantities → SFits w64 p → SFits w64 q → quantity_within n (nat_abs p) ≡ true → quantity_within n (nat_abs q) ≡ true
    → of_z w64 (to_z w64 (of_z w64 p) +ℤ to_z w64 (of_z w64 q)) ≡ 0 → p +ℤ q ≡ pos 0
sum_zero n p q h f g d e z = sym (sum_word n p q h f g d e) ∙ ap (to_z w64) z

pub sum_other : (p q : ℤ) → SFits w64 p → SFits w64 q → (of_z w64 (to_z w64 (of_z w64 p) +ℤ to_z w64 (of_z w64 q)) ≡ 0 → ⊥) → p +ℤ q ≡ pos 0 → ⊥
sum_other p q f g d z = d (rw (word_value f, word_value g, z))

-- a rule of one number cancels nothing
pub one_cancels : (p c : ℤ) → is_none p ≡ false → cancels (rule_of p (pos 0) c) ≡ false
unfolding rule_of
one_cancels p c e = rw e

-- two numbers cancel where their sum is 0
pub sum_cancels : (p q c : ℤ) → is_none p ≡ false → is_none q ≡ false → cancels (rule_of p q c) ≡ is_none (p +ℤ q)
unfolding rule_of positive_part negative_part
sum_cancels p q c e d = rw (e, d) (go p q e d)
  where
    -- the literals are each other's negation exactly where the sum is 0
    zero_sum : (p q : ℤ) → p +ℤ q ≡ pos 0 → literal_of q ≡ negated (literal_of p) → eqb (literal_of q) (negated (literal_of p)) ≡ is_none (p +ℤ q)
    zero_sum p q s l = eq-eqb (literal_of q) (negated (literal_of p)) l ∙ sym (none_zero (p +ℤ q) s)

    other_sum : (p q : ℤ) → (p +ℤ q ≡ pos 0 → ⊥) → (literal_of q ≡ negated (literal_of p) → ⊥) → eqb (literal_of q) (negated (literal_of p)) ≡ is_none (p +ℤ q)
    other_sum p q s l = ne_eqb (literal_of q) (negated (literal_of p)) l ∙ sym (none_other (p +ℤ q) s)

    decide : (p q : ℤ) → ((p +ℤ q ≡ pos 0) ↔ (literal_of q ≡ negated (literal_of p))) → eqb (literal_of q) (negated (literal_of p)) ≡ is_none (p +ℤ q)
    decide p q i = by (eqb (literal_of q) (negated (literal_of p))) refl
      where
        by : (b : Bool) → eqb (literal_of q) (negated (literal_of p)) ≡ b → eqb (literal_of q) (negated (literal_of p)) ≡ is_none (p +ℤ q)
        by true f = let l = eqb-true (literal_of q) (negated (literal_of p)) f in zero_sum p q (i.1 l) l
        by false f = let l = eqb-false (literal_of q) (negated (literal_of p)) f in other_sum p q (λ s. l (i.0 s)) l

    go : (p q : ℤ) → is_none p ≡ false → is_none q ≡ false → eqb (literal_of q) (negated (literal_of p)) ≡ is_none (p +ℤ q)
    go (pos zero) q e d = clash refl e
    go (pos (suc i)) (pos zero) e d = clash refl d
    go (pos (suc i)) (pos (suc j)) e d = decide (pos (suc i)) (pos (suc j)) (λ s. let z : ⊥ = omega (linear, parts_add (pos (suc i)) (pos (suc j))) in absurd z, λ l. let z : ⊥ = omega arith in absurd z)
    go (pos (suc i)) (negsuc j) e d = decide (pos (suc i)) (negsuc j) (λ s. omega (linear, parts_add (pos (suc i)) (negsuc j)), λ l. omega (linear, parts_add (pos (suc i)) (negsuc j)))
    go (negsuc i) (pos zero) e d = clash refl d
    go (negsuc i) (pos (suc j)) e d = decide (negsuc i) (pos (suc j)) (λ s. omega (linear, parts_add (negsuc i) (pos (suc j))), λ l. omega (linear, parts_add (negsuc i) (pos (suc j))))
    go (negsuc i) (negsuc j) e d = decide (negsuc i) (negsuc j) (λ s. let z : ⊥ = omega (linear, parts_add (negsuc i) (negsuc j)) in absurd z, λ l. let z : ⊥ = omega arith in absurd z)

-- ---- a rule in its limits that does not cancel has a place, halved

-- the literal of a quantity of 1 to n
literal_below : (n : ℕ) (z : ℤ) → NamesOneOf n z → literal_of z < 2 * n
literal_below n (pos zero) p = let z : ⊥ = omega (arith, p.0) in absurd z
literal_below n (pos (suc k)) p = omega (arith, p.1)
literal_below n (negsuc k) p = omega (arith, p.1)

named_some : (n : ℕ) (z : ℤ) → NamesOneOf n z → is_none z ≡ false
named_some n (pos zero) p = let z : ⊥ = omega (arith, p.0) in absurd z
named_some n (pos (suc k)) p = refl
named_some n (negsuc k) p = refl

two_place : (n x y : ℕ) (c : ℤ) → x < 2 * n → y < 2 * n → (y ≡ negated x → ⊥) → HasPlace n (halved_of (Two x y c))
unfolding halved_of
two_place n x y c h g d = go (eqb x y) refl
  where
    go : (b : Bool) → eqb x y ≡ b → HasPlace n (cond b (One x (half c)) (Two x y c))
    go true e = h
    go false e = (h, g, different_quantities x y (eqb-false x y e) d)

pub given_place : (n : ℕ) (p q c : ℤ) → GivenWithin n p q c → (Cancels (rule_of p q c) → ⊥) → HasPlace n (halved_of (rule_of p q c))
unfolding rule_of halved_of
given_place n p q c w d = ⊎_elim alone both w.other
  where
    some : is_none p ≡ false
    some = named_some n p w.named

    alone : q ≡ pos 0 → HasPlace n (halved_of (rule_of p q c))
    alone e = rw (some, none_zero q e) (literal_below n p w.named)

    both : NamesOneOf n q → HasPlace n (halved_of (rule_of p q c))
    both m = rw (some, named_some n q m)
        (two_place n (literal_of p) (literal_of q) c (literal_below n p w.named) (literal_below n q m) (rw (some, named_some n q m) at d))

-- ---- what is promised

module _ (n : ℕ) (p q c : ℤ) where
  pub given_as : (r : Given) → r ≡ given_of n p q c → GivenAs n p q c r
  unfolding given_of
  given_as r e = by (given_within n p q c) (cancels (rule_of p q c)) refl refl
    where
      by : (a b : Bool) → given_within n p q c ≡ a → cancels (rule_of p q c) ≡ b → GivenAs n p q c r
      by false b f g = let o : r ≡ Err Outside = e ∙ rw f in record {
        reply = e;
        outside = (λ z w. clash ((within_test n p q c).1 w) f, λ z. o);
        cancelled = (λ z. cc, λ w. clash ((within_test n p q c).1 w.0) f);
        stated = λ s. (λ z. cc, λ w. clash ((within_test n p q c).1 w.0) f);
      }
      by true true f g = let o : r ≡ Err Vanishes = e ∙ rw (f, g) in record {
        reply = e;
        outside = (λ z. cc, λ w. absurd (w ((within_test n p q c).0 f)));
        cancelled = (λ z. ((within_test n p q c).0 f, (cancels_test (rule_of p q c)).0 g), λ w. o);
        stated = λ s. (λ z. cc, λ w. absurd (w.1 ((cancels_test (rule_of p q c)).0 g)));
      }
      by true false f g = let o : r ≡ Ok (rule_of p q c) = e ∙ rw (f, g) in record {
        reply = e;
        outside = (λ z. cc, λ w. absurd (w ((within_test n p q c).0 f)));
        cancelled = (λ z. cc, λ w. clash ((cancels_test (rule_of p q c)).1 w.1) g);
        stated = λ s. (
          λ z. ((within_test n p q c).0 f, λ w. clash ((cancels_test (rule_of p q c)).1 w) g, cc),
          λ w. o ∙ ap Ok (sym w.2),
        );
      }

  -- ---- at each test

  module _ (f : quantity_within n (nat_abs p) ≡ true) (b : leb (nat_abs c) (bound_limit Sheet n 0) ≡ true) where
    -- one number
    pub given_one : (r : Rule) → q ≡ pos 0 → r ≡ rule_of p (pos 0) c → GivenAs n p q c (Ok r)
    unfolding given_of given_within
    given_one r z e = given_as (Ok r) (rw (f, z, b, one_cancels p c (named_some n p ((number_in n p).0 f)), e))

    -- a second one outside 1 to n
    pub given_second : (q ≡ pos 0 → ⊥) → quantity_within n (nat_abs q) ≡ false → GivenAs n p q c (Err Outside)
    unfolding given_of given_within
    given_second z g = given_as (Err Outside) (rw (f, none_other q z, g))

    module _ (z : q ≡ pos 0 → ⊥) (g : quantity_within n (nat_abs q) ≡ true) where
      sum : cancels (rule_of p q c) ≡ is_none (p +ℤ q)
      sum = sum_cancels p q c (named_some n p ((number_in n p).0 f)) (none_other q z)

      pub given_cancels : p +ℤ q ≡ pos 0 → GivenAs n p q c (Err Vanishes)
      unfolding given_of given_within
      given_cancels e = given_as (Err Vanishes) (rw (f, none_other q z, g, b, sum, none_zero (p +ℤ q) e))

      pub given_two : (r : Rule) → (p +ℤ q ≡ pos 0 → ⊥) → r ≡ rule_of p q c → GivenAs n p q c (Ok r)
      unfolding given_of given_within
      given_two r e d = given_as (Ok r) (rw (f, none_other q z, g, b, sum, none_other (p +ℤ q) e, d))

  -- the first outside 1 to n
  pub given_first : quantity_within n (nat_abs p) ≡ false → GivenAs n p q c (Err Outside)
  unfolding given_of given_within
  given_first f = given_as (Err Outside) (rw f)

  -- a bound outside its limit
  pub given_bound : leb (nat_abs c) (bound_limit Sheet n 0) ≡ false → GivenAs n p q c (Err Outside)
  unfolding given_of given_within
  given_bound b = given_as (Err Outside) (rw (b, and-false (◌||◌ (is_none q) (quantity_within n (nat_abs q))), and-false (quantity_within n (nat_abs p))))
