-- The steps' replies are tied to what the calls on a table need: the test of a rule's quantities and bound, of +q-q, and of a bare rule. Assumes nothing.
use mathlib.Core.Path.{◌≡◌, refl, sym, ◌∙◌}
use mathlib.Core.Bool.{Bool, true, false, cond, not, ◌&&◌, ◌||◌}
use mathlib.Core.Logic.{◌↔◌, ⊎_elim}
use Prim.Native.Nat.{ℕ, ◌*◌, ◌%◌, ◌≤◌}
use native.Mathlib.Omega.{arith}
use lib.Dec.{eqb, ltb, leb}
use lib.IntN.{ℤ, pos, neg_ℤ, ◌+ℤ◌}
use lib.Signed.{◌≤ℤ◌}
use borrow.Author.Tests.{eqb-true, eqb-false, eq-eqb, ne_eqb, ltb-true, lt-ltb, leb-true, le-leb, not-true}
use Rattle.integers.specs.Bound.{half, smaller}
use Rattle.integers.proofs.Parts.{linear, positive_part, negative_part, parts_add, parts_neg, lt_z_false, le_lt_z, smaller_left, smaller_right}
use Rattle.rules.specs.declared.rule.Rule.{Rule}
use Rattle.rules.specs.declared.rule.Rule.TheVariants.{One, Two, Nothing}
use Rattle.rules.specs.declared.refusal.Refusal.TheVariants.{Size, OutOfLimit, Cancelling, NoAssignment}
use Rattle.rules.specs.Literal.{quantity_of, negated}
use Rattle.rules.specs.Meaning.{Assignment, literal_value, bound_of, names}
use Rattle.rules.specs.Steps.{halved_of}
use Rattle.rules.proofs.Literals.{sign_cases, value_plus, value_minus}
use Rattle.tables.specs.Tables.{has_rule, serves, rule_fits, cancels, is_bare_below, empty_reply, rule_reply, put_reply, clear_reply}
use Rattle.tables.specs.Meaning.{RuleSized, Cancels, Meetable}
use Rattle.tables.specs.Promises.{empty_needs, put_needs, clear_needs}
use Rattle.tables.proofs.Tests.{clash, both_true}
use Rattle.tables.proofs.Sizes.{serves_sized}
use Rattle.tables.proofs.Putting.{different_quantities}
use Rattle.tables.proofs.Refusing.{Tied, tied_done, tied_more}

-- ---- a rule's quantities and its bound

-- a literal is below 2n where its quantity is one of 1 to n
literal_in : (n x : ℕ) → (ltb x (2 * n) ≡ true) ↔ ((q : ℕ) → eqb (quantity_of x) q ≡ true → (1 ≤ q) × (q ≤ n))
literal_in n x = (
  λ e q f. let h = ltb-true x (2 * n) e in let g = eqb-true (quantity_of x) q f in omega arith,
  λ f. let h = f (quantity_of x) (eq-eqb (quantity_of x) (quantity_of x) refl) in lt-ltb x (2 * n) (omega arith),
)

-- the halved rule passes its test
fits_tells : (n : ℕ) (r : Rule) → (rule_fits n r ≡ true) ↔ (((q : ℕ) → names q r ≡ true → (1 ≤ q) × (q ≤ n)) × (has_rule (bound_of r) ≡ true))
unfolding names
fits_tells n (One x c) = (
  λ e. let p = both_true (ltb x (2 * n)) (has_rule c) e in ((literal_in n x).0 p.0, p.1),
  λ p. rw ((literal_in n x).1 p.0, p.1),
)
fits_tells n (Two x y c) = (to, of)
  where
    to : (ltb x (2 * n) && ltb y (2 * n) && has_rule c) ≡ true
        → ((q : ℕ) → (eqb (quantity_of x) q || eqb (quantity_of y) q) ≡ true → (1 ≤ q) × (q ≤ n)) × (has_rule c ≡ true)
    to e = (λ q. go q (eqb (quantity_of x) q) refl, p.1)
      where
        p : ((ltb x (2 * n) && ltb y (2 * n)) ≡ true) × (has_rule c ≡ true)
        p = both_true (ltb x (2 * n) && ltb y (2 * n)) (has_rule c) e

        l : (ltb x (2 * n) ≡ true) × (ltb y (2 * n) ≡ true)
        l = both_true (ltb x (2 * n)) (ltb y (2 * n)) p.0

        go : (q : ℕ) (b : Bool) → eqb (quantity_of x) q ≡ b → (b || eqb (quantity_of y) q) ≡ true → (1 ≤ q) × (q ≤ n)
        go q true d f = (literal_in n x).0 l.0 q d
        go q false d f = (literal_in n y).0 l.1 q f

    either : (a b : Bool) → b ≡ true → (a || b) ≡ true
    either true b e = refl
    either false b e = e

    of : ((q : ℕ) → (eqb (quantity_of x) q || eqb (quantity_of y) q) ≡ true → (1 ≤ q) × (q ≤ n)) × (has_rule c ≡ true)
        → (ltb x (2 * n) && ltb y (2 * n) && has_rule c) ≡ true
    of p = rw ((literal_in n x).1 (λ q e. p.0 q (rw e)), (literal_in n y).1 (λ q e. p.0 q (either (eqb (quantity_of x) q) (eqb (quantity_of y) q) e)), p.1)
fits_tells n (Nothing c) = (λ e. (λ q f. clash f refl, e), λ p. p.1)

-- halving leaves a rule's quantities
halved_names : (q : ℕ) (r : Rule) → names q (halved_of r) ≡ names q r
unfolding halved_of names
halved_names q (One x c) = refl
halved_names q (Two x y c) = go (eqb x y) refl
  where
    twice : (b : Bool) → b ≡ (b || b)
    twice true = refl
    twice false = refl

    go : (b : Bool) → eqb x y ≡ b → names q (cond b (One x (half c)) (Two x y c)) ≡ (eqb (quantity_of x) q || eqb (quantity_of y) q)
    go true e = let d : x ≡ y = eqb-true x y e in rw (← d) (twice (eqb (quantity_of x) q))
    go false e = refl
halved_names q (Nothing c) = refl

fits_sized : (n : ℕ) (r : Rule) → (rule_fits n (halved_of r) ≡ true) ↔ RuleSized n r
fits_sized n r = (
  λ e. let p = (fits_tells n (halved_of r)).0 e in record { quantities = λ q f. p.0 q (halved_names q r ∙ f); bound = p.1 },
  λ s. (fits_tells n (halved_of r)).1 (λ q f. s.quantities q (sym (halved_names q r) ∙ f), s.bound),
)

-- ---- +q-q

cancels_not : (r : Rule) → (not (cancels (halved_of r)) ≡ true) ↔ (Cancels r → ⊥)
unfolding halved_of
cancels_not (One x c) = (λ e p. p, λ f. refl)
cancels_not (Two x y c) = (λ e p. to (eqb x y) refl e p, λ f. of f (eqb x y))
  where
    to : (b : Bool) → eqb x y ≡ b → not (cancels (cond b (One x (half c)) (Two x y c))) ≡ true → y ≡ negated x → ⊥
    to true d e p = let h = eqb-true x y d in omega arith
    to false d e p = eqb-false y (negated x) (not-true _ e) p

    of : (y ≡ negated x → ⊥) → (b : Bool) → not (cancels (cond b (One x (half c)) (Two x y c))) ≡ true
    of f true = refl
    of f false = rw (ne_eqb y (negated x) f)
cancels_not (Nothing c) = (λ e p. p, λ f. refl)

-- ---- a rule with a term is met by some integers

-- an integer for the quantity of a literal that makes the literal v
abbrev signed : ℕ → ℤ → ℤ
signed x v = cond (eqb (x % 2) 0) v (neg_ℤ v)

signed-value : (σ : Assignment) (x : ℕ) (v : ℤ) → σ (quantity_of x) ≡ signed x v → literal_value σ x ≡ v
signed-value σ x v e = ⊎_elim plus minus (sign_cases x)
  where
    plus : x % 2 ≡ 0 → literal_value σ x ≡ v
    plus s = value_plus σ x s ∙ e ∙ rw (eq-eqb (x % 2) 0 s)

    minus : x % 2 ≡ 1 → literal_value σ x ≡ v
    minus s =
        let d : σ (quantity_of x) ≡ neg_ℤ v = e ∙ rw (ne_eqb (x % 2) 0 (λ z. omega arith)) in
        value_minus σ x s ∙ rw d (omega (linear, parts_neg v, parts_neg (neg_ℤ v)))

-- integers that make two literals at most c together, and each at most c: the smaller of c and 0 for each of them
small : ℕ → ℕ → ℤ → Assignment
small x y c q = cond (eqb q (quantity_of x)) (signed x (smaller c (pos 0))) (signed y (smaller c (pos 0)))

first_small : (x y : ℕ) (c : ℤ) → literal_value (small x y c) x ≡ smaller c (pos 0)
unfolding small
first_small x y c = signed-value (small x y c) x (smaller c (pos 0)) (rw (eq-eqb (quantity_of x) (quantity_of x) refl))

second_small : (x y : ℕ) (c : ℤ) → (quantity_of y ≡ quantity_of x → ⊥) → literal_value (small x y c) y ≡ smaller c (pos 0)
unfolding small
second_small x y c d = signed-value (small x y c) y (smaller c (pos 0)) (rw (ne_eqb (quantity_of y) (quantity_of x) d))

twice_small : (c : ℤ) → (smaller c (pos 0) +ℤ smaller c (pos 0)) ≤ℤ c
unfolding positive_part negative_part
twice_small c = omega (linear, smaller_left c (pos 0), smaller_right c (pos 0), parts_add (smaller c (pos 0)) (smaller c (pos 0)))

-- a rule of one literal, of two that do not cancel, and a bare rule of no less than 0
one_met : (x : ℕ) (c : ℤ) → Meetable (One x c)
one_met x c = record { assignment = small x x c; meets = record { met = rw (first_small x x c) (smaller_left c (pos 0)) } }

two_met : (x y : ℕ) (c : ℤ) → (y ≡ negated x → ⊥) → Meetable (Two x y c)
two_met x y c d = record { assignment = small x y c; meets = record { met = rw (first_small x y c, second (eqb x y) refl) (twice_small c) } }
  where
    second : (b : Bool) → eqb x y ≡ b → literal_value (small x y c) y ≡ smaller c (pos 0)
    second true e = let h : x ≡ y = eqb-true x y e in rw (← h) (first_small x x c)
    second false e = second_small x y c (λ q. different_quantities x y (eqb-false x y e) d (sym q))

-- so a rule that does not cancel is met by some integers unless it is bare and below 0, halved or not
met_unless : (r : Rule) → (Cancels r → ⊥) → (not (is_bare_below r) ≡ true) ↔ Meetable r
met_unless (One x c) d = (λ e. one_met x c, λ m. refl)
met_unless (Two x y c) d = (λ e. two_met x y c d, λ m. refl)
met_unless (Nothing c) d = (
  λ e. record { assignment = λ q. pos 0; meets = record { met = omega (linear, lt_z_false c (pos 0) (not-true _ e)) } },
  λ m. rw (le_lt_z c (pos 0) m.meets.met),
)

halved-below : (r : Rule) → is_bare_below (halved_of r) ≡ is_bare_below r
unfolding halved_of
halved-below (One x c) = refl
halved-below (Two x y c) = go (eqb x y)
  where
    go : (b : Bool) → is_bare_below (cond b (One x (half c)) (Two x y c)) ≡ false
    go true = refl
    go false = refl
halved-below (Nothing c) = refl

below_not : (r : Rule) → (Cancels r → ⊥) → (not (is_bare_below (halved_of r)) ≡ true) ↔ Meetable r
below_not r d = rw (halved-below r) (met_unless r d)

-- ---- the calls

pub empty_tied : (n words : ℕ) → Tied (empty_needs n words) (empty_reply n words)
empty_tied n words = tied_more (serves n words) _ Size _ _ (serves_sized n words) (λ s. tied_done)

pub put_tied : (n words : ℕ) (r : Rule) → Tied (put_needs n words r) (put_reply n words r)
unfolding put_reply rule_reply
put_tied n words r =
    tied_more (serves n words) _ Size _ _ (serves_sized n words) (λ s.
    tied_more (rule_fits n (halved_of r)) _ (OutOfLimit 0) _ _ (fits_sized n r) (λ h.
    tied_more (not (cancels (halved_of r))) _ (Cancelling 0) _ _ (cancels_not r) (λ d.
    tied_more (not (is_bare_below (halved_of r))) _ NoAssignment _ _ (below_not r d) (λ m. tied_done))))

pub clear_tied : (n words q : ℕ) → Tied (clear_needs n words q) (clear_reply n words q)
unfolding clear_reply
clear_tied n words q =
    tied_more (serves n words) _ Size _ _ (serves_sized n words) (λ s.
    tied_more (leb 1 q && leb q n) _ (OutOfLimit 0) _ _ in_range (λ r. tied_done))
  where
    in_range : ((leb 1 q && leb q n) ≡ true) ↔ ((1 ≤ q) × (q ≤ n))
    in_range = (
      λ e. let p = both_true (leb 1 q) (leb q n) e in (leb-true 1 q p.0, leb-true q n p.1),
      λ p. rw (le-leb 1 q p.0, le-leb q n p.1),
    )
