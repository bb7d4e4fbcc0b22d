-- What a rule means after each step, over every assignment: the opposite is met exactly where the rule is not, halving and ordering keep the
-- meaning, and the sum over a literal says of both terms together what it says of the bounds, without the literal's quantity. Assumes
-- nothing.
use mathlib.Core.Path.{◌≡◌, refl, ap}
use mathlib.Core.Bool.{Bool, true, false, cond}
use mathlib.Core.Logic.Iff
use mathlib.Core.Logic.{◌↔◌, ◌⊎◌, inl, inr, ⊎_elim}
use Prim.Native.Nat.{ℕ}
use lib.Dec.{eqb, ltb}
use lib.IntN.{ℤ, pos, neg_ℤ, ◌+ℤ◌, +ℤ_comm}
use lib.Signed.{◌≤ℤ◌}
use borrow.Author.Tests.{eqb-true, eq-eqb, ne_eqb}
use Rattle.integers.specs.Bound.{half, opposite_bound, in_word}
use Rattle.integers.proofs.Parts.{linear, positive_part, negative_part, parts_add, saturated_sign, saturated_word, half_word}
use Rattle.integers.proofs.Orders.{opposite_order, half_order, negated_sum, minus_self, cancelled}
use Rattle.rules.specs.declared.rule.Rule.{Rule}
use Rattle.rules.specs.declared.rule.Rule.TheVariants.{One, Two, Nothing}
use Rattle.rules.specs.declared.rule.Partner.{Partner}
use Rattle.rules.specs.declared.rule.Partner.TheVariants.{With, Alone, Absent}
use Rattle.rules.specs.Literal.{quantity_of, negated, literal_of}
use Rattle.rules.specs.Meaning.{Assignment, literal_value, signed_value, term_value, bound_of, Meets, names}
use Rattle.rules.specs.Steps.{trivial_rule, is_none, rule_of, opposite_of, halved_of, in_order, partner_of, rest_rule, fitted, sum_over}
use Rattle.rules.specs.Promises.{Stands, Distinct}
use Rattle.rules.proofs.Literals.{negated_quantity, value_negated, none_value, some_value}

-- ---- the constructor

pub rule_of_term : (σ : Assignment) (p q c : ℤ) → term_value σ (rule_of p q c) ≡ signed_value σ p +ℤ signed_value σ q
unfolding rule_of positive_part negative_part
rule_of_term σ p q c = go (is_none p) refl (is_none q) refl
  where
    alone : (a b : ℤ) → a ≡ pos 0 → b ≡ a +ℤ b
    alone a b e = rw e (omega (linear, parts_add (pos 0) b))

    before : (a b : ℤ) → a ≡ pos 0 → b ≡ b +ℤ a
    before a b e = rw e (omega (linear, parts_add b (pos 0)))

    go : (s : Bool) → is_none p ≡ s → (t : Bool) → is_none q ≡ t
        → term_value σ (cond s (cond t (Nothing c) (One (literal_of q) c)) (cond t (One (literal_of p) c) (Two (literal_of p) (literal_of q) c)))
        ≡ signed_value σ p +ℤ signed_value σ q
    go true d true e = rw (none_value σ p d, none_value σ q e)
    go true d false e = rw (some_value σ q e) (alone (signed_value σ p) (signed_value σ q) (none_value σ p d))
    go false d true e = rw (some_value σ p d) (before (signed_value σ q) (signed_value σ p) (none_value σ q e))
    go false d false e = rw (some_value σ p d, some_value σ q e)

pub rule_of_bound : (p q c : ℤ) → bound_of (rule_of p q c) ≡ c
unfolding rule_of
rule_of_bound p q c = go (is_none p) (is_none q)
  where
    go : (s t : Bool)
        → bound_of (cond s (cond t (Nothing c) (One (literal_of q) c)) (cond t (One (literal_of p) c) (Two (literal_of p) (literal_of q) c))) ≡ c
    go true true = refl
    go true false = refl
    go false true = refl
    go false false = refl

pub rule_of_meaning : (σ : Assignment) (p q c : ℤ) → Meets σ (rule_of p q c) ↔ ((signed_value σ p +ℤ signed_value σ q) ≤ℤ c)
rule_of_meaning σ p q c =
    (λ m. rw (rule_of_term σ p q c, rule_of_bound p q c) at m.met, λ h. record { met = rw (rule_of_term σ p q c, rule_of_bound p q c) h })

-- ---- the opposite

pub opposite_term : (σ : Assignment) (r : Rule) → term_value σ (opposite_of r) ≡ neg_ℤ (term_value σ r)
unfolding opposite_of
opposite_term σ (One x c) = value_negated σ x
opposite_term σ (Two x y c) = rw (value_negated σ x, value_negated σ y, negated_sum)
opposite_term σ (Nothing c) = refl

pub opposite-bound : (r : Rule) → bound_of (opposite_of r) ≡ opposite_bound (bound_of r)
unfolding opposite_of
opposite-bound (One x c) = refl
opposite-bound (Two x y c) = refl
opposite-bound (Nothing c) = refl

pub opposite_meaning : (σ : Assignment) (r : Rule) → Meets σ (opposite_of r) ↔ (Meets σ r → ⊥)
opposite_meaning σ r = (
  λ h k. (opposite_order (term_value σ r) (bound_of r)).0 (rw (opposite_term σ r, opposite-bound r) at h.met) k.met,
  λ n. record {
    met = rw (opposite_term σ r, opposite-bound r) ((opposite_order (term_value σ r) (bound_of r)).1 (λ h. n record { met = h }));
  },
)

-- ---- halving

-- two literals that are alike, as one
pub doubled_meaning : (σ : Assignment) (x y : ℕ) (c : ℤ) → x ≡ y
    → Meets σ (One x (half c)) ↔ ((literal_value σ x +ℤ literal_value σ y) ≤ℤ c)
doubled_meaning σ x y c e =
    rw (← e) (λ h. (half_order (literal_value σ x) c).0 h.met, λ h. record { met = (half_order (literal_value σ x) c).1 h })

pub halved_meaning : (σ : Assignment) (r : Rule) → Meets σ (halved_of r) ↔ Meets σ r
unfolding halved_of
halved_meaning σ (One x c) = (λ h. h, λ h. h)
halved_meaning σ (Nothing c) = (λ h. h, λ h. h)
halved_meaning σ (Two x y c) = go (eqb x y) refl
  where
    go : (t : Bool) → eqb x y ≡ t → Meets σ (cond t (One x (half c)) (Two x y c)) ↔ Meets σ (Two x y c)
    go true e = let d = doubled_meaning σ x y c (eqb-true x y e) in (λ h. record { met = d.0 h }, λ h. d.1 h.met)
    go false e = (λ h. h, λ h. h)

-- ---- order

pub in_order_term : (σ : Assignment) (r : Rule) → term_value σ (in_order r) ≡ term_value σ r
unfolding in_order
in_order_term σ (One x c) = refl
in_order_term σ (Two x y c) = go (ltb x y)
  where
    go : (t : Bool) → term_value σ (cond t (Two x y c) (Two y x c)) ≡ literal_value σ x +ℤ literal_value σ y
    go true = refl
    go false = +ℤ_comm (literal_value σ y) (literal_value σ x)
in_order_term σ (Nothing c) = refl

pub in_order_bound : (r : Rule) → bound_of (in_order r) ≡ bound_of r
unfolding in_order
in_order_bound (One x c) = refl
in_order_bound (Two x y c) = go (ltb x y)
  where
    go : (t : Bool) → bound_of (cond t (Two x y c) (Two y x c)) ≡ c
    go true = refl
    go false = refl
in_order_bound (Nothing c) = refl

pub in_order_meaning : (σ : Assignment) (r : Rule) → Meets σ (in_order r) ↔ Meets σ r
in_order_meaning σ r = (
  λ h. record { met = rw (in_order_term σ r, in_order_bound r) at h.met },
  λ h. record { met = rw (in_order_term σ r, in_order_bound r) h.met },
)

-- ---- a bound that is a word

pub trivial_met : (σ : Assignment) → Meets σ trivial_rule
trivial_met σ = record { met = record { le = tt } }

kept_or_trivial : (t : Bool) (r : Rule)
    → (cond t r trivial_rule ≡ trivial_rule) ⊎ ((σ : Assignment) → Meets σ (cond t r trivial_rule) ↔ Meets σ r)
kept_or_trivial true r = inr (λ σ. Iff.rfl)
kept_or_trivial false r = inl refl

-- a bare rule keeps its meaning
pub bare_meaning : (σ : Assignment) (c : ℤ) → Meets σ (fitted (Nothing c)) ↔ (pos 0 ≤ℤ c)
unfolding fitted
bare_meaning σ c = Iff.trans (λ h. h.met, λ h. record { met = h }) (saturated_sign c)

-- every other one keeps it, or is given up
pub fitted_cases : (r : Rule) → (fitted r ≡ trivial_rule) ⊎ ((σ : Assignment) → Meets σ (fitted r) ↔ Meets σ r)
unfolding fitted
fitted_cases (Nothing c) = inr (λ σ. Iff.trans (bare_meaning σ c) (λ h. record { met = h }, λ h. h.met))
fitted_cases (One x c) = kept_or_trivial (in_word c) (One x c)
fitted_cases (Two x y c) = kept_or_trivial (in_word c) (Two x y c)

pub fitted_meaning : (r : Rule) → (fitted r ≡ trivial_rule → ⊥) → (σ : Assignment) → Meets σ (fitted r) ↔ Meets σ r
fitted_meaning r n σ = ⊎_elim (λ e. absurd (n e)) (λ f. f σ) (fitted_cases r)

-- a rule whose bound is a word stays
pub fitted_word : (r : Rule) → in_word (bound_of r) ≡ true → fitted r ≡ r
unfolding fitted
fitted_word (One x c) e = rw e
fitted_word (Two x y c) e = rw e
fitted_word (Nothing c) e = ap Nothing (saturated_word c e)

pub fitted_met : (σ : Assignment) (r : Rule) → Meets σ r → Meets σ (fitted r)
fitted_met σ r h = ⊎_elim (λ e. rw e (trivial_met σ)) (λ f. (f σ).1 h) (fitted_cases r)

-- ---- what a sum leaves

-- a rule means that its term is at most its bound, whatever form the term has
meets_as : (σ : Assignment) (r : Rule) {t : ℤ} → term_value σ r ≡ t → Meets σ r ↔ (t ≤ℤ bound_of r)
meets_as σ r e = (λ h. rw e at h.met, λ h. record { met = rw e h })

-- two literals that are left
pub pair_meaning : (σ : Assignment) (x y : ℕ) (c : ℤ)
    → Meets σ (rest_rule (With x) (With y) c) ↔ ((literal_value σ x +ℤ literal_value σ y) ≤ℤ c)
unfolding rest_rule
pair_meaning σ x y c = go (eqb y (negated x)) refl
  where
    cancels : y ≡ negated x → pos 0 ≡ literal_value σ x +ℤ literal_value σ y
    cancels e = rw (e, value_negated σ x) (minus_self (literal_value σ x))

    go : (t : Bool) → eqb y (negated x) ≡ t
        → Meets σ (cond t (Nothing c) (in_order (halved_of (Two x y c)))) ↔ ((literal_value σ x +ℤ literal_value σ y) ≤ℤ c)
    go true e = meets_as σ (Nothing c) (cancels (eqb-true y (negated x) e))
    go false e =
        Iff.trans (in_order_meaning σ (halved_of (Two x y c))) (Iff.trans (halved_meaning σ (Two x y c)) (meets_as σ (Two x y c) refl))

-- the integer of what is left of a term, and that the literal taken was there
abbrev pub rest_value : Assignment → Partner → ℤ
rest_value σ (With x) = literal_value σ x
rest_value σ Alone = pos 0
rest_value σ Absent = pos 0

abbrev pub Present : Partner → Type 0
Present (With x) = Unit {0}
Present Alone = Unit {0}
Present Absent = ⊥

pub stands_present : (z : ℕ) (r : Rule) → Stands z r → Present (partner_of z r)
unfolding partner_of
stands_present z (One x c) e = rw (eq-eqb x z e) tt
stands_present z (Two x y c) (inl e) = rw (eq-eqb x z e) tt
stands_present z (Two x y c) (inr e) = rw (eq-eqb y z e) (go (eqb x z))
  where
    go : (t : Bool) → Present (cond t (With y) (With x))
    go true = tt
    go false = tt
stands_present z (Nothing c) e = e

-- a term is the literal taken and what is left
pub partner_term : (σ : Assignment) (z : ℕ) (r : Rule) → Present (partner_of z r)
    → term_value σ r ≡ literal_value σ z +ℤ rest_value σ (partner_of z r)
unfolding partner_of positive_part negative_part
partner_term σ z (One x c) = go (eqb x z) refl
  where
    go : (t : Bool) → eqb x z ≡ t → Present (cond t Alone Absent)
        → literal_value σ x ≡ literal_value σ z +ℤ rest_value σ (cond t Alone Absent)
    go true e p = rw (eqb-true x z e) (omega (linear, parts_add (literal_value σ z) (pos 0)))
    go false e p = absurd p
partner_term σ z (Two x y c) = go (eqb x z) refl (eqb y z) refl
  where
    go : (t : Bool) → eqb x z ≡ t → (u : Bool) → eqb y z ≡ u → Present (cond t (With y) (cond u (With x) Absent))
        → literal_value σ x +ℤ literal_value σ y
        ≡ literal_value σ z +ℤ rest_value σ (cond t (With y) (cond u (With x) Absent))
    go true e u f p = rw (eqb-true x z e)
    go false e true f p = rw (← eqb-true y z f) (+ℤ_comm (literal_value σ x) (literal_value σ y))
    go false e false f p = absurd p
partner_term σ z (Nothing c) = λ p. absurd p

pub rest_meaning : (σ : Assignment) (p q : Partner) (c : ℤ) → Present p → Present q
    → Meets σ (rest_rule p q c) ↔ ((rest_value σ p +ℤ rest_value σ q) ≤ℤ c)
unfolding rest_rule positive_part negative_part
rest_meaning σ (With x) (With y) c h k = pair_meaning σ x y c
rest_meaning σ (With x) Alone c h k = meets_as σ (One x c) (omega (linear, parts_add (literal_value σ x) (pos 0)))
rest_meaning σ (With x) Absent c h k = absurd k
rest_meaning σ Alone (With y) c h k = meets_as σ (One y c) (omega (linear, parts_add (pos 0) (literal_value σ y)))
rest_meaning σ Alone Alone c h k = meets_as σ (Nothing c) refl
rest_meaning σ Alone Absent c h k = absurd k
rest_meaning σ Absent q c h k = absurd h

-- what is left has a word for its bound where the sum of the bounds is one
pub rest_word : (p q : Partner) (c : ℤ) → Present p → Present q → in_word c ≡ true → in_word (bound_of (rest_rule p q c)) ≡ true
unfolding rest_rule halved_of
rest_word (With x) (With y) c h k e = go (eqb y (negated x)) (eqb x y)
  where
    go : (t u : Bool) → in_word (bound_of (cond t (Nothing c) (in_order (cond u (One x (half c)) (Two x y c))))) ≡ true
    go true u = e
    go false true = rw (in_order_bound (One x (half c))) (half_word c e)
    go false false = rw (in_order_bound (Two x y c)) e
rest_word (With x) Alone c h k e = e
rest_word (With x) Absent c h k e = absurd k
rest_word Alone (With y) c h k e = e
rest_word Alone Alone c h k e = e
rest_word Alone Absent c h k e = absurd k
rest_word Absent q c h k e = absurd h

-- where the literal is missing on either side, the trivial rule is left, which is met
pub rest_met : (σ : Assignment) (p q : Partner) (c : ℤ)
    → (Present p → Present q → Meets σ (rest_rule p q c))
    → Meets σ (rest_rule p q c)
unfolding rest_rule
rest_met σ (With x) (With y) c h = h tt tt
rest_met σ (With x) Alone c h = h tt tt
rest_met σ (With x) Absent c h = trivial_met σ
rest_met σ Alone (With y) c h = h tt tt
rest_met σ Alone Alone c h = h tt tt
rest_met σ Alone Absent c h = trivial_met σ
rest_met σ Absent q c h = trivial_met σ

-- ---- the sum

-- both terms together are what both leave
pub sum_term : (σ : Assignment) (z : ℕ) (r s : Rule) → Present (partner_of z r) → Present (partner_of (negated z) s)
    → term_value σ r +ℤ term_value σ s ≡ rest_value σ (partner_of z r) +ℤ rest_value σ (partner_of (negated z) s)
sum_term σ z r s p q =
    rw (partner_term σ z r p, partner_term σ (negated z) s q, value_negated σ z)
    (cancelled (literal_value σ z) (rest_value σ (partner_of z r)) (rest_value σ (partner_of (negated z) s)))

pub sum_meaning : (σ : Assignment) (z : ℕ) (r s : Rule) (c : ℤ) → Present (partner_of z r) → Present (partner_of (negated z) s)
    → Meets σ (rest_rule (partner_of z r) (partner_of (negated z) s) c) ↔ ((term_value σ r +ℤ term_value σ s) ≤ℤ c)
sum_meaning σ z r s c p q = rw (sum_term σ z r s p q) (rest_meaning σ (partner_of z r) (partner_of (negated z) s) c p q)

pub sum_exact : (z : ℕ) (r s : Rule) → Stands z r → Stands (negated z) s
    → (in_word (bound_of r +ℤ bound_of s) ≡ true) ⊎ (sum_over z r s ≡ trivial_rule → ⊥)
    → (σ : Assignment) → Meets σ (sum_over z r s) ↔ ((term_value σ r +ℤ term_value σ s) ≤ℤ (bound_of r +ℤ bound_of s))
unfolding sum_over
sum_exact z r s p q f σ =
    Iff.trans (go f) (sum_meaning σ z r s c (stands_present z r p) (stands_present (negated z) s q))
  where
    c : ℤ
    c = bound_of r +ℤ bound_of s

    t : Rule
    t = rest_rule (partner_of z r) (partner_of (negated z) s) (bound_of r +ℤ bound_of s)

    go : (in_word (bound_of r +ℤ bound_of s) ≡ true) ⊎ (fitted t ≡ trivial_rule → ⊥) → Meets σ (fitted t) ↔ Meets σ t
    go (inl e) =
        rw (fitted_word t (rest_word (partner_of z r) (partner_of (negated z) s) c (stands_present z r p) (stands_present (negated z) s q) e))
        Iff.rfl
    go (inr n) = fitted_meaning t n σ

pub sum_sound : (z : ℕ) (r s : Rule) (σ : Assignment) → Meets σ r → Meets σ s → Meets σ (sum_over z r s)
unfolding sum_over
sum_sound z r s σ h k =
    let c = bound_of r +ℤ bound_of s in
    fitted_met σ (rest_rule (partner_of z r) (partner_of (negated z) s) c)
    (rest_met σ (partner_of z r) (partner_of (negated z) s) c
    (λ p q. (sum_meaning σ z r s c p q).1
    (omega (linear, h.met, k.met, parts_add (term_value σ r) (term_value σ s), parts_add (bound_of r) (bound_of s)))))

-- ---- the quantity that is summed over is gone

-- what is left of a term names not quantity q
abbrev pub Without : ℕ → Partner → Type 0
Without q (With x) = quantity_of x ≡ q → ⊥
Without q Alone = Unit {0}
Without q Absent = Unit {0}

partner_without : (z : ℕ) (r : Rule) → Distinct r → Without (quantity_of z) (partner_of z r)
unfolding partner_of
partner_without z (One x c) p = go (eqb x z)
  where
    go : (t : Bool) → Without (quantity_of z) (cond t Alone Absent)
    go true = tt
    go false = tt
partner_without z (Two x y c) p = go (eqb x z) refl (eqb y z) refl
  where
    go : (t : Bool) → eqb x z ≡ t → (u : Bool) → eqb y z ≡ u
        → Without (quantity_of z) (cond t (With y) (cond u (With x) Absent))
    go true d u e = λ h. p (rw (eqb-true x z d, h))
    go false d true e = λ h. p (rw (eqb-true y z e, h))
    go false d false e = tt
partner_without z (Nothing c) p = tt

either_unnamed : (q : ℕ) (t : Bool) (r s : Rule) → names q r ≡ false → names q s ≡ false → names q (cond t r s) ≡ false
either_unnamed q true r s d e = d
either_unnamed q false r s d e = e

rest_unnamed : (q : ℕ) (a b : Partner) (c : ℤ) → Without q a → Without q b → names q (rest_rule a b c) ≡ false
unfolding rest_rule in_order halved_of names
rest_unnamed q (With x) (With y) c h k = either_unnamed q (eqb y (negated x)) (Nothing c) (in_order (halved_of (Two x y c))) refl (go (eqb x y))
  where
    go : (t : Bool) → names q (in_order (cond t (One x (half c)) (Two x y c))) ≡ false
    go true = ne_eqb (quantity_of x) q h
    go false =
        either_unnamed q (ltb x y) (Two x y c) (Two y x c)
        (rw (ne_eqb (quantity_of x) q h, ne_eqb (quantity_of y) q k))
        (rw (ne_eqb (quantity_of x) q h, ne_eqb (quantity_of y) q k))
rest_unnamed q (With x) Alone c h k = ne_eqb (quantity_of x) q h
rest_unnamed q (With x) Absent c h k = refl
rest_unnamed q Alone (With y) c h k = ne_eqb (quantity_of y) q k
rest_unnamed q Alone Alone c h k = refl
rest_unnamed q Alone Absent c h k = refl
rest_unnamed q Absent b c h k = refl

fitted_unnamed : (q : ℕ) (r : Rule) → names q r ≡ false → names q (fitted r) ≡ false
unfolding fitted names
fitted_unnamed q (One x c) e = either_unnamed q (in_word c) (One x c) trivial_rule e refl
fitted_unnamed q (Two x y c) e = either_unnamed q (in_word c) (Two x y c) trivial_rule e refl
fitted_unnamed q (Nothing c) e = refl

pub sum_gone : (z : ℕ) (r s : Rule) → Distinct r → Distinct s → names (quantity_of z) (sum_over z r s) ≡ false
unfolding sum_over
sum_gone z r s p q =
    fitted_unnamed (quantity_of z) (rest_rule (partner_of z r) (partner_of (negated z) s) (bound_of r +ℤ bound_of s))
    (rest_unnamed (quantity_of z) (partner_of z r) (partner_of (negated z) s) (bound_of r +ℤ bound_of s) (partner_without z r p)
    (rw (negated_quantity z) at (partner_without (negated z) s q)))
