-- A table read term by term: what it means to meet its rules on some literals, and how the rules of one quantity split off. Assumes nothing.
use mathlib.Core.Path.{◌≡◌, refl, sym, ◌∙◌, ap}
use mathlib.Core.Bool.{Bool, true, false, cond}
use mathlib.Core.List.{List}
use mathlib.Core.Logic.{◌↔◌, ◌⊎◌, inl, inr, ⊎_elim}
use Prim.Native.Nat.{ℕ, suc, ◌+◌, ◌-◌, ◌*◌, ◌/◌, ◌%◌, ◌≤◌, ◌<◌}
use native.Mathlib.Omega.{arith}
use lib.Dec.{ltb, eqb}
use lib.IntN.{ℤ, neg_ℤ, ◌+ℤ◌, +ℤ_comm}
use lib.ListN.{length}
use lib.Signed.{◌≤ℤ◌}
use borrow.Author.Tests.{ltb-true, ltb-false}
use Rattle.words.specs.Change.{word_at}
use Rattle.places.specs.Numbering.{block_start, place_of_one, place_of_pair, is_one, higher_at, lower_at, offset_of}
use Rattle.places.proofs.Numbering.{one_below, pair_below, one_is_one, one_higher, pair_is_one, pair_higher, pair_lower, higher_half, at_lower, at_below}
use Rattle.rules.specs.declared.rule.Rule.TheVariants.{One, Two}
use Rattle.rules.specs.Literal.{quantity_of}
use Rattle.rules.specs.Meaning.{Assignment, literal_value, Meets, names}
use Rattle.rules.proofs.Literals.{sign_cases, value_plus, value_minus}
use Rattle.tables.specs.Places.{rule_at}
use Rattle.tables.specs.Tables.{has_rule}
use Rattle.tables.specs.Meaning.{rule_in, Satisfies, SatisfiesWithout}
use Rattle.tables.proofs.Tests.{clash}
use Rattle.tables.proofs.Places.{own_named, four_named, not_named}
use Rattle.elimination.specs.Hiding.{every, pair_word, lone_word}
use Rattle.elimination.proofs.Projection.{Sums, Own}
use Rattle.elimination.proofs.TermWords.{pair_none, pair_first, pair_sym, lone_at, pair_at}

-- the literals of the live quantities of n
abbrev pub Live : (ℕ → Bool) → ℕ → ℕ → Type 0
Live live n x = (live (x / 2) ≡ true) × (x < 2 * n)

-- an assignment meets every rule of a table whose literals are all In
pub record TermsMet (In : ℕ → Type 0) (t : List ℤ) (σ : Assignment) : Type 0 where
  pub one : (x : ℕ) → In x → has_rule (lone_word t x) ≡ true → literal_value σ x ≤ℤ lone_word t x
  pub two : (x y : ℕ) → In x → In y → has_rule (pair_word t x y) ≡ true → (literal_value σ x +ℤ literal_value σ y) ≤ℤ pair_word t x y

-- the literals of live quantities of n, but those of quantity j + 1
abbrev pub Others : (ℕ → Bool) → ℕ → ℕ → ℕ → Type 0
Others live n j x = (live (x / 2) ≡ true) × (x < 2 * n) × (x / 2 ≡ j → ⊥)

-- it meets every rule of a literal of quantity j + 1, alone or with a literal In
pub record OwnMet (In : ℕ → Type 0) (j : ℕ) (t : List ℤ) (σ : Assignment) : Type 0 where
  pub one : (x : ℕ) → x / 2 ≡ j → has_rule (lone_word t x) ≡ true → literal_value σ x ≤ℤ lone_word t x
  pub two : (x y : ℕ) → x / 2 ≡ j → In y → has_rule (pair_word t x y) ≡ true → (literal_value σ x +ℤ literal_value σ y) ≤ℤ pair_word t x y

-- the integer of quantity j + 1 keeps its bounds with the literals In
abbrev pub OwnOf : (ℕ → Type 0) → ℕ → List ℤ → Assignment → Type 0
OwnOf In j t σ = Own In (literal_value σ) (pair_word t (2 * j)) (pair_word t (2 * j + 1)) (lone_word t (2 * j)) (lone_word t (2 * j + 1)) (σ (suc j))

-- ---- from the rules of places to those of terms and back

-- the rule of a place of one literal, or of two
pub rule_one : (k : ℕ) (c : ℤ) → is_one k ≡ true → rule_at k c ≡ One (higher_at k) c
unfolding rule_at
rule_one k c e = rw e

pub rule_two : (k : ℕ) (c : ℤ) → is_one k ≡ false → rule_at k c ≡ Two (lower_at k) (higher_at k) c
unfolding rule_at
rule_two k c e = rw e

-- it bounds the literals there
pub lone_met : (σ : Assignment) (x : ℕ) (c : ℤ) → Meets σ (rule_at (place_of_one x) c) → literal_value σ x ≤ℤ c
lone_met σ x c m = (rw (rule_one (place_of_one x) c (one_is_one x), one_higher x) at m).met

pub pair_met : (σ : Assignment) (x y : ℕ) (c : ℤ) → x / 2 < y / 2 → Meets σ (rule_at (place_of_pair x y) c) → (literal_value σ x +ℤ literal_value σ y) ≤ℤ c
pair_met σ x y c l m =
    (rw (rule_two (place_of_pair x y) c (pair_is_one x y l), pair_higher x y l, pair_lower x y l) at m).met

-- terms on the literals In are met where the rules of their places are
places_met : (n : ℕ) (In : ℕ → Type 0) (t : List ℤ) (σ : Assignment) → ((x : ℕ) → In x → x < 2 * n)
    → ((k : ℕ) → k < block_start n → has_rule (word_at t k) ≡ true → In (higher_at k) → (is_one k ≡ false → In (lower_at k)) → Meets σ (rule_in t k))
    → TermsMet In t σ
places_met n In t σ below each = record { one = one_of; two = λ x y i k. two_of x y i k (ltb (x / 2) (y / 2)) refl (ltb (y / 2) (x / 2)) refl }
  where
    one_of : (x : ℕ) → In x → has_rule (lone_word t x) ≡ true → literal_value σ x ≤ℤ lone_word t x
    one_of x i r =
        lone_met σ x (lone_word t x)
        (each (place_of_one x) (one_below n x (below x i)) r (rw (one_higher x) i) (λ e. clash (one_is_one x) e))

    ordered : (x y : ℕ) → In x → In y → x / 2 < y / 2 → has_rule (pair_word t x y) ≡ true → (literal_value σ x +ℤ literal_value σ y) ≤ℤ pair_word t x y
    ordered x y i k l r =
        rw (pair_first t x y l)
        (pair_met σ x y (word_at t (place_of_pair x y)) l
        (each (place_of_pair x y) (pair_below n x y l (below y k)) (rw (pair_first t x y l) at r) (rw (pair_higher x y l) k)
        (λ e. rw (pair_lower x y l) i)))

    two_of : (x y : ℕ) → In x → In y → (a : Bool) → ltb (x / 2) (y / 2) ≡ a → (b : Bool) → ltb (y / 2) (x / 2) ≡ b
        → has_rule (pair_word t x y) ≡ true → (literal_value σ x +ℤ literal_value σ y) ≤ℤ pair_word t x y
    two_of x y i k true d b e r = ordered x y i k (ltb-true (x / 2) (y / 2) d) r
    two_of x y i k false d true e r =
        rw (+ℤ_comm (literal_value σ x) (literal_value σ y), pair_sym t x y)
        (ordered y x k i (ltb-true (y / 2) (x / 2) e) (rw (pair_sym t x y) at r))
    two_of x y i k false d false e r =
        clash r (pair_none t x y (omega (arith, ltb-false (x / 2) (y / 2) d, ltb-false (y / 2) (x / 2) e)))

-- and the rule of a place is met where its term is
met_place : (In : ℕ → Type 0) (t : List ℤ) (σ : Assignment) (k : ℕ) → TermsMet In t σ → In (higher_at k) → (is_one k ≡ false → In (lower_at k))
    → has_rule (word_at t k) ≡ true → Meets σ (rule_in t k)
met_place In t σ k m high low r = go (is_one k) refl
  where
    go : (b : Bool) → is_one k ≡ b → Meets σ (rule_in t k)
    go true e =
        let word = lone_at t k e in
        rw (rule_one k (word_at t k) e)
        (record { met = rw word at (m.one (higher_at k) high (rw word r)) })
    go false e =
        let word = pair_at t k e in
        rw (rule_two k (word_at t k) e)
        (record { met = rw word at (m.two (lower_at k) (higher_at k) (low e) high (rw word r)) })

-- a place names quantity j + 1 exactly where one of its literals is of that quantity
pub place_named : (j k : ℕ) (c : ℤ) → names (suc j) (rule_at k c) ≡ false → (higher_at k / 2 ≡ j → ⊥) × (is_one k ≡ false → lower_at k / 2 ≡ j → ⊥)
unfolding is_one lower_at
place_named j k c e = (
  λ h. clash (own_named j k c (omega (arith, higher_half k))) e,
  λ o h. clash (four_named j k c (omega (arith, ltb-false (offset_of k) 2 o)) (omega (arith, ltb-false (offset_of k) 2 o))) e,
)

pub higher_named : (k : ℕ) (c : ℤ) → names (suc (higher_at k / 2)) (rule_at k c) ≡ true
higher_named k c = own_named (higher_at k / 2) k c (omega (arith, higher_half k))

pub lower_named : (k : ℕ) (c : ℤ) → is_one k ≡ false → names (suc (lower_at k / 2)) (rule_at k c) ≡ true
unfolding is_one lower_at
lower_named k c o =
    four_named ((offset_of k - 2) / 2 / 2) k c (omega (arith, ltb-false (offset_of k) 2 o)) (omega (arith, ltb-false (offset_of k) 2 o))

pub place_unnamed : (j k : ℕ) (c : ℤ) → (higher_at k / 2 ≡ j → ⊥) → (is_one k ≡ false → lower_at k / 2 ≡ j → ⊥) → names (suc j) (rule_at k c) ≡ false
unfolding is_one lower_at
place_unnamed j k c high low = not_named j k c (λ e. high (omega (arith, higher_half k))) (go (ltb (offset_of k) 2) refl)
  where
    go : (b : Bool) → ltb (offset_of k) 2 ≡ b → (offset_of k < 4 * j + 2) ⊎ (4 * j + 6 ≤ offset_of k)
    go true e = inl (omega (arith, ltb-true (offset_of k) 2 e))
    go false e = far (ltb (offset_of k) (4 * j + 2)) refl
      where
        far : (b : Bool) → ltb (offset_of k) (4 * j + 2) ≡ b → (offset_of k < 4 * j + 2) ⊎ (4 * j + 6 ≤ offset_of k)
        far true f = inl (ltb-true (offset_of k) (4 * j + 2) f)
        far false f =
            let g = ltb-false (offset_of k) (4 * j + 2) f in
            let n = low e in
            inr (omega arith)

-- an assignment satisfies a table where it meets its rules on all literals
pub satisfies_met : (n : ℕ) (t : List ℤ) (σ : Assignment) → block_start n ≤ length t → Satisfies n t σ ↔ TermsMet (Live every n) t σ
satisfies_met n t σ l = (
  λ s. places_met n (Live every n) t σ (λ x i. i.1) (λ k h r high low. s.each k (record { inside = h; there = omega arith; rule = r })),
  λ m. record {
    each = λ k p. met_place (Live every n) t σ k m (refl, at_below n k p.inside)
        (λ e. (refl, omega (arith, at_below n k p.inside, at_lower k e)))
        p.rule;
  },
)

-- and it meets the rules that do not name quantity j + 1 where it meets those on the other literals
pub without_met : (j n : ℕ) (t : List ℤ) (σ : Assignment) → block_start n ≤ length t → SatisfiesWithout (suc j) n t σ ↔ TermsMet (Others every n j) t σ
without_met j n t σ l = (
  λ s. places_met n (Others every n j) t σ (λ x i. i.1)
      (λ k h r high low. s.each k (record { inside = h; there = omega arith; rule = r })
      (place_unnamed j k (word_at t k) high.2 (λ e. (low e).2))),
  λ m. record {
    each = λ k p e.
        let apart = place_named j k (word_at t k) e in
        met_place (Others every n j) t σ k m (refl, at_below n k p.inside, apart.0)
        (λ o. (refl, omega (arith, at_below n k p.inside, at_lower k o), apart.1 o))
        p.rule;
  },
)

-- ---- some of the literals

-- what is met on all literals is met on some,
pub met_some : (In All : ℕ → Type 0) (t : List ℤ) (σ : Assignment) → ((x : ℕ) → In x → All x) → TermsMet All t σ → TermsMet In t σ
met_some In All t σ some m = record {
  one = λ x i r. m.one x (some x i) r;
  two = λ x y i k r. m.two x y (some x i) (some y k) r;
}

-- and so are the sums
pub sums_some : (In All : ℕ → Type 0) (value plus minus : ℕ → ℤ) (p m : ℤ) → ((x : ℕ) → In x → All x)
    → Sums All value plus minus p m → Sums In value plus minus p m
sums_some In All value plus minus p m some s = record {
  both = λ x y i k. s.both x y (some x i) (some y k);
  plus_lone = λ x i. s.plus_lone x (some x i);
  minus_lone = λ x i. s.minus_lone x (some x i);
  lone = s.lone;
}

-- ---- the rules of one quantity

-- its two literals
own_plus : (σ : Assignment) (j : ℕ) → literal_value σ (2 * j) ≡ σ (suc j)
own_plus σ j = value_plus σ (2 * j) (omega arith) ∙ ap σ (omega arith)

own_minus : (σ : Assignment) (j : ℕ) → literal_value σ (2 * j + 1) ≡ neg_ℤ (σ (suc j))
own_minus σ j = value_minus σ (2 * j + 1) (omega arith) ∙ ap (λ (q : ℕ). neg_ℤ (σ q)) (omega arith)

own_cases : (j x : ℕ) → x / 2 ≡ j → (x ≡ 2 * j) ⊎ (x ≡ 2 * j + 1)
own_cases j x e = ⊎_elim (λ s. inl (omega arith)) (λ s. inr (omega arith)) (sign_cases x)

-- the rules of its literals are met exactly where it keeps its bounds
pub own_met : (In : ℕ → Type 0) (t : List ℤ) (σ : Assignment) (j : ℕ) → OwnMet In j t σ ↔ OwnOf In j t σ
own_met In t σ j = (to, of)
  where
    to : OwnMet In j t σ → OwnOf In j t σ
    to m = record {
      with_plus = λ x i r. rw (+ℤ_comm (literal_value σ x) (σ (suc j)), ← own_plus σ j) (m.two (2 * j) x (omega arith) i r);
      with_minus = λ x i r. rw (+ℤ_comm (literal_value σ x) (neg_ℤ (σ (suc j))), ← own_minus σ j) (m.two (2 * j + 1) x (omega arith) i r);
      plus_alone = λ r. rw (← own_plus σ j) (m.one (2 * j) (omega arith) r);
      minus_alone = λ r. rw (← own_minus σ j) (m.one (2 * j + 1) (omega arith) r);
    }

    alone : OwnOf In j t σ → (x : ℕ) → (x ≡ 2 * j) ⊎ (x ≡ 2 * j + 1) → has_rule (lone_word t x) ≡ true → literal_value σ x ≤ℤ lone_word t x
    alone o x (inl e) r = rw (e, own_plus σ j) (o.plus_alone (rw e at r))
    alone o x (inr e) r = rw (e, own_minus σ j) (o.minus_alone (rw e at r))

    across : OwnOf In j t σ → (x y : ℕ) → (x ≡ 2 * j) ⊎ (x ≡ 2 * j + 1) → In y → has_rule (pair_word t x y) ≡ true
        → (literal_value σ x +ℤ literal_value σ y) ≤ℤ pair_word t x y
    across o x y (inl e) k r =
        rw (e, own_plus σ j, +ℤ_comm (σ (suc j)) (literal_value σ y)) (o.with_plus y k (rw e at r))
    across o x y (inr e) k r =
        rw (e, own_minus σ j, +ℤ_comm (neg_ℤ (σ (suc j))) (literal_value σ y)) (o.with_minus y k (rw e at r))

    of : OwnOf In j t σ → OwnMet In j t σ
    of o = record { one = λ x e. alone o x (own_cases j x e); two = λ x y e. across o x y (own_cases j x e) }

-- where all rules are met, the quantity keeps its bounds with the literals In
pub met_own : (In All : ℕ → Type 0) (t : List ℤ) (σ : Assignment) (j : ℕ) → ((x : ℕ) → In x → All x) → All (2 * j) → All (2 * j + 1)
    → TermsMet All t σ → OwnOf In j t σ
met_own In All t σ j some p q m =
    (own_met In t σ j).0
    (record { one = λ x e. m.one x (own x (own_cases j x e)); two = λ x y e i. m.two x y (own x (own_cases j x e)) (some y i) })
  where
    own : (x : ℕ) → (x ≡ 2 * j) ⊎ (x ≡ 2 * j + 1) → All x
    own x (inl e) = rw e p
    own x (inr e) = rw e q

-- where the rules on the other literals are met and the quantity keeps its bounds with those, all are met
pub met_join : (In All : ℕ → Type 0) (t : List ℤ) (σ : Assignment) (j : ℕ) → ((x : ℕ) → All x → In x ⊎ (x / 2 ≡ j))
    → TermsMet In t σ → OwnOf In j t σ → TermsMet All t σ
met_join In All t σ j split m o = record {
  one = λ x a r. one_of x (split x a) r;
  two = λ x y a b r. two_of x y (split x a) (split y b) r;
}
  where
    own : OwnMet In j t σ
    own = (own_met In t σ j).1 o

    one_of : (x : ℕ) → In x ⊎ (x / 2 ≡ j) → has_rule (lone_word t x) ≡ true → literal_value σ x ≤ℤ lone_word t x
    one_of x (inl i) r = m.one x i r
    one_of x (inr e) r = own.one x e r

    two_of : (x y : ℕ) → In x ⊎ (x / 2 ≡ j) → In y ⊎ (y / 2 ≡ j) → has_rule (pair_word t x y) ≡ true
        → (literal_value σ x +ℤ literal_value σ y) ≤ℤ pair_word t x y
    two_of x y (inl i) (inl k) r = m.two x y i k r
    two_of x y (inr e) (inl k) r = own.two x y e k r
    two_of x y (inl i) (inr f) r =
        rw (+ℤ_comm (literal_value σ x) (literal_value σ y), pair_sym t x y)
        (own.two y x f i (rw (pair_sym t x y) at r))
    two_of x y (inr e) (inr f) r = clash r (pair_none t x y (e ∙ sym f))

-- ---- other assignments and other tables

-- the integer of a literal is that of its quantity, with its sign
pub literal_agree : (σ τ : Assignment) (x : ℕ) → σ (quantity_of x) ≡ τ (quantity_of x) → literal_value σ x ≡ literal_value τ x
unfolding literal_value
literal_agree σ τ x e = ap (λ (z : ℤ). cond (eqb (x % 2) 0) z (neg_ℤ z)) e

-- what is met depends on the quantities of the literals alone
pub met_agree : (In : ℕ → Type 0) (t : List ℤ) (σ τ : Assignment) → ((x : ℕ) → In x → σ (quantity_of x) ≡ τ (quantity_of x))
    → TermsMet In t σ → TermsMet In t τ
met_agree In t σ τ same m = record {
  one = λ x i r. rw (← value x i) (m.one x i r);
  two = λ x y i k r. rw (← value x i, ← value y k) (m.two x y i k r);
}
  where
    value : (x : ℕ) → In x → literal_value σ x ≡ literal_value τ x
    value x i = literal_agree σ τ x (same x i)

-- and so do the bounds of one integer and the sums
pub own_agree : (In : ℕ → Type 0) (value other plus minus : ℕ → ℤ) (p m v : ℤ) → ((x : ℕ) → In x → value x ≡ other x)
    → Own In value plus minus p m v → Own In other plus minus p m v
own_agree In value other plus minus p m v same o = record {
  with_plus = λ x i r. rw (← same x i) (o.with_plus x i r);
  with_minus = λ x i r. rw (← same x i) (o.with_minus x i r);
  plus_alone = o.plus_alone;
  minus_alone = o.minus_alone;
}

pub sums_agree : (In : ℕ → Type 0) (value other plus minus : ℕ → ℤ) (p m : ℤ) → ((x : ℕ) → In x → value x ≡ other x)
    → Sums In value plus minus p m → Sums In other plus minus p m
sums_agree In value other plus minus p m same s = record {
  both = λ x y i k a b. rw (← same x i, ← same y k) (s.both x y i k a b);
  plus_lone = λ x i a b. rw (← same x i) (s.plus_lone x i a b);
  minus_lone = λ x i a b. rw (← same x i) (s.minus_lone x i a b);
  lone = s.lone;
}
