-- A rule put in: the table is satisfied afterwards exactly by what satisfied it before and meets the rule. Assumes nothing.
use mathlib.Core.Path.{◌≡◌, refl, sym, subst}
use mathlib.Core.Bool.{Bool, true, false, cond, not, ◌&&◌}
use mathlib.Core.List.{List}
use mathlib.Core.Logic.{◌↔◌}
use Prim.Native.Nat.{ℕ, ◌*◌, ◌≤◌, ◌<◌}
use native.Mathlib.Omega.{arith}
use lib.Dec.{eqb, ltb}
use lib.IntN.{ℤ, pos}
use lib.ListN.{length}
use lib.Signed.{◌≤ℤ◌, lt_z}
use borrow.Author.Tests.{eqb-true, eqb-false, ltb-true, not-true}
use Rattle.integers.specs.Bound.{half, smaller}
use Rattle.integers.proofs.Parts.{linear, lt_z_true, lt_z_false, smaller_left, smaller_right, smaller_either}
use Rattle.words.specs.Change.{word_at, lowered}
use Rattle.words.proofs.Change.{lowered_length, lowered_same, lowered_other}
use Rattle.places.specs.Numbering.{block_start}
use Rattle.rules.specs.declared.rule.Rule.{Rule}
use Rattle.rules.specs.declared.rule.Rule.TheVariants.{One, Two, Nothing}
use Rattle.rules.specs.declared.refusal.Refusal.TheVariants.{OutOfLimit, Cancelling, NoAssignment}
use Rattle.rules.specs.Limits.{no_rule}
use Rattle.rules.specs.Literal.{quantity_of, negated}
use Rattle.rules.specs.Meaning.{Assignment, Meets, term_value, bound_of}
use Rattle.rules.specs.Steps.{halved_of}
use Rattle.rules.proofs.Meanings.{halved_meaning}
use Rattle.std.specs.Prelude.{Ok}
use Rattle.tables.specs.Replies.{check}
use Rattle.tables.specs.Places.{rule_at, find_place, HasPlace}
use Rattle.tables.specs.Tables.{has_rule, rule_reply, put_at, put_halved, put_rule}
use Rattle.tables.specs.Meaning.{HoldsRule, rule_in, Satisfies}
use Rattle.tables.proofs.Places.{place_of, has_place_below, found_two}
use Rattle.tables.proofs.Values.{place_value, meets_at, at_meets}
use Rattle.tables.proofs.Tests.{passed, both_true}

-- a word that is at most a rule's bound holds a rule
rule_below : (a b : ℤ) → a ≤ℤ b → has_rule b ≡ true → has_rule a ≡ true
rule_below a b h e = go (has_rule a) refl
  where
    go : (t : Bool) → has_rule a ≡ t → t ≡ true
    go true q = refl
    go false q = let z : ⊥ = omega (linear, lt_z_false a no_rule q, lt_z_true b no_rule e) in absurd z

module _ (n : ℕ) (t : List ℤ) (k : ℕ) (c : ℤ) (σ : Assignment) (l : k < length t) where
  -- at the place itself the new word is at most the old one and at most the bound
  stronger : Meets σ (rule_at k (smaller (word_at t k) c)) → Meets σ (rule_at k (word_at t k)) × Meets σ (rule_at k c)
  stronger m =
      let v : term_value σ (rule_at k (pos 0)) ≤ℤ smaller (word_at t k) c = meets_at σ k (smaller (word_at t k) c) m in (
        at_meets σ k (word_at t k) (omega (linear, smaller_left (word_at t k) c)),
        at_meets σ k c (omega (linear, smaller_right (word_at t k) c)),
      )

  lowered_to : k < block_start n → has_rule c ≡ true → Satisfies n (lowered t k c) σ → Satisfies n t σ × Meets σ (rule_at k c)
  lowered_to b e s = (record { each = λ j p. go j p (eqb j k) refl }, here.1)
    where
      at_k : has_rule (smaller (word_at t k) c) ≡ true → Meets σ (rule_at k (word_at t k)) × Meets σ (rule_at k c)
      at_k r = stronger
          (rw (lowered_same t k c l) at (s.each k (record { inside = b; there = rw (lowered_length t k c) l; rule = rw (lowered_same t k c l) r })))

      here : Meets σ (rule_at k (word_at t k)) × Meets σ (rule_at k c)
      here = at_k (rule_below (smaller (word_at t k) c) c (smaller_right (word_at t k) c) e)

      go : (j : ℕ) → HoldsRule n t j → (d : Bool) → eqb j k ≡ d → Meets σ (rule_in t j)
      go j p true w = rw (eqb-true j k w) here.0
      go j p false w =
          let same : word_at (lowered t k c) j ≡ word_at t j = lowered_other t k j c (eqb-false j k w) in
          rw same at (s.each j (record { inside = p.inside; there = rw (lowered_length t k c) p.there; rule = rw same p.rule }))

  lowered_of : Satisfies n t σ → Meets σ (rule_at k c) → Satisfies n (lowered t k c) σ
  lowered_of s m = record { each = λ j p. go j p.inside (rw (lowered_length t k c) at p.there) p.rule (eqb j k) refl }
    where
      here : k < block_start n → has_rule (word_at (lowered t k c) k) ≡ true → Meets σ (rule_at k (word_at (lowered t k c) k))
      here b =
          rw (lowered_same t k c l)
          (smaller_either (λ z. has_rule z ≡ true → Meets σ (rule_at k z)) (word_at t k) c (λ q. s.each k (record { inside = b; there = l; rule = q })) (λ q. m))

      go : (j : ℕ) → j < block_start n → j < length t → has_rule (word_at (lowered t k c) j) ≡ true → (d : Bool) → eqb j k ≡ d
          → Meets σ (rule_at j (word_at (lowered t k c) j))
      go j h g q true w =
          subst (λ (i : ℕ). i < block_start n → has_rule (word_at (lowered t k c) i) ≡ true → Meets σ (rule_at i (word_at (lowered t k c) i)))
          (sym (eqb-true j k w)) here h q
      go j h g q false w =
          rw (lowered_other t k j c (eqb-false j k w)) (s.each j (record { inside = h; there = g; rule = rw (lowered_other t k j c (eqb-false j k w)) at q }))

-- a rule that has a place, put in there
pub has_place_put : (n : ℕ) (t : List ℤ) (r : Rule) (σ : Assignment) → block_start n ≤ length t → HasPlace n r → has_rule (bound_of r) ≡ true
    → Satisfies n (lowered t (place_of r) (bound_of r)) σ ↔ (Satisfies n t σ × Meets σ r)
has_place_put n t r σ l u e = (to, of)
  where
    b : place_of r < block_start n
    b = has_place_below n r u

    to : Satisfies n (lowered t (place_of r) (bound_of r)) σ → Satisfies n t σ × Meets σ r
    to s =
        let p = lowered_to n t (place_of r) (bound_of r) σ (omega (arith, b)) b e s in
        (p.0, record { met = rw (← place_value n σ r (pos 0) u) (meets_at σ (place_of r) (bound_of r) p.1) })

    of : Satisfies n t σ × Meets σ r → Satisfies n (lowered t (place_of r) (bound_of r)) σ
    of p =
        lowered_of n t (place_of r) (bound_of r) σ (omega (arith, b)) p.0
        (at_meets σ (place_of r) (bound_of r) (rw (place_value n σ r (pos 0) u) p.1.met))

-- ---- which rules are accepted

-- a term that is not doubled
abbrev Single : Rule → Type 0
Single (One x c) = Unit {0}
Single (Two x y c) = x ≡ y → ⊥
Single (Nothing c) = Unit {0}

halved_single : (r : Rule) → Single (halved_of r)
unfolding halved_of
halved_single (One x c) = tt
halved_single (Two x y c) = go (eqb x y) refl
  where
    go : (b : Bool) → eqb x y ≡ b → Single (cond b (One x (half c)) (Two x y c))
    go true e = tt
    go false e = eqb-false x y e
halved_single (Nothing c) = tt

-- literals that are neither alike nor opposite are of different quantities
pub different_quantities : (x y : ℕ) → (x ≡ y → ⊥) → (y ≡ negated x → ⊥) → quantity_of x ≡ quantity_of y → ⊥
different_quantities x y d e q = omega arith

-- what it tells that a halved rule is accepted: it has a place and a bound, or it is bare and always met
pub one_accepted : (n x : ℕ) (c : ℤ) → rule_reply n (One x c) ≡ Ok tt → (x < 2 * n) × (has_rule c ≡ true)
unfolding rule_reply
one_accepted n x c e =
    let p = both_true (ltb x (2 * n)) (has_rule c) (passed _ _ _ e).0 in
    (ltb-true x (2 * n) p.0, p.1)

pub two_accepted : (n x y : ℕ) (c : ℤ) → rule_reply n (Two x y c) ≡ Ok tt
    → (x < 2 * n) × (y < 2 * n) × (has_rule c ≡ true) × (y ≡ negated x → ⊥)
unfolding rule_reply
two_accepted n x y c e =
    let a = passed _ _ _ e in
    let p = both_true (ltb x (2 * n) && ltb y (2 * n)) (has_rule c) a.0 in
    let q = both_true (ltb x (2 * n)) (ltb y (2 * n)) p.0 in
    (ltb-true x (2 * n) q.0, ltb-true y (2 * n) q.1, p.1, eqb-false y (negated x) (not-true _ (passed _ (Ok tt) (Cancelling 0) a.1).0))

pub nothing_accepted : (n : ℕ) (c : ℤ) (σ : Assignment) → rule_reply n (Nothing c) ≡ Ok tt → Meets σ (Nothing c)
unfolding rule_reply
nothing_accepted n c σ e =
    let a = passed (has_rule c) (check (not (lt_z c (pos 0))) NoAssignment (Ok tt)) (OutOfLimit 0) e in
    record { met = omega (linear, lt_z_false c (pos 0) (not-true _ (passed _ (Ok tt) NoAssignment a.1).0)) }

-- ---- an accepted rule, put in

-- a rule that is not doubled
single_put : (n : ℕ) (t : List ℤ) (r : Rule) (σ : Assignment) → block_start n ≤ length t → Single r → rule_reply n r ≡ Ok tt
    → Satisfies n (put_halved t r) σ ↔ (Satisfies n t σ × Meets σ r)
unfolding put_halved put_at find_place place_of
single_put n t (One x c) σ l d e =
    let p = one_accepted n x c e in has_place_put n t (One x c) σ l p.0 p.1
single_put n t (Two x y c) σ l d e =
    let p = two_accepted n x y c e in
    let u : quantity_of x ≡ quantity_of y → ⊥ = different_quantities x y d p.3 in
    rw (found_two x y u) (has_place_put n t (Two x y c) σ l (p.0, p.1, u) p.2)
single_put n t (Nothing c) σ l d e = (λ s. (s, nothing_accepted n c σ e), λ s. s.0)

pub accepted_put : (n : ℕ) (t : List ℤ) (r : Rule) (σ : Assignment) → block_start n ≤ length t → rule_reply n (halved_of r) ≡ Ok tt
    → Satisfies n (put_rule t r) σ ↔ (Satisfies n t σ × Meets σ r)
unfolding put_rule
accepted_put n t r σ l e =
    let p = single_put n t (halved_of r) σ l (halved_single r) e in
    let m = halved_meaning σ r in
    (λ s. ((p.0 s).0, m.0 (p.0 s).1), λ s. p.1 (s.0, m.1 s.1))
