-- The integers that its rules leave a quantity are those that keep its bounds with live literals; so the integer chosen is one of them, where there
-- is one, and none is nearer to 0. Assumes nothing.
use mathlib.Core.Path.{◌≡◌, refl, ◌∙◌}
use mathlib.Core.Bool.{Bool, true, false}
use mathlib.Core.List.{List}
use mathlib.Core.Logic.{◌↔◌, ◌⊎◌, inl, inr, ⊎_elim}
use Prim.Native.Nat.{ℕ, suc, ◌+◌, ◌*◌, ◌/◌, ◌≤◌, ◌<◌}
use native.Mathlib.Omega.{arith}
use lib.Dec.{eqb, ltb}
use lib.IntN.{ℤ, pos, negsuc, nat_abs, ◌+ℤ◌, +ℤ_comm}
use lib.ListN.{length}
use lib.Signed.{◌≤ℤ◌}
use borrow.Author.Tests.{eqb-true, eqb-false, ltb-true, ltb-false}
use Rattle.integers.specs.Bound.{Within}
use Rattle.integers.proofs.Parts.{positive_part, negative_part}
use Rattle.integers.proofs.Within.{within_to, within_of}
use Rattle.words.specs.Change.{word_at}
use Rattle.places.specs.Numbering.{block_start, place_of_one, place_of_pair, is_one, higher_at, lower_at}
use Rattle.places.proofs.Numbering.{one_below, pair_below, one_block, one_is_one, one_higher, pair-block, pair_offset, pair_higher, pair_lower, at_lower, at_below}
use Rattle.rules.specs.Literal.{quantity_of}
use Rattle.rules.specs.Meaning.{Assignment, literal_value, Meets, names}
use Rattle.tables.specs.Tables.{has_rule}
use Rattle.tables.specs.Meaning.{HoldsRule, rule_in, joined, assignment_of}
use Rattle.tables.proofs.Tests.{clash}
use Rattle.tables.proofs.Places.{own_named, four_named}
use Rattle.elimination.specs.Hiding.{pair_word, lone_word}
use Rattle.elimination.specs.Choosing.{choice}
use Rattle.elimination.specs.Feasible.{MeetsOwn, Feasible}
use Rattle.elimination.proofs.Terms.{Live}
use Rattle.elimination.specs.Promises.{Chosen}
use Rattle.elimination.proofs.Projection.{Own, own_sums, sums_own, chosen_near}
use Rattle.elimination.proofs.TermWords.{pair_apart, pair_first, pair_sym, lone_at, pair_at}
use Rattle.elimination.proofs.Terms.{rule_one, rule_two, lone_met, pair_met, place_unnamed}
use Rattle.elimination.proofs.Terms.{OwnMet, OwnOf, own_met, literal_agree, higher_named, lower_named}
use Rattle.elimination.proofs.Exact.{joined_own, joined_other}
use Rattle.elimination.specs.Inner.{Ready}

-- ---- from the rules of places to those of the quantity's literals and back

module _ (live : ℕ → Bool) (n j : ℕ) (t : List ℤ) (σ : Assignment) (l : block_start n ≤ length t) (h : j < n) where
  -- a place names the quantities of its literals alone
  only_one : (x i : ℕ) → x / 2 ≡ j → names (suc i) (rule_in t (place_of_one x)) ≡ true → i ≡ j
  only_one x i e d = go (eqb i j) refl
    where
      go : (b : Bool) → eqb i j ≡ b → i ≡ j
      go true q = eqb-true i j q
      go false q =
          clash d (place_unnamed i (place_of_one x) _ (λ f. eqb-false i j q (omega (arith, one_higher x))) (λ o f. clash (one_is_one x) o))

  only_two : (x y i : ℕ) → x / 2 < y / 2 → names (suc i) (rule_in t (place_of_pair x y)) ≡ true → (i ≡ x / 2) ⊎ (i ≡ y / 2)
  only_two x y i o d = go (eqb i (x / 2)) refl (eqb i (y / 2)) refl
    where
      go : (b : Bool) → eqb i (x / 2) ≡ b → (c : Bool) → eqb i (y / 2) ≡ c → (i ≡ x / 2) ⊎ (i ≡ y / 2)
      go true p c q = inl (eqb-true i (x / 2) p)
      go false p true q = inr (eqb-true i (y / 2) q)
      go false p false q =
          clash d (place_unnamed i (place_of_pair x y) _ (λ f. eqb-false i (y / 2) q (omega (arith, pair_higher x y o)))
          (λ s f. eqb-false i (x / 2) p (omega (arith, pair_lower x y o))))

  -- the place of a literal of the quantity, alone or with a live one, names no other that is not live
  places_own : MeetsOwn live n j t σ → OwnMet (Live live n) j t σ
  places_own m = record { one = one_of; two = λ x y e i. two_of x y e i (ltb (x / 2) (y / 2)) refl (ltb (y / 2) (x / 2)) refl }
    where
      one_of : (x : ℕ) → x / 2 ≡ j → has_rule (lone_word t x) ≡ true → literal_value σ x ≤ℤ lone_word t x
      one_of x e r =
          let below = one_below n x (omega arith) in
          lone_met σ x (lone_word t x)
          (m.each (place_of_one x) (record { inside = below; there = omega arith; rule = r })
          (own_named j (place_of_one x) _ (one_block x ∙ e))
          (λ i d. inl (only_one x i e d)))

      -- the quantity's literal being the lower or the higher one
      lower_of : (x y : ℕ) → x / 2 ≡ j → Live live n y → x / 2 < y / 2 → has_rule (pair_word t x y) ≡ true
          → (literal_value σ x +ℤ literal_value σ y) ≤ℤ pair_word t x y
      lower_of x y e i o r =
          rw (pair_first t x y o)
          (pair_met σ x y (word_at t (place_of_pair x y)) o
          (m.each (place_of_pair x y) (record { inside = pair_below n x y o i.1; there = omega (arith, pair_below n x y o i.1); rule = rw (pair_first t x y o) at r })
          (four_named j (place_of_pair x y) _ (omega (arith, pair_offset x y o)) (omega (arith, pair_offset x y o)))
          (λ q d. ⊎_elim (λ f. inl (f ∙ e)) (λ f. inr (rw f i.0)) (only_two x y q o d))))

      higher_of : (x y : ℕ) → x / 2 ≡ j → Live live n y → y / 2 < x / 2 → has_rule (pair_word t y x) ≡ true
          → (literal_value σ y +ℤ literal_value σ x) ≤ℤ pair_word t y x
      higher_of x y e i o r =
          let below = pair_below n y x o (omega arith) in
          rw (pair_first t y x o)
          (pair_met σ y x (word_at t (place_of_pair y x)) o
          (m.each (place_of_pair y x) (record { inside = below; there = omega arith; rule = rw (pair_first t y x o) at r })
          (own_named j (place_of_pair y x) _ (pair-block y x o ∙ e))
          (λ q d. ⊎_elim (λ f. inr (rw f i.0)) (λ f. inl (f ∙ e)) (only_two y x q o d))))

      two_of : (x y : ℕ) → x / 2 ≡ j → Live live n y → (a : Bool) → ltb (x / 2) (y / 2) ≡ a → (b : Bool) → ltb (y / 2) (x / 2) ≡ b
          → has_rule (pair_word t x y) ≡ true → (literal_value σ x +ℤ literal_value σ y) ≤ℤ pair_word t x y
      two_of x y e i true f b g r = lower_of x y e i (ltb-true (x / 2) (y / 2) f) r
      two_of x y e i false f true g r =
          rw (+ℤ_comm (literal_value σ x) (literal_value σ y), pair_sym t x y)
          (higher_of x y e i (ltb-true (y / 2) (x / 2) g) (rw (pair_sym t x y) at r))
      two_of x y e i false f false g r =
          absurd (pair_apart t x y r (omega (arith, ltb-false (x / 2) (y / 2) f, ltb-false (y / 2) (x / 2) g)))

  -- and a place that names it and no other that is not live is of such literals
  own_places : OwnMet (Live live n) j t σ → MeetsOwn live n j t σ
  own_places m = record { each = λ k p e only. go k p e only (is_one k) refl (eqb (higher_at k / 2) j) refl (eqb (lower_at k / 2) j) refl }
    where
      -- the quantity of a literal there that is not this one is live
      other_live : (k i : ℕ) → ((i : ℕ) → names (suc i) (rule_in t k) ≡ true → (i ≡ j) ⊎ (live i ≡ true)) → names (suc i) (rule_in t k) ≡ true
          → (i ≡ j → ⊥) → live i ≡ true
      other_live k i only d apart = ⊎_elim (λ e. absurd (apart e)) (λ e. e) (only i d)

      go : (k : ℕ) → HoldsRule n t k → names (suc j) (rule_in t k) ≡ true → ((i : ℕ) → names (suc i) (rule_in t k) ≡ true → (i ≡ j) ⊎ (live i ≡ true))
          → (a : Bool) → is_one k ≡ a → (b : Bool) → eqb (higher_at k / 2) j ≡ b → (c : Bool) → eqb (lower_at k / 2) j ≡ c → Meets σ (rule_in t k)
      go k p e only true d true f c g =
          let word = lone_at t k d in
          rw (rule_one k (word_at t k) d)
          (record { met = rw word at (m.one (higher_at k) (eqb-true (higher_at k / 2) j f) (rw word p.rule)) })
      go k p e only true d false f c g =
          clash e (place_unnamed j k (word_at t k) (eqb-false (higher_at k / 2) j f) (λ o. clash d o))
      go k p e only false d b f true g =
          let word = pair_at t k d in
          let low : lower_at k / 2 ≡ j = eqb-true (lower_at k / 2) j g in
          let apart : higher_at k / 2 ≡ j → ⊥ = λ q. let o = at_lower k d in omega arith in
          let late : Live live n (higher_at k) = (other_live k (higher_at k / 2) only (higher_named k (word_at t k)) apart, at_below n k p.inside) in
          rw (rule_two k (word_at t k) d)
          (record { met = rw word at (m.two (lower_at k) (higher_at k) low late (rw word p.rule)) })
      go k p e only false d true f false g =
          let word = pair_at t k d in
          let high : higher_at k / 2 ≡ j = eqb-true (higher_at k / 2) j f in
          let late : Live live n (lower_at k) = (
            other_live k (lower_at k / 2) only (lower_named k (word_at t k) d) (eqb-false (lower_at k / 2) j g),
            omega (arith, at_lower k d, at_below n k p.inside),
          ) in
          rw (rule_two k (word_at t k) d)
          (record {
            met = rw (+ℤ_comm (literal_value σ (higher_at k)) (literal_value σ (lower_at k)), pair_sym t (higher_at k) (lower_at k), word) at
                (m.two (higher_at k) (lower_at k) high late (rw (pair_sym t (higher_at k) (lower_at k), word) p.rule));
          })
      go k p e only false d false f false g =
          clash e (place_unnamed j k (word_at t k) (eqb-false (higher_at k / 2) j f) (λ o. eqb-false (lower_at k / 2) j g))

-- ---- an integer for the quantity

-- the bounds of quantity j + 1 in a table, kept by v where σ gives the live quantities their values
abbrev Keeps : (ℕ → Bool) → ℕ → ℕ → List ℤ → Assignment → ℤ → Type 0
Keeps live n j t σ v =
    Own (Live live n) (literal_value σ) (pair_word t (2 * j)) (pair_word t (2 * j + 1)) (lone_word t (2 * j)) (lone_word t (2 * j + 1)) v

-- its rules leave a quantity that is not live just the integers that keep its bounds
pub feasible_own : (live : ℕ → Bool) (n j : ℕ) (t : List ℤ) (σ : Assignment) (v : ℤ) → block_start n ≤ length t → j < n
    → Feasible live n j t σ v ↔ Keeps live n j t σ v
feasible_own live n j t σ v l h = (
  λ f. keep ((own_met In t τ j).0 (places_own live n j t τ l h f)),
  λ o. own_places live n j t τ l h ((own_met In t τ j).1 (back o)),
)
  where
    In : ℕ → Type 0
    In = Live live n

    plus : ℕ → ℤ
    plus = pair_word t (2 * j)

    minus : ℕ → ℤ
    minus = pair_word t (2 * j + 1)

    p : ℤ
    p = lone_word t (2 * j)

    m : ℤ
    m = lone_word t (2 * j + 1)

    τ : Assignment
    τ = joined (eqb (suc j)) σ (λ q. v)

    value : τ (suc j) ≡ v
    value = joined_own j σ (λ q. v)

    -- a literal of another quantity has its value from σ; the quantity has no rule with itself
    same : (x : ℕ) → (x / 2 ≡ j → ⊥) → literal_value τ x ≡ literal_value σ x
    same x e = literal_agree τ σ x (joined_other j σ (λ q. v) (quantity_of x) (λ d. e (omega arith)))

    keep : OwnOf In j t τ → Keeps live n j t σ v
    keep o = record {
      with_plus = λ x i r. rw (same x (λ e. pair_apart t (2 * j) x r (omega arith)), value) at (o.with_plus x i r);
      with_minus = λ x i r. rw (same x (λ e. pair_apart t (2 * j + 1) x r (omega arith)), value) at (o.with_minus x i r);
      plus_alone = λ r. rw value at (o.plus_alone r);
      minus_alone = λ r. rw value at (o.minus_alone r);
    }

    back : Keeps live n j t σ v → OwnOf In j t τ
    back o = record {
      with_plus = λ x i r. rw (same x (λ e. pair_apart t (2 * j) x r (omega arith)), value) (o.with_plus x i r);
      with_minus = λ x i r. rw (same x (λ e. pair_apart t (2 * j + 1) x r (omega arith)), value) (o.with_minus x i r);
      plus_alone = λ r. rw value (o.plus_alone r);
      minus_alone = λ r. rw value (o.minus_alone r);
    }

-- ---- the integer chosen

-- an integer is within its magnitude, which is the least such limit
nat_abs_within : (z : ℤ) → Within (pos (nat_abs z)) z
unfolding positive_part negative_part
nat_abs_within (pos v) = within_of (omega arith) (omega arith)
nat_abs_within (negsuc v) = within_of (omega arith) (omega arith)

within_nat_abs : (B : ℕ) (z : ℤ) → Within (pos B) z → nat_abs z ≤ B
unfolding positive_part negative_part
within_nat_abs B (pos v) w = omega (arith, within_to w)
within_nat_abs B (negsuc v) w = omega (arith, within_to w)

-- it is what its contract promises
pub choice_chosen : (live : ℕ → Bool) (n j : ℕ) (t values : List ℤ) (r : ℤ) → Ready n j t → r ≡ choice live n t j values → Chosen live n j t values r
unfolding choice
choice_chosen live n j t values r ready e = record { reply = e; meaning = meaning; nearest = nearest }
  where
    σ : Assignment
    σ = assignment_of values

    own : (v : ℤ) → Feasible live n j t σ v ↔ Keeps live n j t σ v
    own v = feasible_own live n j t σ v ready.room ready.one

    meaning : (v : ℤ) → Feasible live n j t σ v → Feasible live n j t σ r
    meaning v f =
        rw e
        ((own _).1
        (sums_own (Live live n) live (literal_value σ) (pair_word t (2 * j)) (pair_word t (2 * j + 1)) (lone_word t (2 * j)) (lone_word t (2 * j + 1)) (2 * n)
        (λ x a b g. (a, b))
        (λ x i. i)
        (own_sums _ _ _ _ _ _ v ((own v).0 f))))

    nearest : (v : ℤ) → Feasible live n j t σ v → nat_abs r ≤ nat_abs v
    nearest v f =
        within_nat_abs (nat_abs v) r
        (rw e
        (chosen_near (Live live n) (nat_abs v) live (literal_value σ) (pair_word t (2 * j)) (pair_word t (2 * j + 1)) (lone_word t (2 * j)) (lone_word t (2 * j + 1))
        (2 * n) v
        (λ x a b. (a, b))
        ((own v).0 f) (nat_abs_within v)))
