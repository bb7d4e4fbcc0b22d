-- The step of hiding a quantity, defined place by place, does just what document 01 says under 'Hiding': of the sums of rules, and of the places that
-- name the quantity, which become no rule. Assumes nothing.
use mathlib.Core.Path.{◌≡◌, refl, sym, ◌∙◌}
use mathlib.Core.Bool.{Bool, true, false}
use mathlib.Core.List.{List}
use mathlib.Core.Logic.{◌⊎◌, inl, inr}
use Prim.Native.Nat.{ℕ, suc, ◌+◌, ◌*◌, ◌/◌, ◌≤◌, ◌<◌}
use native.Mathlib.Omega.{arith}
use lib.Dec.{eqb}
use lib.IntN.{ℤ, pos, +ℤ_comm}
use lib.ListN.{length}
use lib.Signed.{◌≤ℤ◌, ◌<ℤ◌}
use borrow.Author.Tests.{ne_eqb}
use Rattle.integers.proofs.Parts.{linear}
use Rattle.std.specs.Prelude.{Some, None}
use Rattle.words.specs.Change.{word_at}
use Rattle.places.specs.Numbering.{block_start, place_of_one, place_of_pair, is_one, higher_at, lower_at}
use Rattle.places.proofs.Numbering.{at_one, at_lower, at_pair, at_below}
use Rattle.rules.specs.declared.rule.Rule.{Rule}
use Rattle.rules.specs.declared.rule.Rule.TheVariants.{Nothing}
use Rattle.rules.specs.Limits.{no_rule}
use Rattle.rules.specs.Literal.{quantity_of}
use Rattle.rules.specs.Meaning.{bound_of, names}
use Rattle.rules.specs.Steps.{partner_of}
use Rattle.tables.specs.Places.{find_place, HasPlace}
use Rattle.tables.specs.Tables.{has_rule}
use Rattle.tables.specs.Meaning.{rule_in}
use Rattle.tables.proofs.Places.{place_of, has_place_found, has_place_below, names_bound, place_names}
use Rattle.tables.proofs.Without.{cleared_word}
use Rattle.tables.proofs.Tests.{clash}
use Rattle.elimination.specs.Hiding.{every, pair_word, lone_word, paired, contradicts, eliminated}
use Rattle.elimination.specs.ByRules.{RuleWith, IsSum, SumAt, BareSum, HiddenByRules}
use Rattle.elimination.proofs.TermWords.{pair_first, pair_second, pair_apart, pair_at}
use Rattle.elimination.proofs.PairedWords.{lone_elim, lone_lowered, lone_plus, lone_minus, lone_half, pair_elim, pair_lowered, pair_sum}
use Rattle.elimination.proofs.Step.{paired_length}
use Rattle.elimination.proofs.DocumentTerms.{found_one, found_pair, Left, place_left, left_place, ListedOf, EveryRest, listed_rest, rest_listed, NotBelow, clear_listed, bare_found}

-- ---- the sums, listed by words

-- the list has every sum,
sum_listed : (n j : ℕ) (t : List ℤ) (P : Rule → Type 0) → ListedOf n j t P → (u : Rule) → IsSum n j t u → P u
sum_listed n j t P s u i =
    rw i.is (listed_rest n j t P s _ _ _ _ (left (2 * j) i.plus i.with_plus) (left (2 * j + 1) i.minus i.with_minus))
  where
    left : (z : ℕ) (r : Rule) → RuleWith n z t r → Left n z t (partner_of z r) (bound_of r)
    left z r p = rw p.is (place_left n z t p.place p.holds (rw p.is at p.stands))

-- and all that it has are sums
listed_sum : (n j : ℕ) (t : List ℤ) → block_start n ≤ length t → j < n → ListedOf n j t (IsSum n j t)
listed_sum n j t l h = rest_listed n j t (IsSum n j t) sum
  where
    sum : EveryRest n j t (IsSum n j t)
    sum a b c d f g =
        let r = left_place n (2 * j) t a c l (omega arith) f in
        let s = left_place n (2 * j + 1) t b d l (omega arith) g in record {
          plus = rule_in t r.place;
          minus = rule_in t s.place;
          with_plus = record { place = r.place; holds = r.holds; is = refl; stands = r.stands };
          with_minus = record { place = s.place; holds = s.holds; is = refl; stands = s.stands };
          is = rw (r.left, s.left, r.bound, s.bound);
        }

-- ---- where a sum goes

-- a place is one number, and what stands nowhere has none
at_same : (a k : ℕ) → Some a ≡ Some k → a ≡ k
at_same a k e = cc

nowhere_at : (k : ℕ) → None ≡ Some k → ⊥
nowhere_at k e = let z : ◌≡◌ {A = ℕ} 0 1 = cc in omega arith

-- as a bare rule does
bare_nowhere : (u : Rule) (k : ℕ) → u ≡ Nothing (bound_of u) → find_place u ≡ Some k → ⊥
unfolding find_place
bare_nowhere u k q p = nowhere_at k (rw q at p)

module _ (n j : ℕ) (t : List ℤ) (l : block_start n ≤ length t) (h : j < n) where
  -- 'Sums go in by minimum': the word at a sum's place is at most its bound
  pub sum_goes_in : (u : Rule) → IsSum n j t u → (k : ℕ) → find_place u ≡ Some k → word_at (paired every n j t) k ≤ℤ bound_of u
  unfolding find_place
  sum_goes_in = sum_listed n j t (λ (u : Rule). (k : ℕ) → find_place u ≡ Some k → word_at (paired every n j t) k ≤ℤ bound_of u) (record {
    nothing = λ f g k e. absurd (nowhere_at k e);
    cancels = λ x b f g k e. absurd (nowhere_at k e);
    of_plus = λ x b f g k e. rw (← at_same (place_of_one x) k e) (lone_plus every n j t l x b refl f g);
    of_minus = λ x b f g k e. rw (← at_same (place_of_one x) k e, +ℤ_comm (lone_word t (2 * j)) (pair_word t (2 * j + 1) x)) (lone_minus every n j t l x b refl g f);
    alike = λ x b f g k e. rw (← at_same (place_of_one x) k e) (lone_half every n j t l x b refl f g);
    lower = λ x y o b f g k e. rw (← at_same (place_of_pair x y) k (sym (found_pair x y (pos 0) o) ∙ e), ← pair_first (paired every n j t) x y o)
        (pair_sum every n j t l x y (omega arith) b (λ q. omega arith) refl refl f g);
    upper = λ x y o b f g k e. rw (← at_same (place_of_pair x y) k (sym (found_pair x y (pos 0) o) ∙ e), ← pair_second (paired every n j t) x y o)
        (pair_sum every n j t l y x b (omega arith) (λ q. omega arith) refl refl f g);
  })

  -- and nothing else goes in: a word is the one before or the bound of a sum that goes there,
  word_from : (k : ℕ) → k < block_start n → (word_at (paired every n j t) k ≡ word_at t k) ⊎ SumAt n j t k (word_at (paired every n j t) k)
  word_from k b = go (is_one k) refl
    where
      From : ℕ → ℤ → Type 0
      From i w = (w ≡ word_at t i) ⊎ SumAt n j t i w

      listed : ListedOf n j t (IsSum n j t)
      listed = listed_sum n j t l h

      one : (x : ℕ) → x < 2 * n → From (place_of_one x) (lone_word (paired every n j t) x)
      one x b =
          lone_elim every n j t l (From (place_of_one x)) x b (inl refl)
          (λ a f g. inr (record { sum = _; is = listed.of_plus x b f g; place = found_one x _; bound = refl }))
          (λ a f g. inr (record { sum = _; is = listed.of_minus x b g f; place = found_one x _; bound = +ℤ_comm (pair_word t (2 * j + 1) x) (lone_word t (2 * j)) }))
          (λ a f g. inr (record { sum = _; is = listed.alike x b f g; place = found_one x _; bound = refl }))

      two : (x y : ℕ) → x / 2 < y / 2 → y < 2 * n → From (place_of_pair x y) (pair_word (paired every n j t) x y)
      two x y o b =
          pair_elim every n j t l (From (place_of_pair x y)) x y (omega arith) b (inl (pair_first t x y o))
          (λ a c f g. inr (record { sum = _; is = listed.lower x y o b f g; place = found_pair x y _ o; bound = refl }))
          (λ a c f g. inr (record { sum = _; is = listed.upper x y o b f g; place = found_pair x y _ o; bound = refl }))

      go : (c : Bool) → is_one k ≡ c → From k (word_at (paired every n j t) k)
      go true e = rw (at_one k e) at (one (higher_at k) (at_below n k b))
      go false e =
          rw (pair_at (paired every n j t) k e, at_pair k e) at
          (two (lower_at k) (higher_at k) (at_lower k e) (at_below n k b))

  -- and is at most the one before. So it is the least of that one and the bounds of all sums that go there
  word_lowered : (k : ℕ) → k < block_start n → word_at (paired every n j t) k ≤ℤ word_at t k
  word_lowered k b = go (is_one k) refl
    where
      go : (c : Bool) → is_one k ≡ c → word_at (paired every n j t) k ≤ℤ word_at t k
      go true e = rw (at_one k e) at (lone_lowered every n j t l (higher_at k) (at_below n k b))
      go false e =
          let g = at_below n k b in
          rw (pair_at (paired every n j t) k e, pair_at t k e) at (pair_lowered every n j t l (lower_at k) (higher_at k) (omega (arith, at_lower k e)) g)

  -- ---- what a sum is

  -- a sum has a place in the table or is bare,
  sum_places : (u : Rule) → IsSum n j t u → HasPlace n u ⊎ (u ≡ Nothing (bound_of u))
  sum_places = sum_listed n j t (λ (u : Rule). HasPlace n u ⊎ (u ≡ Nothing (bound_of u))) (record {
    nothing = λ f g. inr refl;
    cancels = λ x b f g. inr refl;
    of_plus = λ x b f g. inl b;
    of_minus = λ x b f g. inl b;
    alike = λ x b f g. inl b;
    lower = λ x y o b f g. inl (omega arith, b, λ e. omega arith);
    upper = λ x y o b f g. inl (omega arith, b, λ e. omega arith);
  })

  -- and 'q drops out': it does not name the quantity
  sum_drops : (u : Rule) → IsSum n j t u → names (suc j) u ≡ false
  unfolding names
  sum_drops = sum_listed n j t (λ (u : Rule). names (suc j) u ≡ false) (record {
    nothing = λ f g. refl;
    cancels = λ x b f g. refl;
    of_plus = λ x b f g. other (2 * j) x (omega arith) f;
    of_minus = λ x b f g. other (2 * j + 1) x (omega arith) g;
    alike = λ x b f g. other (2 * j) x (omega arith) f;
    lower = λ x y o b f g. rw (other (2 * j) x (omega arith) f, other (2 * j + 1) y (omega arith) g);
    upper = λ x y o b f g. rw (other (2 * j + 1) x (omega arith) g, other (2 * j) y (omega arith) f);
  })
    where
      other : (z x : ℕ) → z / 2 ≡ j → has_rule (pair_word t z x) ≡ true → eqb (quantity_of x) (suc j) ≡ false
      other z x e f = ne_eqb (quantity_of x) (suc j) (λ q. pair_apart t z x f (omega arith))

  -- ---- contradictions

  -- 'A bare 0 ≤ c with c below 0 is a contradiction',
  bare_contradicts : (c : ℤ) → IsSum n j t (Nothing c) → c <ℤ pos 0 → contradicts every n j t ≡ true
  bare_contradicts c i b = go (contradicts every n j t) refl
    where
      go : (d : Bool) → contradicts every n j t ≡ d → contradicts every n j t ≡ true
      go true e = e
      go false e =
          let k : pos 0 ≤ℤ c = sum_listed n j t NotBelow (clear_listed n j t e) (Nothing c) i in
          let z : ⊥ = omega linear in absurd z

  -- and nothing else is one
  contradicts_bare : contradicts every n j t ≡ true → BareSum n j t
  contradicts_bare =
      bare_found n j t (IsSum n j t) (BareSum n j t) (listed_sum n j t l h) (λ c i b. record { bound = c; is = i; below = b })

  -- ---- the whole step

  -- a hidden table's words: those of the paired one where the place does not name the quantity, no rule where it does
  pub hidden_word : (k : ℕ) → k < block_start n → names (suc j) (rule_in t k) ≡ false → word_at (eliminated n j t) k ≡ word_at (paired every n j t) k
  unfolding eliminated
  hidden_word k b e =
      cleared_word n (suc j) (paired every n j t) k (rw (paired_length every n j t) l) b
      ∙ rw (names_bound (suc j) k (word_at (paired every n j t) k) (word_at t k) ∙ e)

  hidden_blank : (k : ℕ) → k < block_start n → names (suc j) (rule_in t k) ≡ true → word_at (eliminated n j t) k ≡ no_rule
  unfolding eliminated
  hidden_blank k b e =
      cleared_word n (suc j) (paired every n j t) k (rw (paired_length every n j t) l) b
      ∙ rw (names_bound (suc j) k (word_at (paired every n j t) k) (word_at t k) ∙ e)

  -- a sum that has a place goes to one that does not name the quantity,
  pub sum_place : (u : Rule) → IsSum n j t u → (k : ℕ) → find_place u ≡ Some k → (k < block_start n) × (names (suc j) (rule_in t k) ≡ false)
  sum_place u s k p = go (sum_places u s)
    where
      go : HasPlace n u ⊎ (u ≡ Nothing (bound_of u)) → (k < block_start n) × (names (suc j) (rule_in t k) ≡ false)
      go (inl q) =
          let place : place_of u ≡ k = cc (has_place_found n u q) in
          (rw (← place) (has_place_below n u q), rw (← place) (place_names n (suc j) u (word_at t (place_of u)) q ∙ sum_drops u s))
      go (inr q) = absurd (bare_nowhere u k q p)

  -- so the words that name it stay until they are cleared
  pub named_word : (k : ℕ) → k < block_start n → names (suc j) (rule_in t k) ≡ true → word_at (paired every n j t) k ≡ word_at t k
  named_word k b e = go (word_from k b)
    where
      go : (word_at (paired every n j t) k ≡ word_at t k) ⊎ SumAt n j t k (word_at (paired every n j t) k) → word_at (paired every n j t) k ≡ word_at t k
      go (inl q) = q
      go (inr s) = clash e (sum_place s.sum s.is k s.place).1

  -- so the step is document 01's
  pub by_rules : (v : List ℤ) (r : Bool) → r ≡ contradicts every n j t → v ≡ eliminated n j t → HiddenByRules n j t r v
  by_rules v r e d = rw d (record {
    each = λ u s k p. let o = sum_place u s k p in rw (hidden_word k o.0 o.1) (sum_goes_in u s k p);
    lowered = λ k g q. rw (hidden_word k g q) (word_lowered k g);
    some = λ k g q. rw (hidden_word k g q) (word_from k g);
    blank = hidden_blank;
    bare = (λ c. contradicts_bare (sym e ∙ c), λ b. e ∙ bare_contradicts b.bound b.is b.below);
  })
