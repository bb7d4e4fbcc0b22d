-- A quantity that no rule names: its literals have no rule, a step on it changes and enlarges nothing, and it stays so through every step. One that
-- is hidden is named by no rule. Assumes nothing.
use mathlib.Core.Path.{◌≡◌, refl, ◌∙◌}
use mathlib.Core.Bool.{Bool, true, false, cond}
use mathlib.Core.List.{List}
use Prim.Native.Nat.{ℕ, suc, ◌+◌, ◌*◌, ◌/◌, ◌≤◌, ◌<◌}
use native.Mathlib.Omega.{arith}
use lib.IntN.{ℤ, pos}
use lib.ListN.{length}
use borrow.Author.Tests.{ne_eqb}
use Rattle.words.specs.Change.{word_at}
use Rattle.words.proofs.Change.{change_nothing}
use Rattle.places.specs.Numbering.{block_start, place_of_one, place_of_pair, is_one, higher_at, lower_at}
use Rattle.places.proofs.Numbering.{one_below, pair_below, one_block, pair-block, pair_offset, at_lower, at_below}
use Rattle.rules.specs.declared.rule.Rule.TheVariants.{One, Two}
use Rattle.rules.specs.Limits.{no_rule}
use Rattle.rules.specs.Literal.{quantity_of, negated}
use Rattle.rules.specs.Meaning.{names}
use Rattle.tables.specs.Places.{rule_at}
use Rattle.tables.specs.Tables.{has_rule, cleared}
use Rattle.tables.specs.Meaning.{rule_in, WordsWithin}
use Rattle.tables.proofs.Places.{own_named, four_named}
use Rattle.tables.proofs.Without.{cleared_word}
use Rattle.tables.proofs.Tests.{clash, neither}
use Rattle.elimination.specs.Hiding.{every, live_at, bare_below, any_bare, pair_word, lone_word, on_one, on_two, pairing, paired, contradicts, eliminated}
use Rattle.elimination.specs.Magnitude.{Unnamed}
use Rattle.elimination.proofs.TermWords.{quantity_cases, pair_same, pair_first, pair_second, pair_sym, lone_at, pair_at}
use Rattle.elimination.proofs.SumWords.{on_one_elim, on_two_elim}
use Rattle.elimination.proofs.PairedWords.{lone_elim, pair_elim}
use Rattle.elimination.proofs.Step.{paired_length, bare_clear, any_bare_clear}
use Rattle.elimination.proofs.Growth.{cleared_within}

-- ---- its literals, and a step on it

module _ (n j : ℕ) (t : List ℤ) (l : block_start n ≤ length t) (u : Unnamed n j t) where
  -- a place that names it holds no rule
  pub unnamed_none : (k : ℕ) → k < block_start n → names (suc j) (rule_in t k) ≡ true → has_rule (word_at t k) ≡ false
  unnamed_none k h e = go (has_rule (word_at t k)) refl
    where
      go : (b : Bool) → has_rule (word_at t k) ≡ b → b ≡ false
      go true r = clash e (u.each k (record { inside = h; there = omega arith; rule = r }))
      go false r = refl

  -- so its literals have none, alone or with another
  pub unnamed_lone : (z : ℕ) → z < 2 * n → z / 2 ≡ j → has_rule (lone_word t z) ≡ false
  unnamed_lone z h e = unnamed_none (place_of_one z) (one_below n z h) (own_named j (place_of_one z) _ (one_block z ∙ e))

  pub unnamed_pair : (z x : ℕ) → z < 2 * n → x < 2 * n → z / 2 ≡ j → has_rule (pair_word t z x) ≡ false
  unnamed_pair z x h g e =
      quantity_cases (has_rule (pair_word t z x) ≡ false) z x
      (λ s. rw (pair_same t z x s))
      (λ o. rw (pair_first t z x o)
      (unnamed_none (place_of_pair z x) (pair_below n z x o g) (four_named j (place_of_pair z x) _ (omega (arith, pair_offset z x o)) (omega (arith, pair_offset z x o)))))
      (λ o. rw (pair_second t x z o)
      (unnamed_none (place_of_pair x z) (pair_below n x z o h) (own_named j (place_of_pair x z) _ (pair-block x z o ∙ e))))

  -- a step on it leaves every word as it is,
  pub unnamed_same : (live : ℕ → Bool) → j < n → paired live n j t ≡ t
  unfolding paired pairing
  unnamed_same live h = change_nothing (block_start n) _ t (λ k b. go k b (live_at live k) (is_one k) refl)
    where
      plus : (x : ℕ) → x < 2 * n → has_rule (pair_word t (2 * j) x) ≡ false
      plus x g = unnamed_pair (2 * j) x (omega arith) g (omega arith)

      minus : (x : ℕ) → x < 2 * n → has_rule (pair_word t (2 * j + 1) x) ≡ false
      minus x g = unnamed_pair (2 * j + 1) x (omega arith) g (omega arith)

      go : (k : ℕ) → k < block_start n → (a b : Bool) → is_one k ≡ b
          → cond a (cond b
          (on_one (pair_word t (2 * j)) (pair_word t (2 * j + 1)) (lone_word t (2 * j)) (lone_word t (2 * j + 1)) (higher_at k) (word_at t k))
          (on_two (pair_word t (2 * j)) (pair_word t (2 * j + 1)) (lower_at k) (higher_at k) (word_at t k))) (word_at t k)
          ≡ word_at t k
      go k b false c e = refl
      go k b true true e =
          on_one_elim (pair_word t (2 * j)) (pair_word t (2 * j + 1)) (lone_word t (2 * j)) (lone_word t (2 * j + 1)) (higher_at k) (word_at t k)
          (λ (w : ℤ). w ≡ word_at t k) refl
          (λ p q. clash p (plus (higher_at k) (at_below n k b)))
          (λ p q. clash p (minus (higher_at k) (at_below n k b)))
          (λ p q. clash p (plus (higher_at k) (at_below n k b)))
      go k b true false e =
          on_two_elim (pair_word t (2 * j)) (pair_word t (2 * j + 1)) (lower_at k) (higher_at k) (word_at t k) (λ (w : ℤ). w ≡ word_at t k) refl
          (λ p q. clash q (minus (higher_at k) (at_below n k b)))
          (λ p q. clash q (plus (higher_at k) (at_below n k b)))

  -- and makes no contradiction
  pub unnamed_clear : (live : ℕ → Bool) → j < n → contradicts live n j t ≡ false
  unfolding contradicts
  unnamed_clear live h =
      (neither (bare_below (lone_word t (2 * j)) (lone_word t (2 * j + 1))) (any_bare live (pair_word t (2 * j)) (pair_word t (2 * j + 1)) (2 * n))).1 (
        (bare_clear (lone_word t (2 * j)) (lone_word t (2 * j + 1))).1 (λ p q. clash p (unnamed_lone (2 * j) (omega arith) (omega arith))),
        (any_bare_clear live (pair_word t (2 * j)) (pair_word t (2 * j + 1)) (2 * n)).1 (λ x f g.
            (bare_clear (pair_word t (2 * j) x) (pair_word t (2 * j + 1) (negated x))).1
            (λ p q. clash p (unnamed_pair (2 * j) x (omega arith) g (omega arith)))),
      )

  -- so hiding it enlarges nothing
  pub eliminated_unnamed_within : (B : ℕ) → j < n → WordsWithin (block_start n) (pos B) t → WordsWithin (block_start n) (pos B) (eliminated n j t)
  unfolding eliminated
  eliminated_unnamed_within B h w = rw (unnamed_same every h) (cleared_within n (suc j) (pos B) t l w)

-- ---- by terms

-- conversely, a quantity whose literals have no rule, alone or with another, is named by none
pub terms_unnamed : (n i : ℕ) (t : List ℤ) → ((z : ℕ) → z < 2 * n → z / 2 ≡ i → has_rule (lone_word t z) ≡ false)
    → ((z x : ℕ) → z < 2 * n → x < 2 * n → z / 2 ≡ i → has_rule (pair_word t z x) ≡ false)
    → Unnamed n i t
unfolding names rule_at
terms_unnamed n i t lone pair = record { each = λ k p. go k p.inside p.rule (is_one k) refl }
  where
    go : (k : ℕ) → k < block_start n → has_rule (word_at t k) ≡ true → (b : Bool) → is_one k ≡ b
        → names (suc i) (cond b (One (higher_at k) (word_at t k)) (Two (lower_at k) (higher_at k) (word_at t k))) ≡ false
    go k h r true e =
        ne_eqb (quantity_of (higher_at k)) (suc i)
        (λ q. clash r (rw (lone_at t k e) at (lone (higher_at k) (at_below n k h) (omega arith))))
    go k h r false e =
        let o = at_lower k e in
        let g = at_below n k h in
        rw (
          ne_eqb (quantity_of (lower_at k)) (suc i)
              (λ q. clash r (rw (pair_at t k e) at (pair (lower_at k) (higher_at k) (omega arith) g (omega arith)))),
          ne_eqb (quantity_of (higher_at k)) (suc i)
              (λ q. clash r (rw (pair_sym t (higher_at k) (lower_at k), pair_at t k e) at (pair (higher_at k) (lower_at k) g (omega arith) (omega arith)))),
        )

-- ---- pairing

-- a step on any quantity leaves it so: every sum for a term that names it is of a rule that names it
pub unnamed_paired : (live : ℕ → Bool) (n j i : ℕ) (t : List ℤ) → block_start n ≤ length t → j < n → Unnamed n i t → Unnamed n i (paired live n j t)
unnamed_paired live n j i t l h u =
    terms_unnamed n i (paired live n j t)
    (λ z b e. lone_elim live n j t l (λ (w : ℤ). has_rule w ≡ false) z b (unnamed_lone n i t l u z b e)
    (λ f p q. clash p (with_own z b e (2 * j) (omega arith)))
    (λ f p q. clash p (with_own z b e (2 * j + 1) (omega arith)))
    (λ f p q. clash p (with_own z b e (2 * j) (omega arith))))
    (λ z x b c e. pair_elim live n j t l (λ (w : ℤ). has_rule w ≡ false) z x b c (unnamed_pair n i t l u z x b c e)
    (λ f g p q. clash p (with_own z b e (2 * j) (omega arith)))
    (λ f g p q. clash q (with_own z b e (2 * j + 1) (omega arith))))
  where
    with_own : (z : ℕ) → z < 2 * n → z / 2 ≡ i → (y : ℕ) → y < 2 * n → has_rule (pair_word t y z) ≡ false
    with_own z b e y c = rw (pair_sym t y z) (unnamed_pair n i t l u z y b c e)

-- ---- clearing

-- clearing the places of any quantity leaves it so
pub unnamed_cleared : (n q i : ℕ) (t : List ℤ) → block_start n ≤ length t → Unnamed n i t → Unnamed n i (cleared n q t)
unnamed_cleared n q i t l u = record {
  each = λ k p. rw (cleared_word n q t k l p.inside)
      (go k p.inside (names q (rule_in t k)) (rw (cleared_word n q t k l p.inside) at p.rule));
}
  where
    go : (k : ℕ) → k < block_start n → (b : Bool) → has_rule (cond b no_rule (word_at t k)) ≡ true
        → names (suc i) (rule_at k (cond b no_rule (word_at t k))) ≡ false
    go k h true r = clash r refl
    go k h false r = u.each k (record { inside = h; there = omega arith; rule = r })

-- and the quantity whose places are cleared is named by no rule
pub cleared_unnamed : (n j : ℕ) (t : List ℤ) → block_start n ≤ length t → Unnamed n j (cleared n (suc j) t)
cleared_unnamed n j t l = record {
  each = λ k p. rw (cleared_word n (suc j) t k l p.inside)
      (go k (names (suc j) (rule_in t k)) refl (rw (cleared_word n (suc j) t k l p.inside) at p.rule));
}
  where
    go : (k : ℕ) (b : Bool) → names (suc j) (rule_in t k) ≡ b → has_rule (cond b no_rule (word_at t k)) ≡ true
        → names (suc j) (rule_at k (cond b no_rule (word_at t k))) ≡ false
    go k true e r = clash r refl
    go k false e r = e

-- ---- hiding

-- a hidden quantity is named by no rule
pub eliminated_unnamed : (n j : ℕ) (t : List ℤ) → block_start n ≤ length t → Unnamed n j (eliminated n j t)
unfolding eliminated
eliminated_unnamed n j t l = cleared_unnamed n j (paired every n j t) (omega (arith, paired_length every n j t))

-- and hiding any other leaves it so
pub unnamed_eliminated : (n j i : ℕ) (t : List ℤ) → block_start n ≤ length t → j < n → Unnamed n i t → Unnamed n i (eliminated n j t)
unfolding eliminated
unnamed_eliminated n j i t l h u =
    unnamed_cleared n (suc j) i (paired every n j t) (omega (arith, paired_length every n j t)) (unnamed_paired every n j i t l h u)
