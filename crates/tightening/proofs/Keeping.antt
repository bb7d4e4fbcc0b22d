-- What tightening keeps, whatever the bounds: the table's length and the words past it, what satisfies it, and the quantities that no rule names. Assumes nothing.
use mathlib.Core.Path.{◌≡◌, refl, ◌∙◌}
use mathlib.Core.Bool.{Bool, true, false}
use mathlib.Core.List.{List}
use Prim.Native.Nat.{ℕ, zero, suc, ◌≤◌, ◌<◌}
use native.Mathlib.Omega.{arith}
use lib.IntN.{ℤ, ◌+ℤ◌}
use lib.ListN.{length, drop}
use lib.Signed.{◌≤ℤ◌}
use Rattle.integers.proofs.Parts.{linear, parts_add}
use Rattle.words.specs.Change.{word_at}
use Rattle.words.proofs.Change.{change_length, change_drop}
use Rattle.places.specs.Numbering.{block_start, higher_at, lower_at}
use Rattle.places.proofs.Numbering.{at_lower, at_below}
use Rattle.rules.specs.Meaning.{Assignment, literal_value, Meets, names}
use Rattle.tables.specs.Places.{rule_at}
use Rattle.tables.specs.Tables.{has_rule}
use Rattle.tables.specs.Meaning.{HoldsRule, rule_in, Satisfies, NamesVisible}
use Rattle.tables.proofs.Tests.{clash}
use Rattle.tables.proofs.Meanings.{in_range}
use Rattle.elimination.specs.Hiding.{lone_word}
use Rattle.elimination.specs.Magnitude.{Unnamed}
use Rattle.elimination.proofs.Terms.{rule_two, place_unnamed, satisfies_met}
use Rattle.elimination.proofs.Unnamed.{unnamed_lone}
use Rattle.keys.proofs.Visible.{visible_unnamed}
use Rattle.tightening.specs.Tightening.{pair_up_to, strengthened, tightened}
use Rattle.tightening.proofs.Pairing.{pair_up_to_length, pair_room, pair_rest, pair_kept, pair_unnamed}
use Rattle.tightening.proofs.Holding.{strengthened_elim}

-- ---- strengthening

-- it keeps the table's length, and the words past it
pub strengthen_length : (n : ℕ) (t : List ℤ) → length (strengthened n t) ≡ length t
unfolding strengthened
strengthen_length n t = change_length (block_start n) _ t

pub strengthen_rest : (n : ℕ) (t : List ℤ) → drop (block_start n) (strengthened n t) ≡ drop (block_start n) t
unfolding strengthened
strengthen_rest n t = change_drop (block_start n) _ t

-- the sum of two bounds is met where both are
two_met : (a b c d : ℤ) → a ≤ℤ c → b ≤ℤ d → (a +ℤ b) ≤ℤ (c +ℤ d)
two_met a b c d h g = omega (linear, parts_add a b, parts_add c d)

-- what satisfies a table satisfies it strengthened,
strengthened_kept : (n : ℕ) (t : List ℤ) (σ : Assignment) → block_start n ≤ length t → Satisfies n t σ → Satisfies n (strengthened n t) σ
strengthened_kept n t σ l s = record { each = λ k p. each k p.inside p.rule }
  where
    each : (k : ℕ) → k < block_start n → has_rule (word_at (strengthened n t) k) ≡ true → Meets σ (rule_in (strengthened n t) k)
    each k h =
        let high = at_below n k h in
        let m = (satisfies_met n t σ l).0 s in
        strengthened_elim (λ (w : ℤ). has_rule w ≡ true → Meets σ (rule_at k w)) n t k l h
        (λ r. s.each k (record { inside = h; there = omega arith; rule = r }))
        (λ e p q r. rw (rule_two k (lone_word t (lower_at k) +ℤ lone_word t (higher_at k)) e) (record {
          met = two_met (literal_value σ (lower_at k)) (literal_value σ (higher_at k)) (lone_word t (lower_at k)) (lone_word t (higher_at k))
              (m.one (lower_at k) (refl, omega (arith, at_lower k e)) p) (m.one (higher_at k) (refl, high) q);
        }))

-- and a quantity that no rule names stays so: it has no bound alone, so its terms get no sum
strengthened_unnamed : (n i : ℕ) (t : List ℤ) → block_start n ≤ length t → Unnamed n i t → Unnamed n i (strengthened n t)
strengthened_unnamed n i t l u = record { each = λ k p. each k p.inside p.rule }
  where
    each : (k : ℕ) → k < block_start n → has_rule (word_at (strengthened n t) k) ≡ true → names (suc i) (rule_in (strengthened n t) k) ≡ false
    each k h =
        let high = at_below n k h in
        strengthened_elim (λ (w : ℤ). has_rule w ≡ true → names (suc i) (rule_at k w) ≡ false) n t k l h
        (λ r. u.each k (record { inside = h; there = omega arith; rule = r }))
        (λ e p q r. place_unnamed i k (lone_word t (lower_at k) +ℤ lone_word t (higher_at k))
        (λ d. clash q (unnamed_lone n i t l u (higher_at k) high d))
        (λ o d. clash p (unnamed_lone n i t l u (lower_at k) (omega (arith, at_lower k e)) d)))

-- ---- the tightest table

-- it has the table's length and the words past it,
pub tightened_length : (n : ℕ) (t : List ℤ) → length (tightened n t) ≡ length t
unfolding tightened
tightened_length n t = strengthen_length n (pair_up_to n n t) ∙ pair_up_to_length n n t

pub tightened_rest : (n : ℕ) (t : List ℤ) → drop (block_start n) (tightened n t) ≡ drop (block_start n) t
unfolding tightened
tightened_rest n t = strengthen_rest n (pair_up_to n n t) ∙ pair_rest n n t

-- what satisfies the table satisfies it,
pub tightened_kept : (n : ℕ) (t : List ℤ) (σ : Assignment) → block_start n ≤ length t → Satisfies n t σ → Satisfies n (tightened n t) σ
unfolding tightened
tightened_kept n t σ l s = strengthened_kept n (pair_up_to n n t) σ (pair_room n n t l) (pair_kept n n t σ (omega arith) l s)

-- and a quantity that no rule names stays so,
tightened_unnamed : (n i : ℕ) (t : List ℤ) → block_start n ≤ length t → Unnamed n i t → Unnamed n i (tightened n t)
unfolding tightened
tightened_unnamed n i t l u = strengthened_unnamed n i (pair_up_to n n t) (pair_room n n t l) (pair_unnamed n n i t (omega arith) l u)

-- so where the rules name visible quantities alone, they still do
pub tightened_visible : (hidden : ℕ → Bool) (n : ℕ) (t : List ℤ) → block_start n ≤ length t → NamesVisible n hidden t → NamesVisible n hidden (tightened n t)
tightened_visible hidden n t l v = record { each = λ k p q e. go k p q e (hidden q) refl }
  where
    hides : (k : ℕ) → HoldsRule n (tightened n t) k → (q : ℕ) → 1 ≤ q → hidden q ≡ true → names q (rule_in (tightened n t) k) ≡ false
    hides k p zero h f = let z : ⊥ = omega arith in absurd z
    hides k p (suc i) h f = (tightened_unnamed n i t l (visible_unnamed hidden n i t v f)).each k p

    go : (k : ℕ) (p : HoldsRule n (tightened n t) k) (q : ℕ) → names q (rule_in (tightened n t) k) ≡ true → (b : Bool) → hidden q ≡ b → b ≡ false
    go k p q e true f = clash e (hides k p q (in_range n (tightened n t) k p q e).0 f)
    go k p q e false f = refl
