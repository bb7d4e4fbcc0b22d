-- The tightest table: pairing every quantity meets a contradiction exactly where 'no assignment' is document 01's answer; and where it meets none, each word
-- is the least bound of its term. Assumes nothing.
use mathlib.Core.Path.{◌≡◌, refl, ◌∙◌}
use mathlib.Core.Bool.{Bool, true, false}
use mathlib.Core.List.{List}
use mathlib.Core.Logic.{◌↔◌}
use Prim.Native.Nat.{ℕ, ◌*◌, ◌≤◌, ◌<◌}
use native.Mathlib.Omega.{arith}
use lib.IntN.{ℤ, pos, ◌+ℤ◌}
use lib.ListN.{length}
use lib.Signed.{lt_z, ◌≤ℤ◌, ◌<ℤ◌}
use Rattle.integers.specs.Bound.{Within}
use Rattle.integers.proofs.Parts.{linear, positive_part, negative_part, parts_add, lt_z_true, lt_z_false, lt_lt_z}
use Rattle.words.specs.Change.{word_at}
use Rattle.places.specs.Numbering.{block_start, place_of_one, is_one, higher_at, lower_at}
use Rattle.places.proofs.Numbering.{one_below, at_lower, at_below}
use Rattle.rules.specs.Limits.{no_rule}
use Rattle.rules.specs.Meaning.{Assignment, literal_value, Meets}
use Rattle.tables.specs.Places.{rule_at}
use Rattle.tables.specs.Tables.{has_rule}
use Rattle.tables.specs.Meaning.{Satisfies, Satisfiable, Breaks}
use Rattle.tables.proofs.Tests.{clash}
use Rattle.tables.proofs.Values.{meets_at, at_meets}
use Rattle.elimination.specs.Hiding.{every, with_sum, pair_word, lone_word}
use Rattle.elimination.specs.Magnitude.{add_limit}
use Rattle.elimination.proofs.TermWords.{lone_at, pair_at}
use Rattle.elimination.proofs.SumWords.{has_rule_mono, with_sum_word, with_sum_sum, with_sum_elim}
use Rattle.keys.specs.Keys.{refuted}
use Rattle.keys.specs.Inner.{Fits}
use Rattle.keys.proofs.Several.{refuted_false}
use Rattle.keys.proofs.Fitting.{hide_ample}
use Rattle.keys.proofs.Deciding.{decides_refuted}
use Rattle.tightening.specs.Tightening.{pair_up_to, clash_up_to, strengthening, strengthened, tightened}
use Rattle.tightening.specs.Promises.{LeastBound}
use Rattle.tightening.proofs.Pairing.{pair_room, clash_unsatisfiable}
use Rattle.tightening.proofs.Growing.{pair_ample}
use Rattle.tightening.proofs.Holding.{strengthened_at}
use Rattle.tightening.proofs.Lower.{clear_refuted}
use Rattle.tightening.proofs.ReachedBounds.{Reaches, paired_terms, lone_reached, pair_reached}

-- ---- contradictions

-- where no contradiction is met, neither is one by hiding, so some integers satisfy the table
clear_satisfiable : (n : ℕ) (t : List ℤ) → Fits n t → clash_up_to n n t ≡ false → Satisfiable n t
unfolding refuted
clear_satisfiable n t f e = refuted_false n t f.sums.room (hide_ample every n t f) (clear_refuted n n t (omega arith) f.sums.room e)

-- both decisions are the same
pub clash_refuted : (n : ℕ) (t : List ℤ) → Fits n t → clash_up_to n n t ≡ refuted n t
clash_refuted n t f =
    decides_refuted n t (clash_up_to n n t) f
    (λ d σ s. clash_unsatisfiable n n t σ (omega arith) f.sums.room d s)
    (clear_satisfiable n t f)

-- ---- words

-- of a table strengthened: at the place of one literal it is the same,
strengthened_lone : (n : ℕ) (u : List ℤ) (k : ℕ) → block_start n ≤ length u → k < block_start n → is_one k ≡ true
    → word_at (strengthened n u) k ≡ lone_word u (higher_at k)
unfolding strengthening
strengthened_lone n u k l h e = strengthened_at n u k l h ∙ rw (e, lone_at u k e)

-- and at that of two has the sum of their bounds alone put in
strengthened_pair : (n : ℕ) (u : List ℤ) (k : ℕ) → block_start n ≤ length u → k < block_start n → is_one k ≡ false
    → word_at (strengthened n u) k ≡ with_sum (lone_word u (lower_at k)) (lone_word u (higher_at k)) (pair_word u (lower_at k) (higher_at k))
unfolding strengthening
strengthened_pair n u k l h e = strengthened_at n u k l h ∙ rw (e, pair_at u k e)

-- ---- least bounds

-- a word is the least bound of a term where all that satisfies a table keeps it, and every integer is passed that is below it, or any where it is no rule
least_bound : (n : ℕ) (t : List ℤ) (k : ℕ) (w : ℤ) (value : Assignment → ℤ)
    → ((c : ℤ) (σ : Assignment) → Meets σ (rule_at k c) ↔ (value σ ≤ℤ c))
    → ((σ : Assignment) → Satisfies n t σ → has_rule w ≡ true → value σ ≤ℤ w)
    → ((c : ℤ) → (has_rule w ≡ true → c <ℤ w) → Reaches n t value (c +ℤ pos 1))
    → LeastBound n t k w
unfolding positive_part negative_part
least_bound n t k w value meaning kept passed = record {
  met = λ e σ s. (meaning w σ).1 (kept σ s e);
  smaller = λ e c l. broken c (λ d. l);
  none = λ e c. broken c (λ d. clash d e);
}
  where
    broken : (c : ℤ) → (has_rule w ≡ true → c <ℤ w) → Breaks (Satisfies n t) (rule_at k c)
    broken c l =
        let p = passed c l in
        record {
          assignment = p.assignment;
          satisfies = p.satisfies;
          broken = λ m. let h = (meaning c p.assignment).0 m in let g = p.reaches in omega (linear, parts_add c (pos 1));
        }

-- so of the bounds that a table can hold the smaller ones are broken, and no others
pub bound_least : (n : ℕ) (t : List ℤ) (k : ℕ) (w c : ℤ) → LeastBound n t k w → has_rule c ≡ true → (c <ℤ w) ↔ Breaks (Satisfies n t) (rule_at k c)
bound_least n t k w c b held = (to (has_rule w) refl, of (has_rule w) refl (lt_z c w) refl)
  where
    to : (h : Bool) → has_rule w ≡ h → c <ℤ w → Breaks (Satisfies n t) (rule_at k c)
    to true e l = b.smaller e c l
    to false e l = b.none e c

    of : (h : Bool) → has_rule w ≡ h → (l : Bool) → lt_z c w ≡ l → Breaks (Satisfies n t) (rule_at k c) → c <ℤ w
    of h e true d x = omega (linear, lt_z_true c w d)
    of true e false d x =
        let m = meets_at x.assignment k w (b.met e x.assignment x.satisfies) in
        absurd (x.broken (at_meets x.assignment k c (omega (linear, lt_z_false c w d))))
    of false e false d x = omega (linear, lt_z_false w no_rule e, lt_z_true c no_rule held)

-- the rule of a place of one literal bounds it, and that of two their sum
one_meaning : (σ : Assignment) (k : ℕ) (c : ℤ) → is_one k ≡ true → Meets σ (rule_at k c) ↔ (literal_value σ (higher_at k) ≤ℤ c)
unfolding rule_at
one_meaning σ k c e = rw e (λ m. m.met, λ h. record { met = h })

two_meaning : (σ : Assignment) (k : ℕ) (c : ℤ) → is_one k ≡ false
    → Meets σ (rule_at k c) ↔ ((literal_value σ (lower_at k) +ℤ literal_value σ (higher_at k)) ≤ℤ c)
unfolding rule_at
two_meaning σ k c e = rw e (λ m. m.met, λ h. record { met = h })

-- two bounds that add have a sum that is a bound
sum-rule : (a b : ℤ) → Within add_limit a → Within add_limit b → has_rule (a +ℤ b) ≡ true
unfolding positive_part negative_part
sum-rule a b h g = lt_lt_z (a +ℤ b) no_rule (omega (linear, parts_add a b))

-- where pairing meets no contradiction, each word of the tightest table is the least bound of its term
pub tightened_least : (n : ℕ) (t : List ℤ) → Fits n t → clash_up_to n n t ≡ false → (k : ℕ) → k < block_start n
    → LeastBound n t k (word_at (tightened n t) k)
unfolding tightened positive_part negative_part
tightened_least n t f clear k h = go (is_one k) refl
  where
    u : List ℤ
    u = pair_up_to n n t

    x : ℕ
    x = lower_at k

    y : ℕ
    y = higher_at k

    inside : y < 2 * n
    inside = at_below n k h

    σ : Assignment
    σ = (clear_satisfiable n t f clear).assignment

    s : Satisfies n t σ
    s = (clear_satisfiable n t f clear).satisfies

    room : block_start n ≤ length u
    room = pair_room n n t f.sums.room

    next : (c w : ℤ) → c <ℤ w → (c +ℤ pos 1) ≤ℤ w
    next c w l = omega (linear, parts_add c (pos 1))

    one : (c : ℤ) → (has_rule (lone_word u y) ≡ true → c <ℤ lone_word u y) → Reaches n t (λ τ. literal_value τ y) (c +ℤ pos 1)
    one c l = lone_reached n t f y (c +ℤ pos 1) σ inside s (λ r. next c (lone_word u y) (l r))

    -- the bounds alone add, so their sum is a bound
    adds : (z : ℕ) → z < 2 * n → has_rule (lone_word u z) ≡ true → Within add_limit (lone_word u z)
    adds z i =
        let p = one_below n z i in
        (pair_ample n n t f (omega arith)).words.each (place_of_one z) p (omega (arith, room))

    w : ℤ
    w = with_sum (lone_word u x) (lone_word u y) (pair_word u x y)

    two : is_one k ≡ false → (c : ℤ) → (has_rule w ≡ true → c <ℤ w) → Reaches n t (λ τ. literal_value τ x +ℤ literal_value τ y) (c +ℤ pos 1)
    two e c l =
        let o = at_lower k e in
        let under : x < 2 * n = omega (arith, inside) in
        pair_reached n t f x y (c +ℤ pos 1) under inside (λ q. omega arith) σ s
        (λ r. let g = with_sum_word (lone_word u x) (lone_word u y) (pair_word u x y) in
        let d = l (has_rule_mono w (pair_word u x y) g r) in next c (pair_word u x y) (omega linear))
        (λ p q. let g = with_sum_sum (lone_word u x) (lone_word u y) (pair_word u x y) p q in
        let d = l (has_rule_mono w (lone_word u x +ℤ lone_word u y) g (sum-rule (lone_word u x) (lone_word u y) (adds x under p) (adds y inside q))) in
        next c (lone_word u x +ℤ lone_word u y) (omega linear))

    kept : is_one k ≡ false → (τ : Assignment) → Satisfies n t τ → has_rule w ≡ true → (literal_value τ x +ℤ literal_value τ y) ≤ℤ w
    kept e τ z =
        let m = paired_terms n t f τ z in
        let o = at_lower k e in
        with_sum_elim (λ (w : ℤ). has_rule w ≡ true → (literal_value τ x +ℤ literal_value τ y) ≤ℤ w) (lone_word u x) (lone_word u y) (pair_word u x y)
        (m.two x y (refl, omega (arith, inside)) (refl, inside))
        (λ p q r. let a = m.one x (refl, omega (arith, inside)) p in let b = m.one y (refl, inside) q in
        omega (linear, parts_add (literal_value τ x) (literal_value τ y), parts_add (lone_word u x) (lone_word u y)))

    go : (b : Bool) → is_one k ≡ b → LeastBound n t k (word_at (strengthened n u) k)
    go true e =
        rw (strengthened_lone n u k room h e)
        (least_bound n t k (lone_word u y) (λ τ. literal_value τ y) (λ c τ. one_meaning τ k c e)
        (λ τ z. (paired_terms n t f τ z).one y (refl, inside)) one)
    go false e =
        rw (strengthened_pair n u k room h e)
        (least_bound n t k w (λ τ. literal_value τ x +ℤ literal_value τ y) (λ c τ. two_meaning τ k c e) (kept e) (two e))
