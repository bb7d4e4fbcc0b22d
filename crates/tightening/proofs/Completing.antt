-- Every quantity paired: the rules that it leaves on visible quantities are exact, for any hidden set; and what it takes to raise the integer of one literal.
-- Assumes nothing.
use mathlib.Core.Path.{◌≡◌, refl, sym, ◌∙◌, ap}
use mathlib.Core.Bool.{Bool, true, false, cond}
use mathlib.Core.List.{List}
use mathlib.Core.Logic.{⊎_elim}
use Prim.Native.Nat.{ℕ, suc, ◌*◌, ◌/◌, ◌%◌, ◌≤◌, ◌<◌}
use native.Mathlib.Numerals.{add-one}
use native.Mathlib.Omega.{arith}
use lib.Dec.{eqb}
use lib.IntN.{ℤ, neg_ℤ, neg_ℤ-neg_ℤ, ◌+ℤ◌, +ℤ_comm}
use lib.ListN.{length}
use lib.Signed.{◌≤ℤ◌}
use borrow.Author.Tests.{le-leb, eqb-true, eqb-false, eq-eqb, ne_eqb}
use Rattle.integers.proofs.Parts.{linear, parts_add, parts_neg}
use Rattle.places.specs.Numbering.{block_start}
use Rattle.rules.specs.Literal.{quantity_of, negated}
use Rattle.rules.specs.Meaning.{Assignment, literal_value}
use Rattle.rules.proofs.Literals.{sign_cases, value_plus, value_minus, value_negated}
use Rattle.tables.specs.Tables.{has_rule}
use Rattle.tables.specs.Meaning.{Satisfies, SheetAllows}
use Rattle.tables.proofs.Tests.{clash}
use Rattle.elimination.specs.Hiding.{every, pair_word, lone_word}
use Rattle.elimination.specs.Magnitude.{Unnamed}
use Rattle.elimination.proofs.Terms.{Live}
use Rattle.elimination.proofs.TermWords.{pair_none, pair_sym}
use Rattle.elimination.proofs.SumWords.{has_rule_mono}
use Rattle.elimination.proofs.Terms.{TermsMet, satisfies_met, literal_agree}
use Rattle.elimination.proofs.Unnamed.{unnamed_lone, unnamed_pair}
use Rattle.keys.specs.Keys.{key_of}
use Rattle.keys.specs.Inner.{Fits}
use Rattle.keys.proofs.Several.{hide_up_to_length, hide_up_to_unnamed, key_exact}
use Rattle.keys.proofs.Fitting.{hide_ample}
use Rattle.tightening.specs.Tightening.{pair_up_to}
use Rattle.tightening.proofs.Lower.{most_lone, most_pair, key_most}

-- ---- visible quantities

-- the literals of the visible quantities of n
abbrev pub Visible : (ℕ → Bool) → ℕ → ℕ → Type 0
Visible hidden n x = (x < 2 * n) × (hidden (quantity_of x) ≡ false)

-- the key keeps the table's length
key_room : (hidden : ℕ → Bool) (n : ℕ) (t : List ℤ) → block_start n ≤ length t → block_start n ≤ length (key_of hidden n t)
unfolding key_of
key_room hidden n t l = omega (arith, hide_up_to_length hidden n n t)

-- no rule of the key names the quantity of a hidden literal
key_hides : (hidden : ℕ → Bool) (n : ℕ) (t : List ℤ) (x : ℕ) → block_start n ≤ length t → x < 2 * n → hidden (quantity_of x) ≡ true
    → Unnamed n (x / 2) (key_of hidden n t)
unfolding key_of
key_hides hidden n t x l h e =
    hide_up_to_unnamed hidden n n (x / 2) t (omega arith) l (rw (le-leb (suc (x / 2)) n (omega arith)) (rw (add-one (x / 2)) at e))

-- what meets the paired table on the visible literals meets the key, which names no others
key_met : (hidden : ℕ → Bool) (n : ℕ) (t : List ℤ) (σ : Assignment) → block_start n ≤ length t → TermsMet (Visible hidden n) (pair_up_to n n t) σ
    → TermsMet (Live every n) (key_of hidden n t) σ
key_met hidden n t σ l m = record {
  one = λ x i r. one_of x i.1 r (hidden (quantity_of x)) refl;
  two = λ x y i k r. two_of x y i.1 k.1 r (hidden (quantity_of x)) refl (hidden (quantity_of y)) refl;
}
  where
    u : List ℤ
    u = pair_up_to n n t

    v : List ℤ
    v = key_of hidden n t

    room : block_start n ≤ length v
    room = key_room hidden n t l

    one_of : (x : ℕ) → x < 2 * n → has_rule (lone_word v x) ≡ true → (b : Bool) → hidden (quantity_of x) ≡ b → literal_value σ x ≤ℤ lone_word v x
    one_of x h r true e = clash r (unnamed_lone n (x / 2) v room (key_hides hidden n t x l h e) x h refl)
    one_of x h r false e =
        let low = most_lone n u v (key_most hidden n t l) x h r in
        let met = m.one x (h, e) (has_rule_mono (lone_word u x) (lone_word v x) low r) in
        omega linear

    two_of : (x y : ℕ) → x < 2 * n → y < 2 * n → has_rule (pair_word v x y) ≡ true → (b : Bool) → hidden (quantity_of x) ≡ b
        → (c : Bool) → hidden (quantity_of y) ≡ c → (literal_value σ x +ℤ literal_value σ y) ≤ℤ pair_word v x y
    two_of x y h k r true e c d = clash r (unnamed_pair n (x / 2) v room (key_hides hidden n t x l h e) x y h k refl)
    two_of x y h k r false e true d =
        clash r (rw (pair_sym v x y) (unnamed_pair n (y / 2) v room (key_hides hidden n t y l k d) y x k h refl))
    two_of x y h k r false e false d =
        let low = most_pair n u v (key_most hidden n t l) x y h k r in
        let met = m.two x y (h, e) (k, d) (has_rule_mono (pair_word u x y) (pair_word v x y) low r) in
        omega linear

-- so hidden values complete it, where some integers satisfy the table
pub visible_completes : (hidden : ℕ → Bool) (n : ℕ) (t : List ℤ) (σ₀ σ : Assignment) → Fits n t → Satisfies n t σ₀
    → TermsMet (Visible hidden n) (pair_up_to n n t) σ → SheetAllows hidden (Satisfies n t) σ
visible_completes hidden n t σ₀ σ f s m =
    (key_exact hidden n t σ₀ (hide_ample hidden n t f) s σ).0
    ((satisfies_met n (key_of hidden n t) σ (key_room hidden n t f.sums.room)).1 (key_met hidden n t σ f.sums.room m))

-- ---- the integer of one literal

-- an assignment changed so that the literal r has the integer v
unfoldable pub changed : Assignment → ℕ → ℤ → Assignment
changed σ r v q = cond (eqb q (quantity_of r)) (cond (eqb (r % 2) 0) v (neg_ℤ v)) (σ q)

-- it has it,
pub changed_own : (σ : Assignment) (r : ℕ) (v : ℤ) → literal_value (changed σ r v) r ≡ v
unfolding changed
changed_own σ r v =
    ⊎_elim
    (λ e. value_plus (changed σ r v) r e ∙ rw (eq-eqb (quantity_of r) (quantity_of r) refl, eq-eqb (r % 2) 0 e))
    (λ e. value_minus (changed σ r v) r e ∙ rw (eq-eqb (quantity_of r) (quantity_of r) refl, ne_eqb (r % 2) 0 (omega arith), neg_ℤ-neg_ℤ))
    (sign_cases r)

-- its negation the negation,
changed_negated : (σ : Assignment) (r : ℕ) (v : ℤ) → literal_value (changed σ r v) (negated r) ≡ neg_ℤ v
changed_negated σ r v = value_negated (changed σ r v) r ∙ ap neg_ℤ (changed_own σ r v)

-- and literals of other quantities have what they had
pub changed_other : (σ : Assignment) (r : ℕ) (v : ℤ) (x : ℕ) → (x / 2 ≡ r / 2 → ⊥) → literal_value (changed σ r v) x ≡ literal_value σ x
unfolding changed
changed_other σ r v x d = literal_agree (changed σ r v) σ x (rw (ne_eqb (quantity_of x) (quantity_of r) (λ e. d (omega arith))))

-- where it is raised, rules with the literal's negation stay met: what else is met stays so where the literal's own bounds leave room
pub raised_met : (In : ℕ → Type 0) (u : List ℤ) (σ : Assignment) (r : ℕ) (v : ℤ) → TermsMet In u σ → literal_value σ r ≤ℤ v
    → (has_rule (lone_word u r) ≡ true → v ≤ℤ lone_word u r)
    → ((z : ℕ) → In z → (z / 2 ≡ r / 2 → ⊥) → has_rule (pair_word u z r) ≡ true → (literal_value σ z +ℤ v) ≤ℤ pair_word u z r)
    → TermsMet In u (changed σ r v)
raised_met In u σ r v m g alone beside = record {
  one = λ x i. one_of x i (eqb (x / 2) (r / 2)) refl (eqb x r) refl;
  two = λ x y i k. two_of x y i k (eqb (x / 2) (r / 2)) refl (eqb (y / 2) (r / 2)) refl;
}
  where
    τ : Assignment
    τ = changed σ r v

    -- the negation falls
    falls : (x : ℕ) → x / 2 ≡ r / 2 → (x ≡ r → ⊥) → literal_value τ x ≤ℤ literal_value σ x
    falls x e d =
        let q : x ≡ negated r = omega arith in
        rw (q, changed_negated σ r v, value_negated σ r) (omega (linear, parts_neg v, parts_neg (literal_value σ r)))

    one_of : (x : ℕ) → In x → (b : Bool) → eqb (x / 2) (r / 2) ≡ b → (c : Bool) → eqb x r ≡ c
        → has_rule (lone_word u x) ≡ true → literal_value τ x ≤ℤ lone_word u x
    one_of x i true e true d h = let q = eqb-true x r d in rw (q, changed_own σ r v) (alone (rw q at h))
    one_of x i true e false d h =
        let low = falls x (eqb-true (x / 2) (r / 2) e) (eqb-false x r d) in
        let met = m.one x i h in
        omega linear
    one_of x i false e c d h = rw (changed_other σ r v x (eqb-false (x / 2) (r / 2) e)) (m.one x i h)

    -- a literal of another quantity with one of this
    across : (z y : ℕ) → In z → In y → (z / 2 ≡ r / 2 → ⊥) → y / 2 ≡ r / 2 → (b : Bool) → eqb y r ≡ b
        → has_rule (pair_word u z y) ≡ true → (literal_value τ z +ℤ literal_value τ y) ≤ℤ pair_word u z y
    across z y i k a e true d h =
        let q = eqb-true y r d in
        rw (q, changed_own σ r v, changed_other σ r v z a) (beside z i a (rw q at h))
    across z y i k a e false d h =
        let low = falls y e (eqb-false y r d) in
        let met = m.two z y i k h in
        rw (changed_other σ r v z a)
        (omega (linear, parts_add (literal_value σ z) (literal_value τ y), parts_add (literal_value σ z) (literal_value σ y)))

    two_of : (x y : ℕ) → In x → In y → (b : Bool) → eqb (x / 2) (r / 2) ≡ b → (c : Bool) → eqb (y / 2) (r / 2) ≡ c
        → has_rule (pair_word u x y) ≡ true → (literal_value τ x +ℤ literal_value τ y) ≤ℤ pair_word u x y
    two_of x y i k true e true d h =
        clash h (pair_none u x y (eqb-true (x / 2) (r / 2) e ∙ sym (eqb-true (y / 2) (r / 2) d)))
    two_of x y i k true e false d h =
        rw (+ℤ_comm (literal_value τ x) (literal_value τ y), pair_sym u x y)
        (across y x k i (eqb-false (y / 2) (r / 2) d) (eqb-true (x / 2) (r / 2) e) (eqb x r) refl (rw (pair_sym u x y) at h))
    two_of x y i k false e true d h =
        across x y i k (eqb-false (x / 2) (r / 2) e) (eqb-true (y / 2) (r / 2) d) (eqb y r) refl h
    two_of x y i k false e false d h =
        rw (changed_other σ r v x (eqb-false (x / 2) (r / 2) e), changed_other σ r v y (eqb-false (y / 2) (r / 2) d)) (m.two x y i k h)
