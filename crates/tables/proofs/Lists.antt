-- A table made of a list of rules is satisfied exactly by what meets each of them, and holds at each place the smallest bound that they have there. Assumes nothing.
use mathlib.Core.Bool.{Bool, true, false, cond}
use mathlib.Core.Path.{◌≡◌, refl, ◌∙◌, ap}
use mathlib.Core.List.{List, [], ◌∷◌}
use mathlib.Core.Logic.{◌↔◌}
use Prim.Native.Nat.{ℕ, ◌≤◌, ◌<◌}
use native.Mathlib.Omega.{arith}
use lib.Dec.{eqb}
use lib.IntN.{ℤ, pos}
use lib.ListN.{length, get_or-replicate, length-replicate}
use lib.Signed.{lt_z, ◌≤ℤ◌}
use borrow.Author.Tests.{eqb-true, eqb-false}
use Rattle.integers.specs.Bound.{smaller}
use Rattle.integers.proofs.Parts.{linear, lt_z_true, lt_z_false, lt_lt_z, le_lt_z, smaller_left, smaller_right}
use Rattle.words.specs.Change.{word_at, lowered}
use Rattle.words.proofs.Change.{lowered_length, lowered_same, lowered_other}
use Rattle.std.specs.Prelude.{Option, Some, None}
use Rattle.places.specs.Numbering.{block_start}
use Rattle.rules.specs.declared.rule.Rule.{Rule}
use Rattle.rules.specs.Limits.{no_rule}
use Rattle.rules.specs.Meaning.{Assignment, bound_of}
use Rattle.rules.specs.Steps.{halved_of}
use Rattle.std.specs.Prelude.{Ok}
use Rattle.tables.specs.Places.{find_place}
use Rattle.tables.specs.Tables.{has_rule, empty_table, rule_reply, put_at, put_halved, put_rule, put_all, table_of, is_at, smallest_at}
use Rattle.tables.specs.Meaning.{Satisfies, MeetsAll}
use Rattle.tables.proofs.Tests.{clash}
use Rattle.tables.proofs.Putting.{accepted_put}

-- every rule of a list is accepted for n quantities
abbrev pub AllAccepted : ℕ → List Rule → Type 0
AllAccepted n [] = Unit {0}
AllAccepted n (r ∷ rs) = (rule_reply n (halved_of r) ≡ (Ok tt)) × AllAccepted n rs

at_length : (t : List ℤ) (k : Option ℕ) (w : ℤ) → length (put_at t k w) ≡ length t
unfolding put_at
at_length t (Some k) w = lowered_length t k w
at_length t None w = refl

pub put_length : (t : List ℤ) (r : Rule) → length (put_rule t r) ≡ length t
unfolding put_rule put_halved
put_length t r = at_length t (find_place (halved_of r)) (bound_of (halved_of r))

pub put_all_length : (t : List ℤ) (rs : List Rule) → length (put_all t rs) ≡ length t
unfolding put_all
put_all_length t [] = refl
put_all_length t (r ∷ rs) = put_all_length (put_rule t r) rs ∙ put_length t r

pub put_all_meaning : (n : ℕ) (t : List ℤ) (rs : List Rule) (σ : Assignment) → block_start n ≤ length t → AllAccepted n rs
    → Satisfies n (put_all t rs) σ ↔ (Satisfies n t σ × MeetsAll σ rs)
unfolding put_all
put_all_meaning n t [] σ l a = (λ s. (s, tt), λ s. s.0)
put_all_meaning n t (r ∷ rs) σ l a =
    let p = accepted_put n t r σ l a.0 in
    let q = put_all_meaning n (put_rule t r) rs σ (omega (arith, put_length t r)) a.1 in
    (λ s. ((p.0 (q.0 s).0).0, ((p.0 (q.0 s).0).1, (q.0 s).1)), λ m. q.1 (p.1 (m.0, m.1.0), m.1.1))

-- ---- from no rules

pub empty_satisfied : (n : ℕ) (σ : Assignment) → Satisfies n (empty_table n) σ
empty_satisfied n σ = record {
  each = λ k p. clash {b = has_rule no_rule} (rw (get_or-replicate (block_start n) k no_rule (pos 0) p.inside) at p.rule) refl;
}

pub table_of_length : (n : ℕ) (rs : List Rule) → length (table_of n rs) ≡ block_start n
table_of_length n rs = put_all_length (empty_table n) rs ∙ length-replicate (block_start n) no_rule

pub table_of_meaning : (n : ℕ) (rs : List Rule) (σ : Assignment) → AllAccepted n rs → Satisfies n (table_of n rs) σ ↔ MeetsAll σ rs
table_of_meaning n rs σ a =
    let p = put_all_meaning n (empty_table n) rs σ (omega (arith, length-replicate (block_start n) no_rule)) a in
    (λ s. (p.0 s).1, λ m. p.1 (empty_satisfied n σ, m))

-- ---- the smallest bound of each place

-- the smallest of three, in either grouping
smaller_grouped : (a b c : ℤ) → smaller (smaller a b) c ≡ smaller a (smaller b c)
unfolding smaller
smaller_grouped a b c = go (lt_z b a) (lt_z c b) refl refl
  where
    go : (s t : Bool) → lt_z b a ≡ s → lt_z c b ≡ t → smaller (cond s b a) c ≡ smaller a (cond t c b)
    go true true e f = rw (lt_lt_z c a (omega (linear, lt_z_true b a e, lt_z_true c b f)), f)
    go true false e f = rw (e, f)
    go false true e f = refl
    go false false e f = rw (le_lt_z c a (omega (linear, lt_z_false b a e, lt_z_false c b f)), e)

le_through : {a b c : ℤ} → a ≤ℤ b → b ≤ℤ c → a ≤ℤ c
le_through p q = omega linear

-- the no-rule word is above every bound
pub smallest_most : (k : ℕ) (rs : List Rule) → smallest_at k rs ≤ℤ no_rule
unfolding smallest_at
smallest_most k [] = omega linear
smallest_most k (r ∷ rs) = go (is_at k (find_place (halved_of r))) (smallest_most k rs)
  where
    go : (c : Bool) → smallest_at k rs ≤ℤ no_rule → cond c (smaller (bound_of (halved_of r)) (smallest_at k rs)) (smallest_at k rs) ≤ℤ no_rule
    go true l = le_through (smaller_right (bound_of (halved_of r)) (smallest_at k rs)) l
    go false l = l

no_more : (w : ℤ) → w ≤ℤ no_rule → smaller no_rule w ≡ w
unfolding smaller
no_more w l = go (lt_z w no_rule) refl
  where
    go : (c : Bool) → lt_z w no_rule ≡ c → cond c w no_rule ≡ w
    go true e = refl
    go false e = omega (linear, lt_z_false w no_rule e)

-- a rule put in lowers the word of its place alone
at_word : (t : List ℤ) (p : Option ℕ) (w : ℤ) (k : ℕ) → k < length t → word_at (put_at t p w) k ≡ cond (is_at k p) (smaller (word_at t k) w) (word_at t k)
unfolding put_at
at_word t (Some j) w k h = go (eqb k j) refl
  where
    go : (b : Bool) → eqb k j ≡ b → word_at (lowered t j w) k ≡ cond b (smaller (word_at t k) w) (word_at t k)
    go true e = let q : k ≡ j = eqb-true k j e in rw (← q) (lowered_same t k w h)
    go false e = lowered_other t j k w (eqb-false k j e)
at_word t None w k h = refl

put_word : (t : List ℤ) (r : Rule) (k : ℕ) → k < length t
    → word_at (put_rule t r) k ≡ cond (is_at k (find_place (halved_of r))) (smaller (word_at t k) (bound_of (halved_of r))) (word_at t k)
unfolding put_rule put_halved
put_word t r k h = at_word t (find_place (halved_of r)) (bound_of (halved_of r)) k h

put_all_word : (t : List ℤ) (rs : List Rule) (k : ℕ) → k < length t → word_at t k ≤ℤ no_rule → word_at (put_all t rs) k ≡ smaller (word_at t k) (smallest_at k rs)
unfolding put_all smallest_at smaller
put_all_word t [] k h l = rw (le_lt_z no_rule (word_at t k) l)
put_all_word t (r ∷ rs) k h l = go (is_at k (find_place (halved_of r))) (put_word t r k h) (put_all_word (put_rule t r) rs k (rw (put_length t r) h))
  where
    b : ℤ
    b = bound_of (halved_of r)

    v : ℤ
    v = word_at (put_rule t r) k

    go : (c : Bool) → v ≡ cond c (smaller (word_at t k) b) (word_at t k) → (v ≤ℤ no_rule → word_at (put_all (put_rule t r) rs) k ≡ smaller v (smallest_at k rs))
        → word_at (put_all (put_rule t r) rs) k ≡ smaller (word_at t k) (cond c (smaller b (smallest_at k rs)) (smallest_at k rs))
    go true e later = later (rw e (le_through (smaller_left (word_at t k) b) l)) ∙ ap (λ (z : ℤ). smaller z (smallest_at k rs)) e ∙ smaller_grouped (word_at t k) b (smallest_at k rs)
    go false e later = later (rw e l) ∙ ap (λ (z : ℤ). smaller z (smallest_at k rs)) e

-- whatever the order in which the rules are put in
pub table_of_smallest : (n : ℕ) (rs : List Rule) (k : ℕ) → k < block_start n → word_at (table_of n rs) k ≡ smallest_at k rs
table_of_smallest n rs k h =
    put_all_word (empty_table n) rs k (rw (length-replicate (block_start n) no_rule) h) (rw none (omega linear))
    ∙ rw none (no_more (smallest_at k rs) (smallest_most k rs))
  where
    none : word_at (empty_table n) k ≡ no_rule
    none = get_or-replicate (block_start n) k no_rule (pos 0) h
