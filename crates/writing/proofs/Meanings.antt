-- What the rules written mean: each is the rule that its place holds, so together they mean what the table does, and put into an empty table they
-- give its words back. Assumes nothing.
use mathlib.Core.Path.{◌≡◌, refl, sym, ◌∙◌, ap}
use mathlib.Core.Bool.{Bool, true, false, cond}
use mathlib.Core.List.{List, [], ◌∷◌, ◌++◌}
use mathlib.Core.Logic.{◌↔◌, ⊎_elim}
use Prim.Native.Nat.{ℕ, zero, suc, ◌+◌, ◌/◌, ◌%◌, ◌^◌, ◌≤◌, ◌<◌}
use native.Mathlib.Nat.{add-zero, zero-add, add-suc, suc-add}
use native.Mathlib.Numerals.{add-one}
use native.Mathlib.Omega.{arith}
use lib.IntN.{ℤ, pos, negsuc}
use lib.ListN.{length, take, replicate, length-append, length-take}
use lib.Seq.{length-take-le, get_or-take, get_or_at, set_at, append_snoc}
use lib.Signed.{mag}
use borrow.Author.Tests.{eq-eqb, ne_eqb, ltb-false}
use Rattle.integers.specs.Bound.{smaller}
use Rattle.words.specs.Change.{word_at, lowered}
use Rattle.places.specs.Numbering.{block_start, is_one, higher_at, lower_at}
use Rattle.places.proofs.Numbering.{at_lower}
use Rattle.rules.specs.declared.rule.Rule.{Rule}
use Rattle.rules.specs.declared.rule.Rule.TheVariants.{One, Two, Nothing}
use Rattle.rules.specs.Limits.{no_rule}
use Rattle.rules.specs.Literal.{literal_of}
use Rattle.rules.specs.Meaning.{Assignment, Meets}
use Rattle.rules.specs.Steps.{is_none, rule_of, halved_of}
use Rattle.rules.proofs.Literals.{sign_cases}
use Rattle.tables.specs.Places.{rule_at}
use Rattle.tables.specs.Tables.{has_rule, put_at, put_halved, put_rule, put_all, table_of}
use Rattle.tables.specs.Meaning.{rule_in, Satisfies, MeetsAll}
use Rattle.tables.proofs.Tests.{clash}
use Rattle.tables.proofs.Places.{rule_at_bound, rule_at_found}
use Rattle.lines.specs.Spelling.{signed_quantity, written_rule, written_rules}
use Rattle.writing.specs.Writing.{literal_term, written_of, rules_at, table_rules}

-- ---- a rule

-- the signed number of a literal is that literal's
signed_literal : (x : ℕ) → literal_of (signed_quantity (literal_term x)) ≡ x
signed_literal x = ⊎_elim
    (λ e. rw (ne_eqb (x % 2) 1 (omega arith), add-one (x / 2)) (omega arith))
    (λ e. rw (eq-eqb (x % 2) 1 e, add-one (x / 2)) (omega arith))
    (sign_cases x)

-- and it names a quantity
signed_some : (x : ℕ) → is_none (signed_quantity (literal_term x)) ≡ false
signed_some x = ⊎_elim
    (λ e. rw (ne_eqb (x % 2) 1 (omega arith), add-one (x / 2)))
    (λ e. rw (eq-eqb (x % 2) 1 e, add-one (x / 2)))
    (sign_cases x)

-- a rule as it is written is that rule
pub written-rule : (r : Rule) → written_rule (written_of r) ≡ r
unfolding written_of written_rule rule_of
written-rule (One x c) = rw (signed_some x, signed_literal x)
written-rule (Two x y c) = rw (signed_some x, signed_some y, signed_literal x, signed_literal y)
written-rule (Nothing c) = refl

-- ---- what the rules of words mean

-- the rule of each word that holds one is met, the first being the word of place k
abbrev EachMet : Assignment → ℕ → List ℤ → Type 0
EachMet σ k t = (j : ℕ) → j < length t → has_rule (word_at t j) ≡ true → Meets σ (rule_at (k + j) (word_at t j))

-- one word before others
each_more : (σ : Assignment) (k : ℕ) (w : ℤ) (t : List ℤ) → (has_rule w ≡ true → Meets σ (rule_at k w)) → EachMet σ (suc k) t → EachMet σ k (w ∷ t)
each_more σ k w t first rest zero l e = rw (add-zero k) (first e)
each_more σ k w t first rest (suc j) l e = rw (add-suc k j, ← suc-add k j) (rest j (omega arith) e)

-- and without it
each_less : (σ : Assignment) (k : ℕ) (w : ℤ) (t : List ℤ) → EachMet σ k (w ∷ t) → EachMet σ (suc k) t
each_less σ k w t f j l e = rw (suc-add k j, ← add-suc k j) (f (suc j) (omega arith) e)

-- the rules of words are met exactly where each is
words_meaning : (σ : Assignment) (k : ℕ) (t : List ℤ) → MeetsAll σ (written_rules (rules_at k t)) ↔ EachMet σ k t
unfolding rules_at
words_meaning σ k [] = (λ m j l e. let z : ⊥ = omega arith in absurd z, λ f. tt)
words_meaning σ k (w ∷ t) = go (words_meaning σ (suc k) t) (has_rule w) refl
  where
    go : MeetsAll σ (written_rules (rules_at (suc k) t)) ↔ EachMet σ (suc k) t → (b : Bool) → has_rule w ≡ b
        → MeetsAll σ (written_rules (cond b (written_of (rule_at k w) ∷ rules_at (suc k) t) (rules_at (suc k) t))) ↔ EachMet σ k (w ∷ t)
    go ih true e = (
      λ m. each_more σ k w t (λ h. rw (written-rule (rule_at k w)) at m.0) (ih.0 m.1),
      λ f. (rw (written-rule (rule_at k w), ← add-zero k) (f 0 (omega arith) e), ih.1 (each_less σ k w t f)),
    )
    go ih false e = (λ m. each_more σ k w t (λ h. clash h e) (ih.0 m), λ f. ih.1 (each_less σ k w t f))

-- the words in front are the table's
pub front_word : (m : ℕ) (t : List ℤ) (k : ℕ) → k < length (take m t) → (k < m) × (k < length t) × (word_at (take m t) k ≡ word_at t k)
front_word m t k h =
    let b : k < m = omega (arith, length-take m t) in
    (b, omega (arith, length-take m t), get_or-take m t k (pos 0) b)

-- the rules written mean what the table does
pub table_meaning : (n : ℕ) (t : List ℤ) → block_start n ≤ length t → (σ : Assignment)
    → Satisfies n t σ ↔ MeetsAll σ (written_rules (table_rules n t))
table_meaning n t l σ = (λ s. p.1 (to s), λ m. record { each = λ k h. of (p.0 m) k h.inside h.rule })
  where
    front : List ℤ
    front = take (block_start n) t

    p : MeetsAll σ (written_rules (table_rules n t)) ↔ EachMet σ 0 front
    p = words_meaning σ 0 front

    to : Satisfies n t σ → EachMet σ 0 front
    to s k h e =
        let w = front_word (block_start n) t k h in
        rw (zero-add k, w.2) (s.each k (record { inside = w.0; there = w.1; rule = rw w.2 at e }))

    of : EachMet σ 0 front → (k : ℕ) → k < block_start n → has_rule (word_at t k) ≡ true → Meets σ (rule_in t k)
    of f k b e =
        let h : k < length front = omega (arith, length-take-le (block_start n) t l) in
        let w = front_word (block_start n) t k h in
        rw (zero-add k, w.2) at (f k h (rw w.2 e))

-- ---- the rules of words put in one after the other

-- a rule of a place is not doubled
rule_at_halved : (k : ℕ) (c : ℤ) → halved_of (rule_at k c) ≡ rule_at k c
unfolding rule_at halved_of
rule_at_halved k c = go (is_one k) refl
  where
    go : (b : Bool) → is_one k ≡ b
        → halved_of (cond b (One (higher_at k) c) (Two (lower_at k) (higher_at k) c)) ≡ cond b (One (higher_at k) c) (Two (lower_at k) (higher_at k) c)
    go true e = refl
    go false e = rw (ne_eqb (lower_at k) (higher_at k) (λ q. omega (arith, at_lower k e)))

-- so it goes to its place
rule_at_put : (t : List ℤ) (k : ℕ) (c : ℤ) → put_rule t (rule_at k c) ≡ lowered t k c
unfolding put_rule put_halved put_at
rule_at_put t k c = rw (rule_at_halved k c, rule_at_found k c, rule_at_bound k c)

-- where no rule stands, as the word of its bound
pub put_first : (p t : List ℤ) (k : ℕ) (w : ℤ) → length p ≡ k → has_rule w ≡ true → put_rule (p ++ no_rule ∷ t) (rule_at k w) ≡ p ++ w ∷ t
unfolding lowered smaller
put_first p t k w l e = rule_at_put (p ++ no_rule ∷ t) k w ∙ rw (get_or_at p no_rule t (pos 0) k l, e) (set_at p no_rule t w k l)

-- the no-rule word alone holds no rule
abbrev pub Clean : ℕ → List ℤ → Type 0
Clean m t = (k : ℕ) → k < m → has_rule (word_at t k) ≡ false → word_at t k ≡ no_rule

-- after words p, the rules of the words that follow give these back
words_back : (p t : List ℤ) (k : ℕ) → length p ≡ k → Clean (length t) t
    → put_all (p ++ replicate (length t) no_rule) (written_rules (rules_at k t)) ≡ p ++ t
unfolding rules_at put_all
words_back p [] k l c = refl
words_back p (w ∷ t) k l c =
    go
    (rw (append_snoc p w (replicate (length t) no_rule), append_snoc p w t) at
    (words_back (p ++ w ∷ []) t (suc k) (rw (length-append p (w ∷ [])) (omega arith)) (λ j h e. c (suc j) (omega arith) e)))
    (has_rule w) refl
  where
    with_word : ℤ → List ℤ
    with_word v = p ++ v ∷ replicate (length t) no_rule

    after : List Rule
    after = written_rules (rules_at (suc k) t)

    go : put_all (with_word w) after ≡ p ++ w ∷ t → (b : Bool) → has_rule w ≡ b
        → put_all (with_word no_rule) (written_rules (cond b (written_of (rule_at k w) ∷ rules_at (suc k) t) (rules_at (suc k) t))) ≡ p ++ w ∷ t
    go rest true e =
        ap (λ (r : Rule). put_all (put_rule (with_word no_rule) r) after) (written-rule (rule_at k w))
        ∙ ap (λ (u : List ℤ). put_all u after) (put_first p (replicate (length t) no_rule) k w l e) ∙ rest
    go rest false e = ap (λ (v : ℤ). put_all (with_word v) after) (sym (c 0 (omega arith) e)) ∙ rest

-- the rules written give the table's words back
pub table_back : (n : ℕ) (t : List ℤ) → block_start n ≤ length t → Clean (block_start n) t
    → table_of n (written_rules (table_rules n t)) ≡ take (block_start n) t
table_back n t l c = rw (length-take-le (block_start n) t l) at (words_back [] (take (block_start n) t) 0 refl clean)
  where
    clean : Clean (length (take (block_start n) t)) (take (block_start n) t)
    clean k h e = let w = front_word (block_start n) t k h in w.2 ∙ c k w.0 (rw w.2 at e)

-- ---- words of 64 bits

-- the first m words are of 64 bits
abbrev pub AreWords : ℕ → List ℤ → Type 0
AreWords m t = (k : ℕ) → k < m → mag (word_at t k) < 2 ^ 63

-- the no-rule word is the largest of them
none_largest : (w : ℤ) → mag w < 2 ^ 63 → has_rule w ≡ false → w ≡ no_rule
none_largest (pos v) h e = ap pos (omega (arith, ltb-false v 9223372036854775807 e))
none_largest (negsuc v) h e = clash {b = true} refl e

-- so it alone holds no rule
pub words_clean : (m : ℕ) (t : List ℤ) → AreWords m t → Clean m t
words_clean m t f k h e = none_largest (word_at t k) (f k h) e
