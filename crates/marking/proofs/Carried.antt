-- Document 01's number and values of a verdict tell which verdict it is, and the rule that it carries; those of a refusal tell which refusal. Assumes nothing.
use mathlib.Core.Path.{◌≡◌, refl, sym, ◌∙◌, ap}
use mathlib.Core.Bool.{Bool, true, false, cond}
use mathlib.Core.List.{List, [], ◌∷◌}
use mathlib.Core.Logic.{◌⊎◌, ◌↔◌, inl, inr}
use Prim.Native.Nat.{ℕ, suc, ◌≤◌, ◌+◌, ◌/◌, ◌%◌}
use native.Mathlib.Omega.{arith}
use lib.Dec.{eqb}
use lib.IntN.{ℤ, pos, neg_ℤ}
use lib.ListN.{get_or}
use borrow.Author.Tests.{eqb-true, eqb-false}
use Rattle.words.specs.Change.{word_at}
use Rattle.places.specs.Numbering.{is_one, higher_at, lower_at}
use Rattle.rules.specs.declared.rule.Rule.{Rule}
use Rattle.rules.specs.declared.rule.Rule.TheVariants.{One, Two, Nothing}
use Rattle.rules.specs.declared.refusal.Refusal.{Refusal}
use Rattle.rules.specs.Literal.{literal_of, signed_of}
use Rattle.rules.specs.Meaning.{Assignment, has_term}
use Rattle.rules.specs.Refusal.{refusal_number}
use Rattle.rules.specs.Steps.{trivial_rule, is_none, rule_of}
use Rattle.rules.proofs.Refusals.{refusal_below}
use Rattle.rules.specs.RuleWords.{rule_values, no_rule_words, rule_words, rule_of_words}
use Rattle.tables.specs.Places.{rule_at}
use Rattle.tables.specs.Meaning.{Unsatisfiable, Solutions}
use Rattle.keys.specs.Keys.{key_of}
use Rattle.tables.proofs.Tests.{clash}
use Rattle.marking.specs.declared.verdict.Verdict.{Verdict}
use Rattle.marking.specs.declared.verdict.Verdict.TheVariants.{Equal, Loose, Tight}
use Rattle.marking.specs.Verdicts.{verdict_number}
use Rattle.marking.specs.Meaning.{FirstBroken, LooseRule, BreaksCarried, LooseShown, TightShown}

-- ---- a refusal

-- a verdict's number is at least 100
pub verdict_from : (v : Verdict) → 100 ≤ verdict_number v
verdict_from Equal = omega arith
verdict_from (Loose r) = omega arith
verdict_from (Tight r) = omega arith

-- so it is no refusal's
pub verdict_refusal : (v : Verdict) (f : Refusal) → verdict_number v ≡ refusal_number f → ⊥
verdict_refusal v f e = omega (arith, e, verdict_from v, refusal_below f)

-- ---- a rule that is carried

-- the literal of a signed quantity number is the literal that it was made of
signed_back : (x : ℕ) → literal_of (signed_of x) ≡ x
signed_back x = go (eqb (x % 2) 0) refl
  where
    next : x / 2 + 1 ≡ suc (x / 2)
    next = omega arith

    go : (b : Bool) → eqb (x % 2) 0 ≡ b → literal_of (cond b (pos (x / 2 + 1)) (neg_ℤ (pos (x / 2 + 1)))) ≡ x
    go true e = rw next (let z = eqb-true (x % 2) 0 e in omega arith)
    go false e = rw next (let z = eqb-false (x % 2) 0 e in omega arith)

-- the rule of some values
unfoldable rule_for : List ℤ → Rule
rule_for [] = trivial_rule
rule_for (p ∷ []) = trivial_rule
rule_for (p ∷ c ∷ []) = One (literal_of p) c
rule_for (p ∷ q ∷ c ∷ zs) = Two (literal_of p) (literal_of q) c

-- it is the rule that has them, where that has a term
rule_for_values : (r : Rule) → has_term r ≡ true → rule_for (rule_values r) ≡ r
unfolding rule_for
rule_for_values (One x c) e = rw (signed_back x)
rule_for_values (Two x y c) e = rw (signed_back x, signed_back y)
rule_for_values (Nothing c) e = clash e refl

-- has a list a first element?
unfoldable has_first : List ℤ → Bool
has_first [] = false
has_first (z ∷ zs) = true

-- a rule has a term exactly where it has values
term_first : (r : Rule) → has_first (rule_values r) ≡ has_term r
unfolding has_first
term_first (One x c) = refl
term_first (Two x y c) = refl
term_first (Nothing c) = refl

-- rules with the same values both have a term or both have none
same_term : (r s : Rule) → rule_values r ≡ rule_values s → has_term r ≡ has_term s
same_term r s e = sym (term_first r) ∙ ap has_first e ∙ term_first s

-- so two rules with the same values are the same, or neither has a term
same_rule : (r s : Rule) → rule_values r ≡ rule_values s → (r ≡ s) ⊎ ((has_term r ≡ false) × (has_term s ≡ false))
same_rule r s e = go (has_term r) refl
  where
    go : (b : Bool) → has_term r ≡ b → (r ≡ s) ⊎ ((has_term r ≡ false) × (has_term s ≡ false))
    go true h = inl (sym (rule_for_values r h) ∙ ap rule_for e ∙ rule_for_values s (sym (same_term r s e) ∙ h))
    go false h = inr (h, sym (same_term r s e) ∙ h)

-- ---- its words for a host

-- a signed quantity number names a quantity
signed_some : (x : ℕ) → is_none (signed_of x) ≡ false
signed_some x = go (eqb (x % 2) 0)
  where
    next : x / 2 + 1 ≡ suc (x / 2)
    next = omega arith

    go : (b : Bool) → is_none (cond b (pos (x / 2 + 1)) (neg_ℤ (pos (x / 2 + 1)))) ≡ false
    go true = rw next refl
    go false = rw next refl

-- the rule of a rule's words has its values
pub words_values : (r : Rule) → rule_values (rule_of_words (rule_words r)) ≡ rule_values r
unfolding rule_of
words_values (One x c) = rw (signed_some x, signed_back x)
words_values (Two x y c) = rw (signed_some x, signed_some y, signed_back x, signed_back y)
words_values (Nothing c) = refl

-- so the words of a rule with a term are not all 0
signed_word : (x : ℕ) {q c : ℤ} → signed_of x ∷ q ∷ c ∷ [] ≡ no_rule_words → ⊥
signed_word x e = clash (ap (λ (w : List ℤ). is_none (get_or w 0 (pos 0))) e) (signed_some x)

-- and those of one without are
pub words_none : (r : Rule) → (rule_words r ≡ no_rule_words) ↔ (has_term r ≡ false)
words_none (One x c) = (λ e. absurd (signed_word x e), λ e. clash refl e)
words_none (Two x y c) = (λ e. absurd (signed_word x e), λ e. clash refl e)
words_none (Nothing c) = (λ e. refl, λ e. refl)

-- a place's rule has a term
pub rule_at_term : (k : ℕ) (c : ℤ) → has_term (rule_at k c) ≡ true
unfolding rule_at
rule_at_term k c = go (is_one k)
  where
    go : (b : Bool) → has_term (cond b (One (higher_at k) c) (Two (lower_at k) (higher_at k) c)) ≡ true
    go true = refl
    go false = refl

-- so the words of a loose verdict's rule are all 0 exactly where no integers satisfy the sheet
pub loose_words : (hidden : ℕ → Bool) (n : ℕ) (sheet : List ℤ) (script : Solutions) (r : Rule) → LooseRule hidden n sheet script r
    → Unsatisfiable n sheet ↔ (rule_words r ≡ no_rule_words)
loose_words hidden n sheet script r (inl x) = (λ none. (words_none r).1 x.1, λ e. x.0)
loose_words hidden n sheet script r (inr x) = (
  λ none. absurd (none x.0.assignment x.0.satisfies),
  λ e. clash (ap has_term x.1.is ∙ rule_at_term x.1.place (word_at (key_of hidden n sheet) x.1.place)) ((words_none r).0 e),
)

-- a rule with no term asks nothing to be broken
bare_broken : (σ : Assignment) (r : Rule) → has_term r ≡ false → BreaksCarried σ r
bare_broken σ (One x c) e = clash refl e
bare_broken σ (Two x y c) e = clash refl e
bare_broken σ (Nothing c) e = tt

-- ---- what is known of the rule that a verdict carries is known of any rule with its values

module _ (r s : Rule) (e : rule_values r ≡ rule_values s) where
  -- the first broken rule is returned by its values alone
  pub first_alike : (n : ℕ) (rules : List ℤ) (paper : Solutions) → FirstBroken n rules paper r → FirstBroken n rules paper s
  first_alike n rules paper f = go (same_rule r s e)
    where
      go : (r ≡ s) ⊎ ((has_term r ≡ false) × (has_term s ≡ false)) → FirstBroken n rules paper s
      go (inl d) = rw d at f
      go (inr h) = clash (ap has_term f.is ∙ rule_at_term f.place (word_at rules f.place)) h.0

  -- so is the rule of a loose verdict
  pub loose_alike : (hidden : ℕ → Bool) (n : ℕ) (sheet : List ℤ) (script : Solutions) → LooseRule hidden n sheet script r → LooseRule hidden n sheet script s
  loose_alike hidden n sheet script (inl h) = inl (h.0, sym (same_term r s e) ∙ h.1)
  loose_alike hidden n sheet script (inr h) = inr (h.0, first_alike n _ script h.1)

  -- and what breaks the one rule breaks the other
  breaks_alike : (σ : Assignment) → BreaksCarried σ r → BreaksCarried σ s
  breaks_alike σ b = go (same_rule r s e)
    where
      go : (r ≡ s) ⊎ ((has_term r ≡ false) × (has_term s ≡ false)) → BreaksCarried σ s
      go (inl d) = rw d at b
      go (inr h) = bare_broken σ s h.1

  -- so the same assignment shows a loose verdict
  pub loose_shown_alike : (n : ℕ) (hidden : ℕ → Bool) (sheet script : Solutions) (values : List ℤ) → LooseShown n hidden sheet script r values
      → LooseShown n hidden sheet script s values
  loose_shown_alike n hidden sheet script values l = record {
    allowed = l.allowed;
    incomplete = l.incomplete;
    breaks = breaks_alike _ l.breaks;
    zero = l.zero;
    there = l.there;
    range = l.range;
  }

  -- and a tight one
  pub tight_shown_alike : (n : ℕ) (hidden : ℕ → Bool) (sheet script : Solutions) (values : List ℤ) → TightShown n hidden sheet script r values
      → TightShown n hidden sheet script s values
  tight_shown_alike n hidden sheet script values t = record {
    complete = t.complete;
    forbidden = t.forbidden;
    breaks = breaks_alike _ t.breaks;
    there = t.there;
    range = t.range;
  }
