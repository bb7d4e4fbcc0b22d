-- A rule is breakable exactly when some assignment of the table breaks it, and the first broken rule by place is the first such. Assumes nothing.
use mathlib.Core.Path.{◌≡◌, refl, ◌∙◌, ap}
use mathlib.Core.Bool.{Bool, true, false, not, ◌&&◌}
use mathlib.Core.List.{List, [], ◌∷◌}
use mathlib.Core.Logic.{◌↔◌, ◌⊎◌, inl, inr}
use Prim.Native.Nat.{ℕ, zero, suc, ◌+◌, ◌≤◌, ◌<◌}
use native.Mathlib.Nat.{add-zero, zero-add}
use native.Mathlib.Omega.{arith}
use lib.IntN.{ℤ, pos}
use lib.ListN.{length, take}
use lib.Seq.{length-take-le, get_or-take}
use Rattle.integers.specs.Bound.{opposite_bound}
use Rattle.words.specs.Change.{word_at}
use Rattle.places.specs.Numbering.{block_start}
use Rattle.rules.specs.declared.rule.Rule.{Rule}
use Rattle.rules.specs.Meaning.{has_term}
use Rattle.rules.specs.Steps.{trivial_rule, opposite_of}
use Rattle.tables.specs.Places.{rule_at}
use Rattle.tables.specs.Tables.{has_rule, put_rule}
use Rattle.tables.specs.Meaning.{HoldsRule, rule_in, Satisfies, Solutions, Breaks}
use Rattle.tables.proofs.Tests.{clash, both_true}
use Rattle.elimination.specs.Hiding.{every}
use Rattle.keys.specs.Keys.{refuted}
use Rattle.keys.specs.Inner.{Fits}
use Rattle.keys.proofs.Several.{refuted_true, refuted_false}
use Rattle.keys.proofs.Fitting.{hide_ample}
use Rattle.marking.specs.Meaning.{FirstAt, FirstBroken}
use Rattle.marking.specs.Marking.{breakable, first_rule, first_broken}
use Rattle.marking.proofs.Carried.{rule_at_term}
use Rattle.keys.proofs.Opposites.{opposed_satisfies}

-- none of a table's rules is broken by a paper
abbrev pub NoneBroken : ℕ → List ℤ → Solutions → Type 0
NoneBroken n rules paper = (k : ℕ) → HoldsRule n rules k → Breaks paper (rule_in rules k) → ⊥

-- a rule is breakable exactly when some assignment of the table breaks it
pub breakable_exactly : (n : ℕ) (t : List ℤ) (k : ℕ) (c : ℤ) → block_start n ≤ length t → k < block_start n → has_rule (opposite_bound c) ≡ true
    → Fits n (put_rule t (opposite_of (rule_at k c))) → (breakable n t (rule_at k c) ≡ true) ↔ Breaks (Satisfies n t) (rule_at k c)
unfolding breakable
breakable_exactly n t k c l h e f = go (refuted n u) refl
  where
    u : List ℤ
    u = put_rule t (opposite_of (rule_at k c))

    go : (b : Bool) → refuted n u ≡ b → (not b ≡ true) ↔ Breaks (Satisfies n t) (rule_at k c)
    go true d = (
      λ w. clash w refl,
      λ w. absurd (refuted_true n u (hide_ample every n u f) d w.assignment
          ((opposed_satisfies n t k c l h e w.assignment).1 (w.satisfies, w.broken))),
    )
    go false d =
        let s = refuted_false n u f.sums.room (hide_ample every n u f) d in
        let p = (opposed_satisfies n t k c l h e s.assignment).0 s.satisfies in
        (λ w. record { assignment = s.assignment; satisfies = p.0; broken = p.1 }, λ w. refl)

-- ---- the first of several words that passes a test

-- the test of the word w of place k
abbrev test : (Rule → Bool) → ℕ → ℤ → Bool
test broken k w = has_rule w && broken (rule_at k w)

-- the word at i is the first that passes, of words of which the first is that of place k
record Found (broken : Rule → Bool) (k : ℕ) (ws : List ℤ) (i : ℕ) : Type 0 where
  inside : i < length ws
  passes : test broken (k + i) (word_at ws i) ≡ true
  before : (j : ℕ) → j < i → test broken (k + j) (word_at ws j) ≡ false

-- none passes
abbrev None : (Rule → Bool) → ℕ → List ℤ → Type 0
None broken k ws = (j : ℕ) → j < length ws → test broken (k + j) (word_at ws j) ≡ false

-- the test of a word, its place counted from the second word on
later : (broken : Rule → Bool) (k j : ℕ) (w : ℤ) (b : Bool) → test broken (k + suc j) w ≡ b → test broken (suc k + j) w ≡ b
later broken k j w b e = ap (λ (i : ℕ). test broken i w) (omega arith) ∙ e

-- where some word passes, the rule of the first such is the first rule
found_first : (broken : Rule → Bool) (k : ℕ) (ws : List ℤ) (i : ℕ) → Found broken k ws i → first_rule broken k ws ≡ rule_at (k + i) (word_at ws i)
unfolding first_rule
found_first broken k [] i f = let z : ⊥ = omega (arith, f.inside) in absurd z
found_first broken k (w ∷ ws) zero f = rw (add-zero k) (rw (rw (add-zero k) at f.passes))
found_first broken k (w ∷ ws) (suc i) f =
    rw (rw (add-zero k) at (f.before 0 (omega arith)))
    (found_first broken (suc k) ws i (record {
      inside = omega (arith, f.inside);
      passes = later broken k i (word_at ws i) true f.passes;
      before = λ j h. later broken k j (word_at ws j) false (f.before (suc j) (omega arith));
    }) ∙ ap (λ (j : ℕ). rule_at j (word_at ws i)) (omega arith))

-- where none passes, it is the trivial rule
none_first : (broken : Rule → Bool) (k : ℕ) (ws : List ℤ) → None broken k ws → first_rule broken k ws ≡ trivial_rule
unfolding first_rule
none_first broken k [] f = refl
none_first broken k (w ∷ ws) f =
    rw (rw (add-zero k) at (f 0 (omega arith)))
    (none_first broken (suc k) ws (λ j h. later broken k j (word_at ws j) false (f (suc j) (omega arith))))

-- some word passes
record Some (broken : Rule → Bool) (k : ℕ) (ws : List ℤ) : Type 0 where
  place : ℕ
  found : Found broken k ws place

-- where the first word fails, and m words after it, all of these fail
one_more_lem : (broken : Rule → Bool) (k m : ℕ) (w : ℤ) (ws : List ℤ) → test broken k w ≡ false
    → ((j : ℕ) → j < m → test broken (suc k + j) (word_at ws j) ≡ false)
    → (j : ℕ) → j < suc m → test broken (k + j) (word_at (w ∷ ws) j) ≡ false
one_more_lem broken k m w ws e f zero h = rw (add-zero k) e
one_more_lem broken k m w ws e f (suc j) h = ap (λ (i : ℕ). test broken i (word_at ws j)) (omega arith) ∙ f j (omega arith)

-- either some word passes or none does
some_or_none : (broken : Rule → Bool) (k : ℕ) (ws : List ℤ) → Some broken k ws ⊎ None broken k ws
some_or_none broken k [] = inr (λ j h. let z : ⊥ = omega arith in absurd z)
some_or_none broken k (w ∷ ws) = go (test broken k w) refl (some_or_none broken (suc k) ws)
  where
    go : (b : Bool) → test broken k w ≡ b → Some broken (suc k) ws ⊎ None broken (suc k) ws → Some broken k (w ∷ ws) ⊎ None broken k (w ∷ ws)
    go true e s = inl (record {
      place = 0;
      found = record { inside = omega arith; passes = rw (add-zero k) e; before = λ j h. let z : ⊥ = omega arith in absurd z };
    })
    go false e (inl s) = inl (record {
      place = suc s.place;
      found = record {
        inside = omega (arith, s.found.inside);
        passes = ap (λ (i : ℕ). test broken i (word_at ws s.place)) (omega arith) ∙ s.found.passes;
        before = one_more_lem broken k s.place w ws e s.found.before;
      };
    })
    go false e (inr f) = inr (one_more_lem broken k (length ws) w ws e f)

-- ---- the first rule that is broken

-- whether a rule of one table is breakable in another is decided rightly
abbrev pub Exactly : ℕ → List ℤ → List ℤ → Type 0
Exactly n rules t = (k : ℕ) → HoldsRule n rules k → (breakable n t (rule_in rules k) ≡ true) ↔ Breaks (Satisfies n t) (rule_in rules k)

module _ (n : ℕ) (rules t : List ℤ) (l : block_start n ≤ length rules) (x : Exactly n rules t) where
  -- the words that are looked through
  abbrev front : List ℤ
  front = take (block_start n) rules

  -- they are as many as the table has places
  size : length front ≡ block_start n
  size = length-take-le (block_start n) rules l

  -- and pass the test as the words of the table do
  front_test : (i : ℕ) → i < block_start n → test (breakable n t) (0 + i) (word_at front i) ≡ test (breakable n t) i (word_at rules i)
  front_test i h = rw (zero-add i, get_or-take (block_start n) rules i (pos 0) h)

  -- a word that passes is that of a place that holds a rule that is broken
  passes_holds : (i : ℕ) → i < block_start n → test (breakable n t) i (word_at rules i) ≡ true → HoldsRule n rules i × Breaks (Satisfies n t) (rule_in rules i)
  passes_holds i h e =
      let p = both_true (has_rule (word_at rules i)) (breakable n t (rule_in rules i)) e in
      let g : HoldsRule n rules i = record { inside = h; there = omega arith; rule = p.0 } in
      (g, (x i g).0 p.1)

  -- and conversely
  holds_passes : (i : ℕ) → HoldsRule n rules i → Breaks (Satisfies n t) (rule_in rules i) → test (breakable n t) i (word_at rules i) ≡ true
  holds_passes i h b = rw (h.rule, (x i h).1 b)

  -- a place whose word fails holds no rule that is broken
  fails_tells : (i : ℕ) → HoldsRule n rules i → test (breakable n t) i (word_at rules i) ≡ false → Breaks (Satisfies n t) (rule_in rules i) → ⊥
  fails_tells i h e b = clash (holds_passes i h b) e

  -- and conversely
  tells_fails : (i : ℕ) → i < block_start n → (HoldsRule n rules i → Breaks (Satisfies n t) (rule_in rules i) → ⊥) → test (breakable n t) i (word_at rules i) ≡ false
  tells_fails i h f = go (test (breakable n t) i (word_at rules i)) refl
    where
      go : (b : Bool) → test (breakable n t) i (word_at rules i) ≡ b → b ≡ false
      go true e = let p = passes_holds i h e in absurd (f p.0 p.1)
      go false e = refl

  -- the first word that passes is that of the first place whose rule is broken
  found_at : (k : ℕ) → Found (breakable n t) 0 front k → FirstAt n rules (Satisfies n t) k
  found_at k f =
      let h : k < block_start n = omega (arith, size, f.inside) in
      let p = passes_holds k h (rw (front_test k h) at f.passes) in
      record {
        holds = p.0;
        breaks = p.1;
        first = λ i b g. fails_tells i g (rw (front_test i g.inside) at (f.before i b));
      }

  -- and conversely
  at_found : (k : ℕ) → FirstAt n rules (Satisfies n t) k → Found (breakable n t) 0 front k
  at_found k f = record {
    inside = omega (arith, size, f.holds.inside);
    passes = front_test k f.holds.inside ∙ holds_passes k f.holds f.breaks;
    before = λ j h. before_k j h (omega (arith, f.holds.inside));
  }
    where
      before_k : (j : ℕ) → j < k → j < block_start n → test (breakable n t) (0 + j) (word_at front j) ≡ false
      before_k j h b = front_test j b ∙ tells_fails j b (f.first j h)

  -- where none passes, none is broken
  none_fails : None (breakable n t) 0 front → NoneBroken n rules (Satisfies n t)
  none_fails f k h = fails_tells k h (rw (front_test k h.inside) at (f k (omega (arith, size, h.inside))))

  -- and conversely
  fails_none : NoneBroken n rules (Satisfies n t) → None (breakable n t) 0 front
  fails_none f j h = let b : j < block_start n = omega (arith, size) in front_test j b ∙ tells_fails j b (f j)

  -- the first broken rule is that of the first word that passes
  found_rule : (k : ℕ) → Found (breakable n t) 0 front k → first_broken n rules t ≡ rule_in rules k
  unfolding first_broken
  found_rule k f =
      found_first (breakable n t) 0 front k f ∙ rw (zero-add k, get_or-take (block_start n) rules k (pos 0) (omega (arith, size, f.inside)))

  -- and the trivial rule where none passes
  none_rule : None (breakable n t) 0 front → first_broken n rules t ≡ trivial_rule
  unfolding first_broken
  none_rule f = none_first (breakable n t) 0 front f

  -- where the first broken rule has a term, it is the first rule by place that is broken
  pub first_some : has_term (first_broken n rules t) ≡ true → FirstBroken n rules (Satisfies n t) (first_broken n rules t)
  first_some e = go (some_or_none (breakable n t) 0 front)
    where
      go : Some (breakable n t) 0 front ⊎ None (breakable n t) 0 front → FirstBroken n rules (Satisfies n t) (first_broken n rules t)
      go (inl s) = record { place = s.place; is = found_rule s.place s.found; at = found_at s.place s.found }
      go (inr f) = clash e (ap has_term (none_rule f))

  -- where it has none, it is the trivial rule, and no rule is broken
  pub first_none : has_term (first_broken n rules t) ≡ false → (first_broken n rules t ≡ trivial_rule) × NoneBroken n rules (Satisfies n t)
  first_none e = go (some_or_none (breakable n t) 0 front)
    where
      go : Some (breakable n t) 0 front ⊎ None (breakable n t) 0 front → (first_broken n rules t ≡ trivial_rule) × NoneBroken n rules (Satisfies n t)
      go (inl s) = clash (ap has_term (found_rule s.place s.found) ∙ rule_at_term s.place (word_at rules s.place)) e
      go (inr f) = (none_rule f, none_fails f)

-- the first rule by place that is broken is the first broken rule
pub first_at : (n : ℕ) (rules t : List ℤ) (k : ℕ) → block_start n ≤ length rules → Exactly n rules t → FirstAt n rules (Satisfies n t) k
    → first_broken n rules t ≡ rule_in rules k
first_at n rules t k l x f = found_rule n rules t l x k (at_found n rules t l x k f)

-- and where none is broken, it is the trivial rule
pub first_nowhere : (n : ℕ) (rules t : List ℤ) → block_start n ≤ length rules → Exactly n rules t → NoneBroken n rules (Satisfies n t)
    → first_broken n rules t ≡ trivial_rule
first_nowhere n rules t l x f = none_rule n rules t l x (fails_none n rules t l x f)
