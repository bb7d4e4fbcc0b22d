-- The tightest key by its definition alone: at most one table is it; it allows the visible integers that its sheet allows; and two sheets allow the same exactly when their tight keys are the
-- same words. Assumes nothing.
use mathlib.Core.Path.{◌≡◌, refl, sym, ◌∙◌}
use mathlib.Core.Bool.{Bool, true, false}
use mathlib.Core.List.{List}
use mathlib.Core.Logic.{◌↔◌}
use Prim.Native.Nat.{ℕ, ◌<◌}
use native.Mathlib.Omega.{arith}
use lib.IntN.{ℤ, pos}
use lib.ListN.{take}
use lib.Signed.{◌≤ℤ◌}
use Rattle.integers.proofs.Parts.{linear, lt_z_false}
use Rattle.words.specs.Change.{word_at}
use Rattle.places.specs.Numbering.{block_start}
use Rattle.rules.specs.Limits.{no_rule}
use Rattle.rules.specs.Meaning.{Assignment, Meets}
use Rattle.tables.specs.Places.{rule_at}
use Rattle.tables.specs.Tables.{has_rule}
use Rattle.tables.specs.Meaning.{HoldsRule, rule_in, Satisfies, Satisfiable, Solutions, SheetAllows, NamesVisible, joined, MetByAll}
use Rattle.tables.proofs.Places.{names_bound}
use Rattle.tables.proofs.Tests.{clash}
use Rattle.tables.proofs.Values.{meets_at, at_meets, meets_named}
use Rattle.keys.specs.Keys.{key_of}
use Rattle.keys.specs.Inner.{Fits}
use Rattle.keys.proofs.Several.{allows_own, key_exact, key_visible}
use Rattle.keys.proofs.Fitting.{hide_ample}
use Rattle.keys.proofs.Copying.{SameTable, same_front, front_same, same_back, holds_same, same_satisfies}
use Rattle.tightening.specs.Meaning.{VisibleAt, TightKey, SheetsAllowSame}

-- two integers that are at most each other are the same
le_same : {a b : ℤ} → a ≤ℤ b → b ≤ℤ a → a ≡ b
le_same l g = omega linear

-- a larger bound is met too
bound_mono : (σ : Assignment) (k : ℕ) (c d : ℤ) → c ≤ℤ d → Meets σ (rule_at k c) → Meets σ (rule_at k d)
bound_mono σ k c d l m = at_meets σ k d (let h = meets_at σ k c m in omega linear)

-- a term of visible quantities is worth the same whatever the hidden integers
pub visible_meets : (hidden : ℕ → Bool) (k : ℕ) (c : ℤ) (σ η : Assignment) → VisibleAt hidden k → Meets (joined hidden σ η) (rule_at k c) → Meets σ (rule_at k c)
visible_meets hidden k c σ η v = meets_named (joined hidden σ η) σ (rule_at k c) (λ q e. rw (v q (names_bound q k (pos 0) c ∙ e)))

-- ---- at most one table

-- a place of two tight keys of one sheet has the same word
module _ (hidden : ℕ → Bool) (n : ℕ) (sheet : Solutions) (a b : List ℤ) (x : TightKey hidden n sheet a) (y : TightKey hidden n sheet b) (k : ℕ) (h : k < block_start n) where
  holds : (t : List ℤ) → TightKey hidden n sheet t → has_rule (word_at t k) ≡ true → HoldsRule n t k
  holds t z e = record { inside = h; there = omega (arith, z.room); rule = e }

  -- a rule of one is a rule of the other,
  shared : has_rule (word_at a k) ≡ true → HoldsRule n b k
  shared e = (y.rule k h).1 ((x.rule k h).0 (holds a x e))

  -- with the same bound
  equal : (p : HoldsRule n a k) (q : HoldsRule n b k) → word_at a k ≡ word_at b k
  equal p q = le_same ((x.least k p).least (word_at b k) (y.least k q).met) ((y.least k q).least (word_at a k) (x.least k p).met)

  one_word : word_at a k ≡ word_at b k
  one_word = go (has_rule (word_at a k)) refl (has_rule (word_at b k)) refl
    where
      go : (c : Bool) → has_rule (word_at a k) ≡ c → (d : Bool) → has_rule (word_at b k) ≡ d → word_at a k ≡ word_at b k
      go true e d f = equal (holds a x e) (shared e)
      go false e true f = clash ((x.rule k h).1 ((y.rule k h).0 (holds b y f))).rule e
      go false e false f =
          let s : word_at a k ≡ no_rule = le_same (x.words k h) (omega (linear, lt_z_false (word_at a k) no_rule e)) in
          let r : word_at b k ≡ no_rule = le_same (y.words k h) (omega (linear, lt_z_false (word_at b k) no_rule f)) in
          s ∙ sym r

pub tight_table : (hidden : ℕ → Bool) (n : ℕ) (sheet : Solutions) (a b : List ℤ) → TightKey hidden n sheet a → TightKey hidden n sheet b → SameTable n a b
tight_table hidden n sheet a b x y = record { mine = x.room; theirs = y.room; words = λ k h. one_word hidden n sheet b a y x k h }

-- a table with the same words is tight too
pub same_tight : (hidden : ℕ → Bool) (n : ℕ) (sheet : Solutions) (a b : List ℤ) → SameTable n a b → TightKey hidden n sheet a → TightKey hidden n sheet b
same_tight hidden n sheet a b s x = record {
  rule = λ k h. (λ p. (x.rule k h).0 (holds_same n a b k s p), λ p. holds_same n b a k (same_back n a b s) ((x.rule k h).1 p));
  least = λ k p. rw (s.words k p.inside) (x.least k (holds_same n a b k s p));
  room = s.theirs;
  words = λ k h. rw (s.words k h) (x.words k h);
}

pub tight_only : (hidden : ℕ → Bool) (n : ℕ) (sheet : Solutions) (a b : List ℤ) → TightKey hidden n sheet a → TightKey hidden n sheet b
    → take (block_start n) b ≡ take (block_start n) a
tight_only hidden n sheet a b x y = same_front n a b (tight_table hidden n sheet a b x y)

-- ---- what it names and allows

-- its rules name visible quantities alone
pub tight_visible : (hidden : ℕ → Bool) (n : ℕ) (sheet : Solutions) (u : List ℤ) → TightKey hidden n sheet u → NamesVisible n hidden u
tight_visible hidden n sheet u x = record { each = λ k p q e. ((x.rule k p.inside).0 p).0 q (names_bound q k (pos 0) (word_at u k) ∙ e) }

module _ (hidden : ℕ → Bool) (n : ℕ) (t u : List ℤ) (x : TightKey hidden n (Satisfies n t) u) where
  -- what the sheet allows meets its rules
  pub tight_met : (σ : Assignment) → SheetAllows hidden (Satisfies n t) σ → Satisfies n u σ
  tight_met σ a = record {
    each = λ k p. visible_meets hidden k (word_at u k) σ a.hiddens ((x.rule k p.inside).0 p).0
        ((x.least k p).met (joined hidden σ a.hiddens) a.complete);
  }

  -- and what meets them is allowed, for they are below those of the plain key
  pub tight_allows : (σ₀ σ : Assignment) → Fits n t → Satisfies n t σ₀ → Satisfies n u σ → SheetAllows hidden (Satisfies n t) σ
  tight_allows σ₀ σ f s m = (exact σ).0 (record { each = met })
    where
      key : List ℤ
      key = key_of hidden n t

      exact : (τ : Assignment) → Satisfies n key τ ↔ SheetAllows hidden (Satisfies n t) τ
      exact τ = key_exact hidden n t σ₀ (hide_ample hidden n t f) s τ

      implied : (k : ℕ) → HoldsRule n key k → MetByAll (Satisfies n t) (rule_at k (word_at key k))
      implied k p τ z = ((exact τ).1 (allows_own n hidden t τ z)).each k p

      seen : (k : ℕ) → HoldsRule n key k → VisibleAt hidden k
      seen k p q e = (key_visible hidden n t f.sums.room).each k p q (names_bound q k (word_at key k) (pos 0) ∙ e)

      met : (k : ℕ) → HoldsRule n key k → Meets σ (rule_in key k)
      met k p =
          let r = (x.rule k p.inside).1 (seen k p, record { bound = word_at key k; met = implied k p }) in
          bound_mono σ k (word_at u k) (word_at key k) ((x.least k r).least (word_at key k) (implied k p)) (m.each k r)

  pub tight_meaning : Fits n t → Satisfiable n t → (σ : Assignment) → Satisfies n u σ ↔ SheetAllows hidden (Satisfies n t) σ
  tight_meaning f s σ = (tight_allows s.assignment σ f s.satisfies, tight_met σ)

-- ---- one meaning, one table

-- a tight key of one sheet is one of another where the same bounds on visible terms are met by all of both
met_alike : (hidden : ℕ → Bool) (n : ℕ) (sheet other : Solutions) (u : List ℤ)
    → ((k : ℕ) (c : ℤ) → VisibleAt hidden k → MetByAll sheet (rule_at k c) → MetByAll other (rule_at k c)) → ((k : ℕ) (c : ℤ) → VisibleAt hidden k → MetByAll other (rule_at k c) → MetByAll sheet (rule_at k c))
    → TightKey hidden n sheet u → TightKey hidden n other u
met_alike hidden n sheet other u there back x = record {
  rule = λ k h. (
    λ p. let r = (x.rule k h).0 p in (r.0, record { bound = r.1.bound; met = there k r.1.bound r.0 r.1.met }),
    λ r. (x.rule k h).1 (r.0, record { bound = r.1.bound; met = back k r.1.bound r.0 r.1.met }),
  );
  least = λ k p. let i = ((x.rule k p.inside).0 p).0 in
      record { met = there k (word_at u k) i (x.least k p).met; least = λ d m. (x.least k p).least d (back k d i m) };
  room = x.room;
  words = x.words;
}

-- so are those of sheets that the same assignments satisfy: the rules of a table and those of a text
pub tight_solutions : (hidden : ℕ → Bool) (n : ℕ) (sheet other : Solutions) (u : List ℤ) → ((σ : Assignment) → sheet σ ↔ other σ) → TightKey hidden n sheet u → TightKey hidden n other u
tight_solutions hidden n sheet other u a = met_alike hidden n sheet other u (λ k c i m σ s. m σ ((a σ).1 s)) (λ k c i m σ s. m σ ((a σ).0 s))

-- a bound on a visible term that all of one sheet meet is met by all of another that allows no more
alike_met : (hidden : ℕ → Bool) (n : ℕ) (t v : List ℤ) (k : ℕ) (c : ℤ) → VisibleAt hidden k
    → ((σ : Assignment) → SheetAllows hidden (Satisfies n v) σ → SheetAllows hidden (Satisfies n t) σ)
    → MetByAll (Satisfies n t) (rule_at k c) → MetByAll (Satisfies n v) (rule_at k c)
alike_met hidden n t v k c i w m σ s =
    let a = w σ (allows_own n hidden v σ s) in visible_meets hidden k c σ a.hiddens i (m (joined hidden σ a.hiddens) a.complete)

-- so are those of sheets that allow the same
pub alike_tight : (hidden : ℕ → Bool) (n : ℕ) (t v u : List ℤ) → SheetsAllowSame hidden (Satisfies n t) (Satisfies n v) → TightKey hidden n (Satisfies n t) u
    → TightKey hidden n (Satisfies n v) u
alike_tight hidden n t v u w =
    met_alike hidden n (Satisfies n t) (Satisfies n v) u (λ k c i. alike_met hidden n t v k c i (λ σ a. (w σ).1 a)) (λ k c i. alike_met hidden n v t k c i (λ σ a. (w σ).0 a))

module _ (hidden : ℕ → Bool) (n : ℕ) (t u v w : List ℤ) (x : TightKey hidden n (Satisfies n t) u) (y : TightKey hidden n (Satisfies n v) w) where
  -- sheets that allow the same have one tight key,
  pub tight_alike : SheetsAllowSame hidden (Satisfies n t) (Satisfies n v) → take (block_start n) u ≡ take (block_start n) w
  tight_alike a = sym (tight_only hidden n (Satisfies n v) u w (alike_tight hidden n t v u a x) y)

  -- and sheets with one allow the same
  pub alike_same : Fits n t → Fits n v → Satisfiable n t → Satisfiable n v
      → ((σ : Assignment) → Satisfies n u σ ↔ Satisfies n w σ) → SheetsAllowSame hidden (Satisfies n t) (Satisfies n v)
  alike_same f g s r e σ =
      let p = tight_meaning hidden n t u x f s σ in
      let q = tight_meaning hidden n v w y g r σ in
      (λ a. q.0 ((e σ).0 (p.1 a)), λ a. p.0 ((e σ).1 (q.1 a)))

  pub tight_same : Fits n t → Fits n v → Satisfiable n t → Satisfiable n v
      → SheetsAllowSame hidden (Satisfies n t) (Satisfies n v) ↔ (take (block_start n) u ≡ take (block_start n) w)
  tight_same f g s r = (
    tight_alike,
    λ e. let same = front_same n w u y.room e in
        alike_same f g s r (λ σ. (same_satisfies n u w σ (same_back n w u same), same_satisfies n w u σ same)),
  )
