-- The quantities that a table's rules name: whether one is hidden, by all words at once and as they are read one after the other. Assumes nothing.
use mathlib.Core.Path.{◌≡◌, refl, sym}
use mathlib.Core.Bool.{Bool, true, false, not, ◌&&◌, ◌||◌, or-true}
use mathlib.Core.List.{List, [], ◌∷◌}
use mathlib.Core.Logic.{◌↔◌}
use Prim.Native.Nat.{ℕ, zero, suc, ◌+◌, ◌≤◌, ◌<◌}
use native.Mathlib.Omega.{arith}
use lib.Dec.{eqb}
use lib.IntN.{ℤ, pos}
use lib.ListN.{length, take}
use lib.Seq.{length-take-le, get_or-take}
use borrow.Author.Tests.{eq-eqb, eqb-true}
use Rattle.std.proofs.lemmas.Bool.{true_from_ne_false}
use Rattle.words.specs.Change.{word_at}
use Rattle.places.specs.Numbering.{block_start}
use Rattle.rules.specs.declared.rule.Rule.{Rule}
use Rattle.rules.specs.declared.rule.Rule.TheVariants.{One, Two, Nothing}
use Rattle.rules.specs.Literal.{quantity_of}
use Rattle.rules.specs.Meaning.{names}
use Rattle.tables.specs.Places.{rule_at}
use Rattle.tables.specs.Tables.{has_rule, names_hidden, any_names_hidden, table_names_hidden}
use Rattle.tables.specs.Meaning.{HoldsRule, rule_in, NamesVisible}
use Rattle.tables.specs.Promises.{HiddenNamed}
use Rattle.tables.proofs.Tests.{clash, neither}

-- a rule names no hidden quantity exactly where each that it names is visible
rule_visible : (hidden : ℕ → Bool) (r : Rule) → (names_hidden hidden r ≡ false) ↔ ((q : ℕ) → names q r ≡ true → hidden q ≡ false)
unfolding names_hidden names
rule_visible hidden (One x c) =
    (λ e q d. rw (sym (eqb-true (quantity_of x) q d)) e, λ f. f (quantity_of x) (eq-eqb (quantity_of x) (quantity_of x) refl))
rule_visible hidden (Two x y c) = (
  λ e q d. let p = (neither (hidden (quantity_of x)) (hidden (quantity_of y))).0 e in go q p.0 p.1 (eqb (quantity_of x) q) refl d,
  λ f. (neither (hidden (quantity_of x)) (hidden (quantity_of y))).1 (f (quantity_of x) first, f (quantity_of y) second),
)
  where
    first : (eqb (quantity_of x) (quantity_of x) || eqb (quantity_of y) (quantity_of x)) ≡ true
    first = rw (eq-eqb (quantity_of x) (quantity_of x) refl)

    second : (eqb (quantity_of x) (quantity_of y) || eqb (quantity_of y) (quantity_of y)) ≡ true
    second = rw (eq-eqb (quantity_of y) (quantity_of y) refl) (or-true (eqb (quantity_of x) (quantity_of y)))

    go : (q : ℕ) → hidden (quantity_of x) ≡ false → hidden (quantity_of y) ≡ false → (b : Bool) → eqb (quantity_of x) q ≡ b
        → (b || eqb (quantity_of y) q) ≡ true → hidden q ≡ false
    go q e f true d g = rw (sym (eqb-true (quantity_of x) q d)) e
    go q e f false d g = rw (sym (eqb-true (quantity_of y) q g)) f
rule_visible hidden (Nothing c) = (λ e q d. clash d refl, λ f. refl)

-- each word's rule, the first word being that of place k, names no hidden quantity
abbrev NoneNamed : (ℕ → Bool) → ℕ → List ℤ → Type 0
NoneNamed hidden k ws = (i : ℕ) → i < length ws → has_rule (word_at ws i) ≡ true → names_hidden hidden (rule_at (k + i) (word_at ws i)) ≡ false

-- the test of words finds none exactly where each is so
none_named : (hidden : ℕ → Bool) (k : ℕ) (ws : List ℤ) → (any_names_hidden hidden k ws ≡ false) ↔ NoneNamed hidden k ws
unfolding any_names_hidden
none_named hidden k [] = (λ e i h. let z : ⊥ = omega arith in absurd z, λ f. refl)
none_named hidden k (w ∷ ws) =
    let ih = none_named hidden (suc k) ws in
    let p = neither (has_rule w && names_hidden hidden (rule_at k w)) (any_names_hidden hidden (suc k) ws) in
    (λ e. to (p.0 e).0 (ih.0 (p.0 e).1), λ f. p.1 (of f (has_rule w) refl, ih.1 (later f)))
  where
    here : k + 0 ≡ k
    here = omega arith

    next : (i : ℕ) → k + suc i ≡ suc k + i
    next i = omega arith

    to : (has_rule w && names_hidden hidden (rule_at k w)) ≡ false → NoneNamed hidden (suc k) ws → NoneNamed hidden k (w ∷ ws)
    to e ih zero h d = rw here (rw d at e)
    to e ih (suc i) h d = rw (next i) (ih i (omega arith) d)

    of : NoneNamed hidden k (w ∷ ws) → (b : Bool) → has_rule w ≡ b → (b && names_hidden hidden (rule_at k w)) ≡ false
    of f true d = rw here at (f 0 (omega arith) d)
    of f false d = refl

    later : NoneNamed hidden k (w ∷ ws) → NoneNamed hidden (suc k) ws
    later f i h d = rw (next i) at (f (suc i) (omega arith) d)

-- no rule of a table names a hidden quantity exactly where all name visible quantities alone
pub names_visible : (hidden : ℕ → Bool) (n : ℕ) (t : List ℤ) → block_start n ≤ length t → (table_names_hidden hidden n t ≡ false) ↔ NamesVisible n hidden t
names_visible hidden n t l = (λ e. record { each = to ((none_named hidden 0 front).0 e) }, λ v. (none_named hidden 0 front).1 (of v))
  where
    front : List ℤ
    front = take (block_start n) t

    size : length front ≡ block_start n
    size = length-take-le (block_start n) t l

    from : (k : ℕ) → 0 + k ≡ k
    from k = omega arith

    same : (k : ℕ) → k < block_start n → word_at front k ≡ word_at t k
    same k h = get_or-take (block_start n) t k (pos 0) h

    to : NoneNamed hidden 0 front → (k : ℕ) → HoldsRule n t k → (q : ℕ) → names q (rule_in t k) ≡ true → hidden q ≡ false
    to f k h =
        (rule_visible hidden (rule_in t k)).0
        (rw (from k, same k h.inside) at (f k (rw size h.inside) (rw (same k h.inside) h.rule)))

    of : NamesVisible n hidden t → NoneNamed hidden 0 front
    of v k h d =
        let i : k < block_start n = rw size at h in
        rw (from k, same k i) ((rule_visible hidden (rule_in t k)).1 (v.each k (record { inside = i; there = omega arith; rule = rw (same k i) at d })))

-- so it passes the test of a script exactly where they do
pub names_test : (hidden : ℕ → Bool) (n : ℕ) (t : List ℤ) → block_start n ≤ length t → (not (table_names_hidden hidden n t) ≡ true) ↔ NamesVisible n hidden t
names_test hidden n t l = (to (table_names_hidden hidden n t) refl, λ v. rw ((names_visible hidden n t l).1 v))
  where
    to : (b : Bool) → table_names_hidden hidden n t ≡ b → not b ≡ true → NamesVisible n hidden t
    to true e c = clash refl (sym c)
    to false e c = (names_visible hidden n t l).0 e

-- ---- the loop over a table's words

-- a word of a place holds no rule, or one that names no hidden quantity
abbrev pub NoneAt : (ℕ → Bool) → ℕ → ℤ → Type 0
NoneAt hidden k w = has_rule w ≡ true → names_hidden hidden (rule_at k w) ≡ false

-- each word before the i-th does
abbrev pub NoneBefore : (ℕ → Bool) → ℕ → List ℤ → Type 0
NoneBefore hidden i t = (k : ℕ) → k < i → NoneAt hidden k (word_at t k)

module _ (hidden : ℕ → Bool) (n m : ℕ) (t : List ℤ) (size : m ≡ block_start n) (room : block_start n ≤ length t) where
  front : (k : ℕ) → k < m → word_at (take m t) k ≡ word_at t k
  front k h = get_or-take m t k (pos 0) h

  -- none is named where that is so of each of a table's words
  pub none_hidden : (i : ℕ) → m ≤ i → NoneBefore hidden i (take m t) → HiddenNamed n hidden t false
  none_hidden i h f = record { reply = sym ((names_visible hidden n t room).1 visible); meaning = (λ e. visible, λ v. refl) }
    where
      visible : NamesVisible n hidden t
      visible = record {
        each = λ k p. (rule_visible hidden (rule_in t k)).0
            (rw (front k (omega (arith, p.inside))) at (f k (omega (arith, p.inside))) p.rule);
      }

  -- and a hidden quantity is named where one word's rule names it
  pub one_hidden : (k : ℕ) → k < m → has_rule (word_at (take m t) k) ≡ true → names_hidden hidden (rule_at k (word_at (take m t) k)) ≡ true
      → HiddenNamed n hidden t true
  one_hidden k h r e = record { reply = sym (true_from_ne_false _ (λ f. named ((names_visible hidden n t room).0 f))); meaning = (λ f. clash refl f, λ v. absurd (named v)) }
    where
      named : NamesVisible n hidden t → ⊥
      named v = clash (rw (front k h) at e) ((rule_visible hidden (rule_in t k)).1
          (v.each k (record { inside = omega arith; there = omega arith; rule = rw (front k h) at r })))
