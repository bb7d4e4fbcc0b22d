-- The form of a rule line, part by part as the program reads it. Assumes nothing.
use mathlib.Core.Path.{◌≡◌, refl, sym, ◌∙◌, ap}
use mathlib.Core.Bool.{Bool, true, false, cond}
use mathlib.Core.List.{List, [], ◌∷◌}
use Prim.Native.Nat.{ℕ, ◌+◌}
use lib.IntN.{ℤ}
use lib.ListN.{drop}
use lib.Seq.{drop-drop}
use Rattle.std.specs.Prelude.{Option, Some, None}
use Rattle.numerals.specs.declared.read.Found.{Found}
use Rattle.numerals.specs.Bytes.{colon}
use Rattle.numerals.specs.Parsing.{Parsed, parsed, malformed, and_then, expect, starts_with, found_in}
use Rattle.numerals.proofs.Keys.{expect_key, expect_not, expect_tests, byte_first, byte_fails, byte_passed}
use Rattle.lines.specs.declared.spelled.Spelled.{Spelled}
use Rattle.lines.specs.Spelling.{Term, one, two, rule_key}
use Rattle.lines.specs.Lines.{term_of, bound_line, after_term, rule_line}
use Rattle.lines.specs.Inner.{capped_integer, capped_term, found_answer, second_line, one_form, two_form, form}
use Rattle.lines.proofs.AtCursors.{Read, found_none}
use Rattle.lines.proofs.SignedNumbers.{term_read}

-- ---- a rule of two terms, of which the second is at a cursor

-- a second term and a bound that follows
abbrev with_bound : Term → List ℕ → Parsed (Term × ℤ)
with_bound y u = and_then (bound_line u) (λ c. parsed (y, c))

-- without a second term it is malformed
pub two_bare : (s : List ℕ) (x : ℤ) (u : List ℕ) → None ≡ found_answer capped_term s (term_of u) → None ≡ found_answer (two_form x) s (second_line u)
unfolding and_then
two_bare s x u e = rw (found_none capped_term s (term_of u) (sym e))

abbrev two_found : ℤ → ℤ → Found ℤ → Option (Found Spelled)
two_found x y c = Some (record { value = record { first = x; second = Some y; bound = c.value }; next = c.next })

two_made : (s : List ℕ) (x : ℤ) (y : Term) (p : Parsed ℤ) (it : Found ℤ) → Some it ≡ found_answer capped_integer s p
    → two_found x (capped_term y) it ≡ found_answer (two_form x) s (and_then p (λ c. parsed (y, c)))
unfolding and_then
two_made s x y (parsed c u) it e = let q : it ≡ found_in s (capped_integer c) u = cc in rw q
two_made s x y malformed it e = cc

module _ (s : List ℕ) (at : ℕ) (x : ℤ) (it : Found ℤ) (second : Some it ≡ found_answer capped_term s (term_of (drop at s))) where
  term : Read capped_term s (term_of (drop at s)) it
  term = term_read s at it second

  -- what follows it
  after_second : second_line (drop at s) ≡ expect (colon ∷ []) (drop it.next s) (with_bound term.value)
  unfolding and_then
  after_second = rw term.is

  -- without a colon after it too
  pub two_uncoloned : starts_with (colon ∷ []) (drop it.next s) ≡ false → None ≡ found_answer (two_form x) s (second_line (drop at s))
  two_uncoloned e = rw (after_second, expect_not (colon ∷ []) (drop it.next s) (with_bound term.value) e)

  module _ (coloned : starts_with (colon ∷ []) (drop it.next s) ≡ true) where
    passed : second_line (drop at s) ≡ with_bound term.value (drop (it.next + 1) s)
    passed = after_second ∙ byte_passed colon s it.next (with_bound term.value) coloned

    -- and without a bound
    pub two_unbounded : None ≡ found_answer capped_integer s (bound_line (drop (it.next + 1) s)) → None ≡ found_answer (two_form x) s (second_line (drop at s))
    unfolding and_then
    two_unbounded e = rw (passed, found_none capped_integer s (bound_line (drop (it.next + 1) s)) (sym e))

    -- with a bound it is read
    pub two_read : (c : Found ℤ) → Some c ≡ found_answer capped_integer s (bound_line (drop (it.next + 1) s))
        → two_found x it.value c ≡ found_answer (two_form x) s (second_line (drop at s))
    two_read c e = ap (λ (y : ℤ). two_found x y c) (sym term.told)
        ∙ two_made s x term.value (bound_line (drop (it.next + 1) s)) c e
        ∙ ap (found_answer (two_form x) s) (sym passed)

-- ---- the line

-- the bound makes a rule of one term
one_after : (s : List ℕ) (x : Term) (p : Parsed ℤ) → found_answer (one_form (capped_term x)) s p ≡ found_answer form s (and_then p (λ c. parsed (one x c)))
unfolding and_then
one_after s x (parsed c u) = refl
one_after s x malformed = refl

-- a second term and the bound make one of two
two_after : (s : List ℕ) (x : Term) (u : List ℕ) → found_answer (two_form (capped_term x)) s (second_line u)
    ≡ found_answer form s (and_then (term_of u) (λ y v. expect (colon ∷ []) v (λ w. and_then (bound_line w) (λ c. parsed (two x y c)))))
unfolding and_then
two_after s x u = go (term_of u)
  where
    bounded : (y : Term) (p : Parsed ℤ) → found_answer (two_form (capped_term x)) s (and_then p (λ c. parsed (y, c)))
        ≡ found_answer form s (and_then p (λ c. parsed (two x y c)))
    bounded y (parsed c u) = refl
    bounded y malformed = refl

    coloned : (y : Term) (v : List ℕ) (t : Bool)
        → found_answer (two_form (capped_term x)) s (cond t (and_then (bound_line (drop 1 v)) (λ c. parsed (y, c))) malformed)
        ≡ found_answer form s (cond t (and_then (bound_line (drop 1 v)) (λ c. parsed (two x y c))) malformed)
    coloned y v true = bounded y (bound_line (drop 1 v))
    coloned y v false = refl

    go : (p : Parsed Term) → found_answer (two_form (capped_term x)) s (and_then p (λ y v. expect (colon ∷ []) v (λ w. and_then (bound_line w) (λ c. parsed (y, c)))))
        ≡ found_answer form s (and_then p (λ y v. expect (colon ∷ []) v (λ w. and_then (bound_line w) (λ c. parsed (two x y c)))))
    go (parsed y v) = rw (
      expect_tests {A = Term × ℤ} (colon ∷ []) v (λ w. and_then (bound_line w) (λ c. parsed (y, c))),
      expect_tests (colon ∷ []) v (λ w. and_then (bound_line w) (λ c. parsed (two x y c))),
    ) (coloned y v (starts_with (colon ∷ []) v))
    go malformed = refl

-- without a colon after the first term a second one is there
other : (x : Term) (u : List ℕ) → starts_with (colon ∷ []) u ≡ false
    → after_term x u ≡ and_then (term_of u) (λ y v. expect (colon ∷ []) v (λ w. and_then (bound_line w) (λ c. parsed (two x y c))))
unfolding after_term term_of and_then
other x [] e = refl
other x (b ∷ u) e = rw (byte_fails colon b u e)

-- with one the bound is there
colon_bound : (x : Term) (s : List ℕ) (at : ℕ) → starts_with (colon ∷ []) (drop at s) ≡ true
    → after_term x (drop at s) ≡ and_then (bound_line (drop (at + 1) s)) (λ c. parsed (one x c))
unfolding after_term
colon_bound x s at e = rw (byte_first colon s at e)

-- a line without its key is malformed
pub rule_unkeyed : (s : List ℕ) (at : ℕ) → starts_with rule_key (drop at s) ≡ false → None ≡ found_answer form s (rule_line (drop at s))
unfolding rule_line
rule_unkeyed s at e = rw (expect_not rule_key (drop at s) (λ v. and_then (term_of v) after_term) e)

module _ (s : List ℕ) (at : ℕ) (here : starts_with rule_key (drop at s) ≡ true) where
  keyed : rule_line (drop at s) ≡ and_then (term_of (drop (at + 5) s)) after_term
  unfolding rule_line
  keyed = expect_key rule_key (drop at s) (λ v. and_then (term_of v) after_term) here ∙ ap (λ (u : List ℕ). and_then (term_of u) after_term) (drop-drop 5 at s)

  -- and so is one without a term after it
  pub rule_bare : None ≡ found_answer capped_term s (term_of (drop (at + 5) s)) → None ≡ found_answer form s (rule_line (drop at s))
  unfolding and_then
  rule_bare e = rw (keyed, found_none capped_term s (term_of (drop (at + 5) s)) (sym e))

  module _ (it : Found ℤ) (first : Some it ≡ found_answer capped_term s (term_of (drop (at + 5) s))) where
    start : Read capped_term s (term_of (drop (at + 5) s)) it
    start = term_read s (at + 5) it first

    after_first : rule_line (drop at s) ≡ after_term start.value (drop it.next s)
    unfolding and_then
    after_first = keyed ∙ rw start.is

    -- after the term a colon is before the bound
    pub rule_one : starts_with (colon ∷ []) (drop it.next s) ≡ true
        → found_answer (one_form it.value) s (bound_line (drop (it.next + 1) s)) ≡ found_answer form s (rule_line (drop at s))
    rule_one e = ap (λ (x : ℤ). found_answer (one_form x) s (bound_line (drop (it.next + 1) s))) (sym start.told)
        ∙ one_after s start.value (bound_line (drop (it.next + 1) s))
        ∙ ap (found_answer form s) (sym (after_first ∙ colon_bound start.value s it.next e))

    -- and anything else is a second term
    pub rule_two : starts_with (colon ∷ []) (drop it.next s) ≡ false
        → found_answer (two_form it.value) s (second_line (drop it.next s)) ≡ found_answer form s (rule_line (drop at s))
    rule_two e = ap (λ (x : ℤ). found_answer (two_form x) s (second_line (drop it.next s))) (sym start.told)
        ∙ two_after s start.value (drop it.next s)
        ∙ ap (found_answer form s) (sym (after_first ∙ other start.value (drop it.next s) e))
