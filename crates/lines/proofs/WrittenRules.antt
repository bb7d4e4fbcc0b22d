-- A rule and its line's end are read exactly where they are spelled. Assumes nothing.
use mathlib.Core.Path.{◌≡◌, refl, sym, ◌∙◌, ap}
use mathlib.Core.Bool.{Bool, true, false, cond}
use mathlib.Core.List.{List, [], ◌∷◌, ◌++◌, append_assoc}
use Prim.Native.Nat.{ℕ}
use lib.Dec.{eqb}
use lib.IntN.{ℤ}
use borrow.Author.Tests.{eqb-true}
use Rattle.numerals.specs.Bytes.{newline, plus, minus, colon}
use Rattle.numerals.specs.Decimal.{signed_decimal}
use Rattle.numerals.specs.Parsing.{Parsed, parsed, and_then, expect}
use Rattle.numerals.proofs.Keys.{expect_append}
use Rattle.numerals.proofs.Numerals.{never}
use Rattle.lines.specs.Spelling.{Term, Written, one, two, term_text, rule_text}
use Rattle.lines.specs.Lines.{term_of, bound_line, after_term}
use Rattle.lines.proofs.Forms.{by_both, both_read, by_key}
use Rattle.lines.proofs.Terms.{term_sound, term_complete, term_no_digit, bound_line_sound, bound_line_complete}

-- the bytes of a rule of one term, and of two
one_parts : (x : Term) (c : ℤ) (rest : List ℕ) → rule_text (one x c) ++ rest ≡ term_text x ++ (colon ∷ (signed_decimal c ++ rest))
unfolding rule_text
one_parts x c rest = simp append_assoc

two_parts : (x y : Term) (c : ℤ) (rest : List ℕ) → rule_text (two x y c) ++ rest ≡ term_text x ++ (term_text y ++ (colon ∷ (signed_decimal c ++ rest)))
unfolding rule_text
two_parts x y c rest = simp append_assoc

-- a bound and what it completes
abbrev closed : (ℤ → Written) → List ℕ → Parsed Written
closed make u = and_then (bound_line u) (λ c. parsed (make c))

-- a second term, and the bound after it
abbrev second : Term → List ℕ → Parsed Written
second x u = and_then (term_of u) (λ y v. expect (colon ∷ []) v (closed (two x y)))

-- a bound that was read is spelled and completes what was read
by_bound : {X : Type 0} (make : ℤ → Written) (u : List ℕ) (r : Written) (rest : List ℕ) → closed make u ≡ parsed r rest
    → ((c : ℤ) → u ≡ signed_decimal c ++ newline ∷ rest → make c ≡ r → X) → X
by_bound make u r rest e told = by_both (bound_line u) (λ c. parsed (make c)) r rest e (λ c v p f.
    let q : v ≡ rest = cc in told c (bound_line_sound u c rest (p ∙ ap (parsed c) q)) (cc))

-- a bound is read where it is spelled
closed_complete : (make : ℤ → Written) (c : ℤ) (rest : List ℕ) → closed make (signed_decimal c ++ newline ∷ rest) ≡ parsed (make c) rest
closed_complete make c rest = both_read (bound_line (signed_decimal c ++ newline ∷ rest)) (λ z. parsed (make z)) c rest (bound_line_complete c rest)

-- after the first term, a bound that was read is spelled
one_sound : (x : Term) (u : List ℕ) (r : Written) (rest : List ℕ) → closed (one x) u ≡ parsed r rest
    → term_text x ++ colon ∷ u ≡ rule_text r ++ newline ∷ rest
one_sound x u r rest e = by_bound (one x) u r rest e (λ c p is.
    ap (λ (w : List ℕ). term_text x ++ colon ∷ w) p ∙ sym (one_parts x c (newline ∷ rest)) ∙ ap (λ (s : Written). rule_text s ++ newline ∷ rest) is)

-- and so are a second term and its bound
two_sound : (x : Term) (u : List ℕ) (r : Written) (rest : List ℕ) → second x u ≡ parsed r rest → term_text x ++ u ≡ rule_text r ++ newline ∷ rest
two_sound x u r rest e = by_both (term_of u) (λ y v. expect (colon ∷ []) v (closed (two x y))) r rest e (λ y v p f.
    by_key (colon ∷ []) v (closed (two x y)) r rest f (λ w q g.
    by_bound (two x y) w r rest g (λ c o is.
    ap (λ (z : List ℕ). term_text x ++ z) (term_sound u y v p ∙ ap (λ (z : List ℕ). term_text y ++ z) (q ∙ ap (λ (z : List ℕ). colon ∷ z) o))
    ∙ sym (two_parts x y c (newline ∷ rest))
    ∙ ap (λ (s : Written). rule_text s ++ newline ∷ rest) is)))

-- what was read after the first term makes a rule that is spelled
after_sound : (x : Term) (u : List ℕ) (r : Written) (rest : List ℕ) → after_term x u ≡ parsed r rest → term_text x ++ u ≡ rule_text r ++ newline ∷ rest
unfolding after_term
after_sound x [] r rest e = absurd (never e)
after_sound x (b ∷ u) r rest e = go (eqb b colon) (eqb-true b colon) e
  where
    go : (t : Bool) → (t ≡ true → b ≡ colon) → cond t (closed (one x) u) (second x (b ∷ u)) ≡ parsed r rest
        → term_text x ++ b ∷ u ≡ rule_text r ++ newline ∷ rest
    go true h f = ap (λ (k : ℕ). term_text x ++ k ∷ u) (h refl) ∙ one_sound x u r rest f
    go false h f = two_sound x (b ∷ u) r rest f

-- a second term is not taken for a colon
second_term : (s : Bool) → eqb (cond s minus plus) colon ≡ false
second_term true = refl
second_term false = refl

-- after a first term a second one is read where it is spelled
after-term : (x y : Term) (u : List ℕ) → after_term x (term_text y ++ u) ≡ second x (term_text y ++ u)
unfolding term_text after_term
after-term x y u = rw (second_term y.negative)

-- what was read after the key of a rule line is spelled
pub rule_value_sound : (u : List ℕ) (r : Written) (rest : List ℕ) → and_then (term_of u) after_term ≡ parsed r rest → u ≡ rule_text r ++ newline ∷ rest
rule_value_sound u r rest e = by_both (term_of u) after_term r rest e (λ x v p f. term_sound u x v p ∙ after_sound x v r rest f)

-- and read where it is spelled
pub rule_value_complete : (r : Written) (rest : List ℕ) → and_then (term_of (rule_text r ++ newline ∷ rest)) after_term ≡ parsed r rest
unfolding after_term
rule_value_complete (one x c) rest =
    ap (λ (u : List ℕ). and_then (term_of u) after_term) (one_parts x c (newline ∷ rest))
    ∙ both_read (term_of (term_text x ++ bound)) after_term x bound (term_complete x bound refl)
    ∙ closed_complete (one x) c rest
  where
    bound : List ℕ
    bound = colon ∷ (signed_decimal c ++ newline ∷ rest)
rule_value_complete (two x y c) rest =
    ap (λ (u : List ℕ). and_then (term_of u) after_term) (two_parts x y c (newline ∷ rest))
    ∙ both_read (term_of (term_text x ++ (term_text y ++ bound))) after_term x (term_text y ++ bound)
    (term_complete x (term_text y ++ bound) (term_no_digit y bound))
    ∙ after-term x y bound
    ∙ both_read (term_of (term_text y ++ bound)) (λ z v. expect (colon ∷ []) v (closed (two x z))) y bound (term_complete y bound refl)
    ∙ expect_append (colon ∷ []) (signed_decimal c ++ newline ∷ rest) (closed (two x y))
    ∙ closed_complete (two x y) c rest
  where
    bound : List ℕ
    bound = colon ∷ (signed_decimal c ++ newline ∷ rest)
