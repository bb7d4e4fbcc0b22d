-- The order of two numerals by their digits is the order of their values. Assumes nothing.
use mathlib.Core.Path.{◌≡◌, refl, sym, ◌∙◌, ap}
use mathlib.Core.Bool.{Bool, true, false, cond}
use mathlib.Core.List.{List, [], ◌∷◌, ◌++◌}
use Prim.Native.Nat.{ℕ, zero, suc, ◌+◌, ◌/◌, ◌%◌, ◌≤◌, ◌<◌}
use native.Mathlib.Omega.{arith}
use lib.Dec.{ltb, eqb}
use lib.ListN.{length}
use borrow.Author.Tests.{ltb-true, eqb-true, eqb-false, lt-ltb, le-ltb, eq-eqb, ne_eqb}
use Rattle.std.specs.Prelude.{Some}
use Rattle.std.proofs.Common.{Ordering, Less, Equal, Greater}
use Rattle.std.specs.Ordering.{MatchOrdering, is_lt, is_some_and, nat_cmp, partial_ordering_then}
use Rattle.std.specs.Cmp.Lexicographic.{slice_partial_cmp}
use Rattle.std.proofs.lemmas.Cmp.{ranked}
use Rattle.numerals.specs.Bytes.{digit_zero}
use Rattle.numerals.specs.Decimal.{decimal}
use Rattle.numerals.specs.Order.{earlier, smaller_numeral, Compared}
use Rattle.numerals.proofs.Cases.{clash, by_below, by_order}
use Rattle.numerals.proofs.Decimals.{decimal_digit, decimal_more, decimal_some, digit_width, more_width}

-- ---- the library's order

-- of two lists of one length it is this one
pub library_earlier : (xs ys : List ℕ) → length xs ≡ length ys → is_some_and is_lt (slice_partial_cmp (λ x y. Some (nat_cmp x y)) xs ys) ≡ earlier xs ys
unfolding earlier
library_earlier [] [] e = refl
library_earlier [] (y ∷ ys) e = let z : ⊥ = omega arith in absurd z
library_earlier (x ∷ xs) [] e = let z : ⊥ = omega arith in absurd z
library_earlier (x ∷ xs) (y ∷ ys) e = go (nat_cmp x y) (ranked x y (nat_cmp x y) refl) (library_earlier xs ys (omega arith))
  where
    go : (o : Ordering) → MatchOrdering o (x < y) (x ≡ y) (y < x)
        → is_some_and is_lt (slice_partial_cmp (λ x y. Some (nat_cmp x y)) xs ys) ≡ earlier xs ys
        → is_some_and is_lt (partial_ordering_then (Some o) (slice_partial_cmp (λ x y. Some (nat_cmp x y)) xs ys))
        ≡ cond (eqb x y) (earlier xs ys) (ltb x y)
    go Less h ih = rw (ne_eqb x y (omega arith), lt-ltb x y h)
    go Equal h ih = rw (eq-eqb x y h) ih
    go Greater h ih = rw (ne_eqb x y (omega arith), le-ltb x y (omega arith))

-- ---- the order of lists

-- two bytes decide if they differ
earlier_byte : (x y : ℕ) (xs ys : List ℕ) → x < y → earlier (x ∷ xs) (y ∷ ys) ≡ true
unfolding earlier
earlier_byte x y xs ys h = rw (ne_eqb x y (omega arith), lt-ltb x y h)

-- equal ones leave it to the others
earlier_prefix : (xs us vs : List ℕ) → earlier (xs ++ us) (xs ++ vs) ≡ earlier us vs
unfolding earlier
earlier_prefix [] us vs = refl
earlier_prefix (x ∷ xs) us vs = rw (eq-eqb x x refl) (earlier_prefix xs us vs)

-- what follows a difference does not matter
earlier_append : (xs ys us vs : List ℕ) → earlier xs ys ≡ true → earlier (xs ++ us) (ys ++ vs) ≡ true
unfolding earlier
earlier_append [] ys us vs e = clash e refl
earlier_append (x ∷ xs) [] us vs e = clash e refl
earlier_append (x ∷ xs) (y ∷ ys) us vs e = go (eqb x y) e (earlier_append xs ys us vs)
  where
    go : (t : Bool) → cond t (earlier xs ys) (ltb x y) ≡ true → (earlier xs ys ≡ true → earlier (xs ++ us) (ys ++ vs) ≡ true)
        → cond t (earlier (xs ++ us) (ys ++ vs)) (ltb x y) ≡ true
    go true q ih = ih q
    go false q ih = q

-- no list is before itself
earlier_self : (xs : List ℕ) → earlier xs xs ≡ false
unfolding earlier
earlier_self [] = refl
earlier_self (x ∷ xs) = rw (eq-eqb x x refl) (earlier_self xs)

-- of two lists one at most is before the other
earlier_one : (xs ys : List ℕ) → earlier xs ys ≡ true → earlier ys xs ≡ false
unfolding earlier
earlier_one [] ys e = clash e refl
earlier_one (x ∷ xs) [] e = clash e refl
earlier_one (x ∷ xs) (y ∷ ys) e = go (eqb x y) refl e (earlier_one xs ys)
  where
    go : (t : Bool) → eqb x y ≡ t → cond t (earlier xs ys) (ltb x y) ≡ true → (earlier xs ys ≡ true → earlier ys xs ≡ false)
        → cond (eqb y x) (earlier ys xs) (ltb y x) ≡ false
    go true p q ih = rw (eq-eqb y x (sym (eqb-true x y p))) (ih q)
    go false p q ih = rw (ne_eqb y x (λ r. eqb-false x y p (sym r))) (le-ltb y x (omega (arith, ltb-true x y q)))

-- ---- the order of numerals

-- a number that is not larger has not more digits
width_least : (k v w : ℕ) → v ≤ k → v ≤ w → length (decimal v) ≤ length (decimal w)
width_least zero v w h l = omega (arith, digit_width v (omega arith), decimal_some w)
width_least (suc k) v w h l = by_below v 10
    (λ m. omega (arith, digit_width v m, decimal_some w))
    (λ m. omega (arith, more_width v m, more_width w (omega arith), width_least k (v / 10) (w / 10) (omega arith) (omega arith)))

-- of two numbers of one digit the smaller has the earlier numeral
one_digit : (v w : ℕ) → v < 10 → w < 10 → v < w → earlier (decimal v) (decimal w) ≡ true
one_digit v w m n l = rw (decimal_digit v m, decimal_digit w n) (earlier_byte (digit_zero + v) (digit_zero + w) [] [] (omega arith))

-- of two longer ones too, if that holds without their last digits
more_digits : (v w : ℕ) → 10 ≤ v → 10 ≤ w → v < w → (v / 10 < w / 10 → earlier (decimal (v / 10)) (decimal (w / 10)) ≡ true)
    → earlier (decimal v) (decimal w) ≡ true
more_digits v w m n l front = rw (decimal_more v m, decimal_more w n) (by_order (v / 10) (w / 10)
    (λ p. earlier_append (decimal (v / 10)) (decimal (w / 10)) _ _ (front p))
    (λ q. rw (sym q) (earlier_prefix (decimal (v / 10)) _ _ ∙ earlier_byte (digit_zero + v % 10) (digit_zero + w % 10) [] [] (omega arith)))
    (λ p. let z : ⊥ = omega arith in absurd z))

-- of two numbers with equally many digits the smaller has the earlier numeral
less_earlier : (k v w : ℕ) → v ≤ k → v < w → length (decimal v) ≡ length (decimal w) → earlier (decimal v) (decimal w) ≡ true
less_earlier zero v w h l e = by_below w 10
    (λ n. one_digit v w (omega arith) n l)
    (λ n. let z : ⊥ = omega (arith, digit_width v (omega arith), more_width w n, decimal_some (w / 10)) in absurd z)
less_earlier (suc k) v w h l e = by_below w 10
    (λ n. one_digit v w (omega arith) n l)
    (λ n. by_below v 10
    (λ m. let z : ⊥ = omega (arith, digit_width v m, more_width w n, decimal_some (w / 10)) in absurd z)
    (λ m. more_digits v w m n l (λ p. less_earlier k (v / 10) (w / 10) (omega arith) p (omega (arith, more_width v m, more_width w n)))))

-- the order of two numerals is that of their values
pub smaller-numeral : (v w : ℕ) → smaller_numeral (decimal v) (decimal w) ≡ ltb v w
unfolding smaller_numeral
smaller-numeral v w = go (eqb (length (decimal v)) (length (decimal w))) refl
  where
    same : length (decimal v) ≡ length (decimal w) → earlier (decimal v) (decimal w) ≡ ltb v w
    same e = by_order v w
        (λ l. less_earlier v v w (omega arith) l e ∙ sym (lt-ltb v w l))
        (λ q. ap (λ (x : ℕ). earlier (decimal v) (decimal x)) (sym q) ∙ earlier_self (decimal v) ∙ sym (le-ltb v w (omega arith)))
        (λ l. earlier_one (decimal w) (decimal v) (less_earlier w w v (omega arith) l (sym e)) ∙ sym (le-ltb v w (omega arith)))

    other : (length (decimal v) ≡ length (decimal w) → ⊥) → ltb (length (decimal v)) (length (decimal w)) ≡ ltb v w
    other d = by_order v w
        (λ l. lt-ltb (length (decimal v)) (length (decimal w)) (omega (arith, width_least v v w (omega arith) (omega arith))) ∙ sym (lt-ltb v w l))
        (λ q. absurd (d (ap (λ (x : ℕ). length (decimal x)) q)))
        (λ l. le-ltb (length (decimal v)) (length (decimal w)) (width_least w w v (omega arith) (omega arith)) ∙ sym (le-ltb v w (omega arith)))

    go : (t : Bool) → eqb (length (decimal v)) (length (decimal w)) ≡ t
        → cond t (earlier (decimal v) (decimal w)) (ltb (length (decimal v)) (length (decimal w))) ≡ ltb v w
    go true e = same (eqb-true _ _ e)
    go false e = other (eqb-false _ _ e)

-- so is the answer
pub compared : (x y : List ℕ) (r : Bool) → r ≡ smaller_numeral x y → Compared x y r
compared x y r e = record { reply = e; meaning = λ v w p q. e ∙ ap (λ (z : List ℕ). smaller_numeral z y) p ∙ ap (smaller_numeral (decimal v)) q ∙ smaller-numeral v w }
