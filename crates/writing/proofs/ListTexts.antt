-- The hidden list and its text by one quantity more. Assumes nothing.
use mathlib.Core.Path.{◌≡◌, refl, sym, ◌∙◌, ap}
use mathlib.Core.Bool.{Bool, true, false, cond}
use mathlib.Core.List.{List, [], ◌∷◌, ◌++◌, append_assoc, append-nil}
use Prim.Native.Nat.{ℕ, zero, suc, ◌+◌, ◌≤◌, ◌<◌}
use native.Mathlib.Nat.{add-zero}
use native.Mathlib.Omega.{arith}
use lib.Dec.{eqb}
use lib.ListN.{length, length-append}
use borrow.Author.Tests.{ne_eqb, eqb-true, eqb-false}
use Rattle.numerals.specs.Bytes.{comma}
use Rattle.numerals.specs.Decimal.{decimal}
use Rattle.numerals.proofs.Decimals.{decimal_some, decimal_width}
use Rattle.rules.specs.Limits.{max_quantities}
use Rattle.rules.specs.Hidden.{hidden_in}
use Rattle.lines.specs.Spelling.{joined_text, list_text}
use Rattle.writing.specs.Writing.{hidden_from, hidden_list}
use Rattle.writing.specs.Inner.{member_text}

-- ---- the list

-- the last of k + 1 quantities comes at the end, where it is hidden
pub hidden_last : (member : ℕ → Bool) (q k : ℕ) → hidden_from member q (suc k) ≡ hidden_from member q k ++ cond (member (q + k)) ((q + k) ∷ []) []
unfolding hidden_from
hidden_last member q zero = rw (add-zero q)
hidden_last member q (suc k) =
    let e : suc q + k ≡ q + suc k = omega arith in
    go (member q) (rw e at (hidden_last member (suc q) k))
  where
    go : (b : Bool) → hidden_from member (suc q) (suc k) ≡ hidden_from member (suc q) k ++ cond (member (q + suc k)) ((q + suc k) ∷ []) []
        → cond b (q ∷ hidden_from member (suc q) (suc k)) (hidden_from member (suc q) (suc k))
        ≡ cond b (q ∷ hidden_from member (suc q) k) (hidden_from member (suc q) k) ++ cond (member (q + suc k)) ((q + suc k) ∷ []) []
    go true later = ap (λ (l : List ℕ). q ∷ l) later
    go false later = later

-- ---- its text

-- numbers joined have at least one byte
joined_some : (q : ℕ) (qs : List ℕ) → 0 < length (joined_text q qs)
unfolding joined_text
joined_some q [] = decimal_some q
joined_some q (p ∷ ps) = omega (arith, length-append (decimal q) (comma ∷ joined_text p ps))

-- one number more after others
joined_more : (q : ℕ) (qs : List ℕ) (p : ℕ) → joined_text q (qs ++ p ∷ []) ≡ joined_text q qs ++ comma ∷ decimal p
unfolding joined_text
joined_more q [] p = refl
joined_more q (r ∷ rs) p = rw (joined_more r rs p) (sym (append_assoc (decimal q) (comma ∷ joined_text r rs) (comma ∷ decimal p)))

-- one number more: after a comma, unless nothing is before it
pub list_last : (qs : List ℕ) (p : ℕ) → list_text (qs ++ p ∷ []) ≡ list_text qs ++ cond (eqb (length (list_text qs)) 0) (decimal p) (comma ∷ decimal p)
unfolding list_text joined_text
list_last [] p = refl
list_last (q ∷ qs) p = rw (ne_eqb (length (joined_text q qs)) 0 (λ z. omega (arith, joined_some q qs))) (joined_more q qs p)

-- the text of the hidden list with quantity j + 1
pub list_more : (set j : ℕ) → list_text (hidden_list (suc j) set) ≡ list_text (hidden_list j set) ++ member_text set j
unfolding member_text
list_more set j =
    let e : 1 + j ≡ j + 1 = omega arith in
    ap list_text (rw e at (hidden_last (hidden_in set) 1 j)) ∙ go (hidden_in set (j + 1))
  where
    go : (b : Bool) → list_text (hidden_list j set ++ cond b ((j + 1) ∷ []) [])
        ≡ list_text (hidden_list j set) ++ cond b (cond (eqb (length (list_text (hidden_list j set))) 0) (decimal (j + 1)) (comma ∷ decimal (j + 1))) []
    go true = list_last (hidden_list j set) (j + 1)
    go false = rw (append-nil (hidden_list j set), append-nil (list_text (hidden_list j set)))

-- no quantities, no text
pub list_none : (set : ℕ) → list_text (hidden_list 0 set) ≡ []
unfolding hidden_from list_text
list_none set = refl

-- ---- what a quantity adds

-- nothing where it is not hidden
pub member_absent : (set j : ℕ) → hidden_in set (j + 1) ≡ false → member_text set j ≡ []
unfolding member_text
member_absent set j e = rw e

-- its number where none is before it
pub member_first : (set j : ℕ) → hidden_in set (j + 1) ≡ true → length (list_text (hidden_list j set)) ≡ 0 → member_text set j ≡ decimal (j + 1)
unfolding member_text
member_first set j e z = rw (e, z)

-- a comma and its number where others are
pub member_next : (set j : ℕ) → hidden_in set (j + 1) ≡ true → (length (list_text (hidden_list j set)) ≡ 0 → ⊥)
    → member_text set j ≡ comma ∷ decimal (j + 1)
unfolding member_text
member_next set j e z = rw (e, ne_eqb (length (list_text (hidden_list j set))) 0 z)

-- ---- its length

-- the text with quantity j + 1 is longer by what that adds
pub list_more_length : (set j : ℕ) → length (list_text (hidden_list (suc j) set)) ≡ length (list_text (hidden_list j set)) + length (member_text set j)
list_more_length set j = ap length (list_more set j) ∙ length-append (list_text (hidden_list j set)) (member_text set j)

-- a longer list has no shorter text
pub list_longer : (set j n : ℕ) → j ≤ n → length (list_text (hidden_list j set)) ≤ length (list_text (hidden_list n set))
list_longer set j zero h = let e : j ≡ 0 = omega arith in rw e (omega arith)
list_longer set j (suc n) h = go (eqb j (suc n)) refl (λ l. list_longer set j n l)
  where
    go : (b : Bool) → eqb j (suc n) ≡ b → (j ≤ n → length (list_text (hidden_list j set)) ≤ length (list_text (hidden_list n set)))
        → length (list_text (hidden_list j set)) ≤ length (list_text (hidden_list (suc n) set))
    go true e l = rw (eqb-true j (suc n) e) (omega arith)
    go false e l = omega (arith, eqb-false j (suc n) e, list_more_length set n, l (omega (arith, eqb-false j (suc n) e)))

-- what a quantity adds has at most 3 bytes
pub member_short : (set j : ℕ) → j < max_quantities → length (member_text set j) ≤ 3
unfolding member_text
member_short set j h = go (hidden_in set (j + 1)) (eqb (length (list_text (hidden_list j set))) 0)
  where
    go : (a b : Bool) → length (cond a (cond b (decimal (j + 1)) (comma ∷ decimal (j + 1))) []) ≤ 3
    go true true = omega (arith, decimal_width 1 (j + 1) (omega arith))
    go true false = omega (arith, decimal_width 1 (j + 1) (omega arith))
    go false b = omega arith
