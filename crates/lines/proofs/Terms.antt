-- A signed quantity number, and a bound with its line's end, are read exactly where they are spelled. Assumes nothing.
use mathlib.Core.Path.{◌≡◌, refl, ◌∙◌, ap, ap₂}
use mathlib.Core.Bool.{Bool, true, false, cond}
use mathlib.Core.List.{List, [], ◌∷◌, ◌++◌}
use Prim.Native.Nat.{ℕ, zero, suc}
use native.Mathlib.Omega.{arith}
use lib.Dec.{eqb}
use lib.IntN.{ℤ, pos, negsuc}
use borrow.Author.Tests.{eqb-true, ne_eqb}
use Rattle.numerals.specs.Bytes.{newline, plus, minus, is_digit}
use Rattle.numerals.specs.Decimal.{decimal, signed_decimal}
use Rattle.numerals.specs.Parsing.{Parsed, parsed, malformed, and_then, digit_next, numeral_of}
use Rattle.numerals.proofs.Cases.{clash}
use Rattle.numerals.proofs.Keys.{digit_range}
use Rattle.numerals.proofs.Numerals.{never, numeral_sound, numeral_complete, decimal_next}
use Rattle.lines.specs.Spelling.{Term, term_text}
use Rattle.lines.specs.Lines.{ended, term_of, below, bound_at, bound_line}
use Rattle.lines.proofs.Forms.{by_both, both_read, ended_sound, ended_complete}

-- ---- a signed quantity number

-- one of this sign
abbrev signed_term : Bool → ℕ → List ℕ → Parsed Term
signed_term s q u = parsed (record { negative = s; quantity = q }) u

-- the quantity number after a sign that was read is spelled
signed_sound : (s : Bool) (u : List ℕ) (x : Term) (rest : List ℕ) → and_then (numeral_of u) (signed_term s) ≡ parsed x rest
    → cond s minus plus ∷ u ≡ term_text x ++ rest
unfolding term_text
signed_sound s u x rest e = by_both (numeral_of u) (signed_term s) x rest e (λ q v p f.
    let is : record { negative = s; quantity = q } ≡ x = cc in
    let r : v ≡ rest = cc in
    ap (λ (w : List ℕ). cond s minus plus ∷ w) (numeral_sound u q v p) ∙ ap₂ (λ (y : Term) (w : List ℕ). term_text y ++ w) is r)

-- a signed quantity number that was read is spelled
pub term_sound : (u : List ℕ) (x : Term) (rest : List ℕ) → term_of u ≡ parsed x rest → u ≡ term_text x ++ rest
unfolding term_of
term_sound [] x rest e = absurd (never e)
term_sound (b ∷ u) x rest e = go (eqb b plus) (eqb b minus) (eqb-true b plus) (eqb-true b minus) e
  where
    go : (p m : Bool) → (p ≡ true → b ≡ plus) → (m ≡ true → b ≡ minus)
        → cond p (and_then (numeral_of u) (signed_term false)) (cond m (and_then (numeral_of u) (signed_term true)) malformed) ≡ parsed x rest
        → b ∷ u ≡ term_text x ++ rest
    go true m h l f = ap (λ (k : ℕ). k ∷ u) (h refl) ∙ signed_sound false u x rest f
    go false true h l f = ap (λ (k : ℕ). k ∷ u) (l refl) ∙ signed_sound true u x rest f
    go false false h l f = absurd (never f)

-- the quantity number after a sign is read where it is spelled, if no other digit follows
signed_complete : (s : Bool) (q : ℕ) (rest : List ℕ) → digit_next rest ≡ false
    → term_of (cond s minus plus ∷ (decimal q ++ rest)) ≡ parsed (record { negative = s; quantity = q }) rest
unfolding term_of
signed_complete true q rest e = both_read (numeral_of (decimal q ++ rest)) (signed_term true) q rest (numeral_complete q rest e)
signed_complete false q rest e = both_read (numeral_of (decimal q ++ rest)) (signed_term false) q rest (numeral_complete q rest e)

-- so is a signed quantity number
pub term_complete : (x : Term) (rest : List ℕ) → digit_next rest ≡ false → term_of (term_text x ++ rest) ≡ parsed x rest
unfolding term_text
term_complete x rest e = signed_complete x.negative x.quantity rest e

-- a sign is no digit
sign_no_digit : (s : Bool) → is_digit (cond s minus plus) ≡ false
sign_no_digit true = refl
sign_no_digit false = refl

-- so no term continues a numeral before it
pub term_no_digit : (x : Term) (rest : List ℕ) → digit_next (term_text x ++ rest) ≡ false
unfolding term_text
term_no_digit x rest = sign_no_digit x.negative

-- ---- a bound

-- a bound below 0 that was read is spelled
below_sound : (u : List ℕ) (v : ℕ) (w : List ℕ) (c : ℤ) (rest : List ℕ) → u ≡ decimal v ++ w → below v w ≡ parsed c rest
    → minus ∷ u ≡ signed_decimal c ++ rest
unfolding signed_decimal
below_sound u zero w c rest p e = absurd (never e)
below_sound u (suc v) w c rest p e = let is : negsuc v ≡ c = cc in let r : w ≡ rest = cc in
    ap (λ (x : List ℕ). minus ∷ x) p ∙ ap₂ (λ (z : ℤ) (x : List ℕ). signed_decimal z ++ x) is r

-- a bound that was read is spelled
pub bound_sound : (u : List ℕ) (c : ℤ) (rest : List ℕ) → bound_at u ≡ parsed c rest → u ≡ signed_decimal c ++ rest
unfolding bound_at signed_decimal
bound_sound [] c rest e = absurd (never e)
bound_sound (b ∷ u) c rest e = go (eqb b minus) (eqb-true b minus) e
  where
    go : (m : Bool) → (m ≡ true → b ≡ minus)
        → cond m (and_then (numeral_of u) below) (and_then (numeral_of (b ∷ u)) (λ v. parsed (pos v))) ≡ parsed c rest → b ∷ u ≡ signed_decimal c ++ rest
    go true h f = by_both (numeral_of u) below c rest f (λ v w p g.
        ap (λ (k : ℕ). k ∷ u) (h refl) ∙ below_sound u v w c rest (numeral_sound u v w p) g)
    go false h f = by_both (numeral_of (b ∷ u)) (λ v. parsed (pos v)) c rest f (λ v w p g.
        let is : pos v ≡ c = cc in let r : w ≡ rest = cc in
        numeral_sound (b ∷ u) v w p ∙ ap₂ (λ (z : ℤ) (x : List ℕ). signed_decimal z ++ x) is r)

-- a bound without a sign is read as a numeral
unsigned : (u : List ℕ) → digit_next u ≡ true → bound_at u ≡ and_then (numeral_of u) (λ v. parsed (pos v))
unfolding bound_at
unsigned [] e = clash e refl
unsigned (b ∷ u) e = rw (ne_eqb b minus (λ q. omega (arith, digit_range b e)))

-- a bound is read where it is spelled, if no other digit follows
pub bound_complete : (c : ℤ) (rest : List ℕ) → digit_next rest ≡ false → bound_at (signed_decimal c ++ rest) ≡ parsed c rest
unfolding bound_at signed_decimal
bound_complete (pos v) rest e =
    unsigned (decimal v ++ rest) (decimal_next v rest)
    ∙ both_read (numeral_of (decimal v ++ rest)) (λ m. parsed (pos m)) v rest (numeral_complete v rest e)
bound_complete (negsuc v) rest e = both_read (numeral_of (decimal (suc v) ++ rest)) below (suc v) rest (numeral_complete (suc v) rest e)

-- a bound and its line's end that were read are spelled
pub bound_line_sound : (u : List ℕ) (c : ℤ) (rest : List ℕ) → bound_line u ≡ parsed c rest → u ≡ signed_decimal c ++ newline ∷ rest
unfolding bound_line
bound_line_sound u c rest e = by_both (bound_at u) ended c rest e (λ z v p f.
    let h = ended_sound z c v rest f in
    bound_sound u z v p ∙ ap₂ (λ (y : ℤ) (x : List ℕ). signed_decimal y ++ x) h.0 h.1)

-- and read where they are spelled
pub bound_line_complete : (c : ℤ) (rest : List ℕ) → bound_line (signed_decimal c ++ newline ∷ rest) ≡ parsed c rest
unfolding bound_line
bound_line_complete c rest =
    both_read (bound_at (signed_decimal c ++ newline ∷ rest)) ended c (newline ∷ rest) (bound_complete c (newline ∷ rest) refl)
    ∙ ended_complete c rest
