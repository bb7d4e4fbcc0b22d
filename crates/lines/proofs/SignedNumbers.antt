-- Signed quantity numbers and bounds at a cursor: how they are read, and what their answers tell. Assumes nothing.
use mathlib.Core.Path.{◌≡◌, refl, sym, ◌∙◌, ap}
use mathlib.Core.Bool.{Bool, true, false, cond}
use mathlib.Core.List.{List, [], ◌∷◌}
use Prim.Native.Nat.{ℕ, zero, suc, ◌+◌, ◌≤◌, ◌<◌}
use native.Mathlib.Nat.{add-zero}
use native.Mathlib.Omega.{arith}
use lib.Dec.{eqb}
use lib.IntN.{ℤ}
use lib.ListN.{length, drop, drop_of_length-le}
use lib.Seq.{drop-drop}
use mir.Val.{bool_byte}
use borrow.Author.Tests.{eqb-true, eqb-false}
use Rattle.std.specs.Prelude.{Option, Some, None}
use Rattle.numerals.specs.declared.byte.Kind.{Kind}
use Rattle.numerals.specs.declared.byte.Kind.TheVariants.{Digit, Plus, Minus, Colon, Comma, LineEnd, Other}
use Rattle.numerals.specs.declared.read.Found.{Found}
use Rattle.numerals.specs.Bytes.{plus, minus, kind_of}
use Rattle.numerals.specs.Decimal.{cap, capped, signed_decimal}
use Rattle.numerals.specs.Parsing.{Parsed, parsed, malformed, and_then, starts_with, numeral_of, numeral_answer, found_in}
use Rattle.numerals.proofs.Cases.{by_below}
use Rattle.numerals.proofs.Keys.{kind_at, kind_byte, byte_kind, byte_first, byte_fails, byte_inside}
use Rattle.numerals.proofs.Numerals.{numeral_none}
use Rattle.numerals.proofs.Reading.{numeral_missing}
use Rattle.numerals.proofs.Values.{capped_cap, capped_upto}
use Rattle.lines.specs.Spelling.{Term, term_text}
use Rattle.lines.specs.Lines.{term_of, bound_at, bound_line}
use Rattle.lines.specs.Inner.{capped_integer, capped_term, with_sign, sign_of, signed_bound, found_answer, ended_answer}
use Rattle.lines.proofs.AtCursors.{Read, read_rest, found_none, ended_told}
use Rattle.lines.proofs.Terms.{term_sound, bound_sound}
use Rattle.lines.proofs.CappedIntegers.{capped_neg, capped_positive}

-- ---- what a numeral's answer tells

-- no number is above the cap
pub answer_cap : (s : List ℕ) (p : Parsed ℕ) (it : Found ℕ) → numeral_answer s p ≡ Some it → it.value ≤ cap
unfolding numeral_answer
answer_cap s (parsed w u) it e = let q : capped w ≡ it.value = cc in omega (arith, q, capped_cap w)
answer_cap s malformed it e = cc

-- ---- signed quantity numbers

-- the sign by its kind
abbrev kind_sign : Kind → Option Bool
kind_sign Digit = None
kind_sign Plus = Some false
kind_sign Minus = Some true
kind_sign Colon = None
kind_sign Comma = None
kind_sign LineEnd = None
kind_sign Other = None

-- other kinds are none
other_sign : (k : Kind) → (k ≡ Plus → ⊥) → (k ≡ Minus → ⊥) → None ≡ kind_sign k
other_sign Digit p m = refl
other_sign Plus p m = absurd (p refl)
other_sign Minus p m = absurd (m refl)
other_sign Colon p m = refl
other_sign Comma p m = refl
other_sign LineEnd p m = refl
other_sign Other p m = refl

-- the kind of the first byte tells the sign
kind_signs : (u : List ℕ) → sign_of u ≡ kind_sign (kind_at u)
unfolding kind_at
kind_signs [] = refl
kind_signs (b ∷ u) = go (eqb b plus) (eqb b minus) refl refl
  where
    go : (p m : Bool) → eqb b plus ≡ p → eqb b minus ≡ m → cond p (Some false) (cond m (Some true) None) ≡ kind_sign (kind_of b)
    go true m e f = ap kind_sign (sym (ap kind_of (eqb-true b plus e) ∙ byte_kind Plus refl))
    go false true e f = ap kind_sign (sym (ap kind_of (eqb-true b minus f) ∙ byte_kind Minus refl))
    go false false e f = other_sign (kind_of b) (λ q. eqb-false b plus e (kind_byte Plus b refl q)) (λ q. eqb-false b minus f (kind_byte Minus b refl q))

-- so each arm of the code's match is the definition's
pub sign_plus : (u : List ℕ) → kind_at u ≡ Plus → Some false ≡ sign_of u
sign_plus u e = sym (kind_signs u ∙ ap kind_sign e)

pub sign_minus : (u : List ℕ) → kind_at u ≡ Minus → Some true ≡ sign_of u
sign_minus u e = sym (kind_signs u ∙ ap kind_sign e)

pub sign_other : (u : List ℕ) → (kind_at u ≡ Plus → ⊥) → (kind_at u ≡ Minus → ⊥) → None ≡ sign_of u
sign_other u p m = other_sign (kind_at u) p m ∙ sym (kind_signs u)

-- a number after a sign
abbrev signed_term : Bool → ℕ → List ℕ → Parsed Term
signed_term m q = parsed (record { negative = m; quantity = q })

-- without a sign there is no term
unsigned : (u : List ℕ) → None ≡ sign_of u → term_of u ≡ malformed
unfolding term_of
unsigned [] e = refl
unsigned (b ∷ u) e = go (eqb b plus) (eqb b minus) e
  where
    go : (p m : Bool) → None ≡ cond p (Some false) (cond m (Some true) None)
        → cond p (and_then (numeral_of u) (signed_term false)) (cond m (and_then (numeral_of u) (signed_term true)) malformed) ≡ malformed
    go true m f = cc
    go false true f = cc
    go false false f = refl

pub term_unsigned : (s : List ℕ) (at : ℕ) → None ≡ sign_of (drop at s) → None ≡ found_answer capped_term s (term_of (drop at s))
term_unsigned s at e = rw (unsigned (drop at s) e)

signed_parts : (u : List ℕ) (m : Bool) → Some m ≡ sign_of u → term_of u ≡ and_then (numeral_of (drop 1 u)) (signed_term m)
unfolding term_of
signed_parts [] m e = cc
signed_parts (b ∷ u) m e = go (eqb b plus) (eqb b minus) e
  where
    go : (p n : Bool) → Some m ≡ cond p (Some false) (cond n (Some true) None)
        → cond p (and_then (numeral_of u) (signed_term false)) (cond n (and_then (numeral_of u) (signed_term true)) malformed)
        ≡ and_then (numeral_of u) (signed_term m)
    go true n f = let h : m ≡ false = cc in ap (λ (x : Bool). and_then (numeral_of u) (signed_term x)) (sym h)
    go false true f = let h : m ≡ true = cc in ap (λ (x : Bool). and_then (numeral_of u) (signed_term x)) (sym h)
    go false false f = cc

signed_told : (m : Bool) (s : List ℕ) (p : Parsed ℕ) (it : Found ℕ) → Some it ≡ numeral_answer s p
    → Some (record { value = with_sign m it.value; next = it.next }) ≡ found_answer capped_term s (and_then p (signed_term m))
unfolding numeral_answer and_then
signed_told true s (parsed w u) it e = let q : it ≡ found_in s (capped w) u = cc in
    rw q (ap (λ (z : ℤ). Some (record { value = z; next = (found_in s (capped w) u).next })) (sym (capped_neg w)))
signed_told false s (parsed w u) it e = let q : it ≡ found_in s (capped w) u = cc in rw q
signed_told true s malformed it e = cc
signed_told false s malformed it e = cc

module _ (s : List ℕ) (at : ℕ) (m : Bool) (sign : Some m ≡ sign_of (drop at s)) where
  parts : term_of (drop at s) ≡ and_then (numeral_of (drop (at + 1) s)) (signed_term m)
  parts = signed_parts (drop at s) m sign ∙ ap (λ (u : List ℕ). and_then (numeral_of u) (signed_term m)) (drop-drop 1 at s)

  -- a sign is inside the text
  pub sign_inside : at < length s
  sign_inside = by_below at (length s) (λ h. h) (λ h. absurd (never (sign ∙ ap sign_of (drop_of_length-le s h))))
    where
      never : Some m ≡ None → ⊥
      never e = cc

  -- without a number after it there is no term
  pub term_bare : None ≡ numeral_answer s (numeral_of (drop (at + 1) s)) → None ≡ found_answer capped_term s (term_of (drop at s))
  unfolding and_then
  term_bare e = rw (parts, numeral_none s (numeral_of (drop (at + 1) s)) (sym e))

  -- with a number it is that number with the sign
  pub term_told : (it : Found ℕ) → Some it ≡ numeral_answer s (numeral_of (drop (at + 1) s))
      → Some (record { value = with_sign m it.value; next = it.next }) ≡ found_answer capped_term s (term_of (drop at s))
  term_told it e = rw parts (signed_told m s (numeral_of (drop (at + 1) s)) it e)

-- where a term was found it is there
pub term_read : (s : List ℕ) (at : ℕ) (it : Found ℤ) → Some it ≡ found_answer capped_term s (term_of (drop at s)) → Read capped_term s (term_of (drop at s)) it
term_read s at it e = go (term_of (drop at s)) refl e
  where
    go : (p : Parsed Term) → term_of (drop at s) ≡ p → Some it ≡ found_answer capped_term s p → Read capped_term s p it
    go (parsed x u) q f = read_rest capped_term s at (term_text x) x u it (term_sound (drop at s) x u q) (sym f)
    go malformed q f = cc

-- ---- bounds

-- the number of a bound begins past a minus, and with its first byte where there is none
pub bound_from : (s : List ℕ) (at : ℕ) (m : Bool) → starts_with (minus ∷ []) (drop at s) ≡ m
    → bound_at (drop at s) ≡ and_then (numeral_of (drop (at + bool_byte m) s)) (signed_bound m)
unfolding bound_at and_then
bound_from s at true e = rw (byte_first minus s at e)
bound_from s at false e = rw (add-zero at) (plain (drop at s) e)
  where
    plain : (u : List ℕ) → starts_with (minus ∷ []) u ≡ false → bound_at u ≡ and_then (numeral_of u) (signed_bound false)
    plain [] e = sym (rw (numeral_missing [] refl))
    plain (b ∷ u) e = rw (byte_fails minus b u e)

-- that place is the cursor, or in the text
pub bound_inside : (s : List ℕ) (at end : ℕ) (m : Bool) → starts_with (minus ∷ []) (drop at s) ≡ m → at < end → length s < end → at + bool_byte m < end
bound_inside s at end true e h l = omega (arith, byte_inside minus s at e)
bound_inside s at end false e h l = omega arith

module _ (s : List ℕ) (m : Bool) (p : Parsed ℕ) where
  -- without a number there is no bound
  pub bound_bare : None ≡ numeral_answer s p → None ≡ found_answer capped_integer s (and_then p (signed_bound m))
  unfolding and_then
  bound_bare e = rw (numeral_none s p (sym e))

-- 0 with a minus is none
pub minus_zero : (s : List ℕ) (p : Parsed ℕ) (it : Found ℕ) → Some it ≡ numeral_answer s p → it.value ≡ 0
    → None ≡ found_answer capped_integer s (and_then p (signed_bound true))
unfolding numeral_answer and_then
minus_zero s (parsed zero u) it e h = refl
minus_zero s (parsed (suc w) u) it e h = let q : it.value ≡ capped (suc w) = cc in let z : ⊥ = omega (arith, q, capped_positive w) in absurd z
minus_zero s malformed it e h = cc

-- any other number is one, with its sign
pub number_bound : (m : Bool) (s : List ℕ) (p : Parsed ℕ) (it : Found ℕ) → Some it ≡ numeral_answer s p → (m ≡ true → 0 < it.value)
    → Some (record { value = with_sign m it.value; next = it.next }) ≡ found_answer capped_integer s (and_then p (signed_bound m))
unfolding numeral_answer and_then
number_bound false s (parsed w u) it e h = let q : it ≡ found_in s (capped w) u = cc in rw q
number_bound true s (parsed zero u) it e h = let q : it.value ≡ capped 0 = cc in
    let z : ⊥ = omega (arith, q, capped_upto 0 (omega arith), h refl) in absurd z
number_bound true s (parsed (suc w) u) it e h = let q : it ≡ found_in s (capped (suc w)) u = cc in rw q
number_bound false s malformed it e h = cc
number_bound true s malformed it e h = cc

-- where a bound was found it is there
bound_read : (s : List ℕ) (at : ℕ) (it : Found ℤ) → Some it ≡ found_answer capped_integer s (bound_at (drop at s)) → Read capped_integer s (bound_at (drop at s)) it
bound_read s at it e = go (bound_at (drop at s)) refl e
  where
    go : (p : Parsed ℤ) → bound_at (drop at s) ≡ p → Some it ≡ found_answer capped_integer s p → Read capped_integer s p it
    go (parsed c u) q f = read_rest capped_integer s at (signed_decimal c) c u it (bound_sound (drop at s) c u q) (sym f)
    go malformed q f = cc

-- a line's bound is a bound
pub bound_missing : (s u : List ℕ) → None ≡ found_answer capped_integer s (bound_at u) → None ≡ found_answer capped_integer s (bound_line u)
unfolding bound_line and_then
bound_missing s u e = rw (found_none capped_integer s (bound_at u) (sym e))

-- and the line's end
pub bound_ended : (s : List ℕ) (at : ℕ) (it : Found ℤ) → Some it ≡ found_answer capped_integer s (bound_at (drop at s))
    → ended_answer s it ≡ found_answer capped_integer s (bound_line (drop at s))
unfolding bound_line and_then
bound_ended s at it e = let f = bound_read s at it e in rw f.is (ended_told capped_integer s f.value it f.told)
