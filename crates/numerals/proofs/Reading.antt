-- A numeral read byte by byte, as the program does it. Assumes nothing.
use mathlib.Core.Path.{◌≡◌, refl, sym, ◌∙◌, ap}
use mathlib.Core.Bool.{Bool, true, false, cond}
use mathlib.Core.List.{List, [], ◌∷◌}
use Prim.Native.Nat.{ℕ, ◌+◌, ◌-◌, ◌*◌, ◌≤◌, ◌<◌}
use native.Mathlib.Numerals.{add-one}
use native.Mathlib.Omega.{arith}
use lib.ListN.{length, get_or, drop}
use lib.Seq.{drop-cons}
use borrow.Author.Tests.{ne_eqb}
use Rattle.std.specs.Prelude.{Some, None}
use Rattle.numerals.specs.Bytes.{is_digit, digit_zero}
use Rattle.numerals.specs.Decimal.{cap, capped}
use Rattle.numerals.specs.Parsing.{parsed, malformed, digits_from, numeral_of, digit_next, found_in, numeral_answer}
use Rattle.numerals.proofs.Cursors.{cursor_here}
use Rattle.numerals.proofs.Keys.{digit_at, digit_inside}
use Rattle.numerals.proofs.Values.{capped_cap, capped_upto, capped_idem, capped_digit}

-- the bytes at a cursor are the first and those after it
pub drop_next : (s : List ℕ) (at : ℕ) → at < length s → drop at s ≡ get_or s at 0 ∷ drop (at + 1) s
drop_next s at h = rw (drop-cons s at 0 h, add-one at)

-- ---- the loop over the digits at a cursor

-- values that are told alike are told alike with the same digits after them
answer_alike : (s u : List ℕ) (v w : ℕ) → capped v ≡ capped w → numeral_answer s (digits_from v u) ≡ numeral_answer s (digits_from w u)
unfolding digits_from numeral_answer
answer_alike s [] v w e = ap (λ (x : ℕ). Some (found_in s x [])) e
answer_alike s (b ∷ u) v w e = go (is_digit b) (answer_alike s u (10 * v + (b - digit_zero)) (10 * w + (b - digit_zero)) more)
  where
    more : capped (10 * v + (b - digit_zero)) ≡ capped (10 * w + (b - digit_zero))
    more = sym (capped_digit v (b - digit_zero)) ∙ ap (λ (x : ℕ). capped (10 * x + (b - digit_zero))) e ∙ capped_digit w (b - digit_zero)

    go : (t : Bool) → numeral_answer s (digits_from (10 * v + (b - digit_zero)) u) ≡ numeral_answer s (digits_from (10 * w + (b - digit_zero)) u)
        → numeral_answer s (cond t (digits_from (10 * v + (b - digit_zero)) u) (parsed v (b ∷ u)))
        ≡ numeral_answer s (cond t (digits_from (10 * w + (b - digit_zero)) u) (parsed w (b ∷ u)))
    go true ih = ih
    go false ih = ap (λ (x : ℕ). Some (found_in s x (b ∷ u))) e

-- it does not matter whether the value before some digits is told or known
pub answer_told : (s u : List ℕ) (v : ℕ) → numeral_answer s (digits_from (capped v) u) ≡ numeral_answer s (digits_from v u)
answer_told s u v = answer_alike s u (capped v) v (capped_idem v)

-- a digit belongs to the numeral
pub digits_more : (v b : ℕ) (u : List ℕ) → is_digit b ≡ true → digits_from v (b ∷ u) ≡ digits_from (10 * v + (b - digit_zero)) u
unfolding digits_from
digits_more v b u e = rw e

-- at the cursor too
pub digits_next : (s : List ℕ) (v at : ℕ) → at < length s → is_digit (get_or s at 0) ≡ true
    → digits_from v (drop at s) ≡ digits_from (10 * v + (get_or s at 0 - digit_zero)) (drop (at + 1) s)
digits_next s v at h e = ap (digits_from v) (drop_next s at h) ∙ digits_more v (get_or s at 0) (drop (at + 1) s) e

-- so a turn of the loop keeps the answer
pub answer_next : (s : List ℕ) (v at w : ℕ) → at < length s → is_digit (get_or s at 0) ≡ true → w ≡ capped (10 * v + (get_or s at 0 - digit_zero))
    → (w ≤ cap) × (numeral_answer s (digits_from w (drop (at + 1) s)) ≡ numeral_answer s (digits_from v (drop at s)))
answer_next s v at w h e q = (
  omega (arith, q, capped_cap (10 * v + (get_or s at 0 - digit_zero))),
  ap (λ (x : ℕ). numeral_answer s (digits_from x (drop (at + 1) s))) q
      ∙ answer_told s (drop (at + 1) s) (10 * v + (get_or s at 0 - digit_zero))
      ∙ ap (numeral_answer s) (sym (digits_next s v at h e)),
)

-- any other byte ends it, and so does the end of the text
pub digits_stop : (v : ℕ) (u : List ℕ) → digit_next u ≡ false → digits_from v u ≡ parsed v u
unfolding digits_from
digits_stop v [] e = refl
digits_stop v (b ∷ u) e = rw e

-- the answer at the end of the digits
pub answer_stop : (s : List ℕ) (v at : ℕ) → v ≤ cap → at ≤ length s → digit_next (drop at s) ≡ false
    → Some (record { value = v; next = at }) ≡ numeral_answer s (digits_from v (drop at s))
unfolding numeral_answer
answer_stop s v at h l e = rw (digits_stop v (drop at s) e, cursor_here s at l, capped_upto v h)

-- ---- the first byte

-- where there is no digit there is no numeral
pub numeral_missing : (u : List ℕ) → digit_next u ≡ false → numeral_of u ≡ malformed
unfolding numeral_of
numeral_missing [] e = refl
numeral_missing (b ∷ u) e = rw e

-- a zero stands alone
pub numeral_zero : (u : List ℕ) → digit_next u ≡ false → numeral_of (digit_zero ∷ u) ≡ parsed 0 u
unfolding numeral_of
numeral_zero u e = rw e

-- it is no first digit
pub numeral_leading : (u : List ℕ) → digit_next u ≡ true → numeral_of (digit_zero ∷ u) ≡ malformed
unfolding numeral_of
numeral_leading u e = rw e

-- any other digit begins a numeral
pub numeral_first : (b : ℕ) (u : List ℕ) → is_digit b ≡ true → (b ≡ digit_zero → ⊥) → numeral_of (b ∷ u) ≡ digits_from (b - digit_zero) u
unfolding numeral_of
numeral_first b u e h = rw (e, ne_eqb b digit_zero h)

-- ---- at a cursor

-- where there is no digit there is no numeral
pub answer_missing : (s : List ℕ) (at : ℕ) → digit_next (drop at s) ≡ false → None ≡ numeral_answer s (numeral_of (drop at s))
unfolding numeral_answer
answer_missing s at e = rw (numeral_missing (drop at s) e)

module _ (s : List ℕ) (at : ℕ) (digit : digit_next (drop at s) ≡ true) where
  -- a digit is there
  pub here : at < length s
  here = digit_inside s at digit

  pub digit_here : is_digit (get_or s at 0) ≡ true
  digit_here = sym (digit_at s at here) ∙ digit

  -- any but a zero begins a numeral
  pub answer_first : (get_or s at 0 ≡ digit_zero → ⊥) → numeral_of (drop at s) ≡ digits_from (get_or s at 0 - digit_zero) (drop (at + 1) s)
  answer_first h = ap numeral_of (drop_next s at here) ∙ numeral_first (get_or s at 0) (drop (at + 1) s) digit_here h

  module _ (zero : get_or s at 0 ≡ digit_zero) where
    zero_here : drop at s ≡ digit_zero ∷ drop (at + 1) s
    zero_here = drop_next s at here ∙ ap (λ (b : ℕ). b ∷ drop (at + 1) s) zero

    -- a zero has no digit after it
    pub answer_leading : digit_next (drop (at + 1) s) ≡ true → None ≡ numeral_answer s (numeral_of (drop at s))
    unfolding numeral_answer
    answer_leading e = rw (zero_here, numeral_leading (drop (at + 1) s) e)

    -- it stands alone
    pub answer_zero : digit_next (drop (at + 1) s) ≡ false → Some (record { value = 0; next = at + 1 }) ≡ numeral_answer s (numeral_of (drop at s))
    unfolding numeral_answer
    answer_zero e = rw (zero_here, numeral_zero (drop (at + 1) s) e, cursor_here s (at + 1) (omega (arith, here)), capped_upto 0 (omega arith))
