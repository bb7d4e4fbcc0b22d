-- A numeral is read exactly where one is spelled, and what the program's answer tells of it. Assumes nothing.
use mathlib.Core.Path.{◌≡◌, refl, sym, ◌∙◌, ap}
use mathlib.Core.Bool.{Bool, true, false, cond}
use mathlib.Core.List.{List, [], ◌∷◌, ◌++◌, append-nil}
use Prim.Native.Nat.{ℕ, zero, suc, ◌+◌, ◌-◌, ◌*◌, ◌/◌, ◌%◌, ◌≤◌, ◌<◌}
use native.Mathlib.Omega.{arith}
use lib.Dec.{eqb}
use lib.ListN.{length, take, drop, length-append, length-drop}
use lib.Seq.{append_snoc, take_at}
use borrow.Author.Tests.{eqb-true, eqb-false}
use Rattle.std.specs.Prelude.{Some, None}
use Rattle.numerals.specs.declared.read.Found.{Found}
use Rattle.numerals.specs.Bytes.{is_digit, digit_zero}
use Rattle.numerals.specs.Decimal.{decimal, capped}
use Rattle.numerals.specs.Parsing.{Parsed, parsed, malformed, digits_from, numeral_of, digit_next, cursor_of, found_in, numeral_answer}
use Rattle.numerals.proofs.Cases.{clash, by_below}
use Rattle.numerals.proofs.Keys.{digit_range, is_digit_lem}
use Rattle.numerals.proofs.Decimals.{decimal_digit, decimal_more, decimal_some}
use Rattle.numerals.proofs.Cursors.{cursor_rest}
use Rattle.numerals.proofs.Reading.{digits_more, digits_stop, numeral_missing, numeral_zero, numeral_first}

-- what is malformed is not read
pub never : {A : Type 0} {a : A} {u : List ℕ} → malformed ≡ parsed a u → ⊥
never e = let z : ◌≡◌ {A = ℕ} 0 1 = cc in omega arith

-- ---- a numeral that is read is one that is spelled

-- one digit more
pub decimal_append : (v d : ℕ) → 0 < v → d < 10 → decimal (10 * v + d) ≡ decimal v ++ (digit_zero + d) ∷ []
decimal_append v d h l = decimal_more (10 * v + d) (omega arith) ∙ rw (front, last)
  where
    front : (10 * v + d) / 10 ≡ v
    front = omega arith

    last : (10 * v + d) % 10 ≡ d
    last = omega arith

-- a digit is its value above zero
digit_byte : (b : ℕ) → is_digit b ≡ true → digit_zero + (b - digit_zero) ≡ b
digit_byte b e = omega (arith, digit_range b e)

-- which is below ten
digit_value : (b : ℕ) → is_digit b ≡ true → b - digit_zero < 10
digit_value b e = omega (arith, digit_range b e)

-- and it is the numeral of its value
decimal_byte : (b : ℕ) → is_digit b ≡ true → decimal (b - digit_zero) ≡ b ∷ []
decimal_byte b e = decimal_digit (b - digit_zero) (digit_value b e) ∙ ap (λ (x : ℕ). x ∷ []) (digit_byte b e)

-- the digits that are read after a value are those that its numeral goes on with
digits_sound : (u : List ℕ) (v w : ℕ) (rest : List ℕ) → 0 < v → digits_from v u ≡ parsed w rest → decimal v ++ u ≡ decimal w ++ rest
unfolding digits_from
digits_sound [] v w rest h e = cc
digits_sound (b ∷ u) v w rest h e = go (is_digit b) refl e (λ q. digits_sound u (10 * v + (b - digit_zero)) w rest (omega arith) q)
  where
    go : (t : Bool) → is_digit b ≡ t → cond t (digits_from (10 * v + (b - digit_zero)) u) (parsed v (b ∷ u)) ≡ parsed w rest
        → (digits_from (10 * v + (b - digit_zero)) u ≡ parsed w rest → decimal (10 * v + (b - digit_zero)) ++ u ≡ decimal w ++ rest)
        → decimal v ++ b ∷ u ≡ decimal w ++ rest
    go true d q ih = sym (rw (decimal_append v (b - digit_zero) h (digit_value b d), digit_byte b d) (append_snoc (decimal v) b u)) ∙ ih q
    go false d q ih = cc

-- a numeral is a zero that stands alone, or begins with another digit
by_first : {X : Type 0} (b : ℕ) (u : List ℕ) (v : ℕ) (rest : List ℕ) → numeral_of (b ∷ u) ≡ parsed v rest
    → (b ≡ digit_zero → digit_next u ≡ false → parsed 0 u ≡ parsed v rest → X)
    → (is_digit b ≡ true → (b ≡ digit_zero → ⊥) → digits_from (b - digit_zero) u ≡ parsed v rest → X)
    → X
unfolding numeral_of
by_first {X} b u v rest e alone other = go (is_digit b) (eqb b digit_zero) (digit_next u) refl refl refl e
  where
    go : (d z n : Bool) → is_digit b ≡ d → eqb b digit_zero ≡ z → digit_next u ≡ n
        → cond d (cond z (cond n malformed (parsed 0 u)) (digits_from (b - digit_zero) u)) malformed ≡ parsed v rest → X
    go true true true ed ez en q = absurd (never q)
    go true true false ed ez en q = alone (eqb-true b digit_zero ez) en q
    go true false n ed ez en q = other ed (eqb-false b digit_zero ez) q
    go false z n ed ez en q = absurd (never q)

-- the bytes of a numeral that is read spell its value
pub numeral_sound : (u : List ℕ) (v : ℕ) (rest : List ℕ) → numeral_of u ≡ parsed v rest → u ≡ decimal v ++ rest
numeral_sound [] v rest e = absurd (never (sym (numeral_missing [] refl) ∙ e))
numeral_sound (b ∷ u) v rest e = by_first b u v rest e
    (λ z n q. let p : decimal 0 ++ u ≡ decimal v ++ rest = cc in
    ap (λ (x : ℕ). x ∷ u) z ∙ ap (λ (ds : List ℕ). ds ++ u) (sym (decimal_byte digit_zero refl)) ∙ p)
    (λ d n q. let h : 0 < b - digit_zero = omega (arith, digit_range b d) in
    ap (λ (ds : List ℕ). ds ++ u) (sym (decimal_byte b d)) ∙ digits_sound u (b - digit_zero) v rest h q)

-- ---- and each numeral that is spelled is read

-- the numeral of a value above 0 is read as that value, and then the digits after it
numeral_value : (k v : ℕ) (u : List ℕ) → v ≤ k → 0 < v → numeral_of (decimal v ++ u) ≡ digits_from v u
numeral_value zero v u h l = let z : ⊥ = omega arith in absurd z
numeral_value (suc k) v u h l = by_below v 10 short (λ m. long m (numeral_value k (v / 10) ((digit_zero + v % 10) ∷ u) (omega arith) (omega arith)))
  where
    short : v < 10 → numeral_of (decimal v ++ u) ≡ digits_from v u
    short m = rw (decimal_digit v m) (numeral_first (digit_zero + v) u (is_digit_lem (digit_zero + v) (omega arith) (omega arith)) (omega arith)
        ∙ ap (λ (x : ℕ). digits_from x u) (omega arith))

    long : 10 ≤ v → numeral_of (decimal (v / 10) ++ (digit_zero + v % 10) ∷ u) ≡ digits_from (v / 10) ((digit_zero + v % 10) ∷ u)
        → numeral_of (decimal v ++ u) ≡ digits_from v u
    long m ih = rw (decimal_more v m, append_snoc (decimal (v / 10)) (digit_zero + v % 10) u)
        (ih
        ∙ digits_more (v / 10) (digit_zero + v % 10) u (is_digit_lem (digit_zero + v % 10) (omega arith) (omega arith))
        ∙ ap (λ (x : ℕ). digits_from x u) (omega arith))

-- the numeral of a value is read as that value, where no other digit follows
pub numeral_complete : (v : ℕ) (rest : List ℕ) → digit_next rest ≡ false → numeral_of (decimal v ++ rest) ≡ parsed v rest
numeral_complete zero rest e = rw (decimal_byte digit_zero refl) (numeral_zero rest e)
numeral_complete (suc v) rest e = numeral_value (suc v) (suc v) rest (omega arith) (omega arith) ∙ digits_stop (suc v) rest e

-- bytes that begin with a digit
pub record DigitFirst (u : List ℕ) : Type 0 where
  pub first : ℕ
  pub others : List ℕ
  pub is : u ≡ first ∷ others
  pub digit : is_digit first ≡ true

-- where a digit is next the bytes begin with one
digit_first : (u : List ℕ) → digit_next u ≡ true → DigitFirst u
digit_first [] e = clash e refl
digit_first (b ∷ u) e = record { first = b; others = u; is = refl; digit = e }

-- where a numeral is read a digit is next
pub numeral_next : (u : List ℕ) (v : ℕ) (rest : List ℕ) → numeral_of u ≡ parsed v rest → digit_next u ≡ true
numeral_next u v rest e = go (digit_next u) refl
  where
    go : (t : Bool) → digit_next u ≡ t → digit_next u ≡ true
    go true q = q
    go false q = absurd (never (sym (numeral_missing u q) ∙ e))

-- every numeral begins with a digit
pub decimal_first : (v : ℕ) → DigitFirst (decimal v)
decimal_first v = digit_first (decimal v) (numeral_next (decimal v) v [] (rw append-nil at (numeral_complete v [] refl)))

-- whatever follows it
pub decimal_next : (v : ℕ) (rest : List ℕ) → digit_next (decimal v ++ rest) ≡ true
decimal_next v rest = rw (decimal_first v).is (decimal_first v).digit

-- ---- the program's answer

-- a numeral in the text s from the cursor `at` on, which the program has as `it`
pub record NumeralFound (s : List ℕ) (at : ℕ) (it : Found ℕ) : Type 0 where
  pub value : ℕ
  pub is : numeral_of (drop at s) ≡ parsed value (drop it.next s)
  pub told : it.value ≡ capped value
  pub after : at < it.next
  pub inside : it.next ≤ length s

-- of what was read
found : (s : List ℕ) (at w : ℕ) (rest : List ℕ) (it : Found ℕ) → numeral_of (drop at s) ≡ parsed w rest → capped w ≡ it.value → cursor_of s rest ≡ it.next
    → NumeralFound s at it
found s at w rest it e p q = record {
  value = w;
  is = e ∙ ap (parsed w) (sym (ap (λ (i : ℕ). drop i s) (sym q) ∙ cursor_rest s at (decimal w) rest spelled));
  told = sym p;
  after = omega (arith, q, decimal_some w, ap length spelled, length-append (decimal w) rest, length-drop at s);
  inside = omega (arith, q);
}
  where
    spelled : drop at s ≡ decimal w ++ rest
    spelled = numeral_sound (drop at s) w rest e

-- where the answer is a number, that numeral is there
pub numeral_found : (s : List ℕ) (at : ℕ) (it : Found ℕ) → numeral_answer s (numeral_of (drop at s)) ≡ Some it → NumeralFound s at it
unfolding numeral_answer
numeral_found s at it e = go (numeral_of (drop at s)) refl e
  where
    go : (p : Parsed ℕ) → numeral_of (drop at s) ≡ p → numeral_answer s p ≡ Some it → NumeralFound s at it
    go (parsed w rest) q f = let same : found_in s (capped w) rest ≡ it = cc in
        found s at w rest it q (ap (λ (x : Found ℕ). x.value) same) (ap (λ (x : Found ℕ). x.next) same)
    go malformed q f = cc

-- where it is not, there is none
pub numeral_none : (s : List ℕ) (p : Parsed ℕ) → numeral_answer s p ≡ None → p ≡ malformed
unfolding numeral_answer
numeral_none s (parsed w rest) e = cc
numeral_none s malformed e = refl

-- the bytes of a numeral, as `&s[at..next]` lends them, spell its value
pub numeral_run : (s : List ℕ) (at next v : ℕ) → numeral_of (drop at s) ≡ parsed v (drop next s) → at ≤ next → next ≤ length s
    → take (next - at) (drop at s) ≡ decimal v
numeral_run s at next v e h l =
    ap (take (next - at)) spelled
    ∙ take_at (decimal v) (drop next s) (next - at)
    (omega (arith, ap length spelled, length-append (decimal v) (drop next s), length-drop at s, length-drop next s))
  where
    spelled : drop at s ≡ decimal v ++ drop next s
    spelled = numeral_sound (drop at s) v (drop next s) e
