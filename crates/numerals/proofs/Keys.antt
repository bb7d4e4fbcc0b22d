-- The bytes at a cursor: keys that they start with, and what the kind of the first tells of it. Assumes nothing.
use mathlib.Core.Path.{◌≡◌, refl, sym, ◌∙◌, ap, ap₂}
use mathlib.Core.Bool.{Bool, true, false, cond, not, ◌&&◌, and-true}
use mathlib.Core.List.{List, [], ◌∷◌, ◌++◌}
use Prim.Native.Nat.{ℕ, ◌+◌, ◌-◌, ◌≤◌, ◌<◌, min}
use native.Mathlib.Omega.{arith}
use lib.Dec.{leb, eqb}
use lib.ListN.{length, get_or, take, drop, length-append, length-drop, drop_of_length-le, get_or-eq_default}
use lib.Seq.{drop-cons, drop-drop, drop-append_seam}
use denote.Enum.Bare.{sameb, true_same, false_same}
use borrow.Author.Tests.{leb-true, eqb-true, eqb-false, not-true, not-false, le-leb, eq-eqb, ne_eqb}
use Rattle.std.specs.List.{starts_with as list_starts}
use Rattle.std.proofs.lemmas.List.{take_all}
use Rattle.numerals.specs.declared.byte.Kind.{Kind}
use Rattle.numerals.specs.declared.byte.Kind.TheVariants.{Digit, Plus, Minus, Colon, Comma, LineEnd, Other}
use Rattle.numerals.specs.Bytes.{is_digit, kind_of, digit_zero, plus, minus, colon, comma, newline}
use Rattle.numerals.specs.Parsing.{Parsed, malformed, expect, starts_with, digit_next}
use Rattle.numerals.specs.contracts.byte.Kind.{the_type}
use Rattle.numerals.proofs.Cases.{clash, failed, both_true, by_below}

-- ---- digits

-- a digit is one of the ten bytes
pub digit_range : (b : ℕ) → is_digit b ≡ true → (digit_zero ≤ b) × (b ≤ 57)
digit_range b e = let p = both_true (leb digit_zero b) (leb b 57) e in (leb-true digit_zero b p.0, leb-true b 57 p.1)

-- and each of these is a digit
pub is_digit_lem : (b : ℕ) → digit_zero ≤ b → b ≤ 57 → is_digit b ≡ true
is_digit_lem b h l = rw (le-leb digit_zero b h, le-leb b 57 l)

-- others are none
pub no_digit : (b : ℕ) → (digit_zero ≤ b → b ≤ 57 → ⊥) → is_digit b ≡ false
no_digit b h = failed (is_digit b) (λ e. h (digit_range b e).0 (digit_range b e).1)

-- ---- kinds

-- the byte of a kind that one byte alone has
abbrev pub byte_of : Kind → ℕ
byte_of Digit = digit_zero
byte_of Plus = plus
byte_of Minus = minus
byte_of Colon = colon
byte_of Comma = comma
byte_of LineEnd = newline
byte_of Other = 0

-- does one byte alone have this kind?
abbrev pub single : Kind → Bool
single Digit = false
single Plus = true
single Minus = true
single Colon = true
single Comma = true
single LineEnd = true
single Other = false

-- is it any kind but `Other`?
abbrev pub named : Kind → Bool
named Digit = true
named Plus = true
named Minus = true
named Colon = true
named Comma = true
named LineEnd = true
named Other = false

-- a byte of a kind that one byte alone has is that byte
pub kind_byte : (k : Kind) (b : ℕ) → single k ≡ true → kind_of b ≡ k → b ≡ byte_of k
unfolding kind_of
kind_byte k b o e = go (is_digit b) (eqb b plus) (eqb b minus) (eqb b colon) (eqb b comma) (eqb b newline) refl refl refl refl refl e
  where
    go : (d p m c a l : Bool) → eqb b plus ≡ p → eqb b minus ≡ m → eqb b colon ≡ c → eqb b comma ≡ a → eqb b newline ≡ l
        → cond d Digit (cond p Plus (cond m Minus (cond c Colon (cond a Comma (cond l LineEnd Other))))) ≡ k → b ≡ byte_of k
    go true p m c a l ep em ec ea el f = clash o (ap single (sym f))
    go false true m c a l ep em ec ea el f = eqb-true b plus ep ∙ ap byte_of f
    go false false true c a l ep em ec ea el f = eqb-true b minus em ∙ ap byte_of f
    go false false false true a l ep em ec ea el f = eqb-true b colon ec ∙ ap byte_of f
    go false false false false true l ep em ec ea el f = eqb-true b comma ea ∙ ap byte_of f
    go false false false false false true ep em ec ea el f = eqb-true b newline el ∙ ap byte_of f
    go false false false false false false ep em ec ea el f = clash o (ap single (sym f))

-- and that byte has the kind
pub byte_kind : (k : Kind) → single k ≡ true → kind_of (byte_of k) ≡ k
unfolding kind_of
byte_kind Digit o = clash o refl
byte_kind Plus o = refl
byte_kind Minus o = refl
byte_kind Colon o = refl
byte_kind Comma o = refl
byte_kind LineEnd o = refl
byte_kind Other o = clash o refl

-- a byte that is none of these, and no digit, has no kind of its own
pub kind_other : (b : ℕ) → (digit_zero ≤ b → b ≤ 57 → ⊥) → (b ≡ plus → ⊥) → (b ≡ minus → ⊥) → (b ≡ colon → ⊥) → (b ≡ comma → ⊥) → (b ≡ newline → ⊥)
    → kind_of b ≡ Other
unfolding kind_of
kind_other b d p m c a l = rw (no_digit b d, ne_eqb b plus p, ne_eqb b minus m, ne_eqb b colon c, ne_eqb b comma a, ne_eqb b newline l)

-- the digits have the kind of digits
pub digit_kind : (b : ℕ) → is_digit b ≡ true → kind_of b ≡ Digit
unfolding kind_of
digit_kind b e = rw e

-- and no other byte has it
pub kind_digit : (b : ℕ) → kind_of b ≡ Digit → is_digit b ≡ true
unfolding kind_of
kind_digit b e = go (is_digit b) (eqb b plus) (eqb b minus) (eqb b colon) (eqb b comma) (eqb b newline) e
  where
    go : (d p m c a l : Bool) → cond d Digit (cond p Plus (cond m Minus (cond c Colon (cond a Comma (cond l LineEnd Other))))) ≡ Digit → d ≡ true
    go true p m c a l f = refl
    go false true m c a l f = clash refl (ap single f)
    go false false true c a l f = clash refl (ap single f)
    go false false false true a l f = clash refl (ap single f)
    go false false false false true l f = clash refl (ap single f)
    go false false false false false true f = clash refl (ap single f)
    go false false false false false false f = clash refl (ap named (sym f))

-- a byte of a kind passes the test against the kind's byte
pub kind_test : (k : Kind) (b : ℕ) → single k ≡ true → kind_of b ≡ k → eqb b (byte_of k) ≡ true
kind_test k b o e = eq-eqb b (byte_of k) (kind_byte k b o e)

-- the code's test whether a byte is of a kind that one byte alone has
kind_same : (k : Kind) (b : ℕ) → single k ≡ true → sameb the_type (kind_of b) k ≡ eqb b (byte_of k)
kind_same k b o = go (eqb b (byte_of k)) refl
  where
    go : (t : Bool) → eqb b (byte_of k) ≡ t → sameb the_type (kind_of b) k ≡ t
    go true e = true_same the_type _ _ (ap kind_of (eqb-true b (byte_of k) e) ∙ byte_kind k o)
    go false e = false_same the_type tt _ _ (λ q. clash (kind_test k b o q) e)

-- and whether it is a digit
digit_same : (b : ℕ) → sameb the_type (kind_of b) Digit ≡ is_digit b
digit_same b = go (is_digit b) refl
  where
    go : (t : Bool) → is_digit b ≡ t → sameb the_type (kind_of b) Digit ≡ t
    go true e = true_same the_type _ _ (digit_kind b e)
    go false e = false_same the_type tt _ _ (λ q. clash (kind_digit b q) e)

-- ---- keys

-- bytes that start with a key are the key and the bytes after it
pub starts_is : (ks u : List ℕ) → starts_with ks u ≡ true → u ≡ ks ++ drop (length ks) u
unfolding starts_with
starts_is [] u e = refl
starts_is (k ∷ ks) [] e = clash e refl
starts_is (k ∷ ks) (b ∷ u) e = let p = both_true (eqb b k) (starts_with ks u) e in ap₂ ◌∷◌ (eqb-true b k p.0) (starts_is ks u p.1)

-- and a key with any bytes after it starts with it
pub starts_with_append : (ks u : List ℕ) → starts_with ks (ks ++ u) ≡ true
unfolding starts_with
starts_with_append [] u = refl
starts_with_append (k ∷ ks) u = rw (eq-eqb k k refl, starts_with_append ks u)

-- such bytes are at least as many
pub starts_length : (ks u : List ℕ) → starts_with ks u ≡ true → length ks ≤ length u
starts_length ks u e = omega (arith, length-append ks (drop (length ks) u), ap length (starts_is ks u e))

-- what is expected is there and is passed, or nothing is read
pub expect_tests : {A : Type 0} (ks u : List ℕ) (next : List ℕ → Parsed A)
    → expect ks u next ≡ cond (starts_with ks u) (next (drop (length ks) u)) malformed
unfolding starts_with expect
expect_tests [] u next = refl
expect_tests (k ∷ ks) [] next = refl
expect_tests (k ∷ ks) (b ∷ u) next = rw (expect_tests ks u next) (go (eqb b k))
  where
    go : (t : Bool) → cond t (cond (starts_with ks u) (next (drop (length ks) u)) malformed) malformed
        ≡ cond (t && starts_with ks u) (next (drop (length ks) u)) malformed
    go true = refl
    go false = refl

-- a key that is there is passed
pub expect_key : {A : Type 0} (ks u : List ℕ) (next : List ℕ → Parsed A) → starts_with ks u ≡ true → expect ks u next ≡ next (drop (length ks) u)
expect_key ks u next e = rw (expect_tests ks u next, e)

-- where it is not, nothing is read
pub expect_not : {A : Type 0} (ks u : List ℕ) (next : List ℕ → Parsed A) → starts_with ks u ≡ false → expect ks u next ≡ malformed
expect_not ks u next e = rw (expect_tests ks u next, e)

-- before any bytes it is passed
pub expect_append : {A : Type 0} (ks u : List ℕ) (next : List ℕ → Parsed A) → expect ks (ks ++ u) next ≡ next u
expect_append ks u next = expect_key ks (ks ++ u) next (starts_with_append ks u) ∙ ap next (drop-append_seam ks u)

-- ---- by the kind of the first byte

-- the kind of the first byte
unfoldable pub kind_at : List ℕ → Kind
kind_at [] = Other
kind_at (b ∷ u) = kind_of b

-- ---- at a cursor

-- so the code's test of the byte that is read at a cursor tells whether a certain byte is there
pub same_starts : (k : Kind) (s : List ℕ) (at : ℕ) → single k ≡ true → sameb the_type (kind_of (get_or s at 0)) k ≡ starts_with (byte_of k ∷ []) (drop at s)
unfolding starts_with
same_starts k s at o = kind_same k (get_or s at 0) o ∙ by_below at (length s)
    (λ h. rw (drop-cons s at 0 h) (sym (and-true (eqb (get_or s at 0) (byte_of k)))))
    (λ h. rw (drop_of_length-le s h, get_or-eq_default s 0 h) (zero_fails k o))
  where
    zero_fails : (k : Kind) → single k ≡ true → eqb 0 (byte_of k) ≡ false
    zero_fails Digit o = refl
    zero_fails Plus o = refl
    zero_fails Minus o = refl
    zero_fails Colon o = refl
    zero_fails Comma o = refl
    zero_fails LineEnd o = refl
    zero_fails Other o = clash o refl

-- where a comparison by `!=` fails it is
pub kind_holds : (k : Kind) (s : List ℕ) (at : ℕ) {b : ℕ} {found : Kind} {r : Bool} → single k ≡ true → b ≡ get_or s at 0 → found ≡ kind_of b
    → r ≡ not (sameb the_type found k) → r ≡ false → starts_with (byte_of k ∷ []) (drop at s) ≡ true
kind_holds k s at {b} {found} {r} o e f d h = sym (same_starts k s at o) ∙ ap (λ (x : ℕ). sameb the_type (kind_of x) k) (sym e)
    ∙ ap (λ (x : Kind). sameb the_type x k) (sym f) ∙ not-false (sameb the_type found k) (sym d ∙ h)

-- and where it does not it is not
pub kind_fails : (k : Kind) (s : List ℕ) (at : ℕ) {b : ℕ} {found : Kind} {r : Bool} → single k ≡ true → b ≡ get_or s at 0 → found ≡ kind_of b
    → r ≡ not (sameb the_type found k) → r ≡ true → starts_with (byte_of k ∷ []) (drop at s) ≡ false
kind_fails k s at {b} {found} {r} o e f d h = sym (same_starts k s at o) ∙ ap (λ (x : ℕ). sameb the_type (kind_of x) k) (sym e)
    ∙ ap (λ (x : Kind). sameb the_type x k) (sym f) ∙ not-true (sameb the_type found k) (sym d ∙ h)

-- a comparison by `==` tells it
pub kind_told : (k : Kind) (s : List ℕ) (at : ℕ) {b : ℕ} {found : Kind} {r : Bool} → single k ≡ true → b ≡ get_or s at 0 → found ≡ kind_of b
    → r ≡ sameb the_type found k → starts_with (byte_of k ∷ []) (drop at s) ≡ r
kind_told k s at {b} {found} {r} o e f d = sym (d ∙ ap (λ (x : Kind). sameb the_type x k) f ∙ ap (λ (x : ℕ). sameb the_type (kind_of x) k) e ∙ same_starts k s at o)

-- such a byte is inside the text
pub byte_inside : (b : ℕ) (s : List ℕ) (at : ℕ) → starts_with (b ∷ []) (drop at s) ≡ true → at < length s
byte_inside b s at e = omega (arith, starts_length (b ∷ []) (drop at s) e, length-drop at s)

-- and of whether a digit is there
pub same_digit : (s : List ℕ) (at : ℕ) → sameb the_type (kind_of (get_or s at 0)) Digit ≡ digit_next (drop at s)
same_digit s at = digit_same (get_or s at 0) ∙ by_below at (length s)
    (λ h. rw (drop-cons s at 0 h))
    (λ h. rw (drop_of_length-le s h, get_or-eq_default s 0 h))

-- before it there is a byte, and past it 0 stands for one
pub kind-at : (s : List ℕ) (at : ℕ) → kind_at (drop at s) ≡ kind_of (get_or s at 0)
unfolding kind_at kind_of
kind-at s at = by_below at (length s)
    (λ h. rw (drop-cons s at 0 h))
    (λ h. rw (drop_of_length-le s h, get_or-eq_default s 0 h))

-- so the kind of the byte that is read at a cursor is that of the bytes there
pub kind_read : {k : Kind} {b : ℕ} (s : List ℕ) (at : ℕ) → b ≡ get_or s at 0 → k ≡ kind_of b → k ≡ kind_at (drop at s)
kind_read s at e f = f ∙ ap kind_of e ∙ sym (kind-at s at)

-- at the end of the text there is no digit
pub digit_end : (s : List ℕ) (at : ℕ) → length s ≤ at → digit_next (drop at s) ≡ false
digit_end s at h = rw (drop_of_length-le s h)

-- before it the byte tells
pub digit_at : (s : List ℕ) (at : ℕ) → at < length s → digit_next (drop at s) ≡ is_digit (get_or s at 0)
digit_at s at h = rw (drop-cons s at 0 h)

-- a digit is inside the text
pub digit_inside : (s : List ℕ) (at : ℕ) → digit_next (drop at s) ≡ true → at < length s
digit_inside s at e = by_below at (length s) (λ h. h) (λ h. clash e (digit_end s at h))

-- the bytes that begin with a certain one are it and those after it
pub byte_first : (b : ℕ) (s : List ℕ) (at : ℕ) → starts_with (b ∷ []) (drop at s) ≡ true → drop at s ≡ b ∷ drop (at + 1) s
byte_first b s at e = starts_is (b ∷ []) (drop at s) e ∙ ap (λ (u : List ℕ). b ∷ u) (drop-drop 1 at s)

-- it is passed
pub byte_passed : {A : Type 0} (b : ℕ) (s : List ℕ) (at : ℕ) (next : List ℕ → Parsed A) → starts_with (b ∷ []) (drop at s) ≡ true
    → expect (b ∷ []) (drop at s) next ≡ next (drop (at + 1) s)
byte_passed b s at next e = expect_key (b ∷ []) (drop at s) next e ∙ ap next (drop-drop 1 at s)

-- a first byte that is not expected fails the test against the one that is
pub byte_fails : (k b : ℕ) (u : List ℕ) → starts_with (k ∷ []) (b ∷ u) ≡ false → eqb b k ≡ false
unfolding starts_with
byte_fails k b u e = failed (eqb b k) (λ q. clash (rw q) e)

-- the library's test of a key tells the same
pub library_starts : (ks u : List ℕ) → list_starts eqb u ks ≡ starts_with ks u
unfolding starts_with
library_starts [] u = refl
library_starts (k ∷ ks) [] = refl
library_starts (k ∷ ks) (b ∷ u) = ap₂ ◌&&◌ (either_way (eqb b k) refl) (library_starts ks u)
  where
    either_way : (t : Bool) → eqb b k ≡ t → eqb k b ≡ t
    either_way true e = eq-eqb k b (sym (eqb-true b k e))
    either_way false e = ne_eqb k b (λ q. eqb-false b k e (sym q))

-- at the rest of a text, of which nothing is left past its end
pub library_key : (ks s : List ℕ) (at i : ℕ) → i ≡ min at (length s) → list_starts eqb (take (length s - i) (drop i s)) ks ≡ starts_with ks (drop at s)
library_key ks s at i e = rw (take_all (length s - i) (drop i s) (omega (arith, length-drop i s)))
    (library_starts ks (drop i s) ∙ ap (starts_with ks) (by_below at (length s) (λ h. ap (λ (j : ℕ). drop j s) (omega (arith, e)))
    (λ h. drop_of_length-le s (omega (arith, e)) ∙ sym (drop_of_length-le s h))))
