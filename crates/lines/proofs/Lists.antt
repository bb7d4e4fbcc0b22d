-- The list of hidden quantities is read exactly where numbers are spelled that increase. Assumes nothing.
use mathlib.Core.Path.{◌≡◌, refl, sym, ◌∙◌, ap}
use mathlib.Core.Bool.{Bool, true, false, cond}
use mathlib.Core.List.{List, [], ◌∷◌, ◌++◌, append_assoc}
use Prim.Native.Nat.{ℕ, zero, suc, ◌≤◌, ◌<◌}
use native.Mathlib.Omega.{arith}
use lib.Dec.{leb, eqb}
use lib.ListN.{length, length-append}
use borrow.Author.Tests.{leb-true, le-leb, eqb-true, ne_eqb}
use Rattle.numerals.specs.Bytes.{newline, comma}
use Rattle.numerals.specs.Decimal.{decimal}
use Rattle.numerals.specs.Parsing.{Parsed, parsed, malformed, and_then, digit_next, numeral_of}
use Rattle.numerals.proofs.Cases.{clash}
use Rattle.numerals.proofs.Keys.{digit_range}
use Rattle.numerals.proofs.Decimals.{decimal_some}
use Rattle.numerals.proofs.Numerals.{never, numeral_sound, numeral_complete, decimal_next}
use Rattle.lines.specs.Spelling.{joined_text, list_text, IncreasingFrom}
use Rattle.lines.specs.Lines.{with_first, members_after, members_from, list_of}
use Rattle.lines.proofs.Forms.{by_both, both_read}

-- ---- numbers joined by commas

-- a list of at least one number that increase from `least`, spelled with its line's end before the bytes `rest`
pub record Members (least : ℕ) (u qs rest : List ℕ) : Type 0 where
  pub first : ℕ
  pub others : List ℕ
  pub are : qs ≡ first ∷ others
  pub spelled : u ≡ joined_text first others ++ newline ∷ rest
  pub increase : IncreasingFrom least (first ∷ others)

-- the bytes of a number before others
joined_parts : (q p : ℕ) (ps rest : List ℕ) → joined_text q (p ∷ ps) ++ rest ≡ decimal q ++ (comma ∷ (joined_text p ps ++ rest))
unfolding joined_text
joined_parts q p ps rest = simp append_assoc

-- one number is a list
lone : (least q : ℕ) (u qs v rest : List ℕ) → least ≤ q → u ≡ decimal q ++ newline ∷ v → parsed (q ∷ []) v ≡ parsed qs rest → Members least u qs rest
unfolding joined_text
lone least q u qs v rest h p e = record {
  first = q;
  others = [];
  are = cc;
  spelled = let r : v ≡ rest = cc in p ∙ ap (λ (w : List ℕ). decimal q ++ newline ∷ w) r;
  increase = (h, tt);
}

-- and so is one before a list of greater ones
before : (least q : ℕ) (u v ps qs rest : List ℕ) → least ≤ q → u ≡ decimal q ++ comma ∷ v → q ∷ ps ≡ qs → Members (suc q) v ps rest
    → Members least u qs rest
before least q u v ps qs rest h p e m = record {
  first = q;
  others = m.first ∷ m.others;
  are = cc;
  spelled = p ∙ ap (λ (w : List ℕ). decimal q ++ comma ∷ w) m.spelled ∙ sym (joined_parts q m.first m.others (newline ∷ rest));
  increase = (h, m.increase);
}

-- after a number: the end, or further ones
after_sound : (further : List ℕ → Parsed (List ℕ)) (least q : ℕ) (u v qs rest : List ℕ) → least ≤ q → u ≡ decimal q ++ v
    → ((w ps : List ℕ) → further w ≡ parsed ps rest → Members (suc q) w ps rest) → members_after further q v ≡ parsed qs rest → Members least u qs rest
unfolding members_after
after_sound further least q u [] qs rest h p more e = absurd (never e)
after_sound further least q u (b ∷ v) qs rest h p more e = go (eqb b newline) (eqb b comma) (eqb-true b newline) (eqb-true b comma) e
  where
    starts : (k : ℕ) → b ≡ k → u ≡ decimal q ++ k ∷ v
    starts k f = p ∙ ap (λ (x : ℕ). decimal q ++ x ∷ v) f

    go : (n c : Bool) → (n ≡ true → b ≡ newline) → (c ≡ true → b ≡ comma)
        → cond n (parsed (q ∷ []) v) (cond c (and_then (further v) (with_first q)) malformed) ≡ parsed qs rest → Members least u qs rest
    go true c hn hc f = lone least q u qs v rest h (starts newline (hn refl)) f
    go false true hn hc f = by_both (further v) (with_first q) qs rest f (λ ps w r g.
        let s : w ≡ rest = cc in before least q u v ps qs rest h (starts comma (hc refl)) (cc) (more v ps (r ∙ ap (parsed ps) s)))
    go false false hn hc f = absurd (never f)

-- numbers that were read are spelled, and increase
pub members_sound : (k least : ℕ) (u qs rest : List ℕ) → members_from k least u ≡ parsed qs rest → Members least u qs rest
unfolding members_from
members_sound zero least u qs rest e = absurd (never e)
members_sound (suc k) least u qs rest e = by_both (numeral_of u) (λ q v. cond (leb least q) (members_after (members_from k (suc q)) q v) malformed) qs rest e
    (λ q v p f. go q v p (leb least q) (leb-true least q) f (λ w ps. members_sound k (suc q) w ps rest))
  where
    go : (q : ℕ) (v : List ℕ) → numeral_of u ≡ parsed q v → (t : Bool) → (t ≡ true → least ≤ q)
        → cond t (members_after (members_from k (suc q)) q v) malformed ≡ parsed qs rest
        → ((w ps : List ℕ) → members_from k (suc q) w ≡ parsed ps rest → Members (suc q) w ps rest)
        → Members least u qs rest
    go q v p true h f ih = after_sound (members_from k (suc q)) least q u v qs rest (h refl) (numeral_sound u q v p) ih f
    go q v p false h f ih = absurd (never f)

-- a number is read, and then what comes after it
first_read : (k least q : ℕ) (rest : List ℕ) → least ≤ q → digit_next rest ≡ false
    → members_from (suc k) least (decimal q ++ rest) ≡ members_after (members_from k (suc q)) q rest
unfolding members_from
first_read k least q rest h e =
    both_read (numeral_of (decimal q ++ rest)) (λ p v. cond (leb least p) (members_after (members_from k (suc p)) p v) malformed) q rest
    (numeral_complete q rest e)
    ∙ rw (le-leb least q h)

-- numbers that increase are read where they are spelled
pub members_complete : (k least q : ℕ) (ps rest : List ℕ) → length ps < k → IncreasingFrom least (q ∷ ps)
    → members_from k least (joined_text q ps ++ newline ∷ rest) ≡ parsed (q ∷ ps) rest
unfolding joined_text members_after
members_complete zero least q ps rest h o = let z : ⊥ = omega arith in absurd z
members_complete (suc k) least q [] rest h o = first_read k least q (newline ∷ rest) o.0 refl
members_complete (suc k) least q (p ∷ ps) rest h o =
    ap (members_from (suc k) least) (joined_parts q p ps (newline ∷ rest))
    ∙ first_read k least q (comma ∷ further) o.0 refl
    ∙ both_read (members_from k (suc q) further) (with_first q) (p ∷ ps) rest (members_complete k (suc q) p ps rest (omega arith) o.1)
  where
    further : List ℕ
    further = joined_text p ps ++ newline ∷ rest

-- each number has a byte
joined_some : (q : ℕ) (ps : List ℕ) → length ps < length (joined_text q ps)
unfolding joined_text
joined_some q [] = decimal_some q
joined_some q (p ∷ ps) = omega (arith, length-append (decimal q) (comma ∷ joined_text p ps), decimal_some q, joined_some p ps)

-- and the first byte is a digit
joined_next : (q : ℕ) (ps rest : List ℕ) → digit_next (joined_text q ps ++ rest) ≡ true
unfolding joined_text
joined_next q [] rest = decimal_next q rest
joined_next q (p ∷ ps) rest = ap digit_next (joined_parts q p ps rest) ∙ decimal_next q (comma ∷ (joined_text p ps ++ rest))

-- ---- the list of hidden quantities

-- a list that was read and is not empty
some_sound : (u qs rest : List ℕ) → Members 0 u qs rest → (u ≡ list_text qs ++ newline ∷ rest) × IncreasingFrom 0 qs
unfolding list_text
some_sound u qs rest m = rw m.are (m.spelled, m.increase)

-- a list that was read is spelled, and increases
pub list_sound : (u qs rest : List ℕ) → list_of u ≡ parsed qs rest → (u ≡ list_text qs ++ newline ∷ rest) × IncreasingFrom 0 qs
unfolding list_of list_text
list_sound [] qs rest e = absurd (never e)
list_sound (b ∷ u) qs rest e = go (eqb b newline) (eqb-true b newline) e
  where
    go : (t : Bool) → (t ≡ true → b ≡ newline) → cond t (parsed [] u) (members_from (length (b ∷ u)) 0 (b ∷ u)) ≡ parsed qs rest
        → (b ∷ u ≡ list_text qs ++ newline ∷ rest) × IncreasingFrom 0 qs
    go true h f = let none : [] ≡ qs = cc in let r : u ≡ rest = cc in rw (← none, ← r) (ap (λ (k : ℕ). k ∷ u) (h refl), tt)
    go false h f = some_sound (b ∷ u) qs rest (members_sound (length (b ∷ u)) 0 (b ∷ u) qs rest f)

-- a list that begins with a digit is not empty
some_read : (u : List ℕ) → digit_next u ≡ true → list_of u ≡ members_from (length u) 0 u
unfolding list_of
some_read [] e = clash e refl
some_read (b ∷ u) e = rw (ne_eqb b newline (λ q. omega (arith, digit_range b e)))

-- a list that increases is read where it is spelled
pub list_complete : (qs rest : List ℕ) → IncreasingFrom 0 qs → list_of (list_text qs ++ newline ∷ rest) ≡ parsed qs rest
unfolding list_of list_text
list_complete [] rest o = refl
list_complete (q ∷ qs) rest o =
    some_read text (joined_next q qs (newline ∷ rest))
    ∙ members_complete (length text) 0 q qs rest (omega (arith, joined_some q qs, length-append (joined_text q qs) (newline ∷ rest))) o
  where
    text : List ℕ
    text = joined_text q qs ++ newline ∷ rest
