-- One rule of a bank sheet: a fine rule with its lower quantity first has a place, is the rule there, and is written as that rule is; any other fine rule
-- has a doubled term or its higher quantity first, and no canonical place. Assumes nothing.
use mathlib.Core.Path.{◌≡◌, refl, sym, ap, ap₂}
use mathlib.Core.Bool.{Bool, true, false, not, ◌&&◌, beq}
use mathlib.Core.Logic.{◌⊎◌, inl, inr}
use Rattle.std.specs.Prelude.{Some, None}
use Prim.Native.Nat.{ℕ, ◌+◌, ◌-◌, ◌*◌, ◌/◌, ◌%◌, ◌<◌, ◌≤◌}
use native.Mathlib.Omega.{arith}
use lib.Dec.{leb, eqb}
use lib.IntN.{ℤ, nat_abs}
use borrow.Author.Tests.{leb-true, lt-ltb, le-ltb, eqb-true, eqb-false, eq-eqb, ne_eqb}
use Rattle.numerals.specs.Decimal.{cap}
use Rattle.places.specs.Numbering.{block_start, place_of_one, place_of_pair}
use Rattle.places.proofs.Numbering.{one_below, pair_below, one_is_one, one_higher, pair_is_one, pair_higher, pair_lower}
use Rattle.rules.specs.declared.rule.Rule.TheVariants.{One, Two}
use Rattle.rules.specs.Literal.{quantity_of, literal_of, quantity_within}
use Rattle.rules.specs.Meaning.{bound_of}
use Rattle.rules.specs.Steps.{rule_of, halved_of}
use Rattle.tables.specs.Places.{rule_at, find_place}
use Rattle.tables.specs.Tables.{has_rule}
use Rattle.tables.proofs.Tests.{both_true}
use Rattle.lines.specs.Spelling.{Term, Written, one, two, rule, line_within, cancelling, signed_quantity, written_rule}
use Rattle.reading.specs.Meaning.{Fine}
use Rattle.reading.proofs.FineRules.{sign_code, TermIn, term_in, bound_within, within_rule}
use Rattle.writing.specs.Writing.{literal_term, written_of}
use Rattle.reading.specs.Ordered.{canonical_place}
use Rattle.reading.proofs.OrderedLines.{lower_found}
use Rattle.bank.specs.Order.{LowerFirst, Doubled, HigherFirst}

-- ---- the terms of a fine rule

-- the literal of a term
abbrev pub literal : Term → ℕ
literal x = literal_of (signed_quantity x)

-- its one term is over n quantities, and its bound within the limit
pub fine_one : (n limit : ℕ) (x : Term) (c : ℤ) → Fine n limit (rule (one x c)) → TermIn n x × (nat_abs c ≤ limit)
unfolding line_within
fine_one n limit x c f =
    let p = both_true (quantity_within n x.quantity) (leb (nat_abs c) limit) f.within in
    (term_in n x p.0, leb-true (nat_abs c) limit p.1)

-- its two terms are over n quantities, and its bound within the limit
pub fine_two : (n limit : ℕ) (x y : Term) (c : ℤ) → Fine n limit (rule (two x y c)) → TermIn n x × TermIn n y × (nat_abs c ≤ limit)
unfolding line_within
fine_two n limit x y c f =
    let p = both_true (◌&&◌ (quantity_within n x.quantity) (quantity_within n y.quantity)) (leb (nat_abs c) limit) f.within in
    let q = both_true (quantity_within n x.quantity) (quantity_within n y.quantity) p.0 in
    (term_in n x q.0, term_in n y q.1, leb-true (nat_abs c) limit p.1)

-- a bound within a limit of a paper is no no-rule word
bound_rule : (limit : ℕ) (c : ℤ) → limit < cap → nat_abs c ≤ limit → has_rule c ≡ true
bound_rule limit c below h = within_rule limit c below (bound_within limit c h)

-- a term is its sign and its quantity
same_term : (x y : Term) → x.negative ≡ y.negative → x.quantity ≡ y.quantity → x ≡ y
same_term x y e f = ap₂ (λ (b : Bool) (q : ℕ). record { negative = b; quantity = q }) e f

-- the code of a sign and a quantity gives the quantity back
code_quantity : (b : Bool) (q : ℕ) → 1 ≤ q → quantity_of (2 * (q - 1) + sign_code b) ≡ q
code_quantity true q h = omega arith
code_quantity false q h = omega arith

-- and the sign
code_sign : (b : Bool) (q : ℕ) → eqb ((2 * (q - 1) + sign_code b) % 2) 1 ≡ b
code_sign true q = eq-eqb ((2 * (q - 1) + 1) % 2) 1 (omega arith)
code_sign false q = ne_eqb ((2 * (q - 1) + 0) % 2) 1 (omega arith)

-- the literal of a term is of the term's quantity
pub literal_quantity : (n : ℕ) (x : Term) → TermIn n x → quantity_of (literal x) ≡ x.quantity
literal_quantity n x t = rw t.code (code_quantity x.negative x.quantity t.least)

-- and has its sign
literal_sign : (n : ℕ) (x : Term) → TermIn n x → eqb (literal x % 2) 1 ≡ x.negative
literal_sign n x t = rw t.code (code_sign x.negative x.quantity)

-- so it is written as the term
pub literal_back : (n : ℕ) (x : Term) → TermIn n x → literal_term (literal x) ≡ x
literal_back n x t = same_term (literal_term (literal x)) x (literal_sign n x t) (literal_quantity n x t)

-- ---- the rule

-- a rule of one term is the rule of its literal
pub one_written : (n : ℕ) (x : Term) (c : ℤ) → TermIn n x → written_rule (one x c) ≡ One (literal x) c
unfolding written_rule rule_of
one_written n x c t = rw t.some

-- and one of two that of its two
pub two_written : (n : ℕ) (x y : Term) (c : ℤ) → TermIn n x → TermIn n y → written_rule (two x y c) ≡ Two (literal x) (literal y) c
unfolding written_rule rule_of
two_written n x y c t u = rw (t.some, u.some)

-- ---- a rule with its lower quantity first

-- the rule w is the rule of place k, and written as that is
pub record Canonical (n : ℕ) (w : Written) (k : ℕ) : Type 0 where
  pub found : find_place (written_rule w) ≡ Some k
  pub inside : k < block_start n
  pub same : halved_of (written_rule w) ≡ written_rule w
  pub canonical : canonical_place (written_rule w) ≡ Some k
  pub held : rule_at k (bound_of (written_rule w)) ≡ written_rule w
  pub back : written_of (rule_at k (bound_of (written_rule w))) ≡ w
  pub bound : has_rule (bound_of (written_rule w)) ≡ true

-- of one quantity
one_canonical : (n x : ℕ) (c : ℤ) (w : Written) → x / 2 < n → has_rule c ≡ true → written_rule w ≡ One x c → written_of (One x c) ≡ w
    → Canonical n w (place_of_one x)
unfolding find_place halved_of canonical_place rule_at
one_canonical n x c w h b e f = record {
  found = rw e;
  inside = one_below n x (omega arith);
  same = rw e;
  canonical = rw e;
  held = rw (e, one_is_one x, one_higher x);
  back = rw (e, one_is_one x, one_higher x) f;
  bound = rw e b;
}

-- of two, the lower one first
two_canonical : (n x y : ℕ) (c : ℤ) (w : Written) → x / 2 < y / 2 → y / 2 < n → has_rule c ≡ true → written_rule w ≡ Two x y c
    → written_of (Two x y c) ≡ w → Canonical n w (place_of_pair x y)
unfolding find_place halved_of canonical_place rule_at
two_canonical n x y c w l h b e f = record {
  found = rw e (lower_found x y l);
  inside = pair_below n x y l (omega arith);
  same = rw (e, ne_eqb x y (omega arith));
  canonical = rw (e, lt-ltb (quantity_of x) (quantity_of y) (omega arith));
  held = rw (e, pair_is_one x y l, pair_higher x y l, pair_lower x y l);
  back = rw (e, pair_is_one x y l, pair_higher x y l, pair_lower x y l) f;
  bound = rw e b;
}

-- a fine rule with its lower quantity first has a place so
pub canonical_rule : (n limit : ℕ) (w : Written) → limit < cap → Fine n limit (rule w) → LowerFirst w → (k : ℕ) × Canonical n w k
unfolding written_of
canonical_rule n limit (one x c) below f l =
    let p = fine_one n limit x c f in (
      place_of_one (literal x),
      one_canonical n (literal x) c (one x c) p.0.inside (bound_rule limit c below p.1) (one_written n x c p.0) (rw (literal_back n x p.0)),
    )
canonical_rule n limit (two x y c) below f l =
    let p = fine_two n limit x y c f in
    let a = literal_quantity n x p.0 in
    let b = literal_quantity n y p.1 in (
      place_of_pair (literal x) (literal y),
      two_canonical n (literal x) (literal y) c (two x y c) (omega arith) p.1.inside (bound_rule limit c below p.2)
          (two_written n x y c p.0 p.1) (rw (literal_back n x p.0, literal_back n y p.1)),
    )

-- ---- any other rule

-- it has no canonical place where the first of its two quantities is not the lower one
later_nowhere : (n limit : ℕ) (x y : Term) (c : ℤ) → Fine n limit (rule (two x y c)) → y.quantity ≤ x.quantity
    → canonical_place (written_rule (two x y c)) ≡ None
unfolding canonical_place
later_nowhere n limit x y c f l =
    let p = fine_two n limit x y c f in
    let a = literal_quantity n x p.0 in
    let b = literal_quantity n y p.1 in
    rw (two_written n x y c p.0 p.1, le-ltb (quantity_of (literal x)) (quantity_of (literal y)) (omega arith))

-- nor where it has a doubled term
pub doubled_nowhere : (n limit : ℕ) (w : Written) → Fine n limit (rule w) → Doubled w → canonical_place (written_rule w) ≡ None
doubled_nowhere n limit (one x c) f d = absurd d
doubled_nowhere n limit (two x y c) f d = later_nowhere n limit x y c f (let e = ap (λ (z : Term). z.quantity) d in omega arith)

-- nor where its higher quantity stands first
pub higher_nowhere : (n limit : ℕ) (w : Written) → Fine n limit (rule w) → HigherFirst w → canonical_place (written_rule w) ≡ None
higher_nowhere n limit (one x c) f h = absurd h
higher_nowhere n limit (two x y c) f h = later_nowhere n limit x y c f (omega arith)

-- signs that do not differ are equal
same_sign : (a b : Bool) → not (beq a b) ≡ false → a ≡ b
same_sign true true e = refl
same_sign true false e = e
same_sign false true e = sym e
same_sign false false e = refl

-- two terms of one quantity are equal where they do not cancel
same_quantity : (x y : Term) (c : ℤ) → cancelling (two x y c) ≡ false → x.quantity ≡ y.quantity → x ≡ y
unfolding cancelling
same_quantity x y c u e = same_term x y (same_sign x.negative y.negative (rw (eq-eqb x.quantity y.quantity e) at u)) e

-- a fine rule that has not its lower quantity first has a doubled term, or its higher one first
not_lower_cases : (x y : Term) (c : ℤ) → cancelling (two x y c) ≡ false → y.quantity ≤ x.quantity → (x ≡ y) ⊎ (y.quantity < x.quantity)
not_lower_cases x y c u l = go (eqb x.quantity y.quantity) refl
  where
    go : (b : Bool) → eqb x.quantity y.quantity ≡ b → (x ≡ y) ⊎ (y.quantity < x.quantity)
    go true e = inl (same_quantity x y c u (eqb-true x.quantity y.quantity e))
    go false e = inr (omega (arith, eqb-false x.quantity y.quantity e))

-- and no canonical place
pub not_lower : (n limit : ℕ) (w : Written) → Fine n limit (rule w) → (LowerFirst w → ⊥)
    → (canonical_place (written_rule w) ≡ None) × (Doubled w ⊎ HigherFirst w)
not_lower n limit (one x c) f not_so = absurd (not_so tt)
not_lower n limit (two x y c) f not_so =
    let l : y.quantity ≤ x.quantity = omega arith in
    (later_nowhere n limit x y c f l, not_lower_cases x y c f.uncancelled l)
