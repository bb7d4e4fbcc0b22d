-- A rule line that is fine writes a rule that a table accepts. Assumes nothing.
use mathlib.Core.Path.{◌≡◌, refl, sym}
use mathlib.Core.Bool.{Bool, true, false, cond, not, ◌&&◌, beq}
use mathlib.Core.List.{List, [], ◌∷◌}
use Rattle.std.specs.Prelude.{Ok}
use Prim.Native.Nat.{ℕ, zero, suc, ◌+◌, ◌-◌, ◌*◌, ◌/◌, ◌<◌, ◌≤◌}
use native.Mathlib.Omega.{arith}
use lib.Dec.{leb, eqb}
use lib.IntN.{ℤ, pos, negsuc, neg_ℤ, nat_abs}
use borrow.Author.Tests.{leb-true, eq-eqb, ne_eqb}
use Rattle.integers.specs.Bound.{Within, half}
use Rattle.integers.proofs.Parts.{linear, positive_part, negative_part, lt_lt_z}
use Rattle.integers.proofs.Within.{within_to, within_of, within_half}
use Rattle.numerals.specs.Decimal.{cap}
use Rattle.rules.specs.declared.paper.Paper.{Paper}
use Rattle.rules.specs.declared.rule.Rule.TheVariants.{One, Two}
use Rattle.rules.specs.Limits.{no_rule}
use Rattle.rules.specs.Literal.{negated, literal_of, quantity_within}
use Rattle.rules.specs.Steps.{is_none, rule_of, halved_of}
use Rattle.tables.specs.Tables.{has_rule, rule_reply}
use Rattle.tables.proofs.Lists.{AllAccepted}
use Rattle.tables.proofs.Tests.{clash, both_true}
use Rattle.tables.proofs.Replies.{one_inside, two_inside}
use Rattle.lines.specs.Spelling.{Term, Written, one, two, rule, line_within, cancelling, signed_quantity, written_rule, written_rules}
use Rattle.reading.specs.Texts.{Contents, rule_lines}
use Rattle.reading.specs.Meaning.{Fine, AllFine, contents_limit, FineLines}
use Rattle.reading.proofs.Limits.{contents_told}

-- ---- a bound within its limit is no no-rule word, nor is its half

pub bound_within : (limit : ℕ) (c : ℤ) → nat_abs c ≤ limit → Within (pos limit) c
unfolding positive_part negative_part
bound_within limit (pos v) h = within_of (omega arith) (omega arith)
bound_within limit (negsuc v) h = within_of (omega arith) (omega arith)

pub within_rule : (limit : ℕ) (c : ℤ) → limit < cap → Within (pos limit) c → has_rule c ≡ true
unfolding positive_part negative_part
within_rule limit c below w = lt_lt_z c no_rule (omega (linear, within_to w))

-- ---- the literal of a term

-- 1 with -, 0 with +
abbrev pub sign_code : Bool → ℕ
sign_code b = cond b 1 0

-- it has one, and this is its code
some_literal : (b : Bool) (q : ℕ) → 1 ≤ q → is_none (cond b (neg_ℤ (pos q)) (pos q)) ≡ false
some_literal b zero h = let z : ⊥ = omega arith in absurd z
some_literal true (suc k) h = refl
some_literal false (suc k) h = refl

literal_code : (b : Bool) (q : ℕ) → 1 ≤ q → literal_of (cond b (neg_ℤ (pos q)) (pos q)) ≡ 2 * (q - 1) + sign_code b
literal_code b zero h = let z : ⊥ = omega arith in absurd z
literal_code true (suc k) h = omega arith
literal_code false (suc k) h = omega arith

-- a term over n quantities
pub record TermIn (n : ℕ) (x : Term) : Type 0 where
  pub some : is_none (signed_quantity x) ≡ false
  pub code : literal_of (signed_quantity x) ≡ 2 * (x.quantity - 1) + sign_code x.negative
  pub inside : literal_of (signed_quantity x) / 2 < n
  pub least : 1 ≤ x.quantity

-- its literal's half is below n
half_code : (q n : ℕ) (b : Bool) → 1 ≤ q → q ≤ n → (2 * (q - 1) + sign_code b) / 2 < n
half_code q n true h l = omega arith
half_code q n false h l = omega arith

-- the literal of a quantity number within 1 to n
pub term_in : (n : ℕ) (x : Term) → quantity_within n x.quantity ≡ true → TermIn n x
term_in n x e =
    let p = both_true (leb 1 x.quantity) (leb x.quantity n) e in
    let l = leb-true 1 x.quantity p.0 in
    let c = literal_code x.negative x.quantity l in
    record {
      some = some_literal x.negative x.quantity l;
      code = c;
      inside = rw c (half_code x.quantity n x.negative l (leb-true x.quantity n p.1));
      least = l;
    }

-- literals are opposite where the line cancels alone
opposite_cancels : (a b : Bool) (p q : ℕ) → 1 ≤ p → 1 ≤ q → ◌&&◌ (eqb p q) (not (beq a b)) ≡ false
    → 2 * (q - 1) + sign_code b ≡ negated (2 * (p - 1) + sign_code a) → ⊥
opposite_cancels true true p q h g e f = omega arith
opposite_cancels true false p q h g e f = clash {b = ◌&&◌ (eqb p q) true} (rw (eq-eqb p q (omega arith))) e
opposite_cancels false true p q h g e f = clash {b = ◌&&◌ (eqb p q) true} (rw (eq-eqb p q (omega arith))) e
opposite_cancels false false p q h g e f = omega arith

-- ---- the rule

-- a rule of two literals that are not opposite
two_accepted : (n limit x y : ℕ) (c : ℤ) → limit < cap → x / 2 < n → y / 2 < n → (y ≡ negated x → ⊥) → Within (pos limit) c
    → rule_reply n (halved_of (Two x y c)) ≡ Ok tt
unfolding halved_of
two_accepted n limit x y c below h g d w = go (eqb x y)
  where
    go : (b : Bool) → rule_reply n (cond b (One x (half c)) (Two x y c)) ≡ Ok tt
    go true = sym (one_inside n x (half c) true h (within_rule limit (half c) below (within_half w)))
    go false = sym (two_inside n x y c true false h g (within_rule limit c below w) (ne_eqb y (negated x) d))

-- the rule that a fine line writes
pub fine_accepted : (n limit : ℕ) (r : Written) → limit < cap → Fine n limit (rule r) → rule_reply n (halved_of (written_rule r)) ≡ Ok tt
unfolding line_within cancelling written_rule rule_of halved_of
fine_accepted n limit (one x c) below f =
    let p = both_true (quantity_within n x.quantity) (leb (nat_abs c) limit) f.within in
    let t = term_in n x p.0 in
    let w = bound_within limit c (leb-true (nat_abs c) limit p.1) in
    rw t.some (sym (one_inside n (literal_of (signed_quantity x)) c true t.inside (within_rule limit c below w)))
fine_accepted n limit (two x y c) below f =
    let p = both_true (◌&&◌ (quantity_within n x.quantity) (quantity_within n y.quantity)) (leb (nat_abs c) limit) f.within in
    let q = both_true (quantity_within n x.quantity) (quantity_within n y.quantity) p.0 in
    let t = term_in n x q.0 in
    let v = term_in n y q.1 in
    let w = bound_within limit c (leb-true (nat_abs c) limit p.1) in
    rw (t.some, v.some) (two_accepted n limit (literal_of (signed_quantity x)) (literal_of (signed_quantity y)) c below t.inside v.inside
    (λ e. opposite_cancels x.negative y.negative x.quantity y.quantity t.least v.least f.uncancelled
    (rw (t.code, v.code) at e)) w)

-- so all of them are
pub all_accepted : (n limit : ℕ) (rs : List Written) → limit < cap → AllFine n limit (rule_lines rs) → AllAccepted n (written_rules rs)
all_accepted n limit [] below all = tt
all_accepted n limit (r ∷ rs) below all = (fine_accepted n limit r below all.0, all_accepted n limit rs below all.1)

-- those of contents whose every line is fine
pub contents_accepted : (paper : Paper) (c : Contents) → FineLines (contents_limit paper c) c → AllAccepted c.count (written_rules c.written)
contents_accepted paper c f =
    all_accepted c.count (contents_limit paper c) c.written (contents_told paper (contents_limit paper c) c f) f.1.1.1
