-- The case work of document 01's sums: what is left of a rule when a literal is taken from it, read off the table's words, which rule two such
-- rests give, and so a list of all sums by words. Assumes nothing.
use mathlib.Core.Path.{◌≡◌, refl, sym, ◌∙◌}
use mathlib.Core.Bool.{Bool, true, false, cond, ◌&&◌, ◌||◌}
use mathlib.Core.List.{List}
use mathlib.Core.Logic.{inl, inr}
use Prim.Native.Nat.{ℕ, zero, suc, ◌+◌, ◌*◌, ◌/◌, ◌≤◌, ◌<◌}
use native.Mathlib.Omega.{arith}
use lib.Dec.{eqb}
use lib.IntN.{ℤ, pos, ◌+ℤ◌}
use lib.ListN.{length}
use lib.Signed.{lt_z, ◌≤ℤ◌, ◌<ℤ◌}
use borrow.Author.Tests.{lt-ltb, le-ltb, eqb-true, eqb-false, eq-eqb, ne_eqb}
use Rattle.integers.specs.Bound.{half}
use Rattle.integers.proofs.Parts.{linear}
use Rattle.std.specs.Prelude.{Some}
use Rattle.words.specs.Change.{word_at}
use Rattle.places.specs.Numbering.{block_start, place_of_one, place_of_pair, place_of_two, is_one, higher_at, lower_at}
use Rattle.places.proofs.Numbering.{one_below, pair_below, one_is_one, one_higher, pair_is_one, pair_higher, pair_lower, at_lower, at_below}
use Rattle.rules.specs.declared.rule.Rule.{Rule}
use Rattle.rules.specs.declared.rule.Rule.TheVariants.{One, Two, Nothing}
use Rattle.rules.specs.declared.rule.Partner.{Partner}
use Rattle.rules.specs.declared.rule.Partner.TheVariants.{With, Alone, Absent}
use Rattle.rules.specs.Literal.{negated}
use Rattle.rules.specs.Meaning.{bound_of}
use Rattle.rules.specs.Steps.{halved_of, in_order, partner_of, rest_rule}
use Rattle.rules.specs.Promises.{Stands}
use Rattle.tables.specs.Places.{rule_at, find_place}
use Rattle.tables.specs.Tables.{has_rule}
use Rattle.tables.specs.Meaning.{HoldsRule, rule_in}
use Rattle.tables.proofs.Places.{found_two}
use Rattle.tables.proofs.Tests.{clash, both_true, neither}
use Rattle.elimination.specs.Hiding.{every, bare_below, pair_word, lone_word, any_bare, contradicts}
use Rattle.elimination.proofs.TermWords.{quantity_cases, pair_first, pair_second, pair_apart, pair_sym, lone_at, pair_at}
use Rattle.elimination.proofs.Step.{bare_clear, any_bare_clear}

-- ---- the rule that two rests give

-- bare where one is the other's negation,
pub rest_cancels : (x : ℕ) (s : ℤ) → rest_rule (With x) (With (negated x)) s ≡ Nothing s
unfolding rest_rule
rest_cancels x s = rw (eq-eqb (negated x) (negated x) refl)

-- of one literal, with the sum halved, where they are alike,
pub rest_alike : (x : ℕ) (s : ℤ) → rest_rule (With x) (With x) s ≡ One x (half s)
unfolding rest_rule halved_of in_order
rest_alike x s = rw (ne_eqb x (negated x) (λ e. omega arith), eq-eqb x x refl)

-- and else of two quantities, the lower one first
pub rest_lower : (x y : ℕ) (s : ℤ) → x / 2 < y / 2 → rest_rule (With x) (With y) s ≡ Two x y s
unfolding rest_rule halved_of in_order
rest_lower x y s o = rw (ne_eqb y (negated x) (λ e. omega arith), ne_eqb x y (λ e. omega arith), lt-ltb x y (omega arith))

pub rest_upper : (x y : ℕ) (s : ℤ) → x / 2 < y / 2 → rest_rule (With y) (With x) s ≡ Two x y s
unfolding rest_rule halved_of in_order
rest_upper x y s o = rw (ne_eqb x (negated y) (λ e. omega arith), ne_eqb y x (λ e. omega arith), le-ltb y x (omega arith))

-- there is no other case
pub rest_cases : (P : Rule → Type 0) (x y : ℕ) (s : ℤ) → (y ≡ negated x → P (Nothing s)) → (x ≡ y → P (One x (half s)))
    → (x / 2 < y / 2 → P (Two x y s)) → (y / 2 < x / 2 → P (Two y x s)) → P (rest_rule (With x) (With y) s)
rest_cases P x y s cancels alike lower upper =
    quantity_cases (P (rest_rule (With x) (With y) s)) x y (λ e. go e (eqb x y) refl) (λ o. rw (rest_lower x y s o) (lower o))
    (λ o. rw (rest_upper y x s o) (upper o))
  where
    go : x / 2 ≡ y / 2 → (b : Bool) → eqb x y ≡ b → P (rest_rule (With x) (With y) s)
    go e true d = let q = eqb-true x y d in rw (← q, rest_alike x s) (alike q)
    go e false d =
        let u = eqb-false x y d in
        let q : y ≡ negated x = omega arith in
        rw (q, rest_cancels x s) (cancels q)

-- ---- where such a rule goes

-- to the place of its one literal, or of its two
pub found_one : (x : ℕ) (c : ℤ) → find_place (One x c) ≡ Some (place_of_one x)
unfolding find_place
found_one x c = refl

pub found_pair : (x y : ℕ) (c : ℤ) → x / 2 < y / 2 → find_place (Two x y c) ≡ Some (place_of_pair x y)
unfolding find_place place_of_two
found_pair x y c o = found_two x y (λ e. omega arith) ∙ rw (lt-ltb x y (omega arith))

-- ---- the rules with one literal

-- what is left of a rule with z, whose bound is c: another literal of n quantities, or nothing; c is the word of the two together, or of z alone
abbrev pub Left : ℕ → ℕ → List ℤ → Partner → ℤ → Type 0
Left n z t (With x) c = (x < 2 * n) × (has_rule (pair_word t z x) ≡ true) × (c ≡ pair_word t z x)
Left n z t Alone c = (has_rule (lone_word t z) ≡ true) × (c ≡ lone_word t z)
Left n z t Absent c = ⊥

-- every rule with z that a place holds leaves that,
pub place_left : (n z : ℕ) (t : List ℤ) (k : ℕ) → HoldsRule n t k → Stands z (rule_in t k)
    → Left n z t (partner_of z (rule_in t k)) (bound_of (rule_in t k))
unfolding rule_at partner_of
place_left n z t k p = go (is_one k) refl
  where
    go : (b : Bool) → is_one k ≡ b → Stands z (cond b (One (higher_at k) (word_at t k)) (Two (lower_at k) (higher_at k) (word_at t k)))
        → Left n z t (partner_of z (cond b (One (higher_at k) (word_at t k)) (Two (lower_at k) (higher_at k) (word_at t k))))
        (bound_of (cond b (One (higher_at k) (word_at t k)) (Two (lower_at k) (higher_at k) (word_at t k))))
    go true e s =
        let w = lone_at t k e in
        rw (← s, eq-eqb (higher_at k) (higher_at k) refl) (rw w p.rule, sym w)
    go false e (inl s) =
        let w = pair_at t k e in
        rw (← s, eq-eqb (lower_at k) (lower_at k) refl) (at_below n k p.inside, rw w p.rule, sym w)
    go false e (inr s) =
        let o = at_lower k e in
        let w = pair_sym t (higher_at k) (lower_at k) ∙ pair_at t k e in
        rw (← s, ne_eqb (lower_at k) (higher_at k) (λ d. omega arith), eq-eqb (higher_at k) (higher_at k) refl)
        (omega (arith, at_below n k p.inside), rw w p.rule, sym w)

-- a place that holds a rule with z, of which a is left and whose bound is c
pub record LeftAt (n z : ℕ) (t : List ℤ) (a : Partner) (c : ℤ) : Type 0 where
  pub place : ℕ
  pub holds : HoldsRule n t place
  pub stands : Stands z (rule_in t place)
  pub left : partner_of z (rule_in t place) ≡ a
  pub bound : bound_of (rule_in t place) ≡ c

-- the rule of the place of one literal, or of two
rule_one : (x : ℕ) (c : ℤ) → rule_at (place_of_one x) c ≡ One x c
unfolding rule_at
rule_one x c = rw (one_is_one x, one_higher x)

rule_pair : (x y : ℕ) (c : ℤ) → x / 2 < y / 2 → rule_at (place_of_pair x y) c ≡ Two x y c
unfolding rule_at
rule_pair x y c o = rw (pair_is_one x y o, pair_higher x y o, pair_lower x y o)

-- and all that is left so is left of a rule that a place holds
pub left_place : (n z : ℕ) (t : List ℤ) (a : Partner) (c : ℤ) → block_start n ≤ length t → z < 2 * n → Left n z t a c → LeftAt n z t a c
unfolding partner_of
left_place n z t (With x) c l h (b, r, e) =
    quantity_cases (LeftAt n z t (With x) c) z x (λ q. absurd (pair_apart t z x r q))
    (λ o. let w = pair_first t z x o in
    let f = rule_pair z x (word_at t (place_of_pair z x)) o in record {
      place = place_of_pair z x;
      holds = record { inside = pair_below n z x o b; there = omega (arith, pair_below n z x o b); rule = rw w at r };
      stands = rw f (inl refl);
      left = rw (f, eq-eqb z z refl);
      bound = rw f (sym (e ∙ w));
    })
    (λ o. let w = pair_second t x z o in
    let f = rule_pair x z (word_at t (place_of_pair x z)) o in record {
      place = place_of_pair x z;
      holds = record { inside = pair_below n x z o h; there = omega (arith, pair_below n x z o h); rule = rw w at r };
      stands = rw f (inr refl);
      left = rw (f, ne_eqb x z (λ d. omega arith), eq-eqb z z refl);
      bound = rw f (sym (e ∙ w));
    })
left_place n z t Alone c l h (r, e) =
    let f = rule_one z (lone_word t z) in record {
      place = place_of_one z;
      holds = record { inside = one_below n z h; there = omega (arith, one_below n z h); rule = r };
      stands = rw f refl;
      left = rw (f, eq-eqb z z refl);
      bound = rw f (sym e);
    }
left_place n z t Absent c l h u = absurd u

-- ---- all sums

-- P holds of each sum, listed by what remains. Here `plus x` and `minus x` are the bounds of x with +q and of x with -q, p and m those of +q
-- and of -q alone
pub record Listed (n : ℕ) (plus minus : ℕ → ℤ) (p m : ℤ) (P : Rule → Type 0) : Type 0 where
  pub nothing : has_rule p ≡ true → has_rule m ≡ true → P (Nothing (p +ℤ m))
  pub cancels : (x : ℕ) → x < 2 * n → has_rule (plus x) ≡ true → has_rule (minus (negated x)) ≡ true → P (Nothing (plus x +ℤ minus (negated x)))
  pub of_plus : (x : ℕ) → x < 2 * n → has_rule (plus x) ≡ true → has_rule m ≡ true → P (One x (plus x +ℤ m))
  pub of_minus : (x : ℕ) → x < 2 * n → has_rule p ≡ true → has_rule (minus x) ≡ true → P (One x (p +ℤ minus x))
  pub alike : (x : ℕ) → x < 2 * n → has_rule (plus x) ≡ true → has_rule (minus x) ≡ true → P (One x (half (plus x +ℤ minus x)))
  pub lower : (x y : ℕ) → x / 2 < y / 2 → y < 2 * n → has_rule (plus x) ≡ true → has_rule (minus y) ≡ true → P (Two x y (plus x +ℤ minus y))
  pub upper : (x y : ℕ) → x / 2 < y / 2 → y < 2 * n → has_rule (plus y) ≡ true → has_rule (minus x) ≡ true → P (Two x y (plus y +ℤ minus x))

-- q is quantity j + 1 of a table
abbrev pub ListedOf : ℕ → ℕ → List ℤ → (Rule → Type 0) → Type 0
ListedOf n j t P = Listed n (pair_word t (2 * j)) (pair_word t (2 * j + 1)) (lone_word t (2 * j)) (lone_word t (2 * j + 1)) P

-- P holds of what any two rests give
abbrev pub EveryRest : ℕ → ℕ → List ℤ → (Rule → Type 0) → Type 0
EveryRest n j t P = (a b : Partner) (c d : ℤ) → Left n (2 * j) t a c → Left n (2 * j + 1) t b d → P (rest_rule a b (c +ℤ d))

-- the list leaves none of them out,
pub listed_rest : (n j : ℕ) (t : List ℤ) (P : Rule → Type 0) → ListedOf n j t P → EveryRest n j t P
unfolding rest_rule
listed_rest n j t P s (With x) (With y) c d (h, f, e) (k, g, q) =
    rw (e, q) (rest_cases P x y (pair_word t (2 * j) x +ℤ pair_word t (2 * j + 1) y)
    (λ r. rw r (s.cancels x h f (rw r at g)))
    (λ r. rw (← r) (s.alike x h f (rw (← r) at g)))
    (λ o. s.lower x y o k f g)
    (λ o. s.upper y x o h f g))
listed_rest n j t P s (With x) Alone c d (h, f, e) (g, q) = rw (e, q) (s.of_plus x h f g)
listed_rest n j t P s (With x) Absent c d f g = absurd g
listed_rest n j t P s Alone (With y) c d (f, e) (k, g, q) = rw (e, q) (s.of_minus y k f g)
listed_rest n j t P s Alone Alone c d (f, e) (g, q) = rw (e, q) (s.nothing f g)
listed_rest n j t P s Alone Absent c d f g = absurd g
listed_rest n j t P s Absent b c d f g = absurd f

-- and has no other
pub rest_listed : (n j : ℕ) (t : List ℤ) (P : Rule → Type 0) → EveryRest n j t P → ListedOf n j t P
unfolding rest_rule
rest_listed n j t P s = record {
  nothing = λ f g. s Alone Alone _ _ (f, refl) (g, refl);
  cancels = λ x b f g. rw (← rest_cancels x _) (s (With x) (With (negated x)) _ _ (b, f, refl) (omega arith, g, refl));
  of_plus = λ x b f g. s (With x) Alone _ _ (b, f, refl) (g, refl);
  of_minus = λ x b f g. s Alone (With x) _ _ (f, refl) (b, g, refl);
  alike = λ x b f g. rw (← rest_alike x _) (s (With x) (With x) _ _ (b, f, refl) (b, g, refl));
  lower = λ x y o b f g. rw (← rest_lower x y _ o) (s (With x) (With y) _ _ (omega arith, f, refl) (b, g, refl));
  upper = λ x y o b f g. rw (← rest_upper x y _ o) (s (With y) (With x) _ _ (b, f, refl) (omega arith, g, refl));
}

-- ---- bare sums

-- a rule that is bare is not below 0
abbrev pub NotBelow : Rule → Type 0
NotBelow (One x c) = Unit {0}
NotBelow (Two x y c) = Unit {0}
NotBelow (Nothing c) = pos 0 ≤ℤ c

-- where the test finds no contradiction, no sum is one,
pub clear_listed : (n j : ℕ) (t : List ℤ) → contradicts every n j t ≡ false → ListedOf n j t NotBelow
unfolding contradicts
clear_listed n j t e = record {
  nothing = (bare_clear _ _).0 clear.0;
  cancels = λ x b. (bare_clear _ _).0 ((any_bare_clear every _ _ (2 * n)).0 clear.1 x refl b);
  of_plus = λ x b f g. tt;
  of_minus = λ x b f g. tt;
  alike = λ x b f g. tt;
  lower = λ x y o b f g. tt;
  upper = λ x y o b f g. tt;
}
  where
    clear : (bare_below (lone_word t (2 * j)) (lone_word t (2 * j + 1)) ≡ false) × (any_bare every (pair_word t (2 * j)) (pair_word t (2 * j + 1)) (2 * n) ≡ false)
    clear = (neither (bare_below (lone_word t (2 * j)) (lone_word t (2 * j + 1))) (any_bare every (pair_word t (2 * j)) (pair_word t (2 * j + 1)) (2 * n))).0 e

-- and one that it finds is of two rules, and below 0
bare-below : (a b : ℤ) → bare_below a b ≡ true → (has_rule a ≡ true) × (has_rule b ≡ true) × ((a +ℤ b) <ℤ pos 0)
unfolding bare_below
bare-below a b e =
    let p = both_true (has_rule a && has_rule b) (lt_z (a +ℤ b) (pos 0)) e in
    let q = both_true (has_rule a) (has_rule b) p.0 in
    let r = p.1 in
    (q.0, q.1, omega linear)

-- of all literals below k, one that gives such a sum
any_found : (Q : Type 0) (plus minus : ℕ → ℤ) (k : ℕ) → ((x : ℕ) → x < k → bare_below (plus x) (minus (negated x)) ≡ true → Q)
    → any_bare every plus minus k ≡ true → Q
unfolding any_bare
any_found Q plus minus zero found e = clash e refl
any_found Q plus minus (suc k) found e =
    go (bare_below (plus k) (minus (negated k))) refl e (any_found Q plus minus k (λ x b. found x (omega arith)))
  where
    go : (b : Bool) → bare_below (plus k) (minus (negated k)) ≡ b → (b || any_bare every plus minus k) ≡ true → (any_bare every plus minus k ≡ true → Q) → Q
    go true d e rest = found k (omega arith) d
    go false d e rest = rest e

-- so where it finds a contradiction, whatever follows from each listed bare sum below 0 follows
pub bare_found : (n j : ℕ) (t : List ℤ) (P : Rule → Type 0) (Q : Type 0) → ListedOf n j t P
    → ((c : ℤ) → P (Nothing c) → c <ℤ pos 0 → Q) → contradicts every n j t ≡ true → Q
unfolding contradicts
bare_found n j t P Q s found = go (bare_below (lone_word t (2 * j)) (lone_word t (2 * j + 1))) refl
  where
    go : (b : Bool) → bare_below (lone_word t (2 * j)) (lone_word t (2 * j + 1)) ≡ b
        → (b || any_bare every (pair_word t (2 * j)) (pair_word t (2 * j + 1)) (2 * n)) ≡ true → Q
    go true d e = let b = bare-below _ _ d in found _ (s.nothing b.0 b.1) b.2
    go false d e =
        any_found Q (pair_word t (2 * j)) (pair_word t (2 * j + 1)) (2 * n)
        (λ x h f. let b = bare-below _ _ f in found _ (s.cancels x h b.0 b.1) b.2) e
