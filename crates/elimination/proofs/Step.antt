-- What pairing the rules of one quantity does to the words of a table, and that it is exact: the paired table's rules on the other literals hold, with no
-- contradiction, exactly where the table's own and every sum do. Assumes nothing.
use mathlib.Core.Path.{◌≡◌, refl}
use mathlib.Core.Bool.{Bool, true, false, ◌&&◌}
use mathlib.Core.List.{List}
use mathlib.Core.Logic.{◌↔◌}
use Prim.Native.Nat.{ℕ, zero, suc, ◌+◌, ◌*◌, ◌/◌, ◌≤◌, ◌<◌}
use native.Mathlib.Omega.{arith}
use lib.Dec.{eqb}
use lib.IntN.{ℤ, pos, neg_ℤ, ◌+ℤ◌}
use lib.ListN.{length}
use lib.Signed.{lt_z, ◌≤ℤ◌}
use borrow.Author.Tests.{eqb-true, eqb-false}
use Rattle.integers.specs.Bound.{half, Within}
use Rattle.integers.proofs.Parts.{linear, positive_part, negative_part, parts_add, parts_neg, lt_z_false, lt_lt_z, le_lt_z}
use Rattle.integers.proofs.Orders.{half_order}
use Rattle.integers.proofs.Within.{within_to, within_add, within_half}
use Rattle.words.proofs.Change.{change_length}
use Rattle.places.specs.Numbering.{block_start}
use Rattle.rules.specs.Limits.{no_rule}
use Rattle.rules.specs.Literal.{negated}
use Rattle.rules.specs.Meaning.{Assignment, literal_value}
use Rattle.rules.proofs.Literals.{value_negated}
use Rattle.tables.specs.Tables.{has_rule}
use Rattle.tables.specs.Meaning.{WordsWithin}
use Rattle.tables.proofs.Tests.{neither}
use Rattle.elimination.specs.Hiding.{bare_below, pair_word, lone_word, any_bare, paired, contradicts}
use Rattle.elimination.proofs.Projection.{Sums}
use Rattle.elimination.proofs.Terms.{TermsMet, Others}
use Rattle.elimination.proofs.TermWords.{pair_apart, lone_within, pair_within}
use Rattle.elimination.proofs.SumWords.{has_rule_mono}
use Rattle.elimination.proofs.PairedWords.{lone_elim, lone_lowered, lone_plus, lone_minus, lone_half, pair_elim, pair_lowered, pair_sum}

-- the sums of quantity j + 1 hold
abbrev pub SumsOf : (ℕ → Type 0) → ℕ → List ℤ → Assignment → Type 0
SumsOf In j t σ = Sums In (literal_value σ) (pair_word t (2 * j)) (pair_word t (2 * j + 1)) (lone_word t (2 * j)) (lone_word t (2 * j + 1))

-- a table over n quantities with bounds of at most B, two of which add up to a bound
pub record Adds (n B : ℕ) (t : List ℤ) : Type 0 where
  pub room : block_start n ≤ length t
  pub words : WordsWithin (block_start n) (pos B) t
  pub fits : B + B < 9223372036854775807

-- ---- the words that a step leaves

-- a step keeps the table's length
pub paired_length : (live : ℕ → Bool) (n j : ℕ) (t : List ℤ) → length (paired live n j t) ≡ length t
unfolding paired
paired_length live n j t = change_length (block_start n) _ t

-- ---- bare sums

-- two bounds are no contradiction where, both being rules, their sum is not below 0
pub bare_clear : (a b : ℤ) → (bare_below a b ≡ false) ↔ (has_rule a ≡ true → has_rule b ≡ true → pos 0 ≤ℤ (a +ℤ b))
unfolding bare_below
bare_clear a b = (to, of (has_rule a) (has_rule b))
  where
    to : ((has_rule a && has_rule b) && lt_z (a +ℤ b) (pos 0)) ≡ false → has_rule a ≡ true → has_rule b ≡ true → pos 0 ≤ℤ (a +ℤ b)
    to e c d = omega (linear, lt_z_false (a +ℤ b) (pos 0) (rw (c, d) at e))

    of : (c d : Bool) → (c ≡ true → d ≡ true → pos 0 ≤ℤ (a +ℤ b)) → ((c && d) && lt_z (a +ℤ b) (pos 0)) ≡ false
    of true true k = le_lt_z (a +ℤ b) (pos 0) (k refl refl)
    of true false k = refl
    of false d k = refl

-- none of the bare sums of the live literals below k is a contradiction
abbrev pub NoneBare : (ℕ → Bool) → (ℕ → ℤ) → (ℕ → ℤ) → ℕ → Type 0
NoneBare live plus minus k = (x : ℕ) → live (x / 2) ≡ true → x < k → bare_below (plus x) (minus (negated x)) ≡ false

-- the test of them all
pub any_bare_clear : (live : ℕ → Bool) (plus minus : ℕ → ℤ) (k : ℕ) → (any_bare live plus minus k ≡ false) ↔ NoneBare live plus minus k
unfolding any_bare
any_bare_clear live plus minus zero = (λ e x f h. let z : ⊥ = omega arith in absurd z, λ f. refl)
any_bare_clear live plus minus (suc k) =
    let ih = any_bare_clear live plus minus k in
    let p = neither (live (k / 2) && bare_below (plus k) (minus (negated k))) (any_bare live plus minus k) in
    (λ e. to (p.0 e).0 (ih.0 (p.0 e).1), λ f. p.1 (of f (live (k / 2)) refl, ih.1 (λ x l h. f x l (omega arith))))
  where
    to : (live (k / 2) && bare_below (plus k) (minus (negated k))) ≡ false → NoneBare live plus minus k → NoneBare live plus minus (suc k)
    to e rest x f h = go (eqb x k) refl
      where
        go : (b : Bool) → eqb x k ≡ b → bare_below (plus x) (minus (negated x)) ≡ false
        go true d = let q = eqb-true x k d in rw q (rw (rw q at f) at e)
        go false d = let q = eqb-false x k d in rest x f (omega arith)

    of : NoneBare live plus minus (suc k) → (b : Bool) → live (k / 2) ≡ b → (b && bare_below (plus k) (minus (negated k))) ≡ false
    of f true e = f k e (omega arith)
    of f false e = refl

-- ---- what is met

-- a bound holds where a word at most it does, if it is one
below_word : (v w c : ℤ) → w ≤ℤ c → has_rule c ≡ true → (has_rule w ≡ true → v ≤ℤ w) → v ≤ℤ c
below_word v w c l r m = let k = m (has_rule_mono w c l r) in omega linear

-- a step only lowers words: what meets the table after it met it before
pub step_lower : (live : ℕ → Bool) (n j : ℕ) (t : List ℤ) (In : ℕ → Type 0) (σ : Assignment) → block_start n ≤ length t → ((x : ℕ) → In x → x < 2 * n)
    → TermsMet In (paired live n j t) σ → TermsMet In t σ
step_lower live n j t In σ l b m = record {
  one = λ x i r. below_word (literal_value σ x) (lone_word (paired live n j t) x) (lone_word t x) (lone_lowered live n j t l x (b x i)) r (m.one x i);
  two = λ x y i k r. below_word (literal_value σ x +ℤ literal_value σ y) (pair_word (paired live n j t) x y) (pair_word t x y)
      (pair_lowered live n j t l x y (b x i) (b y k)) r (m.two x y i k);
}

-- where the sums hold, the step keeps what is met
pub step_met : (live : ℕ → Bool) (n j : ℕ) (t : List ℤ) (In : ℕ → Type 0) (σ : Assignment) → block_start n ≤ length t → ((x : ℕ) → In x → x < 2 * n)
    → TermsMet In t σ → SumsOf In j t σ → TermsMet In (paired live n j t) σ
step_met live n j t In σ l b m s = record {
  one = λ x i. lone_elim live n j t l (λ (w : ℤ). has_rule w ≡ true → literal_value σ x ≤ℤ w) x (b x i) (m.one x i)
      (λ a c d r. s.plus_lone x i c d)
      (λ a c d r. s.minus_lone x i c d)
      (λ a c d r. (half_order (literal_value σ x) (pair_word t (2 * j) x +ℤ pair_word t (2 * j + 1) x)).1 (s.both x x i i c d));
  two = λ x y i k. pair_elim live n j t l (λ (w : ℤ). has_rule w ≡ true → (literal_value σ x +ℤ literal_value σ y) ≤ℤ w) x y (b x i) (b y k) (m.two x y i k)
      (λ a e c d r. s.both x y i k c d)
      (λ a e c d r. turned (literal_value σ y) (literal_value σ x) (pair_word t (2 * j) y +ℤ pair_word t (2 * j + 1) x) (s.both y x k i c d));
}
  where
    turned : (a b c : ℤ) → (a +ℤ b) ≤ℤ c → (b +ℤ a) ≤ℤ c
    turned a b c h = omega (linear, parts_add a b, parts_add b a)

-- a literal and its negation are of one quantity
pub negated_half : (x : ℕ) → negated x / 2 ≡ x / 2
negated_half x = omega arith

-- and no bare sum is a contradiction
pub step_clear : (live : ℕ → Bool) (n j : ℕ) (t : List ℤ) (σ : Assignment) → SumsOf (Others live n j) j t σ → contradicts live n j t ≡ false
unfolding contradicts positive_part negative_part
step_clear live n j t σ s =
    (neither (bare_below (lone_word t (2 * j)) (lone_word t (2 * j + 1))) (any_bare live (pair_word t (2 * j)) (pair_word t (2 * j + 1)) (2 * n))).1 (
      (bare_clear (lone_word t (2 * j)) (lone_word t (2 * j + 1))).1 s.lone,
      (any_bare_clear live (pair_word t (2 * j)) (pair_word t (2 * j + 1)) (2 * n)).1
          (λ x f l. (bare_clear (pair_word t (2 * j) x) (pair_word t (2 * j + 1) (negated x))).1 (go x f l (eqb (x / 2) j) refl)),
    )
  where
    go : (x : ℕ) → live (x / 2) ≡ true → x < 2 * n → (b : Bool) → eqb (x / 2) j ≡ b
        → has_rule (pair_word t (2 * j) x) ≡ true → has_rule (pair_word t (2 * j + 1) (negated x)) ≡ true
        → pos 0 ≤ℤ (pair_word t (2 * j) x +ℤ pair_word t (2 * j + 1) (negated x))
    go x f l true e c d =
        let q = eqb-true (x / 2) j e in
        absurd (pair_apart t (2 * j) x c (omega arith))
    go x f l false e c d =
        let q = eqb-false (x / 2) j e in
        let k = s.both x (negated x) (f, l, q) (rw (negated_half x) f, omega arith, λ u. q (omega arith)) c d in
        omega (linear, rw (value_negated σ x) at k, parts_add (literal_value σ x) (neg_ℤ (literal_value σ x)), parts_neg (literal_value σ x))

-- an integer within a limit below the no-rule word is a rule's bound
pub within_rule : {B : ℕ} {w : ℤ} → B < 9223372036854775807 → Within (pos B) w → has_rule w ≡ true
unfolding positive_part negative_part
within_rule {B} {w} l h = lt_lt_z w no_rule (omega (linear, within_to h))

-- where the table after the step is met and no bare sum is a contradiction, every sum holds
pub step_sums : (live : ℕ → Bool) (n j B : ℕ) (t : List ℤ) (σ : Assignment) → Adds n B t → j < n → TermsMet (Others live n j) (paired live n j t) σ
    → contradicts live n j t ≡ false → SumsOf (Others live n j) j t σ
unfolding contradicts positive_part negative_part
step_sums live n j B t σ a h m c = record {
  both = λ x y i k d e. both x y i k d e (eqb (x / 2) (y / 2)) refl (eqb x y) refl;
  plus_lone = λ x i d e. below_word (literal_value σ x) (after x) (plus x +ℤ lone_word t (2 * j + 1))
      (lone_plus live n j t a.room x i.1 i.0 d e) (within_rule a.fits (within_add (plus_within x i d) (lone_limit (2 * j + 1) (omega arith) e))) (m.one x i);
  minus_lone = λ x i d e. below_word (literal_value σ x) (after x) (minus x +ℤ lone_word t (2 * j))
      (lone_minus live n j t a.room x i.1 i.0 d e) (within_rule a.fits (within_add (minus_within x i d) (lone_limit (2 * j) (omega arith) e))) (m.one x i);
  lone = (bare_clear (lone_word t (2 * j)) (lone_word t (2 * j + 1))).0 clear.0;
}
  where
    plus : ℕ → ℤ
    plus x = pair_word t (2 * j) x

    minus : ℕ → ℤ
    minus x = pair_word t (2 * j + 1) x

    after : ℕ → ℤ
    after x = lone_word (paired live n j t) x

    clear : (bare_below (lone_word t (2 * j)) (lone_word t (2 * j + 1)) ≡ false) × (any_bare live (pair_word t (2 * j)) (pair_word t (2 * j + 1)) (2 * n) ≡ false)
    clear = (neither (bare_below (lone_word t (2 * j)) (lone_word t (2 * j + 1))) (any_bare live (pair_word t (2 * j)) (pair_word t (2 * j + 1)) (2 * n))).0 c

    plus_within : (x : ℕ) → Others live n j x → has_rule (plus x) ≡ true → Within (pos B) (plus x)
    plus_within x i d = pair_within n (pos B) t (2 * j) x a.room a.words (omega arith) i.1 d

    minus_within : (x : ℕ) → Others live n j x → has_rule (minus x) ≡ true → Within (pos B) (minus x)
    minus_within x i d = pair_within n (pos B) t (2 * j + 1) x a.room a.words (omega arith) i.1 d

    lone_limit : (z : ℕ) → z < 2 * n → has_rule (lone_word t z) ≡ true → Within (pos B) (lone_word t z)
    lone_limit z l d = lone_within n (pos B) t z a.room a.words l d

    -- a literal with itself,
    doubled : (x : ℕ) → Others live n j x → has_rule (plus x) ≡ true → has_rule (minus x) ≡ true → (literal_value σ x +ℤ literal_value σ x) ≤ℤ (plus x +ℤ minus x)
    doubled x i d e =
        (half_order (literal_value σ x) (plus x +ℤ minus x)).0
        (below_word (literal_value σ x) (after x) (half (plus x +ℤ minus x)) (lone_half live n j t a.room x i.1 i.0 d e)
        (within_rule a.fits (within_half (within_add (plus_within x i d) (minus_within x i e)))) (m.one x i))

    -- with its negation,
    bare : (x : ℕ) → Others live n j x → has_rule (plus x) ≡ true → has_rule (minus (negated x)) ≡ true
        → (literal_value σ x +ℤ literal_value σ (negated x)) ≤ℤ (plus x +ℤ minus (negated x))
    bare x i d e =
        let k = (bare_clear (plus x) (minus (negated x))).0 ((any_bare_clear live (pair_word t (2 * j)) (pair_word t (2 * j + 1)) (2 * n)).0 clear.1 x i.0 i.1) d e in
        rw (value_negated σ x) (omega (linear, parts_add (literal_value σ x) (neg_ℤ (literal_value σ x)), parts_neg (literal_value σ x)))

    -- and with one of another quantity
    both : (x y : ℕ) → Others live n j x → Others live n j y → has_rule (plus x) ≡ true → has_rule (minus y) ≡ true
        → (b : Bool) → eqb (x / 2) (y / 2) ≡ b → (e : Bool) → eqb x y ≡ e
        → (literal_value σ x +ℤ literal_value σ y) ≤ℤ (plus x +ℤ minus y)
    both x y i k d e b u true v = let q = eqb-true x y v in rw (← q) (doubled x i d (rw (← q) at e))
    both x y i k d e true u false v =
        let p = eqb-true (x / 2) (y / 2) u in
        let q = eqb-false x y v in
        let r : y ≡ negated x = omega arith in rw r (bare x i d (rw r at e))
    both x y i k d e false u false v =
        below_word (literal_value σ x +ℤ literal_value σ y) (pair_word (paired live n j t) x y) (plus x +ℤ minus y)
        (pair_sum live n j t a.room x y i.1 k.1 (eqb-false (x / 2) (y / 2) u) i.0 k.0 d e)
        (within_rule a.fits (within_add (plus_within x i d) (minus_within y k e))) (m.two x y i k)
