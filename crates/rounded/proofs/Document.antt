-- Hiding with marks, defined place by place, marks just the rules that document 02 says ([6]): a rule is unmarked exactly when an unmarked one of its bound stood there or is among the sums. Assumes nothing.
use mathlib.Core.Bool.{Bool, true, false, cond}
use mathlib.Core.Path.{◌≡◌, refl, sym, ◌∙◌, ap}
use mathlib.Core.List.{List}
use mathlib.Core.Logic.{◌↔◌, ◌⊎◌, inl, inr}
use Prim.Native.Nat.{ℕ, suc, ◌+◌, ◌*◌, ◌/◌, ◌≤◌, ◌<◌}
use native.Mathlib.Omega.{arith}
use lib.IntN.{ℤ, pos, ◌+ℤ◌, +ℤ_comm}
use lib.ListN.{length}
use lib.Signed.{≤ℤ_refl}
use borrow.Author.Tests.{lt-ltb, le-ltb, eq-eqb, ne_eqb}
use Rattle.integers.specs.Bound.{half, odd}
use Rattle.words.specs.Change.{word_at}
use Rattle.std.specs.Prelude.{Option, Some, None}
use Rattle.places.specs.Numbering.{block_start, place_of_one, place_of_pair, place_of_two, is_one, higher_at, lower_at}
use Rattle.places.proofs.Numbering.{one_below, pair_below, one_is_one, one_higher, pair_is_one, pair_higher, pair_lower, at_one, at_lower, at_pair, at_below}
use Rattle.rules.specs.declared.rule.Rule.{Rule}
use Rattle.rules.specs.declared.rule.Rule.TheVariants.{One, Two}
use Rattle.rules.specs.declared.rule.Partner.{Partner}
use Rattle.rules.specs.declared.rule.Partner.TheVariants.{With, Alone, Absent}
use Rattle.rules.specs.Meaning.{bound_of, names}
use Rattle.rules.specs.Steps.{partner_of, rest_rule}
use Rattle.rules.specs.Promises.{Stands}
use Rattle.tables.specs.Places.{rule_at, find_place}
use Rattle.tables.specs.Tables.{has_rule}
use Rattle.tables.specs.Meaning.{rule_in}
use Rattle.tables.proofs.Places.{names_bound}
use Rattle.tables.proofs.Tests.{clash}
use Rattle.marks.specs.Marks.{Marked, unruled, holds, marked_sum, marked_half, with_marked_sum}
use Rattle.elimination.specs.Hiding.{every, contradicts, eliminated}
use Rattle.elimination.specs.ByRules.{RuleWith}
use Rattle.elimination.proofs.DocumentTerms.{rest_alike, rest_lower, rest_upper, rest_cases, found_one, found_pair, Left, place_left, left_place}
use Rattle.elimination.proofs.Document.{by_rules}
use Rattle.rounded.specs.Hiding.{pair_marked, lone_marked, on_one_marked, on_two_marked, sums_marked, hide_marked}
use Rattle.rounded.specs.ByRules.{sum_loses_half, UnmarkedSum, MarkedByRules}
use Rattle.rounded.proofs.Bounds.{Agrees, Bare, Below, pair_bound, step_agrees, step_bare}
use Rattle.rounded.proofs.Candidates.{Among, among_itself, sum_first, sum_second, sum_either, half_first, half_second, half_either, sum_clear, half_clear}

-- ---- the place of a rule, by what is left of it

-- the place of a rule with z of which a is left
abbrev pub left_marked : (ℕ → Marked) → ℕ → Partner → Marked
left_marked places z (With x) = pair_marked places z x
left_marked places z Alone = lone_marked places z
left_marked places z Absent = unruled

pair_first : (places : ℕ → Marked) (x y : ℕ) → x / 2 < y / 2 → pair_marked places x y ≡ places (place_of_pair x y)
unfolding pair_marked place_of_two
pair_first places x y l = rw (ne_eqb (y / 2) (x / 2) (λ e. omega arith), le-ltb y x (omega arith))

pair_second : (places : ℕ → Marked) (x y : ℕ) → x / 2 < y / 2 → pair_marked places y x ≡ places (place_of_pair x y)
unfolding pair_marked place_of_two
pair_second places x y l = rw (ne_eqb (x / 2) (y / 2) (λ e. omega arith), lt-ltb x y (omega arith))

pub rule_left : (places : ℕ → Marked) (z : ℕ) (t : List ℤ) (k : ℕ) → Stands z (rule_in t k) → places k ≡ left_marked places z (partner_of z (rule_in t k))
unfolding rule_at partner_of
rule_left places z t k = go (is_one k) refl
  where
    go : (b : Bool) → is_one k ≡ b → Stands z (cond b (One (higher_at k) (word_at t k)) (Two (lower_at k) (higher_at k) (word_at t k)))
        → places k ≡ left_marked places z (partner_of z (cond b (One (higher_at k) (word_at t k)) (Two (lower_at k) (higher_at k) (word_at t k))))
    go true e s = rw (← s, eq-eqb (higher_at k) (higher_at k) refl) (ap places (sym (at_one k e)))
    go false e (inl s) =
        rw (← s, eq-eqb (lower_at k) (lower_at k) refl)
        (sym (pair_first places (lower_at k) (higher_at k) (at_lower k e) ∙ ap places (at_pair k e)))
    go false e (inr s) =
        let o = at_lower k e in
        rw (← s, ne_eqb (lower_at k) (higher_at k) (λ d. omega arith), eq-eqb (higher_at k) (higher_at k) refl)
        (sym (pair_second places (lower_at k) (higher_at k) o ∙ ap places (at_pair k e)))

-- a place is one number, and what stands nowhere has none
at_same : (a k : ℕ) → ◌≡◌ {A = Option ℕ} (Some a) (Some k) → a ≡ k
at_same a k e = cc

nowhere_at : (k : ℕ) → ◌≡◌ {A = Option ℕ} None (Some k) → ⊥
nowhere_at k e = let z : ◌≡◌ {A = ℕ} 0 1 = cc in omega arith

-- ---- the rules that meet at the place of one literal, and of two

module _ (plus minus : ℕ → Marked) (p m : Marked) where
  one_before : (x : ℕ) (w : Marked) → Among w (on_one_marked plus minus p m x w)
  unfolding on_one_marked
  one_before x w = half_first w (plus x) (minus x) _ (sum_first w (plus x) m _ (sum_first w (minus x) p w (among_itself w)))

  one_plus : (x : ℕ) (w : Marked) → holds (plus x) ≡ true → holds m ≡ true → Among (marked_sum (plus x) m) (on_one_marked plus minus p m x w)
  unfolding on_one_marked
  one_plus x w d e = half_first (marked_sum (plus x) m) (plus x) (minus x) _ (sum_second (plus x) m (with_marked_sum (minus x) p w) d e)

  one_minus : (x : ℕ) (w : Marked) → holds (minus x) ≡ true → holds p ≡ true → Among (marked_sum (minus x) p) (on_one_marked plus minus p m x w)
  unfolding on_one_marked
  one_minus x w d e =
      half_first (marked_sum (minus x) p) (plus x) (minus x) _ (sum_first (marked_sum (minus x) p) (plus x) m _ (sum_second (minus x) p w d e))

  one-half : (x : ℕ) (w : Marked) → holds (plus x) ≡ true → holds (minus x) ≡ true → Among (marked_half (marked_sum (plus x) (minus x))) (on_one_marked plus minus p m x w)
  unfolding on_one_marked
  one-half x w d e = half_second (plus x) (minus x) (with_marked_sum (plus x) m (with_marked_sum (minus x) p w)) d e

  one_either : (P : ℤ → Type 0) (x : ℕ) (w : Marked) → (w.mark ≡ false → P w.bound)
      → (holds (plus x) ≡ true → holds m ≡ true → (plus x).mark ≡ false → m.mark ≡ false → P ((plus x).bound +ℤ m.bound))
      → (holds (minus x) ≡ true → holds p ≡ true → (minus x).mark ≡ false → p.mark ≡ false → P ((minus x).bound +ℤ p.bound))
      → (holds (plus x) ≡ true → holds (minus x) ≡ true → (plus x).mark ≡ false → (minus x).mark ≡ false → odd ((plus x).bound +ℤ (minus x).bound) ≡ false
      → P (half ((plus x).bound +ℤ (minus x).bound)))
      → (on_one_marked plus minus p m x w).mark ≡ false → P (on_one_marked plus minus p m x w).bound
  unfolding on_one_marked
  one_either P x w before a b c =
      half_either P (plus x) (minus x) (with_marked_sum (plus x) m (with_marked_sum (minus x) p w))
      (sum_either P (plus x) m (with_marked_sum (minus x) p w) (sum_either P (minus x) p w before b) a) c

  two_before : (x y : ℕ) (w : Marked) → Among w (on_two_marked plus minus x y w)
  unfolding on_two_marked
  two_before x y w = sum_first w (plus x) (minus y) _ (sum_first w (minus x) (plus y) w (among_itself w))

  two_lower : (x y : ℕ) (w : Marked) → holds (plus x) ≡ true → holds (minus y) ≡ true → Among (marked_sum (plus x) (minus y)) (on_two_marked plus minus x y w)
  unfolding on_two_marked
  two_lower x y w d e = sum_second (plus x) (minus y) (with_marked_sum (minus x) (plus y) w) d e

  two_upper : (x y : ℕ) (w : Marked) → holds (minus x) ≡ true → holds (plus y) ≡ true → Among (marked_sum (minus x) (plus y)) (on_two_marked plus minus x y w)
  unfolding on_two_marked
  two_upper x y w d e = sum_first (marked_sum (minus x) (plus y)) (plus x) (minus y) _ (sum_second (minus x) (plus y) w d e)

  two_either : (P : ℤ → Type 0) (x y : ℕ) (w : Marked) → (w.mark ≡ false → P w.bound)
      → (holds (plus x) ≡ true → holds (minus y) ≡ true → (plus x).mark ≡ false → (minus y).mark ≡ false → P ((plus x).bound +ℤ (minus y).bound))
      → (holds (minus x) ≡ true → holds (plus y) ≡ true → (minus x).mark ≡ false → (plus y).mark ≡ false → P ((minus x).bound +ℤ (plus y).bound))
      → (on_two_marked plus minus x y w).mark ≡ false → P (on_two_marked plus minus x y w).bound
  unfolding on_two_marked
  two_either P x y w before a b = sum_either P (plus x) (minus y) (with_marked_sum (minus x) (plus y) w) (sum_either P (minus x) (plus y) w before b) a

-- ---- the sums of a step

module _ (j : ℕ) (places : ℕ → Marked) where
  -- the sums that go to a place, put in
  abbrev pub sums_at : ℕ → Marked
  sums_at k = sums_marked (pair_marked places (2 * j)) (pair_marked places (2 * j + 1)) (lone_marked places (2 * j)) (lone_marked places (2 * j + 1)) k (places k)

  sums_one : (x : ℕ) → sums_at (place_of_one x)
      ≡ on_one_marked (pair_marked places (2 * j)) (pair_marked places (2 * j + 1)) (lone_marked places (2 * j)) (lone_marked places (2 * j + 1)) x (places (place_of_one x))
  unfolding sums_marked
  sums_one x = rw (one_is_one x, one_higher x)

  sums_two : (x y : ℕ) → x / 2 < y / 2 → sums_at (place_of_pair x y) ≡ on_two_marked (pair_marked places (2 * j)) (pair_marked places (2 * j + 1)) x y (places (place_of_pair x y))
  unfolding sums_marked
  sums_two x y o = rw (pair_is_one x y o, pair_higher x y o, pair_lower x y o)

  -- the rule that stood at a place is among those that meet there
  sums_before : (k : ℕ) → Among (places k) (sums_at k)
  unfolding sums_marked
  sums_before k = go (is_one k)
    where
      go : (o : Bool) → Among (places k) (cond o
          (on_one_marked (pair_marked places (2 * j)) (pair_marked places (2 * j + 1)) (lone_marked places (2 * j)) (lone_marked places (2 * j + 1)) (higher_at k) (places k))
          (on_two_marked (pair_marked places (2 * j)) (pair_marked places (2 * j + 1)) (lower_at k) (higher_at k) (places k)))
      go true = one_before _ _ _ _ (higher_at k) (places k)
      go false = two_before (pair_marked places (2 * j)) (pair_marked places (2 * j + 1)) unruled unruled (lower_at k) (higher_at k) (places k)

  -- an unmarked sum whose bound is that of its place leaves the place unmarked: one of x with +q and -q alone,
  plus_clear : (x k : ℕ) → Some (place_of_one x) ≡ Some k → holds (pair_marked places (2 * j) x) ≡ true → holds (lone_marked places (2 * j + 1)) ≡ true
      → (pair_marked places (2 * j) x).mark ≡ false → (lone_marked places (2 * j + 1)).mark ≡ false
      → (sums_at k).bound ≡ (pair_marked places (2 * j) x).bound +ℤ (lone_marked places (2 * j + 1)).bound → (sums_at k).mark ≡ false
  plus_clear x k e f g u v q =
      let s = at_same (place_of_one x) k e in
      rw (← s, sums_one x) (sum_clear (pair_marked places (2 * j) x) (lone_marked places (2 * j + 1)) _ (one_plus _ _ _ _ x _ f g) u v (rw (← s, sums_one x) at q))

  -- of x with -q and +q alone,
  minus_clear : (x k : ℕ) → Some (place_of_one x) ≡ Some k → holds (lone_marked places (2 * j)) ≡ true → holds (pair_marked places (2 * j + 1) x) ≡ true
      → (lone_marked places (2 * j)).mark ≡ false → (pair_marked places (2 * j + 1) x).mark ≡ false
      → (sums_at k).bound ≡ (lone_marked places (2 * j)).bound +ℤ (pair_marked places (2 * j + 1) x).bound → (sums_at k).mark ≡ false
  minus_clear x k e f g u v q =
      let s = at_same (place_of_one x) k e in
      rw (← s, sums_one x) (sum_clear (pair_marked places (2 * j + 1) x) (lone_marked places (2 * j)) _ (one_minus _ _ _ _ x _ g f) v u
      (rw (← s, sums_one x, +ℤ_comm (lone_marked places (2 * j)).bound (pair_marked places (2 * j + 1) x).bound) at q))

  -- of x with +q and x with -q, halved,
  alike_clear : (x k : ℕ) → Some (place_of_one x) ≡ Some k → holds (pair_marked places (2 * j) x) ≡ true → holds (pair_marked places (2 * j + 1) x) ≡ true
      → (pair_marked places (2 * j) x).mark ≡ false → (pair_marked places (2 * j + 1) x).mark ≡ false
      → odd ((pair_marked places (2 * j) x).bound +ℤ (pair_marked places (2 * j + 1) x).bound) ≡ false
      → (sums_at k).bound ≡ half ((pair_marked places (2 * j) x).bound +ℤ (pair_marked places (2 * j + 1) x).bound) → (sums_at k).mark ≡ false
  alike_clear x k e f g u v o q =
      let s = at_same (place_of_one x) k e in
      rw (← s, sums_one x) (half_clear (pair_marked places (2 * j) x) (pair_marked places (2 * j + 1) x) _ (one-half _ _ _ _ x _ f g) u v o (rw (← s, sums_one x) at q))

  -- of x with +q and y with -q, x the lower one,
  lower_clear : (x y k : ℕ) → x / 2 < y / 2 → Some (place_of_pair x y) ≡ Some k → holds (pair_marked places (2 * j) x) ≡ true → holds (pair_marked places (2 * j + 1) y) ≡ true
      → (pair_marked places (2 * j) x).mark ≡ false → (pair_marked places (2 * j + 1) y).mark ≡ false
      → (sums_at k).bound ≡ (pair_marked places (2 * j) x).bound +ℤ (pair_marked places (2 * j + 1) y).bound → (sums_at k).mark ≡ false
  lower_clear x y k o e f g u v q =
      let s = at_same (place_of_pair x y) k e in
      rw (← s, sums_two x y o) (sum_clear (pair_marked places (2 * j) x) (pair_marked places (2 * j + 1) y) _
      (two_lower (pair_marked places (2 * j)) (pair_marked places (2 * j + 1)) unruled unruled x y _ f g) u v (rw (← s, sums_two x y o) at q))

  -- or the higher one
  upper_clear : (x y k : ℕ) → x / 2 < y / 2 → Some (place_of_pair x y) ≡ Some k → holds (pair_marked places (2 * j) y) ≡ true → holds (pair_marked places (2 * j + 1) x) ≡ true
      → (pair_marked places (2 * j) y).mark ≡ false → (pair_marked places (2 * j + 1) x).mark ≡ false
      → (sums_at k).bound ≡ (pair_marked places (2 * j) y).bound +ℤ (pair_marked places (2 * j + 1) x).bound → (sums_at k).mark ≡ false
  upper_clear x y k o e f g u v q =
      let s = at_same (place_of_pair x y) k e in
      rw (← s, sums_two x y o) (sum_clear (pair_marked places (2 * j + 1) x) (pair_marked places (2 * j) y) _
      (two_upper (pair_marked places (2 * j)) (pair_marked places (2 * j + 1)) unruled unruled x y _ g f) v u
      (rw (← s, sums_two x y o, +ℤ_comm (pair_marked places (2 * j) y).bound (pair_marked places (2 * j + 1) x).bound) at q))

  abbrev plus_left : Partner → Marked
  plus_left a = left_marked places (2 * j) a

  abbrev minus_left : Partner → Marked
  minus_left b = left_marked places (2 * j + 1) b

  -- and there is no other sum
  sum_unmarks : (a b : Partner) → holds (plus_left a) ≡ true → holds (minus_left b) ≡ true → (plus_left a).mark ≡ false → (minus_left b).mark ≡ false
      → sum_loses_half a b ((plus_left a).bound +ℤ (minus_left b).bound) ≡ false
      → (k : ℕ) → find_place (rest_rule a b ((plus_left a).bound +ℤ (minus_left b).bound)) ≡ Some k
      → (sums_at k).bound ≡ bound_of (rest_rule a b ((plus_left a).bound +ℤ (minus_left b).bound)) → (sums_at k).mark ≡ false
  unfolding rest_rule sum_loses_half find_place
  sum_unmarks (With x) (With y) f g u v o k e q =
      rest_cases (λ (r : Rule). find_place r ≡ Some k → (sums_at k).bound ≡ bound_of r → (sums_at k).mark ≡ false) x y
      ((pair_marked places (2 * j) x).bound +ℤ (pair_marked places (2 * j + 1) y).bound)
      (λ r e q. absurd (nowhere_at k e))
      (λ r e q. alike_clear x k e f (rw (← r) at g) u (rw (← r) at v) (rw (← r, eq-eqb x x refl) at o) (rw (← r) at q))
      (λ r e q. lower_clear x y k r (sym (found_pair x y (pos 0) r) ∙ e) f g u v q)
      (λ r e q. upper_clear y x k r (sym (found_pair y x (pos 0) r) ∙ e) f g u v q)
      e q
  sum_unmarks (With x) Alone f g u v o k e q = plus_clear x k e f g u v q
  sum_unmarks (With x) Absent f g u v o k e q = clash g refl
  sum_unmarks Alone (With y) f g u v o k e q = minus_clear y k e f g u v q
  sum_unmarks Alone Alone f g u v o k e q = absurd (nowhere_at k e)
  sum_unmarks Alone Absent f g u v o k e q = clash g refl
  sum_unmarks Absent b f g u v o k e q = clash f refl

-- ---- the step

module _ (n j : ℕ) (places : ℕ → Marked) (t : List ℤ) (l : block_start n ≤ length t) (h : j < n) (agrees : Agrees n places t) where
  -- what is left of a rule tells its place, and its bound there
  left_bound : (z : ℕ) (a : Partner) (c : ℤ) → z < 2 * n → Left n z t a c → (holds (left_marked places z a) ≡ true) × (c ≡ (left_marked places z a).bound)
  left_bound z (With x) c b (i, r, e) = let q = pair_bound n places t z x agrees b i in (rw q r, e ∙ sym q)
  left_bound z Alone c b (r, e) = let q = agrees (place_of_one z) (one_below n z b) in (rw q r, e ∙ sym q)
  left_bound z Absent c b e = absurd e

  left_with : (z x : ℕ) → z < 2 * n → x < 2 * n → holds (pair_marked places z x) ≡ true → Left n z t (With x) (pair_marked places z x).bound
  left_with z x b i r = let q = pair_bound n places t z x agrees b i in (i, rw q at r, q)

  left_alone : (z : ℕ) → z < 2 * n → holds (lone_marked places z) ≡ true → Left n z t Alone (lone_marked places z).bound
  left_alone z b r = let q = agrees (place_of_one z) (one_below n z b) in (rw q at r, q)

  -- the unmarked sum of two rules of which a and b are left
  unmarked_sum : (a b : Partner) (c d : ℤ) → Left n (2 * j) t a c → Left n (2 * j + 1) t b d
      → (left_marked places (2 * j) a).mark ≡ false → (left_marked places (2 * j + 1) b).mark ≡ false → sum_loses_half a b (c +ℤ d) ≡ false
      → (u : Rule) → rest_rule a b (c +ℤ d) ≡ u → (k : ℕ) → find_place u ≡ Some k → UnmarkedSum n j t (λ i. (places i).mark) k (bound_of u)
  unmarked_sum a b c d f g p m e u is k place =
      let r = left_place n (2 * j) t a c l (omega arith) f in
      let s = left_place n (2 * j + 1) t b d l (omega arith) g in record {
        sum = u;
        is = record {
          plus = rule_in t r.place;
          minus = rule_in t s.place;
          with_plus = record { place = r.place; holds = r.holds; is = refl; stands = r.stands };
          with_minus = record { place = s.place; holds = s.holds; is = refl; stands = s.stands };
          is = sym is ∙ rw (r.left, s.left, r.bound, s.bound);
        };
        place = place;
        bound = refl;
        plus_unmarked = rw (rule_left places (2 * j) t r.place r.stands, r.left) p;
        minus_unmarked = rw (rule_left places (2 * j + 1) t s.place s.stands, s.left) m;
        whole = rw (r.left, s.left, r.bound, s.bound) e;
      }

  -- where a place is left unmarked, its bound is that of an unmarked rule: the one before or a sum
  abbrev From : ℕ → ℤ → Type 0
  From k w = ((w ≡ word_at t k) × ((places k).mark ≡ false)) ⊎ UnmarkedSum n j t (λ i. (places i).mark) k w

  before_from : (k : ℕ) → k < block_start n → (places k).mark ≡ false → From k (places k).bound
  before_from k b u = inl (agrees k b, u)

  one_from : (x : ℕ) → x < 2 * n → (sums_at j places (place_of_one x)).mark ≡ false → From (place_of_one x) (sums_at j places (place_of_one x)).bound
  unfolding rest_rule sum_loses_half
  one_from x b =
      rw (sums_one j places x)
      (one_either (pair_marked places (2 * j)) (pair_marked places (2 * j + 1)) (lone_marked places (2 * j)) (lone_marked places (2 * j + 1)) (From (place_of_one x)) x (places (place_of_one x))
      (before_from (place_of_one x) (one_below n x b))
      (λ f g u v. inr (unmarked_sum (With x) Alone _ _ (left_with (2 * j) x (omega arith) b f) (left_alone (2 * j + 1) (omega arith) g) u v refl _ refl (place_of_one x) (found_one x _)))
      (λ f g u v. rw (+ℤ_comm (pair_marked places (2 * j + 1) x).bound (lone_marked places (2 * j)).bound)
      (inr (unmarked_sum Alone (With x) _ _ (left_alone (2 * j) (omega arith) g) (left_with (2 * j + 1) x (omega arith) b f) v u refl _ refl (place_of_one x) (found_one x _))))
      (λ f g u v o. inr (unmarked_sum (With x) (With x) _ _ (left_with (2 * j) x (omega arith) b f) (left_with (2 * j + 1) x (omega arith) b g) u v (rw (eq-eqb x x refl) o) _ (rest_alike x _) (place_of_one x) (found_one x _))))

  two_from : (x y : ℕ) → x / 2 < y / 2 → y < 2 * n → (sums_at j places (place_of_pair x y)).mark ≡ false → From (place_of_pair x y) (sums_at j places (place_of_pair x y)).bound
  unfolding sum_loses_half
  two_from x y o b =
      rw (sums_two j places x y o)
      (two_either (pair_marked places (2 * j)) (pair_marked places (2 * j + 1)) unruled unruled (From (place_of_pair x y)) x y (places (place_of_pair x y))
      (before_from (place_of_pair x y) (pair_below n x y o b))
      (λ f g u v. inr (unmarked_sum (With x) (With y) _ _ (left_with (2 * j) x (omega arith) (omega arith) f) (left_with (2 * j + 1) y (omega arith) b g) u v
      (rw (ne_eqb x y (λ e. omega arith))) _ (rest_lower x y _ o) (place_of_pair x y) (found_pair x y _ o)))
      (λ f g u v. rw (+ℤ_comm (pair_marked places (2 * j + 1) x).bound (pair_marked places (2 * j) y).bound)
      (inr (unmarked_sum (With y) (With x) _ _ (left_with (2 * j) y (omega arith) b g) (left_with (2 * j + 1) x (omega arith) (omega arith) f) v u
      (rw (ne_eqb y x (λ e. omega arith))) _ (rest_upper x y _ o) (place_of_pair x y) (found_pair x y _ o)))))

  sums_from : (k : ℕ) → k < block_start n → (sums_at j places k).mark ≡ false → From k (sums_at j places k).bound
  sums_from k b = go (is_one k) refl
    where
      go : (c : Bool) → is_one k ≡ c → (sums_at j places k).mark ≡ false → From k (sums_at j places k).bound
      go true e = rw (at_one k e) at (one_from (higher_at k) (at_below n k b))
      go false e = rw (at_pair k e) at (two_from (lower_at k) (higher_at k) (at_lower k e) (at_below n k b))

  -- and back: where an unmarked rule of the place's bound is among those that meet there, it is left unmarked
  from_unmarks : (k : ℕ) → k < block_start n → From k (sums_at j places k).bound → (sums_at j places k).mark ≡ false
  from_unmarks k b (inl (e, u)) = (sums_before j places k).1 u (rw (e, agrees k b) (≤ℤ_refl (word_at t k)))
  from_unmarks k b (inr s) =
      let i = s.is in
      let f = left_bound (2 * j) (partner_of (2 * j) i.plus) (bound_of i.plus) (omega arith) (left (2 * j) i.plus i.with_plus) in
      let g = left_bound (2 * j + 1) (partner_of (2 * j + 1) i.minus) (bound_of i.minus) (omega arith) (left (2 * j + 1) i.minus i.with_minus) in
      sum_unmarks j places (partner_of (2 * j) i.plus) (partner_of (2 * j + 1) i.minus) f.0 g.0
      (unmarked (2 * j) i.plus i.with_plus s.plus_unmarked)
      (unmarked (2 * j + 1) i.minus i.with_minus s.minus_unmarked)
      (rw (f.1, g.1) at s.whole) k
      (rw (i.is, f.1, g.1) at s.place)
      (s.bound ∙ rw (i.is, f.1, g.1))
    where
      left : (z : ℕ) (r : Rule) → RuleWith n z t r → Left n z t (partner_of z r) (bound_of r)
      left z r p = rw p.is (place_left n z t p.place p.holds (rw p.is at p.stands))

      unmarked : (z : ℕ) (r : Rule) (p : RuleWith n z t r) → (places p.place).mark ≡ false → (left_marked places z (partner_of z r)).mark ≡ false
      unmarked z r p u = rw (p.is, ← rule_left places z t p.place (rw p.is at p.stands)) u

  -- a place that has a rule after the step does not name the quantity, and has its sums put in
  stays : (k : ℕ) → k < block_start n → has_rule (word_at (eliminated n j t) k) ≡ true → hide_marked j places k ≡ sums_at j places k
  unfolding hide_marked
  stays k b r = go (names (suc j) (rule_in t k)) refl
    where
      go : (c : Bool) → names (suc j) (rule_in t k) ≡ c
          → cond (names (suc j) (rule_at k (places k).bound)) unruled (sums_at j places k) ≡ sums_at j places k
      go true e = clash r (rw ((by_rules n j t l h (eliminated n j t) (contradicts every n j t) refl refl).blank k b e))
      go false e = rw (names_bound (suc j) k (places k).bound (word_at t k) ∙ e)

  -- so the step is document 02's
  pub step_by_rules : Below n places → Bare n places → MarkedByRules n j t (λ k. (places k).mark) (eliminated n j t) (λ k. (hide_marked j places k).mark)
  step_by_rules below bare = record {
    unmarked = both;
    empty = λ k b r. step_bare n j places h below bare k b (rw (step_agrees n j places t l h agrees k b) r);
  }
    where
      both : (k : ℕ) → k < block_start n → has_rule (word_at (eliminated n j t) k) ≡ true
          → ((hide_marked j places k).mark ≡ false) ↔ From k (word_at (eliminated n j t) k)
      both k b r =
          let s = stays k b r in
          let w : (sums_at j places k).bound ≡ word_at (eliminated n j t) k = ap (λ (v : Marked). v.bound) (sym s) ∙ step_agrees n j places t l h agrees k b in
          (λ u. rw w at (sums_from k b (rw s at u)), λ f. rw s (from_unmarks k b (rw w f)))
