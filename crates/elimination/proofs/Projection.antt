-- Exact elimination of one integer (document 01, 'Hiding'; Fourier-Motzkin with unit coefficients), with no table in sight: some integer v keeps all
-- bounds of +v and of -v exactly when every sum of a bound with +v and a bound with -v holds. The other literals x have the values `value x`.
-- `plus x` and `minus x` bound x with +v and x with -v; p and m bound +v and -v alone. Assumes nothing.
use mathlib.Core.Path.{◌≡◌, refl}
use mathlib.Core.Bool.{Bool, true, false, cond}
use Prim.Native.Nat.{ℕ, zero, suc, ◌+◌, ◌/◌, ◌≤◌, ◌<◌}
use native.Mathlib.Nat.{zero-add, suc-add}
use native.Mathlib.Omega.{arith}
use lib.Dec.{eqb}
use lib.IntN.{ℤ, pos, neg_ℤ, ◌+ℤ◌}
use lib.Signed.{◌≤ℤ◌}
use borrow.Author.Tests.{eqb-true, eqb-false}
use Rattle.integers.specs.Bound.{Within, smaller}
use Rattle.integers.proofs.Parts.{linear, positive_part, negative_part, parts_add, parts_neg, smaller_left, smaller_right, smaller_either}
use Rattle.integers.proofs.Within.{within_to, within_of, within_add, within_neg}
use Rattle.tables.specs.Tables.{has_rule}
use Rattle.elimination.specs.Choosing.{with_upper, with_uppers, bounded_by, chosen}

-- every sum holds, over the literals In
pub record Sums (In : ℕ → Type 0) (value plus minus : ℕ → ℤ) (p m : ℤ) : Type 0 where
  pub both : (x y : ℕ) → In x → In y → has_rule (plus x) ≡ true → has_rule (minus y) ≡ true → (value x +ℤ value y) ≤ℤ (plus x +ℤ minus y)
  pub plus_lone : (x : ℕ) → In x → has_rule (plus x) ≡ true → has_rule m ≡ true → value x ≤ℤ (plus x +ℤ m)
  pub minus_lone : (x : ℕ) → In x → has_rule (minus x) ≡ true → has_rule p ≡ true → value x ≤ℤ (minus x +ℤ p)
  pub lone : has_rule p ≡ true → has_rule m ≡ true → pos 0 ≤ℤ (p +ℤ m)

-- v keeps its bounds with the literals In
pub record Own (In : ℕ → Type 0) (value plus minus : ℕ → ℤ) (p m v : ℤ) : Type 0 where
  pub with_plus : (x : ℕ) → In x → has_rule (plus x) ≡ true → (value x +ℤ v) ≤ℤ plus x
  pub with_minus : (x : ℕ) → In x → has_rule (minus x) ≡ true → (value x +ℤ neg_ℤ v) ≤ℤ minus x
  pub plus_alone : has_rule p ≡ true → v ≤ℤ p
  pub minus_alone : has_rule m ≡ true → neg_ℤ v ≤ℤ m

-- ---- from the integer to the sums

-- where some v keeps its bounds, every sum of them holds: v and -v cancel in it
pub own_sums : (In : ℕ → Type 0) (value plus minus : ℕ → ℤ) (p m v : ℤ) → Own In value plus minus p m v → Sums In value plus minus p m
unfolding positive_part negative_part
own_sums In value plus minus p m v o = record {
  both = λ x y i j e f. let h = o.with_plus x i e in let k = o.with_minus y j f in
      omega (linear, parts_add (value x) v, parts_neg v, parts_add (value y) (neg_ℤ v), parts_add (value x) (value y), parts_add (plus x) (minus y));
  plus_lone = λ x i e f. let h = o.with_plus x i e in let k = o.minus_alone f in
      omega (linear, parts_add (value x) v, parts_neg v, parts_add (plus x) m);
  minus_lone = λ x i e f. let h = o.with_minus x i e in let k = o.plus_alone f in
      omega (linear, parts_add (value x) (neg_ℤ v), parts_neg v, parts_add (minus x) p);
  lone = λ e f. let h = o.plus_alone e in let k = o.minus_alone f in omega (linear, parts_neg v, parts_add p m);
}

-- ---- an integer lowered by bounds: it is at most where it began and at most what each bound leaves, and it is one of these

-- by one bound: at most where it began,
pub upper_start : (bound a v : ℤ) → with_upper bound a v ≤ℤ v
unfolding with_upper
upper_start bound a v = go (has_rule bound)
  where
    go : (t : Bool) → cond t (smaller v (bound +ℤ neg_ℤ a)) v ≤ℤ v
    go true = smaller_left v (bound +ℤ neg_ℤ a)
    go false = omega linear

-- at most what the bound leaves,
pub upper_bound : (bound a v : ℤ) → has_rule bound ≡ true → with_upper bound a v ≤ℤ (bound +ℤ neg_ℤ a)
unfolding with_upper
upper_bound bound a v e = rw e (smaller_right v (bound +ℤ neg_ℤ a))

-- and one of the two
pub upper_either : (P : ℤ → Type 0) (bound a v : ℤ) → P v → (has_rule bound ≡ true → P (bound +ℤ neg_ℤ a)) → P (with_upper bound a v)
unfolding with_upper
upper_either P bound a v start low = go (has_rule bound) refl
  where
    go : (t : Bool) → has_rule bound ≡ t → P (cond t (smaller v (bound +ℤ neg_ℤ a)) v)
    go true e = smaller_either P v (bound +ℤ neg_ℤ a) start (low e)
    go false e = start

-- by the bounds with each live literal below i: at most where it began,
pub uppers_start : (live : ℕ → Bool) (value row : ℕ → ℤ) (i : ℕ) (v : ℤ) → with_uppers live value row i v ≤ℤ v
unfolding with_uppers
uppers_start live value row zero v = omega linear
uppers_start live value row (suc i) v = go (live (i / 2)) (uppers_start live value row i v)
  where
    before : ℤ
    before = with_uppers live value row i v

    go : (b : Bool) → before ≤ℤ v → cond b (with_upper (row i) (value i) before) before ≤ℤ v
    go true k = let h = upper_start (row i) (value i) before in omega linear
    go false k = k

-- at most what each bound leaves,
pub uppers_each : (live : ℕ → Bool) (value row : ℕ → ℤ) (i : ℕ) (v : ℤ) (x : ℕ) → live (x / 2) ≡ true → x < i → has_rule (row x) ≡ true
    → with_uppers live value row i v ≤ℤ (row x +ℤ neg_ℤ (value x))
unfolding with_uppers
uppers_each live value row zero v x l h e = let z : ⊥ = omega arith in absurd z
uppers_each live value row (suc i) v x l h e = go (uppers_each live value row i v x l) (eqb x i) refl
  where
    before : ℤ
    before = with_uppers live value row i v

    more : (b : Bool) → before ≤ℤ (row x +ℤ neg_ℤ (value x)) → cond b (with_upper (row i) (value i) before) before ≤ℤ (row x +ℤ neg_ℤ (value x))
    more true k = let g = upper_start (row i) (value i) before in omega linear
    more false k = k

    go : (x < i → has_rule (row x) ≡ true → before ≤ℤ (row x +ℤ neg_ℤ (value x))) → (t : Bool) → eqb x i ≡ t
        → cond (live (i / 2)) (with_upper (row i) (value i) before) before ≤ℤ (row x +ℤ neg_ℤ (value x))
    go ih true q = let d = eqb-true x i q in rw (rw d at l, d) (upper_bound (row i) (value i) before (rw d at e))
    go ih false q = more (live (i / 2)) (ih (omega (arith, eqb-false x i q)) e)

-- and one of these
pub uppers_either : (P : ℤ → Type 0) (live : ℕ → Bool) (value row : ℕ → ℤ) (i : ℕ) (v : ℤ) → P v
    → ((x : ℕ) → live (x / 2) ≡ true → x < i → has_rule (row x) ≡ true → P (row x +ℤ neg_ℤ (value x))) → P (with_uppers live value row i v)
unfolding with_uppers
uppers_either P live value row zero v start low = start
uppers_either P live value row (suc i) v start low = go (live (i / 2)) refl (uppers_either P live value row i v start (λ x l h. low x l (omega arith)))
  where
    before : ℤ
    before = with_uppers live value row i v

    go : (b : Bool) → live (i / 2) ≡ b → P before → P (cond b (with_upper (row i) (value i) before) before)
    go true e k = upper_either P (row i) (value i) before k (low i e (omega arith))
    go false e k = k

-- by these and the bound of a literal alone: at most where it began,
pub bounded_start : (live : ℕ → Bool) (value row : ℕ → ℤ) (lone : ℤ) (i : ℕ) (v : ℤ) → bounded_by live value row lone i v ≤ℤ v
unfolding bounded_by
bounded_start live value row lone i v =
    let h = uppers_start live value row i (with_upper lone (pos 0) v) in
    let k = upper_start lone (pos 0) v in
    omega linear

-- at most what the bound alone leaves,
pub bounded_lone : (live : ℕ → Bool) (value row : ℕ → ℤ) (lone : ℤ) (i : ℕ) (v : ℤ) → has_rule lone ≡ true → bounded_by live value row lone i v ≤ℤ (lone +ℤ neg_ℤ (pos 0))
unfolding bounded_by
bounded_lone live value row lone i v e =
    let h = uppers_start live value row i (with_upper lone (pos 0) v) in
    let k = upper_bound lone (pos 0) v e in
    omega linear

-- at most what each other bound leaves,
pub bounded_each : (live : ℕ → Bool) (value row : ℕ → ℤ) (lone : ℤ) (i : ℕ) (v : ℤ) (x : ℕ) → live (x / 2) ≡ true → x < i → has_rule (row x) ≡ true
    → bounded_by live value row lone i v ≤ℤ (row x +ℤ neg_ℤ (value x))
unfolding bounded_by
bounded_each live value row lone i v x l h e = uppers_each live value row i (with_upper lone (pos 0) v) x l h e

-- and one of all these
pub bounded_either : (P : ℤ → Type 0) (live : ℕ → Bool) (value row : ℕ → ℤ) (lone : ℤ) (i : ℕ) (v : ℤ) → P v → (has_rule lone ≡ true → P (lone +ℤ neg_ℤ (pos 0)))
    → ((x : ℕ) → live (x / 2) ≡ true → x < i → has_rule (row x) ≡ true → P (row x +ℤ neg_ℤ (value x))) → P (bounded_by live value row lone i v)
unfolding bounded_by
bounded_either P live value row lone i v start alone low =
    uppers_either P live value row i (with_upper lone (pos 0) v) (upper_either P lone (pos 0) v start alone) low

-- with no literal there is the bound of the literal alone
pub bounded_none : (live : ℕ → Bool) (value row : ℕ → ℤ) (lone : ℤ) (v : ℤ) → bounded_by live value row lone 0 v ≡ with_upper lone (pos 0) v
unfolding bounded_by with_uppers
bounded_none live value row lone v = refl

-- one live literal more,
pub bounded_more : (live : ℕ → Bool) (value row : ℕ → ℤ) (lone : ℤ) (i : ℕ) (v : ℤ) → live (i / 2) ≡ true
    → bounded_by live value row lone (suc i) v ≡ with_upper (row i) (value i) (bounded_by live value row lone i v)
unfolding bounded_by with_uppers
bounded_more live value row lone i v e = rw e

-- literals passed over that are not live,
pub bounded_over : (live : ℕ → Bool) (value row : ℕ → ℤ) (lone : ℤ) (i c : ℕ) (v : ℤ) → ((x : ℕ) → i ≤ x → x < c + i → live (x / 2) ≡ false)
    → bounded_by live value row lone (c + i) v ≡ bounded_by live value row lone i v
unfolding bounded_by with_uppers
bounded_over live value row lone i zero v dead = rw (zero-add i)
bounded_over live value row lone i (suc c) v dead =
    rw (suc-add c i, dead (c + i) (omega arith) (omega arith)) (bounded_over live value row lone i c v (λ x h l. dead x h (omega arith)))

-- and other rows that have the same words for live literals
pub bounded_same : (live : ℕ → Bool) (value row row' : ℕ → ℤ) (lone : ℤ) (i : ℕ) (v : ℤ) → ((x : ℕ) → x < i → live (x / 2) ≡ true → row x ≡ row' x)
    → bounded_by live value row lone i v ≡ bounded_by live value row' lone i v
unfolding bounded_by with_uppers
bounded_same live value row row' lone zero v same = refl
bounded_same live value row row' lone (suc i) v same =
    go (live (i / 2)) refl (bounded_same live value row row' lone i v (λ x h. same x (omega arith)))
  where
    before : ℤ
    before = with_uppers live value row i (with_upper lone (pos 0) v)

    before' : ℤ
    before' = with_uppers live value row' i (with_upper lone (pos 0) v)

    go : (b : Bool) → live (i / 2) ≡ b → before ≡ before'
        → cond b (with_upper (row i) (value i) before) before ≡ cond b (with_upper (row' i) (value i) before') before'
    go true e k = rw (same i (omega arith) e, k)
    go false e k = k

-- or another set that has the same of these quantities
pub bounded_live : (live other : ℕ → Bool) (value row : ℕ → ℤ) (lone : ℤ) (i : ℕ) (v : ℤ) → ((x : ℕ) → x < i → live (x / 2) ≡ other (x / 2))
    → bounded_by live value row lone i v ≡ bounded_by other value row lone i v
unfolding bounded_by with_uppers
bounded_live live other value row lone zero v same = refl
bounded_live live other value row lone (suc i) v same =
    rw (same i (omega arith), bounded_live live other value row lone i v (λ x h. same x (omega arith)))

-- ---- from the sums to the integer

-- where every sum holds, the integer chosen keeps its bounds. The literals In are live and below i, and all of these that have a rule with -v are In.
-- The negation of the integer is at most what each bound of -v leaves, and one of these or that of what +v's bounds leave: so +v's hold too
pub sums_own : (In : ℕ → Type 0) (live : ℕ → Bool) (value plus minus : ℕ → ℤ) (p m : ℤ) (i : ℕ)
    → ((x : ℕ) → live (x / 2) ≡ true → x < i → has_rule (minus x) ≡ true → In x)
    → ((x : ℕ) → In x → (live (x / 2) ≡ true) × (x < i))
    → Sums In value plus minus p m → Own In value plus minus p m (chosen live value plus minus p m i)
unfolding chosen positive_part negative_part
sums_own In live value plus minus p m i minus-in inside sums = record {
  with_plus = λ x j e. bounded_either (λ (b : ℤ). (value x +ℤ neg_ℤ b) ≤ℤ plus x) live value minus m i (neg_ℤ a)
      (let h = bounded_each live value plus p i (pos 0) x (inside x j).0 (inside x j).1 e in
      omega (linear, parts_neg a, parts_neg (neg_ℤ a), parts_add (value x) (neg_ℤ (neg_ℤ a)), parts_neg (value x), parts_add (plus x) (neg_ℤ (value x))))
      (λ f. let h = sums.plus_lone x j e f in
      omega (linear, parts_add m (neg_ℤ (pos 0)), parts_neg (pos 0), parts_neg (m +ℤ neg_ℤ (pos 0)), parts_add (value x) (neg_ℤ (m +ℤ neg_ℤ (pos 0))), parts_add (plus x) m))
      (λ y l g f. let h = sums.both x y j (minus-in y l g f) e f in
      omega (
        linear,
        parts_neg (value y),
        parts_add (minus y) (neg_ℤ (value y)),
        parts_neg (minus y +ℤ neg_ℤ (value y)),
        parts_add (value x) (neg_ℤ (minus y +ℤ neg_ℤ (value y))),
        parts_add (value x) (value y),
        parts_add (plus x) (minus y),
      ));
  with_minus = λ x j e. let h = bounded_each live value minus m i (neg_ℤ a) x (inside x j).0 (inside x j).1 e in
      omega (linear, parts_neg b, parts_neg (neg_ℤ b), parts_add (value x) (neg_ℤ (neg_ℤ b)), parts_neg (value x), parts_add (minus x) (neg_ℤ (value x)));
  plus_alone = λ e. bounded_either (λ (b : ℤ). neg_ℤ b ≤ℤ p) live value minus m i (neg_ℤ a)
      (let h = bounded_lone live value plus p i (pos 0) e in
      omega (linear, parts_neg a, parts_neg (neg_ℤ a), parts_neg (pos 0), parts_add p (neg_ℤ (pos 0))))
      (λ f. let h = sums.lone e f in
      omega (linear, parts_neg (pos 0), parts_add m (neg_ℤ (pos 0)), parts_neg (m +ℤ neg_ℤ (pos 0)), parts_add p m))
      (λ y l g f. let h = sums.minus_lone y (minus-in y l g f) f e in
      omega (linear, parts_neg (value y), parts_add (minus y) (neg_ℤ (value y)), parts_neg (minus y +ℤ neg_ℤ (value y)), parts_add (minus y) p));
  minus_alone = λ e. let h = bounded_lone live value minus m i (neg_ℤ a) e in
      omega (linear, parts_neg b, parts_neg (neg_ℤ b), parts_neg (pos 0), parts_add m (neg_ℤ (pos 0)));
}
  where
    a : ℤ
    a = bounded_by live value plus p i (pos 0)

    b : ℤ
    b = bounded_by live value minus m i (neg_ℤ a)

-- ---- how large the integer chosen is

-- an integer of at most L + W, lowered by bounds of at most L where the values are at most W, stays so in magnitude
pub bounded_within : (L W : ℕ) (live : ℕ → Bool) (value row : ℕ → ℤ) (lone : ℤ) (i : ℕ) (v : ℤ)
    → ((x : ℕ) → live (x / 2) ≡ true → x < i → has_rule (row x) ≡ true → Within (pos L) (row x)) → (has_rule lone ≡ true → Within (pos L) lone)
    → ((x : ℕ) → live (x / 2) ≡ true → x < i → Within (pos W) (value x)) → Within (pos (L + W)) v → Within (pos (L + W)) (bounded_by live value row lone i v)
unfolding positive_part negative_part
bounded_within L W live value row lone i v rows alone values start =
    bounded_either (λ (z : ℤ). Within (pos (L + W)) z) live value row lone i v start
    (λ e. let h = within_to (alone e) in
    within_of (omega (linear, parts_neg (pos 0), parts_add lone (neg_ℤ (pos 0)))) (omega (linear, parts_neg (pos 0), parts_add lone (neg_ℤ (pos 0)))))
    (λ x l h e. within_add (rows x l h e) (within_neg (values x l h)))

-- bounds of at most L and values of at most W leave an integer of at most L + W
pub chosen_within : (L W : ℕ) (live : ℕ → Bool) (value plus minus : ℕ → ℤ) (p m : ℤ) (i : ℕ)
    → ((x : ℕ) → live (x / 2) ≡ true → x < i → has_rule (plus x) ≡ true → Within (pos L) (plus x))
    → ((x : ℕ) → live (x / 2) ≡ true → x < i → has_rule (minus x) ≡ true → Within (pos L) (minus x))
    → (has_rule p ≡ true → Within (pos L) p) → (has_rule m ≡ true → Within (pos L) m)
    → ((x : ℕ) → live (x / 2) ≡ true → x < i → Within (pos W) (value x)) → Within (pos (L + W)) (chosen live value plus minus p m i)
unfolding chosen positive_part negative_part
chosen_within L W live value plus minus p m i pluses minuses plus_alone minus_alone values =
    within_neg
    (bounded_within L W live value minus m i _ minuses minus_alone values
    (within_neg (bounded_within L W live value plus p i (pos 0) pluses plus_alone values (within_of (omega arith) (omega arith)))))

-- ---- how near to 0 it is

-- an integer within B, lowered by bounds that some v within B keeps, stays within B: it is not lowered past v
pub bounded_near : (B : ℕ) (live : ℕ → Bool) (value row : ℕ → ℤ) (lone : ℤ) (i : ℕ) (u v : ℤ)
    → ((x : ℕ) → live (x / 2) ≡ true → x < i → has_rule (row x) ≡ true → (value x +ℤ v) ≤ℤ row x) → (has_rule lone ≡ true → v ≤ℤ lone)
    → Within (pos B) v → Within (pos B) u → Within (pos B) (bounded_by live value row lone i u)
unfolding positive_part negative_part
bounded_near B live value row lone i u v rows alone near start =
    within_of
    (let h = bounded_start live value row lone i u in omega (linear, within_to start))
    (bounded_either (λ (z : ℤ). negative_part z ≤ B + positive_part z) live value row lone i u (within_to start).1
    (λ e. let h = alone e in omega (linear, within_to near, parts_neg (pos 0), parts_add lone (neg_ℤ (pos 0))))
    (λ x l g e. let h = rows x l g e in
    omega (linear, within_to near, parts_add (value x) v, parts_neg (value x), parts_add (row x) (neg_ℤ (value x)))))

-- where some v within B keeps its bounds, the integer chosen is within B
pub chosen_near : (In : ℕ → Type 0) (B : ℕ) (live : ℕ → Bool) (value plus minus : ℕ → ℤ) (p m : ℤ) (i : ℕ) (v : ℤ) → ((x : ℕ) → live (x / 2) ≡ true → x < i → In x)
    → Own In value plus minus p m v → Within (pos B) v → Within (pos B) (chosen live value plus minus p m i)
unfolding chosen positive_part negative_part
chosen_near In B live value plus minus p m i v all o near =
    within_neg
    (bounded_near B live value minus m i _ (neg_ℤ v) (λ x l h. o.with_minus x (all x l h)) o.minus_alone (within_neg near)
    (within_neg
    (bounded_near B live value plus p i (pos 0) v (λ x l h. o.with_plus x (all x l h)) o.plus_alone near (within_of (omega arith) (omega arith)))))
