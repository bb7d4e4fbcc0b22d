-- A step followed to a point: which of the tables between it is. Assumes nothing.
use mathlib.Core.Path.{◌≡◌, refl, sym, ◌∙◌, ap}
use mathlib.Core.Bool.{Bool, true, false, cond}
use mathlib.Core.List.{List}
use Prim.Native.Nat.{ℕ, zero, suc, ◌+◌, ◌-◌, ◌≤◌, ◌<◌}
use native.Mathlib.Omega.{arith}
use lib.IntN.{ℤ}
use lib.ListN.{length, take}
use borrow.Author.Tests.{le-leb, lt-leb}
use Rattle.places.specs.Numbering.{block_start}
use Rattle.rules.specs.Hidden.{hidden_in}
use Rattle.elimination.specs.Hiding.{every, paired, eliminated}
use Rattle.elimination.specs.Inner.{among}
use Rattle.elimination.specs.Promises.{Paired, QuantityHidden}
use Rattle.elimination.proofs.BlockOrder.{by_blocks, blocks_between}
use Rattle.keys.specs.Keys.{hide_up_to, key_of}
use Rattle.steps.specs.Steps.{step_at}
use Rattle.steps.specs.Inner.{AllListed}
use Rattle.steps.specs.Promises.{PointReached, LowerHidden, KeyStep}
use Rattle.steps.proofs.Listing.{first_paired}

-- ---- the blocks, and the end

pub point_between : (n j blocks : ℕ) (t u : List ℤ) (out : List ℕ) (r : Bool) → AllListed n out → blocks ≤ n → Paired (among (take blocks out)) n j t r u → u ≡ step_at n j blocks t
unfolding step_at
point_between n j blocks t u out r a h p =
    p.table ∙ first_paired n blocks out a h j t
    ∙ ap (λ (c : Bool). cond c (paired every blocks j t) (eliminated n j t)) (sym (le-leb blocks n h))

pub point_end : (n j blocks : ℕ) (t u : List ℤ) (r : Bool) → n < blocks → QuantityHidden n j t r u → u ≡ step_at n j blocks t
unfolding step_at
point_end n j blocks t u r h q = q.table ∙ ap (λ (c : Bool). cond c (paired every blocks j t) (eliminated n j t)) (sym (lt-leb blocks n h))

-- what is reached is one of the tables between, or the end
pub point_reached : (n j blocks : ℕ) (t : List ℤ) → block_start n ≤ length t → j < n → PointReached n j blocks t (step_at n j blocks t)
unfolding step_at
point_reached n j blocks t l h = record {
  step = by_blocks n j t l h (eliminated n j t) refl;
  between = λ g. rw (le-leb blocks n g) (sym (blocks_between n j t l h (eliminated n j t) refl blocks));
  end = λ g. rw (lt-leb blocks n g);
}

-- ---- the steps of a key

-- where two sets agree on the first m quantities, these are hidden alike,
same_hidden : (h g : ℕ → Bool) (n m : ℕ) (t : List ℤ) → ((i : ℕ) → 1 ≤ i → i ≤ m → h i ≡ g i) → hide_up_to h n m t ≡ hide_up_to g n m t
unfolding hide_up_to
same_hidden h g n zero t e = refl
same_hidden h g n (suc m) t e = rw (same_hidden h g n m t (λ i l o. e i l (omega arith)), e (suc m) (omega arith) (omega arith))

-- and where a set has none past them, nothing more is hidden
one_more_lem : (h : ℕ → Bool) (n m : ℕ) (t : List ℤ) → h (suc m) ≡ false → hide_up_to h n (suc m) t ≡ hide_up_to h n m t
unfolding hide_up_to
one_more_lem h n m t e = rw e

none_more : (h : ℕ → Bool) (n m d : ℕ) (t : List ℤ) → ((i : ℕ) → m < i → i ≤ m + d → h i ≡ false) → hide_up_to h n (m + d) t ≡ hide_up_to h n m t
none_more h n m zero t e = ap (λ (i : ℕ). hide_up_to h n i t) (omega arith)
none_more h n m (suc d) t e =
    let next : m + suc d ≡ suc (m + d) = omega arith in
    ap (λ (i : ℕ). hide_up_to h n i t) next ∙ one_more_lem h n (m + d) t (e (suc (m + d)) (omega arith) (omega arith))
    ∙ none_more h n m d t (λ i l g. e i l (omega arith))

key_after : (h : ℕ → Bool) (n m : ℕ) (t : List ℤ) → m ≤ n → ((i : ℕ) → m < i → i ≤ n → h i ≡ false) → key_of h n t ≡ hide_up_to h n m t
unfolding key_of
key_after h n m t a e =
    let all : n ≡ m + (n - m) = omega arith in
    ap (λ (i : ℕ). hide_up_to h n i t) all ∙ none_more h n m (n - m) t (λ i l g. e i l (omega arith))

-- one that is hidden is hidden by its step
own_more : (h : ℕ → Bool) (n m : ℕ) (t : List ℤ) → h (suc m) ≡ true → hide_up_to h n (suc m) t ≡ eliminated n m (hide_up_to h n m t)
unfolding hide_up_to
own_more h n m t e = rw e

pub key_step : (n set q : ℕ) (t : List ℤ) (hidden : ℕ → Bool) → 1 ≤ q → q ≤ n → LowerHidden n set q hidden → KeyStep n set q t hidden
key_step n set q t hidden a b l = record { begun = begun; ended = ended; last = λ e none. ended e ∙ sym (key_after hidden n q t b none) }
  where
    begun : key_of (hidden_in set) n t ≡ hide_up_to hidden n (q - 1) t
    begun =
        key_after (hidden_in set) n (q - 1) t (omega arith) (λ i c g. l.none i (omega arith) g)
        ∙ sym (same_hidden hidden (hidden_in set) n (q - 1) t (λ i c g. l.lower i c (omega arith)))

    ended : hidden q ≡ true → eliminated n (q - 1) (key_of (hidden_in set) n t) ≡ hide_up_to hidden n q t
    ended e =
        let next : suc (q - 1) ≡ q = omega arith in
        ap (eliminated n (q - 1)) begun ∙ sym (own_more hidden n (q - 1) t (rw next e)) ∙ ap (λ (i : ℕ). hide_up_to hidden n i t) next
