-- All quantities paired, one after the other: what satisfies the table still does, and nothing does where a contradiction was met; a quantity that no rule names
-- stays so, and its step changes nothing. Assumes nothing.
use mathlib.Core.Path.{◌≡◌, refl, ◌∙◌, sym}
use mathlib.Core.Bool.{Bool, true, false}
use mathlib.Core.List.{List}
use mathlib.Core.Logic.{◌⊎◌, inl, inr}
use Prim.Native.Nat.{ℕ, zero, suc, ◌≤◌, ◌<◌}
use native.Mathlib.Omega.{arith}
use lib.Dec.{ltb}
use lib.IntN.{ℤ}
use lib.ListN.{length, drop}
use borrow.Author.Tests.{ltb-true, ltb-false}
use Rattle.words.proofs.Change.{change_drop}
use Rattle.places.specs.Numbering.{block_start}
use Rattle.rules.specs.Meaning.{Assignment}
use Rattle.tables.specs.Meaning.{Satisfies}
use Rattle.tables.proofs.Tests.{clash}
use Rattle.elimination.specs.Hiding.{every, paired, contradicts}
use Rattle.elimination.specs.Magnitude.{Unnamed}
use Rattle.elimination.proofs.Step.{paired_length}
use Rattle.elimination.proofs.Exact.{paired_kept}
use Rattle.elimination.proofs.Unnamed.{unnamed_same, unnamed_clear, unnamed_paired}
use Rattle.keys.proofs.Several.{or_either}
use Rattle.tightening.specs.Tightening.{pair_up_to, clash_up_to}

-- pairing keeps the table's length,
pub pair_up_to_length : (n m : ℕ) (t : List ℤ) → length (pair_up_to n m t) ≡ length t
unfolding pair_up_to
pair_up_to_length n zero t = refl
pair_up_to_length n (suc j) t = paired_length every n j (pair_up_to n j t) ∙ pair_up_to_length n j t

-- and so its room,
pub pair_room : (n m : ℕ) (t : List ℤ) → block_start n ≤ length t → block_start n ≤ length (pair_up_to n m t)
pair_room n m t l = omega (arith, pair_up_to_length n m t)

-- and the words past the table
rest_paired : (n j : ℕ) (t : List ℤ) → drop (block_start n) (paired every n j t) ≡ drop (block_start n) t
unfolding paired
rest_paired n j t = change_drop (block_start n) _ t

pub pair_rest : (n m : ℕ) (t : List ℤ) → drop (block_start n) (pair_up_to n m t) ≡ drop (block_start n) t
unfolding pair_up_to
pair_rest n zero t = refl
pair_rest n (suc j) t = rest_paired n j (pair_up_to n j t) ∙ pair_rest n j t

-- ---- step by step

-- before the first step the table is as it was, and there is no contradiction
pub pair_none : (n : ℕ) (t : List ℤ) → (t ≡ pair_up_to n 0 t) × (clash_up_to n 0 t ≡ false)
unfolding pair_up_to clash_up_to
pair_none n t = (refl, refl)

-- one quantity more
pub pair_more : (n j : ℕ) (t : List ℤ) → paired every n j (pair_up_to n j t) ≡ pair_up_to n (suc j) t
unfolding pair_up_to
pair_more n j t = refl

-- and its contradiction, where there was none before
pub clash_more : (n j : ℕ) (t : List ℤ) → clash_up_to n j t ≡ false → clash_up_to n (suc j) t ≡ contradicts every n j (pair_up_to n j t)
unfolding clash_up_to
clash_more n j t e = rw e

-- a contradiction met on the way is one at the end
pub clash_stays : (n m c : ℕ) (t : List ℤ) → m ≤ c → clash_up_to n m t ≡ true → clash_up_to n c t ≡ true
unfolding clash_up_to
clash_stays n m zero t h e = let d : m ≡ zero = omega arith in rw d at e
clash_stays n m (suc i) t h e = go (ltb i m) refl (clash_stays n m i t)
  where
    go : (b : Bool) → ltb i m ≡ b → (m ≤ i → clash_up_to n m t ≡ true → clash_up_to n i t ≡ true) → clash_up_to n (suc i) t ≡ true
    go true d ih = let s : m ≡ suc i = omega (arith, ltb-true i m d) in rw s at e
    go false d ih = rw (ih (ltb-false i m d) e)

-- ---- what satisfies it

-- what satisfies the table satisfies it with every sum put in,
pub pair_kept : (n m : ℕ) (t : List ℤ) (σ : Assignment) → m ≤ n → block_start n ≤ length t → Satisfies n t σ → Satisfies n (pair_up_to n m t) σ
unfolding pair_up_to
pair_kept n zero t σ h l s = s
pair_kept n (suc j) t σ h l s =
    (paired_kept every n j (pair_up_to n j t) σ (pair_room n j t l) (omega arith) (pair_kept n j t σ (omega arith) l s)).0

-- and where a contradiction is met, nothing does
pub clash_unsatisfiable : (n m : ℕ) (t : List ℤ) (σ : Assignment) → m ≤ n → block_start n ≤ length t → clash_up_to n m t ≡ true → Satisfies n t σ → ⊥
unfolding clash_up_to
clash_unsatisfiable n zero t σ h l e s = clash e refl
clash_unsatisfiable n (suc j) t σ h l e s =
    go (or_either (clash_up_to n j t) (contradicts every n j u) e) (λ d. clash_unsatisfiable n j t σ (omega arith) l d s)
  where
    u : List ℤ
    u = pair_up_to n j t

    go : (clash_up_to n j t ≡ true) ⊎ (contradicts every n j u ≡ true) → (clash_up_to n j t ≡ true → ⊥) → ⊥
    go (inl d) ih = ih d
    go (inr d) ih = clash d (paired_kept every n j u σ (pair_room n j t l) (omega arith) (pair_kept n j t σ (omega arith) l s)).1

-- ---- quantities that no rule names

-- such a one stays so,
pub pair_unnamed : (n m i : ℕ) (t : List ℤ) → m ≤ n → block_start n ≤ length t → Unnamed n i t → Unnamed n i (pair_up_to n m t)
unfolding pair_up_to
pair_unnamed n zero i t h l u = u
pair_unnamed n (suc j) i t h l u =
    unnamed_paired every n j i (pair_up_to n j t) (pair_room n j t l) (omega arith) (pair_unnamed n j i t (omega arith) l u)

-- and pairing some of them, one after the other, changes nothing and meets no contradiction
pub pair_over : (n a c : ℕ) (t : List ℤ) → block_start n ≤ length t → a ≤ c → c ≤ n → ((j : ℕ) → a ≤ j → j < c → Unnamed n j t)
    → (pair_up_to n a t ≡ pair_up_to n c t) × (clash_up_to n a t ≡ false → clash_up_to n c t ≡ false)
unfolding pair_up_to clash_up_to
pair_over n a zero t l h g none = let d : a ≡ zero = omega arith in rw d (refl, λ e. e)
pair_over n a (suc i) t l h g none = go (ltb i a) refl (pair_over n a i t l)
  where
    u : List ℤ
    u = pair_up_to n i t

    go : (b : Bool) → ltb i a ≡ b
        → (a ≤ i → i ≤ n → ((j : ℕ) → a ≤ j → j < i → Unnamed n j t) → (pair_up_to n a t ≡ u) × (clash_up_to n a t ≡ false → clash_up_to n i t ≡ false))
        → (pair_up_to n a t ≡ pair_up_to n (suc i) t) × (clash_up_to n a t ≡ false → clash_up_to n (suc i) t ≡ false)
    go true d ih = let s : a ≡ suc i = omega (arith, ltb-true i a d) in rw s (refl, λ e. e)
    go false d ih =
        let below : a ≤ i = ltb-false i a d in
        let before = ih below (omega arith) (λ j p q. none j p (omega arith)) in
        let free : Unnamed n i u = pair_unnamed n i i t (omega arith) l (none i below (omega arith)) in
        let room = pair_room n i t l in (
          before.0 ∙ sym (unnamed_same n i u room free every (omega arith)),
          λ e. rw (before.1 e) (unnamed_clear n i u room free every (omega arith)),
        )
