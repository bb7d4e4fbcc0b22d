-- A quantity's places are all those of its own block and four together in each block after it, so clearing them fills one run of words in each
-- block. Assumes nothing.
use mathlib.Core.Path.{◌≡◌, refl, sym, ◌∙◌, ap}
use mathlib.Core.Bool.{Bool, true, false}
use mathlib.Core.List.{List}
use mathlib.Core.Logic.{◌⊎◌, inl, inr}
use Prim.Native.Nat.{ℕ, suc, ◌+◌, ◌*◌, ◌≤◌, ◌<◌}
use native.Mathlib.Omega.{arith}
use lib.Dec.{ltb}
use lib.IntN.{ℤ}
use lib.ListN.{length}
use borrow.Author.Tests.{ltb-true, ltb-false, lt-ltb}
use Rattle.words.specs.Change.{word_at, change, fill_from}
use Rattle.words.proofs.Change.{change_is, change_length, change_below, change_past, change_nothing, fill_at}
use Rattle.places.specs.Numbering.{block_start, offset_of}
use Rattle.places.proofs.Numbering.{block_start_suc, block_unique, block_below, offset_below, offset_place}
use Rattle.rules.specs.Limits.{no_rule}
use Rattle.tables.specs.Tables.{clearing}
use Rattle.tables.proofs.Places.{own_named, four_named, not_named}

-- ---- a run of words filled

-- a change that fills one run of the words after the first s and leaves those around it is that fill after the change of the first s
run_more : (s a e m : ℕ) (f : ℕ → ℤ → ℤ) (w : ℤ) (t : List ℤ) → s ≤ a → a ≤ e → e ≤ m
    → ((k : ℕ) → s ≤ k → k < m → (k < a) ⊎ (e ≤ k) → f k (word_at t k) ≡ word_at t k)
    → ((k : ℕ) → a ≤ k → k < e → f k (word_at t k) ≡ w)
    → change e (fill_from a w) (change s f t) ≡ change m f t
run_more s a e m f w t p q r around inside = change_is m f t u (change_length e g v ∙ change_length s f t) below past
  where
    g : ℕ → ℤ → ℤ
    g = fill_from a w

    v : List ℤ
    v = change s f t

    u : List ℤ
    u = change e g v

    outer : (k : ℕ) → k < length t → (k < a) ⊎ (e ≤ k) → word_at u k ≡ word_at v k
    outer k l (inl h) = change_below e g v k (omega arith) (rw (change_length s f t) l) ∙ rw (lt-ltb k a h)
    outer k l (inr h) = change_past e g v k h

    out : (k : ℕ) → k < m → k < length t → (k < a) ⊎ (e ≤ k) → (b : Bool) → ltb k s ≡ b → word_at u k ≡ f k (word_at t k)
    out k h l o true y = outer k l o ∙ change_below s f t k (ltb-true k s y) l
    out k h l o false y = outer k l o ∙ change_past s f t k (ltb-false k s y) ∙ sym (around k (ltb-false k s y) h o)

    go : (k : ℕ) → k < m → k < length t → (x y : Bool) → ltb k a ≡ x → ltb k e ≡ y → word_at u k ≡ f k (word_at t k)
    go k h l true y i j = out k h l (inl (ltb-true k a i)) (ltb k s) refl
    go k h l false false i j = out k h l (inr (ltb-false k e j)) (ltb k s) refl
    go k h l false true i j =
        change_below e g v k (ltb-true k e j) (rw (change_length s f t) l)
        ∙ fill_at a k w (word_at v k) (ltb-false k a i)
        ∙ sym (inside k (ltb-false k a i) (ltb-true k e j))

    below : (k : ℕ) → k < m → k < length t → word_at u k ≡ f k (word_at t k)
    below k h l = go k h l (ltb k a) (ltb k e) refl refl

    past : (k : ℕ) → m ≤ k → k < length t → word_at u k ≡ word_at t k
    past k h l = change_past e g v k (omega arith) ∙ change_past s f t k (omega arith)

-- ---- block by block

-- up to a quantity's own block nothing is cleared
none_before : (j : ℕ) (t : List ℤ) → change (block_start j) (clearing (suc j)) t ≡ t
none_before j t = change_nothing (block_start j) (clearing (suc j)) t (λ k h.
    rw (not_named j k (word_at t k) (λ e. omega (arith, block_below j k h)) (inl (omega (arith, block_below j k h, offset_below k)))))

-- that block is filled
pub clear_own : (j : ℕ) (t : List ℤ)
    → change (block_start j + 4 * j + 2) (fill_from (block_start j) no_rule) t ≡ change (block_start (suc j)) (clearing (suc j)) t
clear_own j t =
    ap (change (block_start j + 4 * j + 2) (fill_from (block_start j) no_rule)) (sym (none_before j t))
    ∙ run_more (block_start j) (block_start j) (block_start j + 4 * j + 2) (block_start (suc j)) (clearing (suc j)) no_rule t
    (omega arith) (omega arith) (omega (arith, block_start_suc j))
    (λ k l h o. absurd (nowhere k l h o))
    (λ k l h. rw (own_named j k (word_at t k) (block_unique j k l (omega (arith, block_start_suc j)))))
  where
    nowhere : (k : ℕ) → block_start j ≤ k → k < block_start (suc j) → (k < block_start j) ⊎ (block_start j + 4 * j + 2 ≤ k) → ⊥
    nowhere k l h (inl o) = omega arith
    nowhere k l h (inr o) = omega (arith, block_start_suc j)

-- and four words of each block after it
pub clear_more : (j b : ℕ) (t : List ℤ) → j < b
    → change (block_start b + 4 * j + 6) (fill_from (block_start b + 4 * j + 2) no_rule) (change (block_start b) (clearing (suc j)) t)
    ≡ change (block_start (suc b)) (clearing (suc j)) t
clear_more j b t l =
    run_more (block_start b) (block_start b + 4 * j + 2) (block_start b + 4 * j + 6) (block_start (suc b)) (clearing (suc j)) no_rule t
    (omega arith) (omega arith) (omega (arith, block_start_suc b)) around inside
  where
    offset : (k : ℕ) → block_start b ≤ k → k < block_start (suc b) → block_start b + offset_of k ≡ k
    offset k g h = rw (block_unique b k g h) at (offset_place k)

    outer : (k : ℕ) → block_start b ≤ k → k < block_start (suc b) → (k < block_start b + 4 * j + 2) ⊎ (block_start b + 4 * j + 6 ≤ k)
        → (offset_of k < 4 * j + 2) ⊎ (4 * j + 6 ≤ offset_of k)
    outer k g h (inl o) = inl (omega (arith, offset k g h))
    outer k g h (inr o) = inr (omega (arith, offset k g h))

    around : (k : ℕ) → block_start b ≤ k → k < block_start (suc b) → (k < block_start b + 4 * j + 2) ⊎ (block_start b + 4 * j + 6 ≤ k)
        → clearing (suc j) k (word_at t k) ≡ word_at t k
    around k g h o = rw (not_named j k (word_at t k) (λ e. omega (arith, block_unique b k g h)) (outer k g h o))

    inside : (k : ℕ) → block_start b + 4 * j + 2 ≤ k → k < block_start b + 4 * j + 6 → clearing (suc j) k (word_at t k) ≡ no_rule
    inside k g h =
        let e = offset k (omega arith) (omega (arith, block_start_suc b)) in
        rw (four_named j k (word_at t k) (omega arith) (omega arith))
