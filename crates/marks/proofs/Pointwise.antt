-- A list that is changed place by place from the first on: what holds when nothing, one place more or all of the first places are done. Assumes nothing.
use mathlib.Core.Bool.{Bool, true, false}
use mathlib.Core.Path.{◌≡◌, refl, sym, ◌∙◌}
use mathlib.Core.List.{List}
use Prim.Native.Nat.{ℕ, ◌+◌, ◌≤◌, ◌<◌}
use native.Mathlib.Omega.{arith}
use lib.Dec.{eqb}
use lib.ListN.{length, get_or, set, drop, length-set}
use lib.Seq.{get_or-set_same, get_or-set_other, ext_get_or}
use Rattle.std.proofs.Common.{length-drop}
use Rattle.std.proofs.lemmas.List.{get_or-drop}
use borrow.Author.Tests.{eqb-true, eqb-false}

-- lists of one length that agree from a place on are the same from there
pub drop_same : {A : Type 0} (d : A) (i : ℕ) (u t : List A) → length u ≡ length t → ((k : ℕ) → i ≤ k → get_or u k d ≡ get_or t k d) → drop i u ≡ drop i t
drop_same d i u t e h = ext_get_or d (drop i u) (drop i t) (simp length-drop (omega arith))
    (λ k l. get_or-drop i u k d ∙ h (i + k) (omega arith) ∙ sym (get_or-drop i t k d))

-- the first i places of a list hold what they are to hold, and the others what they held
pub record DoneTo {A : Type 0} (d : A) (i : ℕ) (f : ℕ → A) (before after : List A) : Type 0 where
  pub size : length after ≡ length before
  pub each : (k : ℕ) → k < i → get_or after k d ≡ f k
  pub rest : (k : ℕ) → i ≤ k → get_or after k d ≡ get_or before k d

-- one place more is written
pub done_more : {A : Type 0} (d : A) (i : ℕ) (f : ℕ → A) (t u : List A) (w : A) → DoneTo d i f t u → i < length t → w ≡ f i → DoneTo d (i + 1) f t (set u i w)
done_more {A} d i f t u w h l e = record {
  size = length-set u i w ∙ h.size;
  each = λ k p. go k p (eqb k i) refl;
  rest = λ k p. get_or-set_other u i k w d (omega arith) ∙ h.rest k (omega arith);
}
  where
    go : (k : ℕ) → k < i + 1 → (b : Bool) → eqb k i ≡ b → get_or (set u i w) k d ≡ f k
    go k p true q = rw (eqb-true k i q) (get_or-set_same u i w d (omega (arith, h.size)) ∙ e)
    go k p false q = get_or-set_other u i k w d (eqb-false k i q) ∙ h.each k (omega (arith, eqb-false k i q))

-- or holds already what it is to hold
pub done_kept : {A : Type 0} (d : A) (i : ℕ) (f : ℕ → A) (t u : List A) → DoneTo d i f t u → get_or t i d ≡ f i → DoneTo d (i + 1) f t u
done_kept {A} d i f t u h e = record {
  size = h.size;
  each = λ k p. go k p (eqb k i) refl;
  rest = λ k p. h.rest k (omega arith);
}
  where
    go : (k : ℕ) → k < i + 1 → (b : Bool) → eqb k i ≡ b → get_or u k d ≡ f k
    go k p true q = rw (eqb-true k i q) (h.rest i (omega arith) ∙ e)
    go k p false q = h.each k (omega (arith, eqb-false k i q))

-- what is past the places done stays, as a list
pub done_rest : {A : Type 0} (d : A) (i : ℕ) (f : ℕ → A) (t u : List A) → DoneTo d i f t u → drop i u ≡ drop i t
done_rest d i f t u h = drop_same d i u t h.size h.rest
