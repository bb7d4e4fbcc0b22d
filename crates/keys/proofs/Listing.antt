-- The live quantities listed one after the other: a list in increasing number with a higher one at its end, and what the lists mean for a table's rules. Assumes nothing.
use mathlib.Core.Path.{◌≡◌, refl, sym, ◌∙◌}
use mathlib.Core.Bool.{Bool, true, false, ◌||◌, or-false, or_assoc}
use mathlib.Core.List.{List, [], ◌∷◌, ◌++◌}
use Prim.Native.Nat.{ℕ, suc, ◌≤◌, ◌<◌}
use native.Mathlib.Omega.{arith}
use lib.Dec.{eqb, ltb}
use lib.IntN.{ℤ}
use lib.ListN.{length, get_or, take, length-append, get_or-append, length-set}
use lib.ListN.{set as put}
use lib.Seq.{take-suc-set, get_or-append_seam}
use borrow.Author.Tests.{eq-eqb, ne_eqb, ltb-true, ltb-false, le-leb}
use Rattle.rules.specs.Hidden.{is_listed, hidden_in}
use Rattle.tables.proofs.Tests.{clash}
use Rattle.elimination.specs.Magnitude.{Unnamed}
use Rattle.elimination.specs.Inner.{among, Listed}
use Rattle.elimination.proofs.Lists.{listed_below}
use Rattle.keys.specs.declared.live.Part.{Part}
use Rattle.keys.specs.declared.live.Part.TheVariants.{Outside}
use Rattle.keys.specs.Inner.{still_live, NoneBefore, LiveListed, LiveAlone}

-- ---- a list with one more at its end

-- a quantity is in it where it was in the list or is the one added
pub among_end : (list : List ℕ) (a q : ℕ) → among (list ++ (a ∷ [])) q ≡ (among list q || eqb q a)
unfolding is_listed
among_end [] a q = or-false (eqb q a)
among_end (p ∷ ps) a q = rw (among_end ps a q) (sym (or_assoc (eqb q p) (is_listed q ps) (eqb q a)))

-- a quantity past those of a list is not in it
pub among_past : (n : ℕ) (list : List ℕ) → Listed n list → (a : ℕ) → n ≤ a → among list a ≡ false
among_past n list l a h = go (among list a) refl
  where
    go : (b : Bool) → among list a ≡ b → b ≡ false
    go true e = let below = listed_below n list l a e in let z : ⊥ = omega arith in absurd z
    go false e = refl

-- what stands in it
module _ (list : List ℕ) (a : ℕ) where
  end_length : length (list ++ (a ∷ [])) ≡ suc (length list)
  end_length = length-append list (a ∷ []) ∙ omega arith

  end_before : (i : ℕ) → i < length list → get_or (list ++ (a ∷ [])) i 0 ≡ get_or list i 0
  end_before i h = get_or-append list (a ∷ []) 0 i h

  end_last : (i : ℕ) → i ≡ length list → get_or (list ++ (a ∷ [])) i 0 ≡ a
  end_last i e = rw e (get_or-append_seam list a [] 0)

-- the list of the first a with a itself at its end is in increasing number
pub listed_end : (a : ℕ) (list : List ℕ) → Listed a list → Listed (suc a) (list ++ (a ∷ []))
listed_end a list l = record { rising = record { rises = λ i h. rises i h (ltb (suc i) (length list)) refl }; below = λ i h. below i h (ltb i (length list)) refl }
  where
    rises : (i : ℕ) → suc i < length (list ++ (a ∷ [])) → (b : Bool) → ltb (suc i) (length list) ≡ b
        → get_or (list ++ (a ∷ [])) i 0 < get_or (list ++ (a ∷ [])) (suc i) 0
    rises i h true e =
        let g = ltb-true (suc i) (length list) e in
        rw (end_before list a i (omega arith), end_before list a (suc i) g) (l.rising.rises i g)
    rises i h false e =
        let g = ltb-false (suc i) (length list) e in
        let n = end_length list a in
        rw (end_before list a i (omega arith), end_last list a (suc i) (omega arith)) (l.below i (omega arith))

    below : (i : ℕ) → i < length (list ++ (a ∷ [])) → (b : Bool) → ltb i (length list) ≡ b → get_or (list ++ (a ∷ [])) i 0 < suc a
    below i h true e = let g = ltb-true i (length list) e in rw (end_before list a i g) (omega (arith, l.below i g))
    below i h false e =
        let g = ltb-false i (length list) e in
        let n = end_length list a in
        rw (end_last list a i (omega arith)) (omega arith)

-- a list of n quantities is one of more
pub listed_wider : (n m : ℕ) (list : List ℕ) → n ≤ m → Listed n list → Listed m list
listed_wider n m list h l = record { rising = l.rising; below = λ i g. omega (arith, l.below i g) }

-- ---- the live ones of the first i quantities

module _ (set : ℕ) (part : Part) (from : ℕ) where
  -- before the first none is,
  among_none : (i : ℕ) → among [] i ≡ false
  unfolding is_listed
  among_none i = refl

  pub live_none : (i : ℕ) (out : List ℕ) → NoneBefore part from i → LiveListed i set part from 0 out
  live_none i out b = record {
    room = omega arith;
    listed = record {
      rising = record { rises = λ h l. let z : ⊥ = omega arith in absurd z };
      below = λ h l. let z : ⊥ = omega arith in absurd z;
    };
    each = λ h l. rw (b.none set h l) (among_none h);
  }

  -- of one more that is not live,
  pub live_passed : (i count : ℕ) (out : List ℕ) → still_live set part from i ≡ false → LiveListed i set part from count out
      → LiveListed (suc i) set part from count out
  live_passed i count out e l = record {
    room = l.room;
    listed = listed_wider i (suc i) (take count out) (omega arith) l.listed;
    each = λ q h. go q h (ltb q i) refl;
  }
    where
      go : (q : ℕ) → q < suc i → (b : Bool) → ltb q i ≡ b → among (take count out) q ≡ still_live set part from q
      go q h true d = l.each q (ltb-true q i d)
      go q h false d =
          let s : q ≡ i = omega (arith, ltb-false q i d) in
          rw s (among_past i (take count out) l.listed i (omega arith) ∙ sym e)

  -- and of one more that is live and is put at the end
  pub live_put : (i count : ℕ) (out : List ℕ) → still_live set part from i ≡ true → count < length out → LiveListed i set part from count out
      → LiveListed (suc i) set part from (suc count) (put out count i)
  live_put i count out e g l = record {
    room = rw (length-set out count i) g;
    listed = rw (take-suc-set out count i g) (listed_end i (take count out) l.listed);
    each = λ q h. rw (take-suc-set out count i g, among_end (take count out) i q) (go q h (ltb q i) refl);
  }
    where
      go : (q : ℕ) → q < suc i → (b : Bool) → ltb q i ≡ b → (among (take count out) q || eqb q i) ≡ still_live set part from q
      go q h true d =
          let s = ltb-true q i d in
          rw (ne_eqb q i (λ u. omega arith), l.each q s) (or-false (still_live set part from q))
      go q h false d =
          let s : q ≡ i = omega (arith, ltb-false q i d) in
          rw (s, among_past i (take count out) l.listed i (omega arith), eq-eqb i i refl) (sym e)

-- ---- a table whose rules name the listed ones alone

-- where no rule names a quantity that is not live,
pub live_alone : (n set : ℕ) (part : Part) (from count : ℕ) (out : List ℕ) (t : List ℤ) → LiveListed n set part from count out
    → ((i : ℕ) → i < n → still_live set part from i ≡ false → Unnamed n i t) → LiveAlone n (take count out) t
live_alone n set part from count out t l gone = record { listed = l.listed; rest = λ i h e. gone i h (sym (l.each i h) ∙ e) }

-- and, where those outside a set are listed, where none names one of the set
pub visible_alone : (n set count : ℕ) (out : List ℕ) (t : List ℤ) → LiveListed n set Outside 0 count out
    → ((i : ℕ) → i < n → hidden_in set (suc i) ≡ true → Unnamed n i t) → LiveAlone n (take count out) t
visible_alone n set count out t l gone = live_alone n set Outside 0 count out t l (λ i h e. gone i h (go i (hidden_in set (suc i)) refl e))
  where
    go : (i : ℕ) (b : Bool) → hidden_in set (suc i) ≡ b → still_live set Outside 0 i ≡ false → b ≡ true
    go i true d e = refl
    go i false d e = clash (rw (le-leb 0 i (omega arith), d)) e
