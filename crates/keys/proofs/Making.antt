-- The key made in a copy of the sheet, and 'no assignment' decided in a copy of the key. Assumes nothing.
use mathlib.Core.Path.{◌≡◌, refl, sym, ◌∙◌}
use mathlib.Core.Bool.{Bool, true, false}
use mathlib.Core.List.{List}
use Prim.Native.Nat.{ℕ, ◌+◌, ◌-◌, ◌≤◌}
use native.Mathlib.Omega.{arith}
use lib.IntN.{ℤ}
use lib.ListN.{length, drop}
use borrow.Author.Tests.{lt-ltb}
use Rattle.words.specs.Change.{change, copying}
use Rattle.words.specs.Lent.{Lent}
use Rattle.words.proofs.Change.{change_length, change_drop, change_is}
use Rattle.places.specs.Numbering.{block_start}
use Rattle.rules.specs.declared.paper.Paper.TheVariants.{Sheet}
use Rattle.rules.specs.Hidden.{hidden_in}
use Rattle.rules.specs.Limits.{bound_limit}
use Rattle.rules.specs.Refusing.{passed, AllMet}
use Rattle.tables.specs.Tables.{table_size}
use Rattle.tables.specs.Meaning.{Satisfiable, Unsatisfiable, BoundsWithin}
use Rattle.tables.proofs.Tests.{clash}
use Rattle.elimination.specs.Hiding.{every}
use Rattle.keys.specs.Keys.{key_of}
use Rattle.keys.specs.Meaning.{key_needs_then}
use Rattle.keys.specs.Inner.{Fits, RestFits, Decided, SetHidden, KeyTried}
use Rattle.keys.proofs.Several.{key_exact, allows_own, refuted_false, rest_key, key_length}
use Rattle.keys.proofs.Fitting.{hide_ample, sheet_fits}
use Rattle.keys.proofs.Parts.{back_word}
use Rattle.keys.proofs.Copying.{SameTable, copied, same_back, same_satisfies, same_within, same_key}
use Rattle.keys.proofs.Deciding.{copy_whole, rest_fits, decides_refuted}
use Rattle.keys.proofs.Visible.{key_rest}

-- a table whose first words become a key's is the key, where this has the table's other words
pub key_placed : (key : List ℤ) (n : ℕ) (t v : List ℤ) → block_start n ≤ length t → length key ≡ length t → drop (block_start n) key ≡ drop (block_start n) t
    → SameTable n key v → change (block_start n) (copying v) t ≡ key
key_placed key n t v l size rest s =
    sym (change_is (block_start n) (copying v) t key size
    (λ k h g. sym (s.words k h) ∙ rw (lt-ltb k (length v) (omega (arith, s.theirs))))
    (λ k h g. let e : block_start n + (k - block_start n) ≡ k = omega arith in
    rw e at (back_word (block_start n) key (drop (block_start n) t) (sym rest) (k - block_start n)
    ∙ sym (back_word (block_start n) t (drop (block_start n) t) refl (k - block_start n)))))

module _ (n set m : ℕ) (t w u : List ℤ) (p : AllMet (key_needs_then n set t (length w) passed)) (d : m ≡ table_size n) (e : u ≡ change m (copying t) w) where
  whole : u ≡ change (block_start n) (copying t) w
  whole = copy_whole n m t w u p.0.most d e

  -- the sheet's copy
  same : SameTable n t u
  same = rw whole (copied n t w p.0.room p.1.0)

  within : BoundsWithin Sheet n set u
  within = same_within n (bound_limit Sheet n set) t u same p.1.1.0.1

  pub copy_fits : Fits n u
  copy_fits = sheet_fits n set u p.0.most same.theirs within

  fits : Fits n t
  fits = sheet_fits n set t p.0.most p.0.room p.1.1.0.1

  -- what is lent is the workspace that the copy was made in
  lent : (v : List ℤ) → Lent (block_start n) true u v → Lent (block_start n) true w v
  lent v l = record {
    size = l.size ∙ rw whole (change_length (block_start n) (copying t) w);
    rest = l.rest ∙ rw whole (change_drop (block_start n) (copying t) w);
    kept = λ c. clash refl c;
  }

  module _ (steps : (ℕ → Bool) → ℕ → List ℤ → List ℤ) (v : List ℤ) (l : Lent (block_start n) true u v) where
    -- no integers satisfy the copy
    pub tried_none : Unsatisfiable n u → KeyTried steps n set t w true t v
    tried_none x = record {
      reply = decides_refuted n t true fits (λ q σ s. x σ (same_satisfies n t u σ same s)) (λ q. clash refl q);
      words = refl;
      lent = lent v l;
    }

    -- or some do, and the table is the key
    pub tried_some : (t' : List ℤ) → Satisfiable n u → t' ≡ steps (hidden_in set) n t → KeyTried steps n set t w false t' v
    tried_some t' s o = record { reply = decides_refuted n t false fits (λ a. clash a refl) (λ a. some); words = o; lent = lent v l }
      where
        some : Satisfiable n t
        some = record { assignment = s.assignment; satisfies = same_satisfies n u t s.assignment (same_back n t u same) s.satisfies }

  module _ (v : List ℤ) (r : Bool) (h : SetHidden n set u r v) where
    -- a contradiction at a hidden quantity
    pub tried_early : (steps : (ℕ → Bool) → ℕ → List ℤ → List ℤ) → r ≡ true → KeyTried steps n set t w true t v
    tried_early steps c = tried_none steps v h.lent (h.none c)

    module _ (c : r ≡ false) where
      key : v ≡ key_of (hidden_in set) n u
      key = h.key c

      pub made_rest : RestFits n set v
      made_rest = rw key (key_rest n set u p.0.most same.theirs within)

      -- the copy's key is that of the table,
      pub made_same : SameTable n (key_of (hidden_in set) n t) v
      made_same = rw key (same_key (hidden_in set) n t u same)

      -- and has no assignment only where the copy has none
      pub made_none : Unsatisfiable n v → Unsatisfiable n u
      made_none x σ s = x σ (rw key ((key_exact (hidden_in set) n u σ (hide_ample (hidden_in set) n u copy_fits) s σ).1 (allows_own n (hidden_in set) u σ s)))

      -- or at a visible one
      pub tried_late : (x x' : List ℤ) → Decided n set v x true x' → KeyTried key_of n set t w true t v
      tried_late x x' q = tried_none key_of v h.lent (made_none (q.meaning.0 refl))

      -- and none
      pub tried_done : (x x' t' : List ℤ) → Decided n set v x false x' → t' ≡ change m (copying v) t → KeyTried key_of n set t w false t' v
      tried_done x x' t' q o =
          tried_some key_of v h.lent t' (h.some c left)
          (copy_whole n m v t t' p.0.most d o ∙ key_placed (key_of (hidden_in set) n t) n t v p.0.room (key_length (hidden_in set) n t) (rest_key (hidden_in set) n t) made_same)
        where
          left : Satisfiable n v
          left = let f = rest_fits n set v made_rest in refuted_false n v f.sums.room (hide_ample every n v f) (sym q.reply)
