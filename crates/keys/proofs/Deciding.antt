-- 'No assignment' as the program decides it is document 01's, and is given exactly when no integers satisfy the table. Assumes nothing.
use mathlib.Core.Path.{◌≡◌, refl, ◌∙◌}
use mathlib.Core.Bool.{Bool, true, false, cond, and-false}
use mathlib.Core.Logic.{◌↔◌}
use mathlib.Core.List.{List}
use Prim.Native.Nat.{ℕ, zero, suc, ◌≤◌, ◌<◌}
use native.Mathlib.Omega.{arith}
use lib.Dec.{eqb, leb}
use lib.IntN.{ℤ, pos}
use lib.ListN.{length}
use borrow.Author.Tests.{le-leb}
use Rattle.words.specs.Change.{change, copying}
use Rattle.words.proofs.Change.{change_length, change_drop}
use Rattle.places.specs.Numbering.{block_start, block_of}
use Rattle.places.proofs.Numbering.{block_below}
use Rattle.rules.specs.Hidden.{hidden_in}
use Rattle.rules.specs.Limits.{max_quantities}
use Rattle.rules.specs.Meaning.{Assignment, names}
use Rattle.tables.specs.Tables.{table_size}
use Rattle.tables.specs.Meaning.{HoldsRule, rule_in, Satisfies, Satisfiable, Unsatisfiable, joined}
use Rattle.tables.proofs.Tests.{clash}
use Rattle.tables.proofs.Places.{own_named}
use Rattle.tables.proofs.Sizes.{size_whole}
use Rattle.elimination.specs.Hiding.{every, contradicts, eliminated}
use Rattle.elimination.specs.Magnitude.{Unnamed}
use Rattle.elimination.proofs.Exact.{eliminate_exact}
use Rattle.keys.specs.declared.live.Part.TheVariants.{Outside}
use Rattle.keys.specs.Keys.{hide_up_to, key_of, refuted}
use Rattle.keys.specs.Inner.{outside, Fits, RestFits, AtTurns, SetEliminated, Decided}
use Rattle.keys.proofs.Several.{AmpleUpTo, hide_up_to_unnamed, refuted_true, refuted_false}
use Rattle.keys.proofs.Copying.{SameTable, copied, same_back, same_satisfies, same_part, same_turns}
use Rattle.keys.proofs.Fitting.{hide_unnamed, set_ample, hide_ample}

-- ---- members eliminated without a contradiction

-- none is met at the turns of the members among the first m
abbrev pub NoneMet : (ℕ → Bool) → ℕ → ℕ → List ℤ → Type 0
NoneMet members n m t = (j : ℕ) → j < m → members (suc j) ≡ true → contradicts every n j (hide_up_to members n j t) ≡ false

-- what satisfies the table with the members hidden is completed step by step
pub turns_some : (members : ℕ → Bool) (n m : ℕ) (t : List ℤ) (σ : Assignment) → m ≤ n → AmpleUpTo members n t → NoneMet members n n t
    → Satisfies n (hide_up_to members n m t) σ → Satisfiable n t
unfolding hide_up_to
turns_some members n zero t σ h a e s = record { assignment = σ; satisfies = s }
turns_some members n (suc j) t σ h a e s = go (λ τ. turns_some members n j t τ (omega arith) a e) (members (suc j)) refl s
  where
    before : List ℤ
    before = hide_up_to members n j t

    go : ((τ : Assignment) → Satisfies n before τ → Satisfiable n t) → (b : Bool) → members (suc j) ≡ b
        → Satisfies n (cond b (eliminated n j before) before) σ → Satisfiable n t
    go ih true d w =
        let c = (eliminate_exact n j 4611686018427387903 before σ (a j (omega arith)) (omega arith) (e j (omega arith) d)).0 w in
        ih (joined (eqb (suc j)) σ c.hiddens) c.complete
    go ih false d w = ih σ w

-- with all quantities outside a set hidden, and none in it named, no rule is left
pub rest_left : (n set : ℕ) (t : List ℤ) → RestFits n set t → (σ : Assignment) → Satisfies n (key_of (outside set) n t) σ
unfolding key_of
rest_left n set t f σ = record { each = λ k p. clash (named k p) (unnamed k p) }
  where
    u : List ℤ
    u = hide_up_to (outside set) n n t

    gone : (i : ℕ) → i < n → (b : Bool) → hidden_in set (suc i) ≡ b → Unnamed n i u
    gone i h true e = hide_unnamed (outside set) n n i t (omega arith) f.sums.room (f.alone i h (rw e (and-false (leb 0 i))))
    gone i h false e = hide_up_to_unnamed (outside set) n n i t (omega arith) f.sums.room (rw (le-leb (suc i) n h, e))

    named : (k : ℕ) → HoldsRule n u k → names (suc (block_of k)) (rule_in u k) ≡ true
    named k p = own_named (block_of k) k _ refl

    unnamed : (k : ℕ) → HoldsRule n u k → names (suc (block_of k)) (rule_in u k) ≡ false
    unnamed k p = (gone (block_of k) (block_below n k p.inside) (hidden_in set (suc (block_of k))) refl).each k p

-- so some integers satisfy the table
pub reduced_satisfiable : (n set : ℕ) (t u : List ℤ) → RestFits n set t → AtTurns (outside set) n n t u → Satisfiable n t
unfolding key_of
reduced_satisfiable n set t u f a = turns_some (outside set) n n t (λ q. pos 0) (omega arith) (set_ample (outside set) n t f.sums) a.clear (rest_left n set t f (λ q. pos 0))

-- ---- document 01's decision

-- where rules name no quantity of a set, sums fit whatever is eliminated
pub rest_fits : (n set : ℕ) (t : List ℤ) → RestFits n set t → Fits n t
rest_fits n set t f = record { members = outside set; sums = f.sums; rest = λ j h e. f.alone j h (rw e (and-false (leb 0 j))) }

-- a decision that is true only where no integers satisfy the table, and false only where some do, is document 01's
pub decides_refuted : (n : ℕ) (t : List ℤ) (b : Bool) → Fits n t → (b ≡ true → Unsatisfiable n t) → (b ≡ false → Satisfiable n t) → b ≡ refuted n t
decides_refuted n t b f none some = go b refl (refuted n t) refl
  where
    go : (a : Bool) → b ≡ a → (c : Bool) → refuted n t ≡ c → a ≡ c
    go true d true e = refl
    go true d false e = let s = refuted_false n t f.sums.room (hide_ample every n t f) e in absurd (none d s.assignment s.satisfies)
    go false d true e = let s = some d in absurd (refuted_true n t (hide_ample every n t f) e s.assignment s.satisfies)
    go false d false e = refl

-- it is true exactly when no integers satisfy the table
pub refuted_exactly : (n : ℕ) (t : List ℤ) → Fits n t → (refuted n t ≡ true) ↔ Unsatisfiable n t
refuted_exactly n t f = (refuted_true n t (hide_ample every n t f), λ u. go u (refuted n t) refl)
  where
    go : Unsatisfiable n t → (b : Bool) → refuted n t ≡ b → b ≡ true
    go u true e = refl
    go u false e =
        let s = refuted_false n t f.sums.room (hide_ample every n t f) e in absurd (u s.assignment s.satisfies)

-- ---- in the workspace

pub copy_whole : (n m : ℕ) (t w u : List ℤ) → n ≤ max_quantities → m ≡ table_size n → u ≡ change m (copying t) w → u ≡ change (block_start n) (copying t) w
copy_whole n m t w u h d e = let p : m ≡ block_start n = d ∙ size_whole n h in rw p at e

module _ (n m set : ℕ) (t w u : List ℤ) (f : RestFits n set t) (l : block_start n ≤ length w) (d : m ≡ table_size n) (e : u ≡ change m (copying t) w) where
  whole : u ≡ change (block_start n) (copying t) w
  whole = copy_whole n m t w u f.sums.most d e

  same : SameTable n t u
  same = rw whole (copied n t w f.sums.room l)

  -- a copy fits as the table does,
  pub copy_fits : RestFits n set u
  copy_fits = same_part n set Outside t u same f

  -- and with all quantities eliminated decides it
  pub copy_decides : (w' : List ℤ) (r : Bool) → SetEliminated (outside set) n u r w' → Decided n set t w r w'
  copy_decides w' r p = record {
    reply = reply;
    meaning = rw reply (refuted_exactly n t (rest_fits n set t f));
    reduced = λ h. same_turns (outside set) n t u w' same (p.some h);
    lent = record {
      size = p.lent.size ∙ rw whole (change_length (block_start n) (copying t) w);
      rest = p.lent.rest ∙ rw whole (change_drop (block_start n) (copying t) w);
      kept = λ h. clash refl h;
    };
  }
    where
      reply : r ≡ refuted n t
      reply =
          decides_refuted n t r (rest_fits n set t f)
          (λ q σ s. p.none q σ (same_satisfies n t u σ same s))
          (λ q. let s = reduced_satisfiable n set u w' copy_fits (p.some q) in
          record { assignment = s.assignment; satisfies = same_satisfies n u t s.assignment (same_back n t u same) s.satisfies })
