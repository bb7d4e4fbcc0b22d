-- The tight key made in a copy of the sheet: the copy's hidden quantities hidden, then its visible ones paired and strengthened. And the contract of the call, from plain facts. Assumes nothing.
use mathlib.Core.Path.{◌≡◌, refl, sym, ◌∙◌, ap}
use mathlib.Core.Bool.{Bool, true, false, not}
use mathlib.Core.List.{List}
use Prim.Native.Nat.{ℕ, ◌≤◌}
use native.Mathlib.Omega.{arith}
use lib.IntN.{ℤ}
use lib.ListN.{length, take}
use Rattle.std.specs.Prelude.{Ok}
use Rattle.words.specs.Change.{change, copying}
use Rattle.words.specs.Lent.{Lent}
use Rattle.places.specs.Numbering.{block_start}
use Rattle.rules.specs.declared.paper.Paper.TheVariants.{Sheet}
use Rattle.rules.specs.Hidden.{hidden_in}
use Rattle.rules.specs.Limits.{max_quantities}
use Rattle.rules.specs.Refusing.{passed, AllMet}
use Rattle.tables.specs.Replies.{Reply}
use Rattle.tables.specs.Tables.{table_size}
use Rattle.tables.specs.Meaning.{TableSized, Satisfies, Satisfiable, BoundsWithin, NoneAbove}
use Rattle.tables.proofs.Tests.{clash}
use Rattle.elimination.specs.Hiding.{every}
use Rattle.keys.specs.declared.live.Part.TheVariants.{Outside}
use Rattle.keys.specs.Keys.{key_of, refuted}
use Rattle.keys.specs.Meaning.{key_needs_then}
use Rattle.keys.specs.Inner.{Fits, RestFits, LiveListed, LiveAlone, SetHidden, KeyTried}
use Rattle.keys.specs.Promises.{KeyedAs}
use Rattle.keys.proofs.Several.{refuted_false, key_length}
use Rattle.keys.proofs.Fitting.{hide_ample, sheet_fits}
use Rattle.keys.proofs.Copying.{SameTable, same_front, front_same}
use Rattle.keys.proofs.Checking.{decided_none, decided_some}
use Rattle.keys.proofs.Deciding.{copy_whole, rest_fits}
use Rattle.keys.proofs.Making.{key_placed, tried_none, tried_some, tried_early, made_rest, made_same, made_none}
use Rattle.keys.proofs.Promised.{key_done}
use Rattle.tightening.specs.Tightening.{tightened, tight_key_of}
use Rattle.tightening.specs.Meaning.{TightKey}
use Rattle.tightening.specs.Promises.{Tightened, TightTried, TightKeyMade, TightKeyed}
use Rattle.tightening.proofs.Holding.{key_words, tightened_words}
use Rattle.tightening.proofs.Tight.{same_tight, tight_only, tight_meaning, tight_same}
use Rattle.tightening.proofs.TightSteps.{tight_length, tight_rest, same_tightened, tight-key}
use Rattle.tightening.proofs.Again.{tight_stays}

-- the rules of a table name the listed visible quantities alone
rest_alone : (n set count : ℕ) (out : List ℕ) (t : List ℤ) → LiveListed n set Outside 0 count out → RestFits n set t → LiveAlone n (take count out) t
rest_alone n set count out t l f = record { listed = l.listed; rest = λ i h e. f.alone i h (sym (l.each i h) ∙ e) }

-- where no word of a table is above the no-rule word, none is in its tight key, which is one by the definition
pub tight_made : (n set : ℕ) (t : List ℤ) → n ≤ max_quantities → block_start n ≤ length t → BoundsWithin Sheet n set t → NoneAbove (block_start n) t → Satisfiable n t
    → TightKeyMade n set t (tight_key_of (hidden_in set) n t)
unfolding tight_key_of
tight_made n set t most room within held s = record {
  tight = tight;
  meaning = tight_meaning hidden n t key tight fits s;
  same = λ v w a x. tight_same hidden n t key v w tight x fits (sheet_fits n set v a.sized.most a.sized.room a.within.1) s a.some;
}
  where
    hidden : ℕ → Bool
    hidden = hidden_in set

    key : List ℤ
    key = tight_key_of (hidden_in set) n t

    fits : Fits n t
    fits = sheet_fits n set t most room within

    tight : TightKey (hidden_in set) n (Satisfies n t) (tight_key_of (hidden_in set) n t)
    tight = tight-key n set t most room within s (tightened_words n (key_of (hidden_in set) n t) (omega (arith, key_length (hidden_in set) n t)) (key_words (hidden_in set) n t room held))

-- the sheet's decision, and what stands in the workspace then
module _ (n set : ℕ) (t w x : List ℤ) (p : AllMet (key_needs_then n set t (length w) passed)) where
  tried_as : (r : Bool) → r ≡ refuted n t → (r ≡ false → take (block_start n) x ≡ take (block_start n) (tight_key_of (hidden_in set) n t)) → Lent (block_start n) true w x
      → TightTried n set t w r x
  tried_as r e f l = record { reply = e; none = rw e (decided_none n set t p.0 p.1.1.0.1); tight = f; made = λ c a. is_tight r e f c a; lent = l }
    where
      is_tight : (r : Bool) → r ≡ refuted n t → (r ≡ false → take (block_start n) x ≡ take (block_start n) (tight_key_of (hidden_in set) n t)) → r ≡ false → NoneAbove (block_start n) t
          → TightKey (hidden_in set) n (Satisfies n t) x
      is_tight r e f c a =
          let some = (decided_some n set t p.0 p.1.1.0.1).0 (ap not (sym e ∙ c)) in
          let same = front_same n (tight_key_of (hidden_in set) n t) x (omega (arith, p.0.room, tight_length (hidden_in set) n t)) (f c) in
          same_tight (hidden_in set) n (Satisfies n t) (tight_key_of (hidden_in set) n t) x same (tight_made n set t p.0.most p.0.room p.1.1.0.1 a some).tight

module _ (n set m : ℕ) (t w u : List ℤ) (p : AllMet (key_needs_then n set t (length w) passed)) (d : m ≡ table_size n) (e : u ≡ change m (copying t) w)
    (v : List ℤ) (r : Bool) (h : SetHidden n set u r v) (c : r ≡ false) where
  rest : RestFits n set v
  rest = made_rest n set m t w u p d e v r h c

  -- the copy's key can be tightened
  pub tight_ready : (count : ℕ) (out : List ℕ) → LiveListed n set Outside 0 count out → Fits n v × LiveAlone n (take count out) v
  tight_ready count out l = (rest_fits n set v rest, rest_alone n set count out v l rest)

  module _ (x : List ℤ) where
    lent : Lent (block_start n) true v x → Lent (block_start n) true u x
    lent l = record { size = l.size ∙ h.lent.size; rest = l.rest ∙ h.lent.rest; kept = λ z. clash refl z }

    -- a contradiction at a visible quantity
    tight_none : Tightened n v true x → TightTried n set t w true x
    tight_none q =
        let k = tried_none n set m t w u p d e tight_key_of x (lent q.lent) (made_none n set m t w u p d e v r h c (q.none.0 refl)) in
        tried_as n set t w x p true k.reply (λ z. clash refl z) k.lent

    -- and none
    tight_done : Tightened n v false x → TightTried n set t w false x
    unfolding tight_key_of
    tight_done q =
        let k = tried_some n set m t w u p d e tight_key_of x (lent q.lent) (tight_key_of (hidden_in set) n t) (h.some c left) refl in
        tried_as n set t w x p false k.reply (λ z. same_front n (tight_key_of (hidden_in set) n t) x same) k.lent
      where
        left : Satisfiable n v
        left = let f = rest_fits n set v rest in refuted_false n v f.sums.room (hide_ample every n v f) (sym q.reply)

        same : SameTable n (tightened n (key_of (hidden_in set) n t)) x
        same = rw (q.table refl) (same_tightened n (key_of (hidden_in set) n t) v (made_same n set m t w u p d e v r h c))

    pub tight_tried : (b : Bool) → Tightened n v b x → TightTried n set t w b x
    tight_tried true q = tight_none q
    tight_tried false q = tight_done q

-- a contradiction while hidden quantities are hidden
pub tight_early : (n set m : ℕ) (t w u : List ℤ) → AllMet (key_needs_then n set t (length w) passed) → m ≡ table_size n → u ≡ change m (copying t) w
    → (v : List ℤ) (r : Bool) → SetHidden n set u r v → r ≡ true → TightTried n set t w true v
tight_early n set m t w u p d e v r h c =
    let k = tried_early n set m t w u p d e v r h tight_key_of c in
    tried_as n set t w v p true k.reply (λ z. clash refl z) k.lent

-- ---- the table

module _ (n set : ℕ) (t w x : List ℤ) where
  -- it stays where no integers satisfy the sheet
  pub tight_stops : TightTried n set t w true x → KeyTried tight_key_of n set t w true t x
  tight_stops d = record { reply = d.reply; words = refl; lent = d.lent }

  -- or becomes the tight key
  pub tight_copied : (m : ℕ) (t' : List ℤ) → TableSized n (length t) → m ≡ table_size n → t' ≡ change m (copying x) t → TightTried n set t w false x
      → KeyTried tight_key_of n set t w false t' x
  tight_copied m t' s d o k = record {
    reply = k.reply;
    words =
        copy_whole n m x t t' s.most d o
        ∙ key_placed (tight_key_of (hidden_in set) n t) n t x s.room (tight_length (hidden_in set) n t) (tight_rest (hidden_in set) n t)
        (front_same n (tight_key_of (hidden_in set) n t) x (omega (arith, s.room, tight_length (hidden_in set) n t)) (k.tight refl));
    lent = k.lent;
  }

-- ---- the contract

-- with what holds of every tight table beside it
pub tight_keyed : {n set : ℕ} {t w : List ℤ} {r : Reply} {t' w' : List ℤ} → KeyedAs tight_key_of TightKeyMade n set t w r t' w' → TightKeyed n set t w r t' w'
tight_keyed {n} {set} k = record {
  keyed = k;
  only = λ sheet tight other x y. tight_only (hidden_in set) n (Satisfies n sheet) tight other x y;
  again = λ sheet tight x. tight_stays (hidden_in set) n (Satisfies n sheet) tight x;
}

-- made, where the checks are passed
pub tight_finished : (n set : ℕ) (t w t' w' : List ℤ) → AllMet (key_needs_then n set t (length w) passed) → NoneAbove (block_start n) t → KeyTried tight_key_of n set t w false t' w'
    → TightKeyed n set t w (Ok tt) t' w'
tight_finished n set t w t' w' p held d =
    tight_keyed
    (key_done tight_key_of TightKeyMade n set t w w' t' p (tight_rest (hidden_in set) n t) (tight_made n set t p.0.most p.0.room p.1.1.0.1 held) d)
