-- The records of the two calls' contracts, from plain facts. Assumes nothing.
use mathlib.Core.Path.{◌≡◌, refl, sym, ◌∙◌}
use mathlib.Core.Bool.{Bool, true, false, not}
use mathlib.Core.Logic.{◌↔◌}
use mathlib.Core.List.{List}
use Prim.Native.Nat.{ℕ, ◌≤◌}
use native.Mathlib.Omega.{arith}
use lib.IntN.{ℤ}
use lib.ListN.{length, drop}
use Rattle.std.specs.Prelude.{Ok, Err}
use Rattle.words.specs.Lent.{Lent}
use Rattle.places.specs.Numbering.{block_start}
use borrow.Author.Tests.{le-leb}
use Rattle.rules.specs.declared.paper.Paper.TheVariants.{Sheet}
use Rattle.rules.specs.declared.refusal.Refusal.{Refusal}
use Rattle.rules.specs.declared.refusal.Refusal.TheVariants.{NoAssignment}
use Rattle.rules.specs.Limits.{bound_limit}
use Rattle.rules.specs.Refusing.{passed, AllMet}
use Rattle.rules.proofs.Refusals.{refusal-number}
use Rattle.rules.specs.Hidden.{hidden_in}
use Rattle.tables.specs.Meaning.{Satisfiable, Unsatisfiable, BoundsWithin}
use Rattle.tables.proofs.Sizes.{serves_sized}
use Rattle.tables.proofs.Refusing.{tied_decided}
use Rattle.keys.specs.Meaning.{key_needs_then, assignment_needs_then}
use Rattle.tables.specs.Replies.{Reply, reply_number, check}
use Rattle.elimination.specs.Hiding.{every}
use Rattle.keys.specs.Keys.{key_of, refuted, lent_checks, key_checks, key_reply, assignment_reply, frees_workspace}
use Rattle.keys.specs.Inner.{Fits, RestFits, Decided, Reduced, Filled, KeyTried}
use Rattle.keys.specs.Promises.{KeyMade, KeyedAs, Keyed, AssignmentFound, Assigned}
use Rattle.keys.proofs.Several.{rest_key, key_exact, key_visible, refuted_false}
use Rattle.keys.proofs.Fitting.{hide_ample, key_within, script_limit, whole_fits}
use Rattle.keys.proofs.Filling.{filled_range}
use Rattle.keys.proofs.Deciding.{refuted_exactly}
use Rattle.keys.proofs.Checking.{bounds, checked_fits, key_tied, assignment_tied}
use Rattle.keys.proofs.InTurn.{key_turns}

-- a slice that no one touched
pub untouched : (m : ℕ) (free : Bool) (w : List ℤ) → Lent m free w w
untouched m free w = record { size = refl; rest = refl; kept = λ e. refl }

not_done : (r : Reply) (f : Refusal) → r ≡ Err f → reply_number r ≡ 0 → ⊥
not_done r f d e = refusal-number f (rw d at e)

-- past the checks before it, 5 exactly when no integers satisfy
five_none : (n : ℕ) (t : List ℤ) (r : Reply) → r ≡ check (not (refuted n t)) NoAssignment (Ok tt) → (refuted n t ≡ true) ↔ Unsatisfiable n t
    → (reply_number r ≡ 5) ↔ Unsatisfiable n t
five_none n t r e d = (go (refuted n t) refl, λ u. rw (e, d.1 u))
  where
    go : (b : Bool) → refuted n t ≡ b → reply_number r ≡ 5 → Unsatisfiable n t
    go true c z = d.0 c
    go false c z = let y : reply_number r ≡ 0 = rw (e, c) in let x : ⊥ = omega (arith, y, z) in absurd x

-- ---- the key call

-- its reply past the checks before 5
pub key_late : (n set : ℕ) (t : List ℤ) (w : ℕ) → AllMet (key_needs_then n set t w passed) → key_reply n set t w ≡ check (not (refuted n t)) NoAssignment (Ok tt)
unfolding key_reply key_checks lent_checks
key_late n set t w (s, (l, (m, u))) = rw ((serves_sized n (length t)).1 s, le-leb (block_start n) w l, m.0, (bounds Sheet n set t).1 m.1)

-- and then sums fit
pub key_fits : (n set : ℕ) (t : List ℤ) (w : ℕ) → AllMet (key_needs_then n set t w passed) → Fits n t
key_fits n set t w (s, (l, (m, u))) = checked_fits n set t s m.1

pub key_none : (n set : ℕ) (t : List ℤ) (w : ℕ) (r : Reply) → r ≡ key_reply n set t w → AllMet (key_needs_then n set t w passed)
    → (reply_number r ≡ 5) ↔ Unsatisfiable n t
key_none n set t w r e p = five_none n t r (e ∙ key_late n set t w p) (refuted_exactly n t (key_fits n set t w p))

-- the reply by the decision
key_decided : (n set : ℕ) (t : List ℤ) (w : ℕ) (b : Bool) → AllMet (key_needs_then n set t w passed) → b ≡ refuted n t → check (not b) NoAssignment (Ok tt) ≡ key_reply n set t w
key_decided n set t w b p d = sym (key_late n set t w p ∙ rw (← d))

-- whatever kind of key is made
module _ (steps : (ℕ → Bool) → ℕ → List ℤ → List ℤ) (Made : ℕ → ℕ → List ℤ → List ℤ → Type 0) (n set : ℕ) (t w w' : List ℤ) where
  -- refused, with the table as it was
  pub key_refused : (r : Reply) (f : Refusal) → r ≡ key_reply n set t (length w) → r ≡ Err f → Lent (block_start n) (frees_workspace r) w w'
      → KeyedAs steps Made n set t w r t w'
  key_refused r f e d l = record {
    reply = e;
    decided = tied_decided _ r _ e (key_tied n set t (length w));
    none = key_none n set t (length w) r e;
    words = rw d;
    rest = refl;
    lent = l;
    made = λ c. absurd (not_done r f d c);
  }

  module _ (t' : List ℤ) (p : AllMet (key_needs_then n set t (length w) passed)) where
    pub key_five : KeyTried steps n set t w true t' w' → KeyedAs steps Made n set t w (Err NoAssignment) t' w'
    key_five d = rw d.words (key_refused (Err NoAssignment) NoAssignment (key_decided n set t (length w) true p d.reply) refl d.lent)

    -- made, where some integers satisfy the table: words past it stay, and it is what a key of this kind is
    pub key_done : drop (block_start n) (steps (hidden_in set) n t) ≡ drop (block_start n) t → (Satisfiable n t → Made n set t (steps (hidden_in set) n t))
        → KeyTried steps n set t w false t' w' → KeyedAs steps Made n set t w (Ok tt) t' w'
    key_done rest made d =
        let f = key_fits n set t (length w) p in
        let s = refuted_false n t f.sums.room (hide_ample every n t f) (sym d.reply) in
        let e = key_decided n set t (length w) false p d.reply in
        record {
          reply = e;
          decided = tied_decided _ (Ok tt) _ e (key_tied n set t (length w));
          none = key_none n set t (length w) (Ok tt) e;
          words = d.words;
          rest = rw d.words rest;
          lent = d.lent;
          made = λ c. rw d.words (made s);
        }

-- what the key of a table that some integers satisfy is
pub key_made : (n set : ℕ) (t : List ℤ) → Fits n t → BoundsWithin Sheet n set t → Satisfiable n t → KeyMade n set t (key_of (hidden_in set) n t)
key_made n set t f b s = record {
  meaning = λ σ. key_exact (hidden_in set) n t s.assignment (hide_ample (hidden_in set) n t f) s.satisfies σ;
  some = s;
  steps = key_turns (hidden_in set) n t s.assignment f.sums.room (hide_ample (hidden_in set) n t f) s.satisfies;
  like = record {
    visible = key_visible (hidden_in set) n t f.sums.room;
    within = rw (script_limit n set) at (key_within (hidden_in set) n (bound_limit Sheet n set) t f.sums.room b);
  };
}

-- the key call's own
pub plain_done : (n set : ℕ) (t w t' w' : List ℤ) → AllMet (key_needs_then n set t (length w) passed) → KeyTried key_of n set t w false t' w' → Keyed n set t w (Ok tt) t' w'
plain_done n set t w t' w' p =
    key_done key_of KeyMade n set t w w' t' p (rest_key (hidden_in set) n t) (key_made n set t (key_fits n set t (length w) p) p.1.1.0.1)

-- ---- the assignment call

assignment_late : (n : ℕ) (t : List ℤ) (w v : ℕ) → AllMet (assignment_needs_then n t w v passed)
    → assignment_reply n t w v ≡ check (not (refuted n t)) NoAssignment (Ok tt)
unfolding assignment_reply lent_checks
assignment_late n t w v (s, (l, (k, (b, u)))) = rw ((serves_sized n (length t)).1 s, le-leb (block_start n) w l, le-leb n v k, (bounds Sheet n 0 t).1 b)

pub assignment_fits : (n : ℕ) (t : List ℤ) (w v : ℕ) → AllMet (assignment_needs_then n t w v passed) → Fits n t
assignment_fits n t w v (s, (l, (k, (b, u)))) = checked_fits n 0 t s b

pub assignment_rest : (n : ℕ) (t : List ℤ) (w v : ℕ) → AllMet (assignment_needs_then n t w v passed) → RestFits n 0 t
assignment_rest n t w v (s, (l, (k, (b, u)))) = whole_fits n 0 t s.most s.room b

assignment_none : (n : ℕ) (t : List ℤ) (w v : ℕ) (r : Reply) → r ≡ assignment_reply n t w v → AllMet (assignment_needs_then n t w v passed)
    → (reply_number r ≡ 5) ↔ Unsatisfiable n t
assignment_none n t w v r e p = five_none n t r (e ∙ assignment_late n t w v p) (refuted_exactly n t (assignment_fits n t w v p))

-- refused, with the assignment's words as they were
pub assignment_refused : (n : ℕ) (t w v w' : List ℤ) (r : Reply) (f : Refusal) → r ≡ assignment_reply n t (length w) (length v) → r ≡ Err f
    → Lent (block_start n) (frees_workspace r) w w' → Assigned n t w v r w' v
assignment_refused n t w v w' r f e d l = record {
  reply = e;
  decided = tied_decided _ r _ e (assignment_tied n t (length w) (length v));
  none = assignment_none n t (length w) (length v) r e;
  lent = l;
  written = untouched n _ v;
  found = λ c. absurd (not_done r f d c);
}

assignment_decided : (n : ℕ) (t w v w' : List ℤ) (b : Bool)
    → AllMet (assignment_needs_then n t (length w) (length v) passed) → Decided n 0 t w b w'
    → check (not b) NoAssignment (Ok tt) ≡ assignment_reply n t (length w) (length v)
assignment_decided n t w v w' b p d = sym (assignment_late n t (length w) (length v) p ∙ rw (← d.reply))

pub assignment_five : (n : ℕ) (t w v w' : List ℤ)
    → AllMet (assignment_needs_then n t (length w) (length v) passed) → Decided n 0 t w true w'
    → Assigned n t w v (Err NoAssignment) w' v
assignment_five n t w v w' p d =
    assignment_refused n t w v w' (Err NoAssignment) NoAssignment (assignment_decided n t w v w' true p d) refl d.lent

-- the table that the values are read from
pub decided_reduced : (n set : ℕ) (t w w' : List ℤ) → RestFits n set t → block_start n ≤ length w → Decided n set t w false w' → Reduced n set t w'
decided_reduced n set t w w' f l d = record { fits = f; at = d.reduced refl; room = omega (arith, d.lent.size) }

-- the values read back from it, where some integers satisfy the table
pub record ValuesFound (n : ℕ) (t v v' : List ℤ) : Type 0 where
  pub written : Lent n true v v'
  pub found : AssignmentFound n t v'

pub values_found : (n set : ℕ) (t w v w' v' : List ℤ) → RestFits n set t → block_start n ≤ length w → Decided n set t w false w' → Filled n set w' v v' → ValuesFound n t v v'
values_found n set t w v w' v' f l d k =
    let r = decided_reduced n set t w w' f l d in
    record { written = k.lent; found = record { meaning = k.meaning t r; range = λ i h. filled_range n set t w' v v' r k i h } }

pub assignment_done : (n : ℕ) (t w v w' v' : List ℤ)
    → AllMet (assignment_needs_then n t (length w) (length v) passed) → Decided n 0 t w false w' → Filled n 0 w' v v' → Assigned n t w v (Ok tt) w' v'
assignment_done n t w v w' v' p d k =
    let e = assignment_decided n t w v w' false p d in
    let a = values_found n 0 t w v w' v' (assignment_rest n t (length w) (length v) p) p.1.0 d k in
    record {
      reply = e;
      decided = tied_decided _ (Ok tt) _ e (assignment_tied n t (length w) (length v));
      none = assignment_none n t (length w) (length v) (Ok tt) e;
      lent = d.lent;
      written = a.written;
      found = λ c. a.found;
    }
