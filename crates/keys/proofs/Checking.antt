-- The two calls' checks: which refusal stands at each, what it tells that they pass, and that they are document 01's. Assumes nothing.
use mathlib.Core.Path.{◌≡◌, refl, sym, ◌∙◌}
use mathlib.Core.Bool.{Bool, true, false, not, ◌&&◌, and-false}
use mathlib.Core.List.{List}
use mathlib.Core.Logic.{◌↔◌}
use Prim.Native.Nat.{ℕ, ◌≤◌, ◌<◌}
use native.Mathlib.Omega.{arith}
use lib.Dec.{leb}
use lib.IntN.{ℤ, pos}
use lib.ListN.{length}
use borrow.Author.Tests.{leb-true, le-leb, lt-leb}
use Rattle.std.specs.Prelude.{Ok, Err}
use Rattle.places.specs.Numbering.{block_start}
use Rattle.rules.specs.declared.paper.Paper.{Paper}
use Rattle.rules.specs.declared.paper.Paper.TheVariants.{Sheet}
use Rattle.rules.specs.declared.refusal.Refusal.{Refusal}
use Rattle.rules.specs.declared.refusal.Refusal.TheVariants.{Size, OutOfLimit, NoAssignment, TooShort}
use Rattle.rules.specs.Hidden.{set_within}
use Rattle.rules.specs.Limits.{bound_limit}
use Rattle.rules.specs.Refusing.{Needs, passed, ◌or◌then◌}
use Rattle.tables.specs.Tables.{table_size, serves}
use Rattle.tables.specs.Meaning.{TableSized, Satisfiable, Unsatisfiable, BoundsWithin, NoneAbove}
use Rattle.tables.specs.Promises.{InLimit}
use Rattle.tables.proofs.Tests.{both_true, refused_done, clash}
use Rattle.tables.proofs.Limits.{words_in_limit_within}
use Rattle.tables.proofs.Sizes.{serves_sized, serves_tells, size_known}
use Rattle.tables.proofs.Refusing.{Tied, tied_done, tied_more, Before, before_none, before_more}
use Rattle.tables.specs.Replies.{Reply, check}
use Rattle.elimination.specs.Hiding.{every}
use Rattle.keys.specs.Keys.{refuted, bounds_in_limit, lent_checks, key_checks, key_reply, assignment_reply}
use Rattle.keys.specs.Inner.{Fits, KeyChecked, AssignmentChecked}
use Rattle.keys.specs.Meaning.{NumbersWithin, key_needs_then, key_needs, assignment_needs}
use Rattle.keys.proofs.Several.{refuted_false}
use Rattle.keys.proofs.Fitting.{sheet_fits, hide_ample}
use Rattle.keys.proofs.Deciding.{refuted_exactly}

-- ---- the tests, and what they mean

pub length_test : (a b : ℕ) → (leb a b ≡ true) ↔ (a ≤ b)
length_test a b = (leb-true a b, le-leb a b)

pub bounds : (paper : Paper) (n set : ℕ) (t : List ℤ) → (bounds_in_limit paper n set t ≡ true) ↔ BoundsWithin paper n set t
bounds paper n set t = words_in_limit_within (block_start n) (pos (bound_limit paper n set)) t

numbers : (n set : ℕ) (t : List ℤ) → ((set_within n set && bounds_in_limit Sheet n set t) ≡ true) ↔ NumbersWithin n set t
numbers n set t = (
  λ e. let p = both_true (set_within n set) (bounds_in_limit Sheet n set t) e in (p.0, (bounds Sheet n set t).0 p.1),
  λ p. rw (p.0, (bounds Sheet n set t).1 p.1),
)

-- the test of a table's first words is that of its bounds
pub bounds_test : (paper : Paper) (n set m : ℕ) (limit : ℤ) (t : List ℤ) (r : Bool) → m ≡ block_start n → limit ≡ pos (bound_limit paper n set)
    → InLimit m limit t r → bounds_in_limit paper n set t ≡ r
bounds_test paper n set m limit t r s l i = sym (rw (s, l) at i.reply)

-- 'no assignment' is decided
module _ (n set : ℕ) (t : List ℤ) (s : TableSized n (length t)) (b : BoundsWithin Sheet n set t) where
  pub checked_fits : Fits n t
  checked_fits = sheet_fits n set t s.most s.room b

  pub decided_none : (refuted n t ≡ true) ↔ Unsatisfiable n t
  decided_none = refuted_exactly n t checked_fits

  pub decided_some : (not (refuted n t) ≡ true) ↔ Satisfiable n t
  decided_some = (go (refuted n t) refl, λ x. back x (refuted n t) refl)
    where
      go : (d : Bool) → refuted n t ≡ d → not d ≡ true → Satisfiable n t
      go true e c = clash refl (sym c)
      go false e c = refuted_false n t s.room (hide_ample every n t checked_fits) e

      back : Satisfiable n t → (d : Bool) → refuted n t ≡ d → not d ≡ true
      back x true e = absurd (decided_none.0 e x.assignment x.satisfies)
      back x false e = refl

-- ---- a table and a workspace

module _ (n words w : ℕ) where
  pub lent_size : serves n words ≡ false → Err Size ≡ lent_checks n words w (Ok tt)
  unfolding lent_checks
  lent_size e = rw e

  module _ (m : ℕ) (e : serves n words ≡ true) (d : m ≡ table_size n) where
    size : m ≡ block_start n
    size = d ∙ (serves_tells n words e).size

    pub lent_short : w < m → Err (TooShort m) ≡ lent_checks n words w (Ok tt)
    unfolding lent_checks
    lent_short h = rw (e, lt-leb (block_start n) w (omega (arith, size)), size)

    pub lent_done : m ≤ w → (Ok tt) ≡ lent_checks n words w (Ok tt)
    unfolding lent_checks
    lent_done h = rw (e, le-leb (block_start n) w (omega (arith, size)))

  -- the same checks before others, and what it tells that they pass
  lent_before : Before (lent_checks n words w)
  unfolding lent_checks
  lent_before =
      before_more (serves n words) Size (λ next. check (leb (block_start n) w) (TooShort (block_start n)) next)
      (before_more (leb (block_start n) w) (TooShort (block_start n)) (λ next. next) before_none)

  lent_tied : (rest : Needs) (next : Reply) → (TableSized n words → Tied rest next)
      → Tied (TableSized n words or Size then (block_start n ≤ w) or TooShort (block_start n) then rest) (lent_checks n words w next)
  unfolding lent_checks
  lent_tied rest next t = tied_more _ _ _ _ _ (serves_sized n words) (λ s. tied_more _ _ _ _ _ (length_test (block_start n) w) (λ l. t s))

  lent_tells : lent_checks n words w (Ok tt) ≡ Ok tt → TableSized n words × (block_start n ≤ w)
  lent_tells e = go ((lent_tied passed (Ok tt) (λ s. tied_done)).accepted.0 e)
    where
      go : TableSized n words × ((block_start n ≤ w) × Unit {0}) → TableSized n words × (block_start n ≤ w)
      go (s, (l, u)) = (s, l)

-- the size that is asked for is that of a table that serves
pub lent_limit : (paper : Paper) (n set w m : ℕ) (limit : ℤ) (t : List ℤ) (r : Bool) → lent_checks n (length t) w (Ok tt) ≡ Ok tt → m ≡ table_size n
    → limit ≡ pos (bound_limit paper n set) → InLimit m limit t r → bounds_in_limit paper n set t ≡ r
lent_limit paper n set w m limit t r e d l i = bounds_test paper n set m limit t r (size_known n m (lent_tells n (length t) w e).0.most d) l i

-- and where its words are in the limit, none is above the no-rule word
pub lent_held : (n w m : ℕ) (limit : ℤ) (t : List ℤ) (r : Bool) → lent_checks n (length t) w (Ok tt) ≡ Ok tt → m ≡ table_size n → InLimit m limit t r → r ≡ true → NoneAbove (block_start n) t
lent_held n w m limit t r e d i c = rw (size_known n m (lent_tells n (length t) w e).0.most d) at (i.words c)

-- ---- the calls are refused by the first need that is not met

-- the key call's checks before any others,
pub checks_tied : (n set : ℕ) (t : List ℤ) (w : ℕ) (rest : Needs) (next : Reply) → (TableSized n (length t) → BoundsWithin Sheet n set t → Tied rest next)
    → Tied (key_needs_then n set t w rest) (key_checks n set t w next)
unfolding key_checks
checks_tied n set t w rest next more = lent_tied n (length t) w _ _ (λ s. tied_more _ _ _ _ _ (numbers n set t) (λ m. more s m.1))

-- and before 5
pub key_tied : (n set : ℕ) (t : List ℤ) (w : ℕ) → Tied (key_needs n set t w) (key_reply n set t w)
unfolding key_reply
key_tied n set t w = checks_tied n set t w _ _ (λ s b. tied_more _ _ _ _ _ (decided_some n set t s b) (λ x. tied_done))

pub assignment_tied : (n : ℕ) (t : List ℤ) (w v : ℕ) → Tied (assignment_needs n t w v) (assignment_reply n t w v)
unfolding assignment_reply
assignment_tied n t w v =
    lent_tied n (length t) w _ _ (λ s.
    tied_more _ _ _ _ _ (length_test n v) (λ k.
    tied_more _ _ _ _ _ (bounds Sheet n 0 t) (λ b.
    tied_more _ _ _ _ _ (decided_some n 0 t s b) (λ x. tied_done))))

-- ---- at each check of the key call

-- a refusal
key_stops : (n set : ℕ) (t : List ℤ) (w : ℕ) (f : Refusal) → Err f ≡ key_checks n set t w (Ok tt) → KeyChecked n set t w (Err f)
key_stops n set t w f e = record { reply = e; passes = λ d. absurd (refused_done d); words = λ d. absurd (refused_done d) }

module _ (n set : ℕ) (t : List ℤ) (w : ℕ) where
  -- stands whatever follows the checks
  pub checks_before : Before (key_checks n set t w)
  unfolding key_checks lent_checks
  checks_before =
      before_more (serves n (length t)) Size (λ next. check (leb (block_start n) w) (TooShort (block_start n)) (numbers_checked next))
      (before_more (leb (block_start n) w) (TooShort (block_start n)) numbers_checked
      (before_more (set_within n set && bounds_in_limit Sheet n set t) (OutOfLimit 0) (λ next. next) before_none))
    where
      numbers_checked : Reply → Reply
      numbers_checked next = check (set_within n set && bounds_in_limit Sheet n set t) (OutOfLimit 0) next

  -- and so is the call's reply
  pub key_stands : (r : Reply) (f : Refusal) → r ≡ key_checks n set t w (Ok tt) → r ≡ Err f → r ≡ key_reply n set t w
  unfolding key_reply
  key_stands r f e d = d ∙ sym (checks_before.stands f (sym e ∙ d) _)

  pub key_lent : (r : Reply) (f : Refusal) → r ≡ lent_checks n (length t) w (Ok tt) → r ≡ Err f → KeyChecked n set t w r
  unfolding key_checks
  key_lent r f e d = rw d (key_stops n set t w f (sym ((lent_before n (length t) w).stands f (sym e ∙ d) _)))

  module _ (e : lent_checks n (length t) w (Ok tt) ≡ Ok tt) where
    -- the checks past them
    key_past : key_checks n set t w (Ok tt) ≡ check (set_within n set && bounds_in_limit Sheet n set t) (OutOfLimit 0) (Ok tt)
    unfolding key_checks
    key_past = (lent_before n (length t) w).goes_on e _

    pub key_set : set_within n set ≡ false → KeyChecked n set t w (Err (OutOfLimit 0))
    key_set f = key_stops n set t w (OutOfLimit 0) (rw (key_past, f))

    pub key_words : bounds_in_limit Sheet n set t ≡ false → KeyChecked n set t w (Err (OutOfLimit 0))
    key_words i = key_stops n set t w (OutOfLimit 0) (rw (key_past, i, and-false (set_within n set)))

    pub key_passes : set_within n set ≡ true → bounds_in_limit Sheet n set t ≡ true → NoneAbove (block_start n) t → KeyChecked n set t w (Ok tt)
    key_passes f i a = record {
      reply = sym (rw (key_past, f, i));
      passes = λ c. let l = lent_tells n (length t) w e in (l.0, (l.1, ((f, (bounds Sheet n set t).0 i), tt)));
      words = λ c. a;
    }

-- ---- and of the assignment call

assignment_stops : (n : ℕ) (t : List ℤ) (w v : ℕ) (f : Refusal) → Err f ≡ assignment_reply n t w v → AssignmentChecked n t w v (Err f)
assignment_stops n t w v f e = record { stands = λ g d. e; passes = λ d. absurd (refused_done d) }

module _ (n : ℕ) (t : List ℤ) (w v : ℕ) where
  pub assignment_lent : (r : Reply) (f : Refusal) → r ≡ lent_checks n (length t) w (Ok tt) → r ≡ Err f → AssignmentChecked n t w v r
  unfolding assignment_reply
  assignment_lent r f e d = rw d (assignment_stops n t w v f (sym ((lent_before n (length t) w).stands f (sym e ∙ d) _)))

  module _ (e : lent_checks n (length t) w (Ok tt) ≡ Ok tt) where
    assignment_past :
        assignment_reply n t w v ≡ check (leb n v) (TooShort n) (check (bounds_in_limit Sheet n 0 t) (OutOfLimit 0) (check (not (refuted n t)) NoAssignment (Ok tt)))
    unfolding assignment_reply
    assignment_past = (lent_before n (length t) w).goes_on e _

    pub assignment_brief : v < n → AssignmentChecked n t w v (Err (TooShort n))
    assignment_brief h = assignment_stops n t w v (TooShort n) (rw (assignment_past, lt-leb n v h))

    pub assignment_words : n ≤ v → bounds_in_limit Sheet n 0 t ≡ false → AssignmentChecked n t w v (Err (OutOfLimit 0))
    assignment_words k i = assignment_stops n t w v (OutOfLimit 0) (rw (assignment_past, le-leb n v k, i))

    pub assignment_passes : n ≤ v → bounds_in_limit Sheet n 0 t ≡ true → AssignmentChecked n t w v (Ok tt)
    assignment_passes k i = record {
      stands = λ g c. absurd (refused_done (sym c));
      passes = λ c. let l = lent_tells n (length t) w e in (l.0, (l.1, (k, ((bounds Sheet n 0 t).0 i, tt))));
    }
