-- The checks of the key call with marks: those of the key call without them, and the marks' own. Assumes nothing.
use mathlib.Core.Path.{◌≡◌, refl, sym, ◌∙◌}
use mathlib.Core.Bool.{Bool, true, false, cond, not, ◌&&◌, and-false}
use mathlib.Core.List.{List}
use mathlib.Core.Logic.{◌↔◌}
use Prim.Native.Nat.{ℕ, ◌≤◌, ◌<◌}
use native.Mathlib.Omega.{arith}
use lib.Dec.{leb}
use lib.IntN.{ℤ}
use lib.ListN.{length}
use borrow.Author.Tests.{le-leb, lt-leb}
use Rattle.places.specs.Numbering.{block_start}
use Rattle.rules.specs.declared.paper.Paper.TheVariants.{Sheet}
use Rattle.rules.specs.declared.refusal.Refusal.{Refusal}
use Rattle.rules.specs.declared.refusal.Refusal.TheVariants.{Size, OutOfLimit, NoAssignment, TooShort}
use Rattle.rules.specs.Hidden.{set_within}
use Rattle.rules.specs.Limits.{max_quantities}
use Rattle.rules.specs.Refusing.{passed, AllMet}
use Rattle.std.specs.Prelude.{Ok, Err}
use Rattle.tables.specs.Replies.{Reply, check}
use Rattle.tables.specs.Tables.{table_size, serves}
use Rattle.tables.proofs.Tests.{both_true}
use Rattle.tables.proofs.Sizes.{serves_sized, serves_tells, size_known}
use Rattle.tables.proofs.Refusing.{Tied, tied_done, tied_more, Before, before_none, before_more}
use Rattle.marks.specs.Bytes.{marks_in, MarksWithin}
use Rattle.marks.proofs.Testing.{marks_within, within_marks}
use Rattle.keys.specs.Keys.{refuted, bounds_in_limit, lent_checks, key_checks, key_reply}
use Rattle.keys.specs.Inner.{KeyChecked}
use Rattle.keys.specs.Meaning.{NumbersWithin, key_needs_then}
use Rattle.keys.proofs.Checking.{length_test, bounds, decided_some, checks_before}
use Rattle.rounded.specs.Keys.{marked_key_checks, marked_key_reply}
use Rattle.rounded.specs.Meaning.{marked_key_needs_then, marked_key_needs}
use Rattle.rounded.specs.Inner.{MarkedKeyChecked}

-- ---- the test of marks

numbers_marks : (n set : ℕ) (t : List ℤ) (marks : List ℕ)
    → ((set_within n set && bounds_in_limit Sheet n set t && marks_in (block_start n) marks) ≡ true) ↔ (NumbersWithin n set t × MarksWithin (block_start n) marks)
numbers_marks n set t marks = (
  λ e. let p = both_true (set_within n set && bounds_in_limit Sheet n set t) (marks_in (block_start n) marks) e in
      let q = both_true (set_within n set) (bounds_in_limit Sheet n set t) p.0 in
      ((q.0, (bounds Sheet n set t).0 q.1), marks_within (block_start n) marks p.1),
  λ p. rw (p.0.0, (bounds Sheet n set t).1 p.0.1, within_marks (block_start n) marks p.1),
)

-- ---- the checks with marks are those without, and then that of the marks

-- fewer marks than a table's size
pub short_marks : (n m l : ℕ) → m ≡ table_size n → l < m → l < block_start n
unfolding table_size
short_marks n m l d h = go (leb 1 n && leb n max_quantities) (rw d at h)
  where
    go : (c : Bool) → l < cond c (block_start n) 0 → l < block_start n
    go true g = g
    go false g = let z : l < 0 = g in let y : ⊥ = omega arith in absurd y

module _ (n set : ℕ) (t : List ℤ) (marks : List ℕ) (w : ℕ) where
  pub marks_short : length marks < block_start n → (next : Reply) → marked_key_checks n set t marks w next ≡ Err Size
  unfolding marked_key_checks
  marks_short h next = rw (lt-leb (block_start n) (length marks) h, and-false (serves n (length t)))

  marks_later : (serves n (length t) ≡ true → leb (block_start n) (length marks) ≡ true) → (next : Reply)
      → marked_key_checks n set t marks w next ≡ key_checks n set t w (check (marks_in (block_start n) marks) (OutOfLimit 0) next)
  unfolding marked_key_checks key_checks lent_checks
  marks_later h next =
      sized (serves n (length t)) refl
    where
      numbers : (a b : Bool)
          → check (a && b && marks_in (block_start n) marks) (OutOfLimit 0) next ≡ check (a && b) (OutOfLimit 0) (check (marks_in (block_start n) marks) (OutOfLimit 0) next)
      numbers true true = refl
      numbers true false = refl
      numbers false b = refl

      sized : (a : Bool) → serves n (length t) ≡ a
          → check (a && leb (block_start n) (length marks)) Size
          (check (leb (block_start n) w) (TooShort (block_start n)) (check (set_within n set && bounds_in_limit Sheet n set t && marks_in (block_start n) marks) (OutOfLimit 0) next))
          ≡ check a Size
          (check (leb (block_start n) w) (TooShort (block_start n))
          (check (set_within n set && bounds_in_limit Sheet n set t) (OutOfLimit 0) (check (marks_in (block_start n) marks) (OutOfLimit 0) next)))
      sized true e = rw (h e, numbers (set_within n set) (bounds_in_limit Sheet n set t))
      sized false e = refl

  -- where there are marks enough,
  pub marks_enough : block_start n ≤ length marks → (next : Reply)
      → marked_key_checks n set t marks w next ≡ key_checks n set t w (check (marks_in (block_start n) marks) (OutOfLimit 0) next)
  marks_enough h = marks_later (λ e. le-leb (block_start n) (length marks) h)

  -- or the table is refused before
  pub marks_sized : (m : ℕ) → m ≡ table_size n → m ≤ length marks → (next : Reply)
      → marked_key_checks n set t marks w next ≡ key_checks n set t w (check (marks_in (block_start n) marks) (OutOfLimit 0) next)
  marks_sized m d h = marks_later (λ e. le-leb (block_start n) (length marks) (omega (arith, d, (serves_tells n (length t) e).size)))

  -- ---- the function that makes the checks

  marked_stops : (f : Refusal) → Err f ≡ marked_key_checks n set t marks w (Ok tt) → MarkedKeyChecked n set t marks w (Err f)
  marked_stops f e = record { reply = e; passes = λ d. cc; words = λ d. cc }

  pub checked_short : (m : ℕ) → m ≡ table_size n → length marks < m → MarkedKeyChecked n set t marks w (Err Size)
  checked_short m d h = marked_stops Size (sym (marks_short (short_marks n m (length marks) d h) (Ok tt)))

  module _ (m : ℕ) (d : m ≡ table_size n) (h : m ≤ length marks) where
    pub checked_before : (f : Refusal) → KeyChecked n set t w (Err f) → MarkedKeyChecked n set t marks w (Err f)
    checked_before f c = marked_stops f (sym (marks_sized m d h (Ok tt) ∙ (checks_before n set t w).stands f (sym c.reply) _))

    module _ (c : KeyChecked n set t w (Ok tt)) where
      met : AllMet (key_needs_then n set t w passed)
      met = c.passes refl

      past : marked_key_checks n set t marks w (Ok tt) ≡ check (marks_in (block_start n) marks) (OutOfLimit 0) (Ok tt)
      past = marks_sized m d h (Ok tt) ∙ (checks_before n set t w).goes_on (sym c.reply) _

      size : m ≡ block_start n
      size = size_known n m met.0.most d

      pub checked_marks : (b : Bool) → b ≡ marks_in m marks → b ≡ false → MarkedKeyChecked n set t marks w (Err (OutOfLimit 0))
      checked_marks b e f = marked_stops (OutOfLimit 0) (sym (past ∙ rw (← size, ← e, f)))

      pub checked_done : (b : Bool) → b ≡ marks_in m marks → b ≡ true → MarkedKeyChecked n set t marks w (Ok tt)
      checked_done b e f = record {
        reply = sym (past ∙ rw (← size, ← e, f));
        passes = λ x. (met.0, (omega (arith, size), (met.1.0, ((met.1.1.0, marks_within (block_start n) marks (rw (← size, ← e) f)), Prim.tt))));
        words = λ x. c.words refl;
      }

  -- ---- the reply

  marked_before : Before (marked_key_checks n set t marks w)
  unfolding marked_key_checks
  marked_before =
      before_more (serves n (length t) && leb (block_start n) (length marks)) Size (λ next. check (leb (block_start n) w) (TooShort (block_start n)) (numbers_checked next))
      (before_more (leb (block_start n) w) (TooShort (block_start n)) numbers_checked
      (before_more (set_within n set && bounds_in_limit Sheet n set t && marks_in (block_start n) marks) (OutOfLimit 0) (λ next. next) before_none))
    where
      numbers_checked : Reply → Reply
      numbers_checked next = check (set_within n set && bounds_in_limit Sheet n set t && marks_in (block_start n) marks) (OutOfLimit 0) next

  -- a refusal of the checks is the call's
  pub marked_stands : (f : Refusal) → Err f ≡ marked_key_checks n set t marks w (Ok tt) → Err f ≡ marked_key_reply n set t marks w
  unfolding marked_key_reply
  marked_stands f e = sym (marked_before.stands f (sym e) _)

  -- marks that are enough, and 0 or 1, change no reply
  pub reply_unmarked : block_start n ≤ length marks → MarksWithin (block_start n) marks → marked_key_reply n set t marks w ≡ key_reply n set t w
  unfolding marked_key_reply key_reply
  reply_unmarked h b = marks_enough h (check (not (refuted n t)) NoAssignment (Ok tt)) ∙ rw (within_marks (block_start n) marks b)

  -- the needs of the call are those of the key call
  pub needs_unmarked : AllMet (marked_key_needs_then n set t marks w passed) → AllMet (key_needs_then n set t w passed)
  needs_unmarked (s, (l, (h, (b, u)))) = (s, (h, (b.0, Prim.tt)))

  -- the reply is decided by what the call needs
  pub marked_tied : Tied (marked_key_needs n set t marks w) (marked_key_reply n set t marks w)
  unfolding marked_key_reply marked_key_checks
  marked_tied = rw (twice (serves n (length t)) (leb (block_start n) (length marks)) _)
      (tied_more _ _ _ _ _ (serves_sized n (length t)) (λ s.
      tied_more _ _ _ _ _ (length_test (block_start n) (length marks)) (λ l.
      tied_more _ _ _ _ _ (length_test (block_start n) w) (λ h.
      tied_more _ _ _ _ _ (numbers_marks n set t marks) (λ b.
      tied_more _ _ _ _ _ (decided_some n set t s b.0.1) (λ x. tied_done))))))
    where
      twice : (a b : Bool) (next : Reply) → check (a && b) Size next ≡ check a Size (check b Size next)
      twice true b next = refl
      twice false b next = refl
