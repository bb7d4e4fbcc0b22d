-- The checks of asking: which refusal stands at each, what it tells that they pass, and that they are document 02's. Assumes nothing.
use mathlib.Core.Path.{◌≡◌, sym, ◌∙◌}
use mathlib.Core.Bool.{Bool, true, false, not, ◌&&◌, and-false}
use mathlib.Core.List.{List}
use mathlib.Core.Logic.{◌↔◌, ◌⊎◌, inl, inr}
use Prim.Native.Nat.{ℕ, ◌≤◌, ◌<◌}
use native.Mathlib.Omega.{arith}
use lib.Dec.{leb}
use lib.IntN.{ℤ, pos}
use lib.ListN.{length}
use borrow.Author.Tests.{leb-true, le-leb, lt-leb}
use Rattle.places.specs.Numbering.{block_start}
use Rattle.rules.specs.declared.paper.Paper.TheVariants.{Sheet}
use Rattle.rules.specs.declared.refusal.Refusal.{Refusal}
use Rattle.rules.specs.declared.refusal.Refusal.TheVariants.{Size, OutOfLimit, Cancelling, NoAssignment, TooShort, ListSize}
use Rattle.rules.specs.Limits.{bound_limit}
use Rattle.rules.specs.Refusing.{Needs, passed, AllMet}
use Rattle.tables.specs.Tables.{table_size, serves}
use Rattle.tables.specs.Meaning.{TableSized, BoundsWithin}
use Rattle.tables.specs.Promises.{InLimit}
use Rattle.tables.specs.Replies.{Reply, check}
use Rattle.tables.proofs.Tests.{both_true, refused_done}
use Rattle.tables.proofs.Sizes.{serves_sized, serves_tells}
use Rattle.tables.proofs.Refusing.{Tied, tied_done, tied_more, Before, before_none, before_more}
use Rattle.keys.specs.Keys.{refuted, bounds_in_limit}
use Rattle.keys.proofs.Checking.{length_test, bounds, bounds_test, decided_some}
use Rattle.questions.specs.Questions.{max_questions, question_count, questions_within, none_cancels}
use Rattle.questions.specs.Meaning.{ListSized, QuestionsWithin, ask_needs_then, ask_needs}
use Rattle.questions.specs.Asking.{ask_checks}
use Rattle.questions.specs.Inner.{list_checks, AskChecked}
use Rattle.questions.proofs.Listing.{within_all, cancels_none}
use Rattle.std.specs.Prelude.{Ok, Err}

-- ---- the tests, and what they mean

list_sized : (words : ℕ) → ((leb 1 (question_count words) && leb (question_count words) max_questions) ≡ true) ↔ ListSized words
list_sized words = (
  λ e. let p = both_true (leb 1 (question_count words)) (leb (question_count words) max_questions) e in (leb-true 1 (question_count words) p.0, leb-true (question_count words) max_questions p.1),
  λ p. rw (le-leb 1 (question_count words) p.0, le-leb (question_count words) max_questions p.1),
)

module _ (n : ℕ) (t list : List ℤ) (w : ℕ) where
  numbers : ((bounds_in_limit Sheet n 0 t && questions_within n list (question_count (length list))) ≡ true) ↔ (BoundsWithin Sheet n 0 t × QuestionsWithin n list (question_count (length list)))
  numbers = (
    λ e. let p = both_true (bounds_in_limit Sheet n 0 t) (questions_within n list (question_count (length list))) e in ((bounds Sheet n 0 t).0 p.0, (within_all n (question_count (length list)) list).0 p.1),
    λ p. rw ((bounds Sheet n 0 t).1 p.0, (within_all n (question_count (length list)) list).1 p.1),
  )

  -- ---- refused by the first need that is not met

  checks_tied : (rest : Needs) (next : Reply) → (TableSized n (length t) → BoundsWithin Sheet n 0 t → Tied rest next) → Tied (ask_needs_then n t list w rest) (ask_checks n t list w next)
  unfolding ask_checks
  checks_tied rest next d =
      tied_more _ _ _ _ _ (serves_sized n (length t)) (λ s.
      tied_more _ _ _ _ _ (list_sized (length list)) (λ c.
      tied_more _ _ _ _ _ (length_test (block_start n) w) (λ l.
      tied_more _ _ _ _ _ numbers (λ b.
      tied_more _ _ _ _ _ (cancels_none (question_count (length list)) list) (λ z. d s b.0)))))

  -- with 5 last
  pub ask_tied : Tied (ask_needs n t list w) (ask_checks n t list w (check (not (refuted n t)) NoAssignment (Ok tt)))
  ask_tied = checks_tied _ _ (λ s b. tied_more _ _ _ _ _ (decided_some n 0 t s b) (λ x. tied_done))

  -- a refusal of the checks stands whatever follows, and where they are done what follows is the reply
  pub ask_before : Before (ask_checks n t list w)
  unfolding ask_checks
  ask_before =
      before_more (serves n (length t)) Size _
      (before_more (leb 1 (question_count (length list)) && leb (question_count (length list)) max_questions) ListSize _
      (before_more (leb (block_start n) w) (TooShort (block_start n)) _
      (before_more (bounds_in_limit Sheet n 0 t && questions_within n list (question_count (length list))) (OutOfLimit 0) _
      (before_more (none_cancels list (question_count (length list))) (Cancelling 0) (λ next. next) before_none))))

  pub ask_met : ask_checks n t list w (Ok tt) ≡ Ok tt → AllMet (ask_needs_then n t list w passed)
  ask_met e = (checks_tied passed (Ok tt) (λ s b. tied_done)).accepted.0 e

  pub ask_done : AllMet (ask_needs_then n t list w passed) → ask_checks n t list w (Ok tt) ≡ Ok tt
  ask_done p = (checks_tied passed (Ok tt) (λ s b. tied_done)).accepted.1 p

  -- ---- at each check

  stops : (f : Refusal) → Err f ≡ ask_checks n t list w (Ok tt) → AskChecked n t list w (Err f)
  stops f e = record { reply = e; ready = λ d. absurd (refused_done d) }

  pub ask_size : serves n (length t) ≡ false → AskChecked n t list w (Err Size)
  unfolding ask_checks
  ask_size e = stops Size (rw e)

  module _ (s : serves n (length t) ≡ true) (k : ℕ) (c : k ≡ question_count (length list)) where
    pub ask_listed : (k < 1) ⊎ (max_questions < k) → AskChecked n t list w (Err ListSize)
    unfolding ask_checks
    ask_listed (inl h) = stops ListSize (rw (s, lt-leb 1 (question_count (length list)) (omega (arith, c))))
    ask_listed (inr h) = stops ListSize (rw (s, lt-leb (question_count (length list)) max_questions (omega (arith, c)), and-false (leb 1 (question_count (length list)))))

    module _ (l : 1 ≤ k) (m : k ≤ max_questions) (needed : ℕ) (d : needed ≡ table_size n) where
      some : leb 1 (question_count (length list)) ≡ true
      some = le-leb 1 (question_count (length list)) (omega (arith, c))

      few : leb (question_count (length list)) max_questions ≡ true
      few = le-leb (question_count (length list)) max_questions (omega (arith, c))

      size : needed ≡ block_start n
      size = d ∙ (serves_tells n (length t) s).size

      pub ask_short : w < needed → AskChecked n t list w (Err (TooShort needed))
      unfolding ask_checks
      ask_short h = stops (TooShort needed) (rw (s, some, few, lt-leb (block_start n) w (omega (arith, size)), size))

      module _ (h : needed ≤ w) (limit : ℤ) (b : limit ≡ pos (bound_limit Sheet n 0)) (inside : Bool) (i : InLimit needed limit t inside) where
        room : leb (block_start n) w ≡ true
        room = le-leb (block_start n) w (omega (arith, size))

        bounded : bounds_in_limit Sheet n 0 t ≡ inside
        bounded = bounds_test Sheet n 0 needed limit t inside size b i

        pub ask_words : inside ≡ false → AskChecked n t list w (Err (OutOfLimit 0))
        unfolding ask_checks
        ask_words e = stops (OutOfLimit 0) (rw (s, some, few, room, bounded, e))

        -- the questions' own checks are the rest
        pub ask_list : inside ≡ true → (r : Reply) → r ≡ list_checks n list (question_count (length list)) → AskChecked n t list w r
        unfolding ask_checks list_checks
        ask_list e r q = record { reply = same; ready = λ z. record { met = ask_met (sym same ∙ z); words = rw size at (i.words e) } }
          where
            same : r ≡ ask_checks n t list w (Ok tt)
            same = q ∙ rw (s, some, few, room, bounded, e)
