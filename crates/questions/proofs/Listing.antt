-- The tests of a list's questions: that all of the first are in their limits, and that none of them is +q-q, one question after the other; and the reply that they make. Assumes nothing.
use mathlib.Core.Path.{◌≡◌, refl, ◌∙◌}
use mathlib.Core.Bool.{Bool, true, false, not, ◌&&◌, and-true, and-false}
use mathlib.Core.List.{List}
use mathlib.Core.Logic.{◌↔◌}
use Prim.Native.Nat.{ℕ, zero, suc, ◌+◌, ◌-◌, ◌≤◌, ◌<◌}
use native.Mathlib.Nat.{add-zero, add-suc}
use native.Mathlib.Numerals.{add-one}
use native.Mathlib.Omega.{arith}
use lib.Dec.{ltb}
use lib.IntN.{ℤ}
use borrow.Author.Tests.{ltb-true, ltb-false}
use Rattle.rules.specs.declared.rule.Rule.{Rule}
use Rattle.rules.specs.declared.refusal.Refusal.TheVariants.{OutOfLimit, Cancelling}
use Rattle.tables.specs.Tables.{cancels}
use Rattle.tables.specs.Meaning.{Cancels}
use Rattle.tables.specs.Given.{Given, GivenWithin, given_within}
use Rattle.tables.proofs.Tests.{clash, both_true, fails, not_so}
use Rattle.tables.proofs.Giving.{within_test, cancels_test}
use Rattle.questions.specs.Questions.{first_of, second_of, bound_word, question_at, questions_within, none_cancels}
use Rattle.questions.specs.Meaning.{QuestionsWithin, NoneCancels}
use Rattle.questions.specs.Inner.{QuestionGiven, list_checks}
use Rattle.std.specs.Prelude.{Ok, Err}
use Rattle.tables.specs.declared.given.Misstated.TheVariants.{Outside, Vanishes}

-- a test of each below m, and one of m, is a test of each below m + 1
all_more : {P : ℕ → Type 0} (m : ℕ) (a b : Bool) → ((a ≡ true) ↔ ((i : ℕ) → i < m → P i)) → ((b ≡ true) ↔ P m) → (◌&&◌ a b ≡ true) ↔ ((i : ℕ) → i < suc m → P i)
all_more {P} m a b all last = (to, λ h. rw (all.1 (λ i l. h i (omega arith)), last.1 (h m (omega arith))))
  where
    to : ◌&&◌ a b ≡ true → (i : ℕ) → i < suc m → P i
    to e i l = go (ltb i m) refl
      where
        go : (t : Bool) → ltb i m ≡ t → P i
        go true f = all.0 (both_true a b e).0 i (ltb-true i m f)
        go false f = let d : i ≡ m = omega (arith, ltb-false i m f) in rw d (last.0 (both_true a b e).1)

-- ---- in their limits

module _ (n : ℕ) (list : List ℤ) where
  pub within_zero : questions_within n list 0 ≡ true
  unfolding questions_within
  within_zero = refl

  -- one question more
  pub within_more : (i : ℕ) → questions_within n list (i + 1) ≡ ◌&&◌ (questions_within n list i) (given_within n (first_of list i) (second_of list i) (bound_word list i))
  unfolding questions_within
  within_more i = rw (add-one i)

  -- a list that fails at some question fails with more of them
  within_past : (i d : ℕ) → questions_within n list i ≡ false → questions_within n list (i + d) ≡ false
  unfolding questions_within
  within_past i zero e = rw add-zero e
  within_past i (suc d) e = rw (add-suc, within_past i d e)

  pub within_stays : (i m : ℕ) → i ≤ m → questions_within n list i ≡ false → questions_within n list m ≡ false
  within_stays i m h e = let whole : m ≡ i + (m - i) = omega arith in rw whole (within_past i (m - i) e)

  -- so it fails where a question among them is outside its limits
  pub within_outside : (i m : ℕ) → i < m → (GivenWithin n (first_of list i) (second_of list i) (bound_word list i) → ⊥) → questions_within n list m ≡ false
  within_outside i m h o = within_stays (i + 1) m (omega arith)
      (within_more i ∙ rw (not_so (within_test n (first_of list i) (second_of list i) (bound_word list i)) o) (and-false (questions_within n list i)))

-- the test passes exactly where each question is in its limits
pub within_all : (n m : ℕ) (list : List ℤ) → (questions_within n list m ≡ true) ↔ QuestionsWithin n list m
unfolding questions_within
within_all n zero list = (λ e i l. let z : ⊥ = omega arith in absurd z, λ h. refl)
within_all n (suc m) list =
    all_more m (questions_within n list m) (given_within n (first_of list m) (second_of list m) (bound_word list m)) (within_all n m list)
    (within_test n (first_of list m) (second_of list m) (bound_word list m))

-- ---- none +q-q

module _ (list : List ℤ) where
  pub none_zero : none_cancels list 0 ≡ true
  unfolding none_cancels
  none_zero = refl

  -- one question more
  pub none_more : (i : ℕ) → none_cancels list (i + 1) ≡ ◌&&◌ (none_cancels list i) (not (cancels (question_at list i)))
  unfolding none_cancels
  none_more i = rw (add-one i)

none_test : (r : Rule) → (not (cancels r) ≡ true) ↔ (Cancels r → ⊥)
none_test r = (go (cancels r) refl, λ h. rw (not_so (cancels_test r) h))
  where
    go : (b : Bool) → cancels r ≡ b → not b ≡ true → Cancels r → ⊥
    go true e f = clash f refl
    go false e f = fails (cancels_test r) e

-- the test passes exactly where none of the questions is +q-q
pub cancels_none : (m : ℕ) (list : List ℤ) → (none_cancels list m ≡ true) ↔ NoneCancels list m
unfolding none_cancels
cancels_none zero list = (λ e i l. let z : ⊥ = omega arith in absurd z, λ h. refl)
cancels_none (suc m) list = all_more m (none_cancels list m) (not (cancels (question_at list m))) (cancels_none m list) (none_test (question_at list m))

-- ---- question after question

-- the first i questions are in their limits, and the flag says whether one of them is +q-q
pub record Checked (n : ℕ) (list : List ℤ) (i : ℕ) (flag : Bool) : Type 0 where
  pub within : questions_within n list i ≡ true
  pub flagged : none_cancels list i ≡ not flag

module _ (n : ℕ) (list : List ℤ) where
  pub checked_first : Checked n list 0 false
  checked_first = record { within = within_zero n list; flagged = none_zero list }

  module _ (i : ℕ) (flag : Bool) (g : Given) (c : Checked n list i flag) (q : QuestionGiven n list i g) where
    -- the next one is in its limits
    next : GivenWithin n (first_of list i) (second_of list i) (bound_word list i) → questions_within n list (i + 1) ≡ true
    next w = within_more n list i ∙ rw (c.within, (within_test n (first_of list i) (second_of list i) (bound_word list i)).1 w)

    -- it is +q-q,
    pub checked_cancels : g ≡ Err Vanishes → Checked n list (i + 1) true
    checked_cancels e = let w = q.cancelled.0 e in record {
      within = next w.0;
      flagged = none_more list i ∙ rw ((cancels_test (question_at list i)).1 w.1) (and-false (none_cancels list i));
    }

    -- or it is not
    pub checked_stated : (r : Rule) → g ≡ Ok r → Checked n list (i + 1) flag
    checked_stated r e = let w = (q.stated r).0 e in record {
      within = next w.0;
      flagged = none_more list i ∙ rw (not_so (cancels_test (question_at list i)) w.1, c.flagged) (and-true (not flag));
    }

  -- ---- the reply

  pub reply_outside : (i m : ℕ) (g : Given) → i < m → QuestionGiven n list i g → g ≡ Err Outside → Err (OutOfLimit 0) ≡ list_checks n list m
  unfolding list_checks
  reply_outside i m g h q e = rw (within_outside n list i m h (q.outside.0 e))

  -- with all of them behind
  pub reply_cancels : (m : ℕ) → Checked n list m true → Err (Cancelling 0) ≡ list_checks n list m
  unfolding list_checks
  reply_cancels m c = rw (c.within, c.flagged)

  pub reply_done : (m : ℕ) → Checked n list m false → Ok tt ≡ list_checks n list m
  unfolding list_checks
  reply_done m c = rw (c.within, c.flagged)
