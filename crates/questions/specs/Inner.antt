-- What the functions inside ask and answer: for those who read the code.
use Rattle.std.specs.Prelude.{◌≡◌, List, ℕ, ◌+◌, ◌*◌, ◌≤◌, ℤ, length, Ok}
use Rattle.places.specs.Numbering.{block_start}
use Rattle.rules.specs.declared.refusal.Refusal.TheVariants.{OutOfLimit, Cancelling}
use Rattle.rules.specs.Limits.{max_quantities}
use Rattle.rules.specs.Refusing.{passed, AllMet}
use Rattle.tables.specs.Replies.{Reply, check}
use Rattle.tables.specs.Given.{Given, GivenAs, GivenWithin}
use Rattle.tables.specs.Meaning.{NoneAbove, Cancels}
use Rattle.questions.specs.Questions.{max_questions, first_of, second_of, bound_word, question_at, questions_within, none_cancels}
use Rattle.questions.specs.Meaning.{QuestionsWithin, NoneCancels, ask_needs_then}
use Rattle.questions.specs.Asking.{ask_checks}

-- question i + 1 as it is given
abbrev pub QuestionGiven : ℕ → List ℤ → ℕ → Given → Type 0
QuestionGiven n list i r = GivenAs n (first_of list i) (second_of list i) (bound_word list i) r

-- the checks of the first m questions: 3, then 4
unfoldable pub list_checks : ℕ → List ℤ → ℕ → Reply
list_checks n list m = check (questions_within n list m) (OutOfLimit 0) (check (none_cancels list m) (Cancelling 0) (Ok tt))

-- question i + 1 has a place in a table over n quantities
pub record Answerable (n : ℕ) (tight list : List ℤ) (i : ℕ) : Type 0 where
  pub most : n ≤ max_quantities
  pub tight_room : block_start n ≤ length tight
  pub list_room : 3 * i + 3 ≤ length list
  pub within : GivenWithin n (first_of list i) (second_of list i) (bound_word list i)
  pub states : Cancels (question_at list i) → ⊥

-- each of the first m has
pub record AllAnswerable (n : ℕ) (tight list : List ℤ) (m : ℕ) : Type 0 where
  pub most : n ≤ max_quantities
  pub few : m ≤ max_questions
  pub tight_room : block_start n ≤ length tight
  pub list_room : 3 * m ≤ length list
  pub within : QuestionsWithin n list m
  pub states : NoneCancels list m

-- all that the call needs before 5. Words that were looked at are of 64 bits, so that none is above the no-rule word
pub record AskReady (n : ℕ) (t list : List ℤ) (w : ℕ) : Type 0 where
  pub met : AllMet (ask_needs_then n t list w passed)
  pub words : NoneAbove (block_start n) t

-- the call's checks before 5: a refusal is the call's reply, and where they are done the needs are met
pub record AskChecked (n : ℕ) (t list : List ℤ) (w : ℕ) (r : Reply) : Type 0 where
  pub reply : r ≡ ask_checks n t list w (Ok tt)
  pub ready : r ≡ Ok tt → AskReady n t list w
