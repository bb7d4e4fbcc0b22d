-- What asking needs (document 02, [3]), over the whole list, in the order of its checks.
use Rattle.std.specs.Prelude.{List, ℕ, ◌≤◌, ◌<◌, ℤ, length}
use Rattle.places.specs.Numbering.{block_start}
use Rattle.rules.specs.declared.paper.Paper.TheVariants.{Sheet}
use Rattle.rules.specs.declared.refusal.Refusal.TheVariants.{Size, OutOfLimit, Cancelling, NoAssignment, TooShort, ListSize}
use Rattle.rules.specs.Refusing.{Needs, passed, ◌or◌then◌}
use Rattle.tables.specs.Meaning.{TableSized, Satisfiable, BoundsWithin, Cancels}
use Rattle.tables.specs.Given.{GivenWithin}
use Rattle.questions.specs.Questions.{max_questions, question_count, first_of, second_of, bound_word, question_at}

-- a list of so many words has a question, and no more than an examiner puts
abbrev pub ListSized : ℕ → Type 0
ListSized words = (1 ≤ question_count words) × (question_count words ≤ max_questions)

-- each of the first m questions is in the limits of a rule on a sheet over n quantities
abbrev pub QuestionsWithin : ℕ → List ℤ → ℕ → Type 0
QuestionsWithin n list m = (i : ℕ) → i < m → GivenWithin n (first_of list i) (second_of list i) (bound_word list i)

-- none of them is +q-q or -q+q
abbrev pub NoneCancels : List ℤ → ℕ → Type 0
NoneCancels list m = (i : ℕ) → i < m → Cancels (question_at list i) → ⊥

-- asking a list of a table with a workspace of w words: 1, 8, 6, 3, 4, then others
abbrev pub ask_needs_then : ℕ → List ℤ → List ℤ → ℕ → Needs → Needs
ask_needs_then n t list w rest =
    TableSized n (length t) or Size then
    ListSized (length list) or ListSize then
    (block_start n ≤ w) or TooShort (block_start n) then
    (BoundsWithin Sheet n 0 t × QuestionsWithin n list (question_count (length list))) or OutOfLimit 0 then
    NoneCancels list (question_count (length list)) or Cancelling 0 then
    rest

-- and last 5
abbrev pub ask_needs : ℕ → List ℤ → List ℤ → ℕ → Needs
ask_needs n t list w = ask_needs_then n t list w (Satisfiable n t or NoAssignment then passed)
