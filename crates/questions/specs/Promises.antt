-- What the call and the answer to one question promise: the reply and every lent word, for every input, and what yes and no mean.
use Rattle.std.specs.Prelude.{Bool, true, false, ◌≡◌, ◌↔◌, List, ℕ, ◌≤◌, ◌<◌, ℤ, pos, length, Some, Ok}
use Rattle.words.specs.Change.{word_at}
use Rattle.words.specs.Lent.{Lent}
use Rattle.places.specs.Numbering.{block_start}
use Rattle.rules.specs.declared.rule.Rule.{Rule}
use Rattle.rules.specs.Refusal.{refused_as}
use Rattle.rules.specs.Refusing.{passed, AllMet, DecidedBy}
use Rattle.rules.specs.Steps.{halved_of}
use Rattle.tables.specs.Places.{find_place}
use Rattle.tables.specs.Meaning.{Satisfies, Unsatisfiable, MetByAll, Breaks}
use Rattle.tightening.specs.Meaning.{TightTable}
use Rattle.questions.specs.declared.reply.Answers.{Answers as AnswersGiven}
use Rattle.questions.specs.Questions.{question_count, question_at, answer_of, word_for, is_yes}
use Rattle.questions.specs.Meaning.{ask_needs_then, ask_needs}
use Rattle.questions.specs.Replies.{Asked, asked_returned, asked_number}
use Rattle.questions.specs.Asking.{ask_reply, changes_workspace}

-- ---- one question

-- the answer to a question from one word, and when it is right: where the word is that of the question's term in the tight table of a sheet, the answer is yes exactly when every assignment of
-- the sheet meets the question as written
pub record Answers (word : ℤ) (question : Rule) (r : Bool) : Type 0 where
  pub reply : r ≡ answer_of word question
  pub right : (n k : ℕ) (sheet tight : List ℤ) → TightTable n (Satisfies n sheet) tight → k < block_start n → find_place (halved_of question) ≡ Some k → word ≡ word_at tight k
      → (r ≡ true) ↔ MetByAll (Satisfies n sheet) question

-- ---- a list of questions

-- the answers to a list put to a sheet over n quantities, as they are returned: one for each question, in the list's order. Yes, 1, exactly when every assignment of the sheet meets the question;
-- no, 0, exactly when some assignment breaks it
pub record AnswersTold (n : ℕ) (sheet list values : List ℤ) : Type 0 where
  pub counted : length values ≡ question_count (length list)
  pub yes_when : (i : ℕ) → i < question_count (length list) → (word_at values i ≡ pos 1) ↔ MetByAll (Satisfies n sheet) (question_at list i)
  pub no_when : (i : ℕ) → i < question_count (length list) → (word_at values i ≡ pos 0) ↔ Breaks (Satisfies n sheet) (question_at list i)

-- the same as a number, bit i for question i + 1, and the tight table that they are from
pub record ListAnswers (n : ℕ) (sheet list tight : List ℤ) (answers : ℕ) : Type 0 where
  pub meaning : (i : ℕ) → i < question_count (length list) → (is_yes answers i ≡ true) ↔ MetByAll (Satisfies n sheet) (question_at list i)
  pub broken : (i : ℕ) → i < question_count (length list) → (is_yes answers i ≡ false) ↔ Breaks (Satisfies n sheet) (question_at list i)
  pub rest : (i : ℕ) → question_count (length list) ≤ i → is_yes answers i ≡ false
  -- one tight table for the whole list, with nothing hidden; and each answer is what the function above answers, given one word of it and the question
  pub tight_table : TightTable n (Satisfies n sheet) tight
  pub each : (i : ℕ) → i < question_count (length list) → Answers (word_for tight (question_at list i)) (question_at list i) (is_yes answers i)

-- a list of questions put to a table over n quantities. Table and list are only read; where the questions are answered, the workspace has the tight table
pub record QuestionsAsked (n : ℕ) (table list workspace : List ℤ) (r : Asked) (workspace' : List ℤ) : Type 0 where
  pub reply : r ≡ ask_reply n table list (length workspace)
  pub decided : DecidedBy (ask_needs n table list (length workspace)) (λ f. asked_returned r ≡ refused_as f) (asked_number r ≡ 0)
  -- past the checks before it, 5 exactly when no integers satisfy the sheet
  pub none : AllMet (ask_needs_then n table list (length workspace) passed) → (asked_number r ≡ 5) ↔ Unsatisfiable n table
  pub lent : Lent (block_start n) (changes_workspace r) workspace workspace'
  pub told : asked_number r ≡ 0 → AnswersTold n table list (asked_returned r).values
  pub answered : (answers : AnswersGiven) → r ≡ Ok answers → ListAnswers n table list workspace' answers.bits
