-- The reply to a list of questions: its number, and what is returned beside it.
use Rattle.std.specs.Prelude.{cond, List, [], ◌∷◌, ℕ, zero, suc, ℤ, pos, Result, Ok, Err}
use Rattle.rules.specs.declared.refusal.Refusal.{Refusal}
use Rattle.rules.specs.Refusal.{Returned, refused_as, refusal_value}
use Rattle.questions.specs.declared.reply.Answers.{Answers}
use Rattle.questions.specs.Questions.{is_yes}

-- the reply: answers or a refusal
abbrev pub Asked : Type 0
Asked = Result Answers Refusal

-- the answers to so many questions from question i + 1 on, in the list's order: 1 for yes and 0 for no
abbrev pub answer_values : ℕ → ℕ → ℕ → List ℤ
answer_values answers i zero = []
answer_values answers i (suc m) = cond (is_yes answers i) (pos 1) (pos 0) ∷ answer_values answers (suc i) m

-- a reply as it is returned: 0 where the questions are answered, and beside it the answers
abbrev pub asked_returned : Asked → Returned
asked_returned (Ok a) = record { number = 0; values = answer_values a.bits 0 a.count }
asked_returned (Err f) = refused_as f

abbrev pub asked_number : Asked → ℕ
asked_number r = (asked_returned r).number

-- a refusal's line or length as one number, 0 where there is none
abbrev pub asked_value : Asked → ℕ
asked_value (Ok a) = 0
asked_value (Err f) = refusal_value f

-- the number that has a host's answers, after the call: where there are answers they, and else as it was
abbrev pub answers_after : ℕ → Asked → ℕ
answers_after before (Ok a) = a.bits
answers_after before (Err f) = before
