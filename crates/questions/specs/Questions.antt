-- The questions of a list (document 02, [3]): rules as written, each of three words, first and second signed quantity, 0 for no second, and bound. And their answers from a tight table,
-- which compute.
use Rattle.std.specs.Prelude.{Bool, true, cond, not, ◌&&◌, List, ℕ, zero, suc, ◌+◌, ◌*◌, ◌/◌, ◌^◌, ℤ, Option, Some, None}
use Rattle.std.specs.Int.Signed.{le_z}
use Rattle.words.specs.Change.{word_at}
use Rattle.rules.specs.declared.rule.Rule.{Rule}
use Rattle.rules.specs.Bits.{bit_at}
use Rattle.rules.specs.Limits.{no_rule}
use Rattle.rules.specs.Meaning.{bound_of}
use Rattle.rules.specs.Steps.{rule_of, halved_of}
use Rattle.tables.specs.Places.{find_place}
use Rattle.tables.specs.Tables.{has_rule, cancels}
use Rattle.tables.specs.Given.{given_within}

-- an examiner puts at most so many
abbrev pub max_questions : ℕ
max_questions = 64

-- so many words are so many whole questions; words past the last are not looked at
abbrev pub question_count : ℕ → ℕ
question_count words = words / 3

-- the words of question i + 1: its signed quantities and its bound
abbrev pub first_of : List ℤ → ℕ → ℤ
first_of list i = word_at list (3 * i)

abbrev pub second_of : List ℤ → ℕ → ℤ
second_of list i = word_at list (3 * i + 1)

abbrev pub bound_word : List ℤ → ℕ → ℤ
bound_word list i = word_at list (3 * i + 2)

-- the question itself: the rule of these words, as written, so that a doubled term stays doubled. To meet it is that the two integers together are at most the bound (`Made.meaning` in rules)
abbrev pub question_at : List ℤ → ℕ → Rule
question_at list i = rule_of (first_of list i) (second_of list i) (bound_word list i)

-- ---- the tests of the first m questions

-- are all in the limits of a rule on a sheet over n quantities?
unfoldable pub questions_within : ℕ → List ℤ → ℕ → Bool
questions_within n list zero = true
questions_within n list (suc i) = questions_within n list i && given_within n (first_of list i) (second_of list i) (bound_word list i)

-- is none +q-q or -q+q?
unfoldable pub none_cancels : List ℤ → ℕ → Bool
none_cancels list zero = true
none_cancels list (suc i) = none_cancels list i && not (cancels (question_at list i))

-- ---- the answers

-- the answer to a question by one word of a tight table: the word is a bound, and no larger than the question's, a doubled term's halved
abbrev pub answer_of : ℤ → Rule → Bool
answer_of word question = has_rule word && le_z word (bound_of (halved_of question))

-- the word of a table at a place; where there is no place, none
abbrev pub word_there : List ℤ → Option ℕ → ℤ
word_there t (Some k) = word_at t k
word_there t None = no_rule

-- the word that a question is answered from: that of its term, of a doubled one the term taken once
abbrev pub word_for : List ℤ → Rule → ℤ
word_for t question = word_there t (find_place (halved_of question))

-- the answer to question i + 1
unfoldable pub answer_at : List ℤ → List ℤ → ℕ → Bool
answer_at t list i = answer_of (word_for t (question_at list i)) (question_at list i)

-- the answers to the first m questions as one number, bit i that to question i + 1
unfoldable pub yes_up_to : List ℤ → List ℤ → ℕ → ℕ
yes_up_to t list zero = 0
yes_up_to t list (suc i) = yes_up_to t list i + cond (answer_at t list i) (2 ^ i) 0

-- is the answer to question i + 1 yes, by that number?
abbrev pub is_yes : ℕ → ℕ → Bool
is_yes answers i = bit_at answers i
