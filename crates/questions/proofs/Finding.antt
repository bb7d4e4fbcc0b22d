-- A question that passed the check is the rule of its words, and its term, halved, has a place in the table. Assumes nothing.
use mathlib.Core.Path.{◌≡◌, refl, sym, ◌∙◌, ap}
use mathlib.Core.List.{List}
use Prim.Native.Nat.{ℕ, ◌<◌}
use lib.IntN.{ℤ}
use Rattle.words.specs.Change.{word_at}
use Rattle.places.specs.Numbering.{block_start}
use Rattle.rules.specs.declared.rule.Rule.{Rule}
use Rattle.rules.specs.Steps.{halved_of}
use Rattle.tables.specs.Meaning.{Cancels}
use Rattle.tables.specs.Given.{GivenWithin}
use Rattle.tables.specs.Places.{HasPlace, find_place}
use Rattle.tables.proofs.Giving.{given_place}
use Rattle.tables.proofs.Places.{has_place_found, found_inside, at_nowhere}
use Rattle.questions.specs.Questions.{first_of, second_of, bound_word, question_at, answer_of, answer_at}
use Rattle.questions.specs.Inner.{QuestionGiven}
use Rattle.std.specs.Prelude.{Option, Some, None, Ok}

module _ (n : ℕ) (list : List ℤ) (i : ℕ) (w : GivenWithin n (first_of list i) (second_of list i) (bound_word list i)) (d : Cancels (question_at list i) → ⊥) where
  pub question_place : HasPlace n (halved_of (question_at list i))
  question_place = given_place n (first_of list i) (second_of list i) (bound_word list i) w d

  pub question_inside : (k : ℕ) → find_place (halved_of (question_at list i)) ≡ Some k → k < block_start n
  question_inside k e = (found_inside (halved_of (question_at list i)) k e n).1 question_place

-- the answer from the word at the place
pub answer_there : (tight list : List ℤ) (i k : ℕ) → find_place (halved_of (question_at list i)) ≡ Some k → answer_at tight list i ≡ answer_of (word_at tight k) (question_at list i)
unfolding answer_at
answer_there tight list i k e = rw e

-- a question as it is given: the rule, half of it and the place of that
module _ (n : ℕ) (list : List ℤ) (i : ℕ) (rule half : Rule) (place : Option ℕ) (g : QuestionGiven n list i (Ok rule)) (h : half ≡ halved_of rule) (p : place ≡ find_place half) where
  is : rule ≡ question_at list i
  is = ((g.stated rule).0 refl).2

  found : find_place (halved_of (question_at list i)) ≡ place
  found = rw (← is) (sym (p ∙ ap find_place h))

  pub given_somewhere : place ≡ None → ⊥
  given_somewhere e =
      let z = (g.stated rule).0 refl in
      at_nowhere (sym (has_place_found n (halved_of (question_at list i)) (question_place n list i z.0 z.1)) ∙ found ∙ e)

  module _ (k : ℕ) (e : place ≡ Some k) where
    pub given_inside : k < block_start n
    given_inside = let z = (g.stated rule).0 refl in question_inside n list i z.0 z.1 k (found ∙ e)

    pub given_answer : (tight : List ℤ) → answer_of (word_at tight k) rule ≡ answer_at tight list i
    given_answer tight = rw is (sym (answer_there tight list i k (found ∙ e)))
