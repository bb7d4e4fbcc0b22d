-- A list of questions cut into threes: each piece has the words of a question, and the next one begins where it ends. Assumes nothing.
use mathlib.Core.Path.{◌≡◌, sym, ◌∙◌, ap}
use mathlib.Core.List.{List, ◌++◌}
use Prim.Native.Nat.{ℕ, ◌+◌, ◌*◌, ◌≤◌, ◌<◌}
use native.Mathlib.Omega.{arith}
use lib.IntN.{ℤ}
use lib.ListN.{length, drop}
use Rattle.std.proofs.lemmas.Grind.{common_steps}
use Rattle.std.proofs.lemmas.List.{drop_at, drop-drop, length-append, length-drop}
use Rattle.tables.specs.Given.{Given}
use Rattle.questions.specs.Questions.{question_count, first_of, second_of, bound_word, answer_at}
use Rattle.questions.specs.Inner.{QuestionGiven, Answerable, AllAnswerable}

-- the words that are left after the first i questions, to be cut into pieces of so many
pub record Left (list left : List ℤ) (size i : ℕ) : Type 0 where
  pub begins : left ≡ drop (3 * i) list
  pub three : size ≡ 3
  pub reached : 3 * i ≤ length list

-- a piece is question i + 1
pub record Piece (list item : List ℤ) (i : ℕ) : Type 0 where
  pub long : length item ≡ 3
  pub among : i < question_count (length list)
  pub first : first_of item 0 ≡ first_of list i
  pub second : second_of item 0 ≡ second_of list i
  pub bound : bound_word item 0 ≡ bound_word list i

-- no piece is left behind the last question
pub left_none : {list before : List ℤ} {size i : ℕ} → Left list before size i → length before < size → i ≡ question_count (length list)
left_none {list} {before} {size} {i} l h = omega (arith, ap length l.begins, length-drop (3 * i) list, l.three, l.reached)

-- else there is one more, question i + 1, and the rest begins with the next
module _ (list before item left : List ℤ) (size i : ℕ) (l : Left list before size i) (s : (before ≡ item ++ left) × (length item ≡ size)) where
  three : length item ≡ 3
  three = omega (arith, s.1, l.three)

  split : drop (3 * i) list ≡ item ++ left
  split = sym l.begins ∙ s.0

  room : 3 * i + 3 ≤ length list
  room = omega (arith, ap length split, length-append item left, length-drop (3 * i) list, three, l.reached)

  pub piece : Piece list item i
  piece = let d = split in let t = three in record {
    long = t;
    among = omega (arith, room);
    first = grind (arith, common_steps);
    second = grind (arith, common_steps);
    bound = grind (arith, common_steps);
  }

  pub left_more : (after : ℕ) → after ≡ size → Left list left after (i + 1)
  left_more after e = record {
    begins = sym (drop_at item left 3 three) ∙ ap (drop 3) (sym split) ∙ drop-drop 3 (3 * i) list ∙ ap (λ (k : ℕ). drop k list) (omega arith);
    three = e ∙ l.three;
    reached = omega (arith, room);
  }

module _ {list item : List ℤ} {i : ℕ} (p : Piece list item i) where
  pub same_given : (n : ℕ) (g : Given) → QuestionGiven n item 0 g → QuestionGiven n list i g
  same_given n g q = rw (p.first, p.second, p.bound) at q

  pub same_answer : (t : List ℤ) → answer_at t item 0 ≡ answer_at t list i
  unfolding answer_at
  same_answer t = rw (p.first, p.second, p.bound)

  pub answerable : (n : ℕ) (t : List ℤ) → AllAnswerable n t list (question_count (length list)) → Answerable n t item 0
  answerable n t a = record {
    most = a.most;
    tight_room = a.tight_room;
    list_room = omega (arith, p.long);
    within = rw (p.first, p.second, p.bound) (a.within i p.among);
    states = rw (p.first, p.second, p.bound) (a.states i p.among);
  }
