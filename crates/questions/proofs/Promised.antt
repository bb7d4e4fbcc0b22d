-- The contract of asking, from plain facts: the answers from a tight table mean what they say, and the call is refused by the first need that is not met. Assumes nothing.
use mathlib.Core.Path.{◌≡◌, refl, sym, ◌∙◌, ap}
use mathlib.Core.Bool.{Bool, true, false, cond, not}
use mathlib.Core.List.{List}
use mathlib.Core.Logic.Iff
use mathlib.Core.Logic.{◌↔◌}
use Prim.Native.Nat.{ℕ, ◌≤◌, ◌<◌}
use native.Mathlib.Omega.{arith}
use lib.IntN.{ℤ, pos}
use lib.ListN.{length}
use lib.Signed.{le_z}
use Rattle.integers.proofs.Parts.{le_z_false}
use Rattle.words.specs.Change.{word_at}
use Rattle.words.specs.Lent.{Lent}
use Rattle.places.specs.Numbering.{block_start}
use Rattle.rules.specs.declared.refusal.Refusal.{Refusal}
use Rattle.rules.specs.declared.refusal.Refusal.TheVariants.{NoAssignment}
use Rattle.rules.specs.Meaning.{bound_of}
use Rattle.rules.specs.Refusal.{Returned, refused_as}
use Rattle.rules.specs.Refusing.{passed, AllMet, DecidedBy}
use Rattle.rules.specs.Steps.{halved_of}
use Rattle.rules.proofs.Refusals.{same_refusal, refusal-number}
use Rattle.tables.specs.Places.{rule_at, find_place}
use Rattle.tables.specs.Replies.{Reply, check}
use Rattle.tables.specs.Tables.{has_rule}
use Rattle.tables.specs.Meaning.{Satisfies, Unsatisfiable, Breaks, MetByAll}
use Rattle.tables.proofs.Places.{has_place_found}
use Rattle.tables.proofs.Refusing.{decided_as}
use Rattle.tables.proofs.Tests.{clash}
use Rattle.keys.specs.Keys.{refuted}
use Rattle.keys.specs.Inner.{Fits}
use Rattle.keys.proofs.Checking.{checked_fits, decided_none}
use Rattle.keys.proofs.Promised.{untouched}
use Rattle.tightening.specs.Tightening.{tightened}
use Rattle.tightening.specs.Meaning.{TightTable}
use Rattle.tightening.specs.Promises.{LeastBound, TightTried}
use Rattle.tightening.proofs.Least.{clash_refuted, tightened_least}
use Rattle.questions.specs.Questions.{question_count, question_at, answer_of, answer_at, word_for, yes_up_to, is_yes}
use Rattle.questions.specs.Meaning.{ask_needs_then, ask_needs}
use Rattle.questions.specs.declared.reply.Answers.{Answers as AnswersGiven}
use Rattle.questions.specs.Replies.{Asked, answer_values, asked_returned, asked_number}
use Rattle.questions.specs.Asking.{ask_checks, answered_as, ask_reply, changes_workspace}
use Rattle.questions.specs.Promises.{AnswersTold, ListAnswers, QuestionsAsked}
use Rattle.questions.specs.Inner.{AskReady}
use Rattle.questions.proofs.Answering.{at_question, answer_right, answers_from}
use Rattle.questions.proofs.Finding.{question_place, question_inside, answer_there}
use Rattle.questions.proofs.Bits.{yes_bit, yes_past, yes_same, values_length, values_word}
use Rattle.questions.proofs.TightWords.{tight_word, unhidden}
use Rattle.questions.proofs.Checking.{ask_tied, ask_before, ask_done}
use Rattle.std.specs.Prelude.{Some, Ok, Err}

-- ---- a reply, by its checks

module _ (count answers : ℕ) where
  answered_refused : (r : Reply) (f : Refusal) → (asked_returned (answered_as r count answers) ≡ refused_as f) ↔ (r ≡ Err f)
  answered_refused r f = (go r, λ e. rw e)
    where
      go : (r : Reply) → asked_returned (answered_as r count answers) ≡ refused_as f → r ≡ Err f
      go (Ok tt) e = absurd (refusal-number f (sym (ap (λ (x : Returned). x.number) e)))
      go (Err g) e = ap Err (same_refusal g f e)

  answered_done : (r : Reply) → (asked_number (answered_as r count answers) ≡ 0) ↔ (r ≡ Ok tt)
  answered_done r = (go r, λ e. rw e)
    where
      go : (r : Reply) → asked_number (answered_as r count answers) ≡ 0 → r ≡ Ok tt
      go (Ok tt) e = refl
      go (Err f) e = absurd (refusal-number f e)

module _ (n : ℕ) (t list : List ℤ) (w : ℕ) where
  ask_decided : (r : Asked) → r ≡ ask_reply n t list w → DecidedBy (ask_needs n t list w) (λ f. asked_returned r ≡ refused_as f) (asked_number r ≡ 0)
  unfolding ask_reply
  ask_decided r e = rw e (decided_as (ask_tied n t list w) (answered_refused _ _ _) (answered_done _ _ _))

  -- past the checks before 5
  ask_late : AllMet (ask_needs_then n t list w passed)
      → ask_reply n t list w ≡ answered_as (check (not (refuted n t)) NoAssignment (Ok tt)) (question_count (length list)) (yes_up_to (tightened n t) list (question_count (length list)))
  unfolding ask_reply
  ask_late p = rw ((ask_before n t list w).goes_on (ask_done n t list w p) (check (not (refuted n t)) NoAssignment (Ok tt)))

  ask_none : (r : Asked) → r ≡ ask_reply n t list w → AllMet (ask_needs_then n t list w passed) → (asked_number r ≡ 5) ↔ Unsatisfiable n t
  ask_none r e p = (go (refuted n t) refl, λ u. rw (e ∙ ask_late p, known.1 u))
    where
      known : (refuted n t ≡ true) ↔ Unsatisfiable n t
      known = decided_none n 0 t p.0 p.1.1.1.0.0

      go : (b : Bool) → refuted n t ≡ b → asked_number r ≡ 5 → Unsatisfiable n t
      go true c z = known.0 c
      go false c z = let y : asked_number r ≡ 0 = rw (e ∙ ask_late p, c) in let x : ⊥ = omega (arith, y, z) in absurd x

-- ---- refused

module _ (n : ℕ) (t list w w' : List ℤ) where
  refused_as_lem : (f : Refusal) → Err f ≡ ask_reply n t list (length w) → Lent (block_start n) (changes_workspace (Err f)) w w' → QuestionsAsked n t list w (Err f) w'
  refused_as_lem f e l = record {
    reply = e;
    decided = ask_decided n t list (length w) (Err f) e;
    none = ask_none n t list (length w) (Err f) e;
    lent = l;
    told = λ z. absurd (refusal-number f z);
    answered = λ a d. cc;
  }

-- by the checks, with nothing changed
pub ask_refused : (n : ℕ) (t list w : List ℤ) (f : Refusal) → Err f ≡ ask_checks n t list (length w) (Ok tt) → QuestionsAsked n t list w (Err f) w
unfolding ask_reply
ask_refused n t list w f e =
    refused_as_lem n t list w w f (sym (rw ((ask_before n t list (length w)).stands f (sym e) (check (not (refuted n t)) NoAssignment (Ok tt))))) (untouched (block_start n) _ w)

-- ---- values

-- 1 for yes, and 0 for no
one_when : (b : Bool) → (cond b (pos 1) (pos 0) ≡ pos 1) ↔ (b ≡ true)
one_when true = (λ e. refl, λ e. refl)
one_when false = (λ e. absurd (cc), λ e. clash e refl)

zero_when : (b : Bool) → (cond b (pos 1) (pos 0) ≡ pos 0) ↔ (b ≡ false)
zero_when true = (λ e. absurd (cc), λ e. clash refl e)
zero_when false = (λ e. refl, λ e. refl)

failed : (b : Bool) → (b ≡ true → ⊥) → b ≡ false
failed true h = absurd (h refl)
failed false h = refl

-- ---- past the checks

module _ (n : ℕ) (t list w w' : List ℤ) (ready : AskReady n t list (length w)) where
  -- 5
  pub ask_five : TightTried n 0 t w true w' → QuestionsAsked n t list w (Err NoAssignment) w'
  ask_five d = refused_as_lem n t list w w' NoAssignment (sym (rw (ask_late n t list (length w) ready.met, sym d.reply))) d.lent

  module _ (d : TightTried n 0 t w false w') where
    fits : Fits n t
    fits = checked_fits n 0 t ready.met.0 ready.met.1.1.1.0.0

    table_room : block_start n ≤ length t
    table_room = ready.met.0.room

    tight : TightTable n (Satisfies n t) w'
    tight = unhidden n (Satisfies n t) w' (d.made refl ready.words)

    word : (k : ℕ) → k < block_start n → word_at w' k ≡ word_at (tightened n t) k
    word = tight_word n t w' table_room (d.tight refl)

    module _ (i : ℕ) (h : i < question_count (length list)) where
      -- the place of a question's term
      record Found : Type 0 where
        at : ℕ
        place : find_place (halved_of (question_at list i)) ≡ Some at
        inside : at < block_start n

      found : Found
      found =
          let v = ready.met.1.1.1.0.1 i h in
          let z = ready.met.1.1.1.1.0 i h in
          let e = has_place_found n (halved_of (question_at list i)) (question_place n list i v z) in
          record { at = _; place = e; inside = question_inside n list i v z _ e }

      same_answer : answer_at w' list i ≡ answer_at (tightened n t) list i
      same_answer =
          answer_there w' list i found.at found.place
          ∙ ap (λ (x : ℤ). answer_of x (question_at list i)) (word found.at found.inside)
          ∙ sym (answer_there (tightened n t) list i found.at found.place)

      right : (answer_at w' list i ≡ true) ↔ MetByAll (Satisfies n t) (question_at list i)
      right = rw (answer_there w' list i found.at found.place) (answer_right n found.at t w' (question_at list i) tight found.inside found.place)

      -- a bound below the least one is broken
      below : Breaks (Satisfies n t) (rule_at found.at (bound_of (halved_of (question_at list i)))) → Breaks (Satisfies n t) (question_at list i)
      below b = record { assignment = b.assignment; satisfies = b.satisfies; broken = λ m. b.broken ((at_question found.at (question_at list i) found.place b.assignment).1 m) }

      least : LeastBound n t found.at (word_at w' found.at)
      least = rw (word found.at found.inside) (tightened_least n t fits (clash_refuted n t fits ∙ sym d.reply) found.at found.inside)

      breaks : answer_at w' list i ≡ false → Breaks (Satisfies n t) (question_at list i)
      breaks e = go (has_rule (word_at w' found.at)) refl (le_z (word_at w' found.at) (bound_of (halved_of (question_at list i)))) refl
        where
          go : (a : Bool) → has_rule (word_at w' found.at) ≡ a → (b : Bool) → le_z (word_at w' found.at) (bound_of (halved_of (question_at list i))) ≡ b → Breaks (Satisfies n t) (question_at list i)
          go false x b y = below (least.none x (bound_of (halved_of (question_at list i))))
          go true x false y = below (least.smaller x (bound_of (halved_of (question_at list i))) (le_z_false (word_at w' found.at) (bound_of (halved_of (question_at list i))) y))
          go true x true y = clash (answer_there w' list i found.at found.place ∙ rw (x, y)) e

    module _ (m a : ℕ) (e : m ≡ question_count (length list)) (f : a ≡ yes_up_to w' list (question_count (length list))) where
      module _ (i : ℕ) (h : i < question_count (length list)) where
        bit : is_yes a i ≡ answer_at w' list i
        bit = rw f (yes_bit w' list (question_count (length list)) i h)

        yes_means : (is_yes a i ≡ true) ↔ MetByAll (Satisfies n t) (question_at list i)
        yes_means = rw bit (right i h)

        -- an assignment that breaks it is none that meets it
        no_means : (is_yes a i ≡ false) ↔ Breaks (Satisfies n t) (question_at list i)
        no_means = (λ z. breaks i h (sym bit ∙ z), λ b. failed (is_yes a i) (λ y. b.broken (yes_means.0 y b.assignment b.satisfies)))

        value : word_at (answer_values a 0 m) i ≡ cond (is_yes a i) (pos 1) (pos 0)
        value = values_word a m i (omega (arith, e))

      list_answers : ListAnswers n t list w' a
      unfolding answer_at
      list_answers = record {
        meaning = yes_means;
        broken = no_means;
        rest = λ i h. rw f (yes_past w' list (question_count (length list)) i h);
        tight_table = tight;
        each = λ i h. answers_from (word_for w' (question_at list i)) (question_at list i) (is_yes a i) (bit i h);
      }

      answers_told : AnswersTold n t list (answer_values a 0 m)
      answers_told = record {
        counted = values_length a 0 m ∙ e;
        yes_when = λ i h. rw (value i h) (Iff.trans (one_when (is_yes a i)) (yes_means i h));
        no_when = λ i h. rw (value i h) (Iff.trans (zero_when (is_yes a i)) (no_means i h));
      }

      same_answers : a ≡ yes_up_to (tightened n t) list (question_count (length list))
      same_answers = f ∙ yes_same w' (tightened n t) list (question_count (length list)) same_answer

      answered_same : Ok (record { count = m; bits = a }) ≡ ask_reply n t list (length w)
      answered_same = sym (ask_late n t list (length w) ready.met ∙ rw (sym d.reply, sym same_answers, sym e))

      same_bits : (b : AnswersGiven) → ◌≡◌ {A = Asked} (Ok (record { count = m; bits = a })) (Ok b) → b.bits ≡ a
      same_bits b g = cc

      pub ask_answered : QuestionsAsked n t list w (Ok (record { count = m; bits = a })) w'
      ask_answered = record {
        reply = answered_same;
        decided = ask_decided n t list (length w) (Ok (record { count = m; bits = a })) answered_same;
        none = ask_none n t list (length w) (Ok (record { count = m; bits = a })) answered_same;
        lent = d.lent;
        told = λ z. answers_told;
        answered = λ b g. rw (same_bits b g) list_answers;
      }
