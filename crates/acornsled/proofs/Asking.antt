-- The contract of `acornsled_ask`, from that of the call. Assumes nothing.
use Rattle.std.specs.Prelude.{Ok, Err}
use mathlib.Core.Path.{◌≡◌, refl, sym, ◌∙◌, ap}
use mathlib.Core.Logic.Iff
use mathlib.Core.Logic.{◌↔◌}
use mathlib.Core.List.{List}
use Prim.Native.Nat.{ℕ}
use lib.IntN.{ℤ}
use Rattle.rules.specs.declared.refusal.Refusal.{Refusal}
use Rattle.rules.specs.Refusal.{refusal_number, refused_as, answer_value}
use Rattle.rules.proofs.Refusals.{same_refusal_value, same_refusal, refusal-number}
use Rattle.tables.proofs.Refusing.{decided_as}
use Rattle.questions.specs.declared.reply.Answers.{Answers}
use Rattle.questions.specs.Replies.{Asked, asked_returned, asked_number, asked_value, answers_after}
use Rattle.questions.specs.Promises.{QuestionsAsked}
use Rattle.questions.proofs.Told.{value_told}
use Rattle.acornsled.specs.Promises.{TellsRefusal, AskAnswer}
use Rattle.acornsled.proofs.Promised.{number}

-- a reply by its number and value is a reply as it is returned
asked_told : (x : Asked) (f : Refusal) → TellsRefusal (asked_number x) (asked_value x) f ↔ (asked_returned x ≡ refused_as f)
asked_told (Ok a) f = (λ e. absurd (refusal-number f (sym e.0)), λ e. absurd (refusal-number f (sym (ap number e))))
asked_told (Err g) f = (λ e. ap refused_as (same_refusal_value g f e.0 e.1), λ e. let d = same_refusal g f e in (rw d, rw d))

module _ {n : ℕ} {t list w : List ℤ} {before : ℕ} {w' : List ℤ} {asked : Asked} (q : QuestionsAsked n t list w asked w') where
  -- refused: the answers stay
  pub ask_refused : {f : Refusal} {r v : ℕ} → asked ≡ Err f → r ≡ refusal_number f → v ≡ answer_value asked → AskAnswer n t list w before r v w' before
  ask_refused {f} {r} {v} e k h =
      let d : r ≡ asked_number asked = k ∙ sym (ap asked_number e) in
      let g : v ≡ asked_value asked = h ∙ value_told asked in
      record {
        number = d ∙ ap asked_number q.reply;
        value = g ∙ ap asked_value q.reply;
        bits = sym (ap (answers_after before) (sym q.reply ∙ e));
        decided = rw (d, g) (decided_as q.decided (asked_told asked) Iff.rfl);
        call = rw (sym q.reply) q;
        answered = λ z. absurd (refusal-number f (sym (ap asked_number e) ∙ sym d ∙ z));
        kept = λ z. refl;
      }

  -- answered, by a number that is the reply's
  answered_as : {a : Answers} (r v : ℕ) → asked ≡ Ok a → r ≡ asked_number asked → v ≡ asked_value asked → AskAnswer n t list w before r v w' a.bits
  answered_as {a} r v e d g =
      let l = q.answered a e in
      record {
        number = d ∙ ap asked_number q.reply;
        value = g ∙ ap asked_value q.reply;
        bits = sym (ap (answers_after before) (sym q.reply ∙ e));
        decided = rw (d, g) (decided_as q.decided (asked_told asked) Iff.rfl);
        call = rw (sym q.reply) q;
        answered = λ z. l;
        kept = λ z. absurd (z (d ∙ ap asked_number e));
      }

  pub ask_answered : {a : Answers} {v : ℕ} → asked ≡ Ok a → v ≡ answer_value asked → AskAnswer n t list w before 0 v w' a.bits
  ask_answered {v = v} e h = answered_as 0 v e (sym (ap asked_number e)) (h ∙ value_told asked)
