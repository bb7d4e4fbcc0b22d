-- A line's answer by document 01's numbers and values. Assumes nothing.
use mathlib.Core.Path.{◌≡◌, refl, sym, ap}
use mathlib.Core.Logic.{◌↔◌}
use mathlib.Core.List.{List}
use Prim.Native.Nat.{ℕ}
use lib.IntN.{ℤ}
use Rattle.rules.specs.declared.refusal.Refusal.{Refusal}
use Rattle.rules.specs.declared.rule.Rule.{Rule}
use Rattle.rules.specs.Hidden.{set_of}
use Rattle.rules.specs.Refusal.{Returned, refused_as}
use Rattle.rules.specs.RuleWords.{rule_values}
use Rattle.rules.proofs.Refusals.{same_refusal, refusal-number}
use Rattle.lines.specs.Spelling.{Written, written_rule}
use Rattle.lines.specs.Lines.{Judged, accepted, refused}
use Rattle.lines.specs.Answers.{Line, answer_of, count_answer, hidden_answer, rule_answer, number_values, answer_returned, LineAnswered}
use Rattle.lines.proofs.Found.{not_both}

-- what is made of an accepted line is returned as 0
answered : {A B : Type 0} (values : B → List ℤ) (make : A → B) (s : List ℕ) (j : Judged A) (r : Line B) → r ≡ answer_of make s j
    → LineAnswered values (answer_of make s) j r
answered {A} values make s j r e = record { reply = e; refuses = λ f. rw e (refuses j f); accepts = rw e (accepts j) }
  where
    refuses : (j : Judged A) (f : Refusal) → (answer_returned values (answer_of make s j) ≡ refused_as f) ↔ (j ≡ refused f)
    refuses (accepted a u) f = (
      λ q. absurd (refusal-number f (sym (ap (λ (x : Returned). x.number) q))),
      λ q. absurd (not_both (sym q)),
    )
    refuses (refused g) f = (λ q. ap refused (same_refusal g f q), λ q. let same : g ≡ f = cc in ap refused_as same)

    accepts : (j : Judged A) → ((answer_returned values (answer_of make s j)).number ≡ 0) ↔ ((a : A) × (u : List ℕ) × (j ≡ accepted a u))
    accepts (accepted a u) = (λ q. (a, u, refl), λ q. refl)
    accepts (refused g) = (λ q. absurd (refusal-number g q), λ q. absurd (not_both q.2))

pub count_answered : (s : List ℕ) (j : Judged ℕ) (r : Line ℕ) → r ≡ count_answer s j → LineAnswered number_values (count_answer s) j r
unfolding count_answer
count_answered s j r e = answered number_values (λ v. v) s j r e

pub hidden_answered : (s : List ℕ) (j : Judged (List ℕ)) (r : Line ℕ) → r ≡ hidden_answer s j → LineAnswered number_values (hidden_answer s) j r
unfolding hidden_answer
hidden_answered s j r e = answered number_values set_of s j r e

pub rule_answered : (s : List ℕ) (j : Judged Written) (r : Line Rule) → r ≡ rule_answer s j → LineAnswered rule_values (rule_answer s) j r
unfolding rule_answer
rule_answered s j r e = answered rule_values written_rule s j r e
