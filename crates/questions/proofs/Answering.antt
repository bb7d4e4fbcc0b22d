-- One question answered from one word of a tight table: yes exactly when every assignment of the sheet meets it. Assumes nothing.
use mathlib.Core.Path.{◌≡◌, refl}
use mathlib.Core.Bool.{Bool, true}
use mathlib.Core.List.{List}
use mathlib.Core.Logic.Iff
use mathlib.Core.Logic.{◌↔◌}
use Prim.Native.Nat.{ℕ, ◌<◌}
use native.Mathlib.Omega.{arith}
use lib.IntN.{ℤ}
use lib.Signed.{le_z, ◌≤ℤ◌}
use Rattle.integers.proofs.Parts.{linear, le_z_true, le_le_z}
use Rattle.words.specs.Change.{word_at}
use Rattle.places.specs.Numbering.{block_start}
use Rattle.rules.specs.declared.rule.Rule.{Rule}
use Rattle.rules.specs.Meaning.{Assignment, Meets, bound_of}
use Rattle.rules.specs.Steps.{halved_of}
use Rattle.rules.proofs.Meanings.{halved_meaning, in_order_meaning}
use Rattle.tables.specs.Places.{rule_at, find_place}
use Rattle.tables.specs.Tables.{has_rule}
use Rattle.tables.specs.Meaning.{HoldsRule, Satisfies, MetByAll}
use Rattle.tables.proofs.Places.{found_in_order}
use Rattle.tables.proofs.Tests.{both_true}
use Rattle.tables.proofs.Values.{meets_at, at_meets}
use Rattle.tightening.specs.Meaning.{TightTable}
use Rattle.questions.specs.Questions.{answer_of}
use Rattle.questions.specs.Promises.{Answers}
use Rattle.std.specs.Prelude.{Some}

-- an assignment meets a question exactly where it meets its bound, a doubled term's halved, on the term at its place
pub at_question : (k : ℕ) (question : Rule) → find_place (halved_of question) ≡ Some k → (σ : Assignment) → Meets σ (rule_at k (bound_of (halved_of question))) ↔ Meets σ question
at_question k question e σ =
    rw (found_in_order (halved_of question) k e) (Iff.trans (in_order_meaning σ (halved_of question)) (halved_meaning σ question))

-- a larger bound is met too
met_larger : (k : ℕ) (c d : ℤ) (σ : Assignment) → c ≤ℤ d → Meets σ (rule_at k c) → Meets σ (rule_at k d)
met_larger k c d σ h m = at_meets σ k d (omega (linear, h, meets_at σ k c m))

module _ (n k : ℕ) (sheet tight : List ℤ) (question : Rule) (x : TightTable n (Satisfies n sheet) tight) (h : k < block_start n) (e : find_place (halved_of question) ≡ Some k) where
  yes_means : answer_of (word_at tight k) question ≡ true → MetByAll (Satisfies n sheet) question
  yes_means y σ s =
      let p = both_true (has_rule (word_at tight k)) (le_z (word_at tight k) (bound_of (halved_of question))) y in
      let holds : HoldsRule n tight k = record { inside = h; there = omega (arith, x.room); rule = p.0 } in
      (at_question k question e σ).0 (met_larger k (word_at tight k) (bound_of (halved_of question)) σ (omega (linear, le_z_true (word_at tight k) (bound_of (halved_of question)) p.1)) ((x.least k holds).met σ s))

  means_yes : MetByAll (Satisfies n sheet) question → answer_of (word_at tight k) question ≡ true
  means_yes m =
      let met : MetByAll (Satisfies n sheet) (rule_at k (bound_of (halved_of question))) = λ σ s. (at_question k question e σ).1 (m σ s) in
      let holds = (x.rule k h).1 (λ q d. refl, record { bound = bound_of (halved_of question); met = met }) in
      rw (holds.rule, le_le_z (word_at tight k) (bound_of (halved_of question)) ((x.least k holds).least (bound_of (halved_of question)) met))

  pub answer_right : (answer_of (word_at tight k) question ≡ true) ↔ MetByAll (Satisfies n sheet) question
  answer_right = (yes_means, means_yes)

pub answers_from : (word : ℤ) (question : Rule) (r : Bool) → r ≡ answer_of word question → Answers word question r
answers_from word question r e = record {
  reply = e;
  right = λ n k sheet tight x h p w. rw (e, w) (answer_right n k sheet tight question x h p);
}
