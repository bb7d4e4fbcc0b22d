-- The contract of marking two tables for hosts, from that of the call. Assumes nothing.
use Rattle.std.specs.Prelude.{Ok, Err}
use mathlib.Core.Path.{◌≡◌, refl, sym, ap, ◌∙◌}
use mathlib.Core.Bool.{true}
use mathlib.Core.Logic.{◌↔◌, inl, inr}
use mathlib.Core.List.{List}
use Prim.Native.Nat.{ℕ, ◌<◌, ◌≤◌}
use native.Mathlib.Omega.{arith}
use lib.IntN.{ℤ}
use lib.ListN.{length}
use Rattle.rules.specs.declared.refusal.Refusal.{Refusal}
use Rattle.rules.specs.Hidden.{hidden_in}
use Rattle.rules.specs.Refusal.{refusal_number, Returned, refused_as, answer_value}
use Rattle.rules.specs.Refusing.{RefusedBy}
use Rattle.rules.specs.RuleWords.{rule_values, no_rule_words, rule_of_words}
use Rattle.rules.proofs.Refusals.{same_refusal_value, same_refusal, refusal_below}
use Rattle.tables.specs.Meaning.{Satisfies, Unsatisfiable}
use Rattle.tables.proofs.Tests.{clash}
use Rattle.tables.proofs.Refusing.{decided_as}
use Rattle.marking.specs.declared.verdict.Verdict.{Verdict}
use Rattle.marking.specs.declared.verdict.Verdict.TheVariants.{Equal, Loose, Tight}
use Rattle.marking.specs.Verdicts.{Marking, verdict_number, carried_words, marking_returned, marking_number, marking_value, is_marked}
use Rattle.marking.specs.Meaning.{mark_needs}
use Rattle.marking.specs.Promises.{TablesMarked}
use Rattle.marking.proofs.Carried.{verdict_from, verdict_refusal, words_values, loose_words}
use Rattle.marking.proofs.Told.{value_told}
use Rattle.acornsled.specs.Promises.{TellsRefusal, rule_given, MarkTablesAnswer}
use Rattle.acornsled.proofs.Promised.{number, means_told}

-- ---- a reply by its number and value

-- a refusal is told by them exactly where it is returned
marking_told : (x : Marking) (f : Refusal) → TellsRefusal (marking_number x) (marking_value x) f ↔ (marking_returned x ≡ refused_as f)
marking_told (Ok v) f = (λ e. absurd (verdict_refusal v f e.0), λ e. absurd (verdict_refusal v f (ap number e)))
marking_told (Err g) f = (λ e. ap refused_as (same_refusal_value g f e.0 e.1), λ e. let d = same_refusal g f e in (rw d, rw d))

-- a number from 100 on is a verdict's
marking_from : (x : Marking) → (100 ≤ marking_number x) ↔ (is_marked x ≡ true)
marking_from (Ok v) = (λ h. refl, λ e. verdict_from v)
marking_from (Err f) = (λ h. absurd (omega (arith, refusal_below f)), λ e. clash e refl)

-- the words that come with a loose or tight verdict are of the rule that it carries
given_same : (before : List ℤ) (x : Marking) → 100 < marking_number x
    → ◌≡◌ {A = Returned} (record { number = marking_number x; values = rule_values (rule_of_words (rule_given before x)) }) (marking_returned x)
given_same before (Ok Equal) h = absurd (omega arith)
given_same before (Ok (Loose rule)) h = rw (words_values rule)
given_same before (Ok (Tight rule)) h = rw (words_values rule)
given_same before (Err f) h = absurd (omega (arith, refusal_below f))

-- no need of the call is refused with 5
needs_never : (n set w v : ℕ) (sheet script : List ℤ) (f : Refusal) → RefusedBy (mark_needs n set sheet script w v) f → (refusal_number f ≡ 5) → ⊥
needs_never n set w v sheet script f (inl x) e = omega (arith, rw x.1 at e)
needs_never n set w v sheet script f (inr (a, inl x)) e = omega (arith, rw x.1 at e)
needs_never n set w v sheet script f (inr (a, inr (b, inl x))) e = omega (arith, rw x.1 at e)
needs_never n set w v sheet script f (inr (a, inr (b, inr (c, inl x)))) e = omega (arith, rw x.1 at e)
needs_never n set w v sheet script f (inr (a, inr (b, inr (c, inr (d, inl x))))) e = omega (arith, rw x.1 at e)
needs_never n set w v sheet script f (inr (a, inr (b, inr (c, inr (d, inr x))))) e = x.1

-- ---- a loose verdict without a rule

module _ {n set : ℕ} {sheet script w u w' u' : List ℤ} where
  -- its words are all 0
  given_none : (before : List ℤ) (x : Marking) → TablesMarked n set sheet script w u x w' u' → (marking_number x ≡ 101)
      → Unsatisfiable n sheet ↔ (rule_given before x ≡ no_rule_words)
  given_none before (Ok Equal) m e = absurd (omega arith)
  given_none before (Ok (Loose rule)) m e = loose_words (hidden_in set) n sheet (Satisfies n script) rule ((m.means refl).loose rule refl).0
  given_none before (Ok (Tight rule)) m e = absurd (omega arith)
  given_none before (Err f) m e = absurd (omega (arith, refusal_below f))

  -- and 5 is no number of a reply
  marked_never : (x : Marking) → TablesMarked n set sheet script w u x w' u' → (marking_number x ≡ 5) → ⊥
  marked_never (Ok v) m e = omega (arith, verdict_from v)
  marked_never (Err f) m e = needs_never n set (length w) (length u) sheet script f ((m.decided.refused f).0 refl) e

-- ---- the call

-- a reply's number and words
tables_answer : (n set : ℕ) (sheet script w u rule w' u' rule' : List ℤ) (reply : Marking) (r v : ℕ) → TablesMarked n set sheet script w u reply w' u'
    → r ≡ marking_number reply → v ≡ marking_value reply → rule' ≡ rule_given rule reply → MarkTablesAnswer n set sheet script w u rule r v w' u' rule'
tables_answer n set sheet script w u rule w' u' rule' reply r v m e d c = record {
  number = e ∙ ap marking_number m.reply;
  value = d ∙ ap marking_value m.reply;
  words = c ∙ ap (rule_given rule) m.reply;
  decided = rw (e, d) (decided_as m.decided (marking_told reply) (marking_from reply));
  call = rw m.reply at m;
  means = rw (e, c) (λ h. means_told _ (marking_returned reply) refl (given_same rule reply) (m.means ((marking_from reply).0 h)));
  none = rw (e, c) (given_none rule reply m);
  own_key = λ k l h. e ∙ ap number (m.own_key k l h);
  never = rw e (marked_never reply m);
}

module _ {n set : ℕ} {sheet script w u rule w' u' : List ℤ} {reply : Marking} (m : TablesMarked n set sheet script w u reply w' u') where
  -- a refusal leaves the rule's words
  pub tables_refused : {f : Refusal} {r v : ℕ} → reply ≡ Err f → r ≡ refusal_number f → v ≡ answer_value reply
      → MarkTablesAnswer n set sheet script w u rule r v w' u' rule
  tables_refused {f} {r} {v} q e d =
      tables_answer n set sheet script w u rule w' u' rule reply r v m (e ∙ sym (ap marking_number q)) (d ∙ value_told reply) (sym (ap (rule_given rule) q))

  -- a verdict gives those of the rule that it carries
  pub tables_marked : {rule' : List ℤ} {verdict : Verdict} {r v : ℕ} → reply ≡ Ok verdict → r ≡ verdict_number verdict → v ≡ answer_value reply
      → rule' ≡ carried_words rule verdict → MarkTablesAnswer n set sheet script w u rule r v w' u' rule'
  tables_marked {rule'} {verdict} {r} {v} q e d c =
      tables_answer n set sheet script w u rule w' u' rule' reply r v m (e ∙ sym (ap marking_number q)) (d ∙ value_told reply) (c ∙ sym (ap (rule_given rule) q))
