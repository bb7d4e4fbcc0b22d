-- Document 01's number and values of each verdict, and what is returned for each reply of marking two tables.
use Rattle.std.specs.Prelude.{Bool, true, false, List, ℕ, ℤ, Result, Ok, Err}
use Rattle.rules.specs.declared.rule.Rule.{Rule}
use Rattle.rules.specs.declared.refusal.Refusal.{Refusal}
use Rattle.rules.specs.Refusal.{refusal_value, Returned, refused_as}
use Rattle.rules.specs.RuleWords.{rule_values, rule_words}
use Rattle.rules.specs.Steps.{trivial_rule}
use Rattle.marking.specs.declared.verdict.Verdict.{Verdict}
use Rattle.marking.specs.declared.verdict.Verdict.TheVariants.{Equal, Loose, Tight}

-- the number of a verdict
abbrev pub verdict_number : Verdict → ℕ
verdict_number Equal = 100
verdict_number (Loose r) = 101
verdict_number (Tight r) = 102

-- the rule that it carries; the trivial rule, which has no values, where it carries none
abbrev pub carried_rule : Verdict → Rule
carried_rule Equal = trivial_rule
carried_rule (Loose r) = r
carried_rule (Tight r) = r

-- a verdict as it is returned
abbrev pub verdict_returned : Verdict → Returned
verdict_returned v = record { number = verdict_number v; values = rule_values (carried_rule v) }

-- a host's three words after a verdict: with loose and tight those of its rule, all 0 where it carries none; with equal as they were
abbrev pub carried_words : List ℤ → Verdict → List ℤ
carried_words before Equal = before
carried_words before (Loose r) = rule_words r
carried_words before (Tight r) = rule_words r

-- does an assignment come with the verdict?
abbrev pub is_shown : Verdict → Bool
is_shown Equal = false
is_shown (Loose r) = true
is_shown (Tight r) = true

-- ---- a reply: a verdict or a refusal

abbrev pub Marking : Type 0
Marking = Result Verdict Refusal

-- as it is returned
abbrev pub marking_returned : Marking → Returned
marking_returned (Ok v) = verdict_returned v
marking_returned (Err f) = refused_as f

abbrev pub marking_number : Marking → ℕ
marking_number r = (marking_returned r).number

-- a refusal's line or length as one number, 0 where there is none
abbrev pub marking_value : Marking → ℕ
marking_value (Ok v) = 0
marking_value (Err f) = refusal_value f

-- is it a verdict?
abbrev pub is_marked : Marking → Bool
is_marked (Ok v) = true
is_marked (Err f) = false

-- does an assignment come with it?
abbrev pub is_marking_shown : Marking → Bool
is_marking_shown (Ok v) = is_shown v
is_marking_shown (Err f) = false
