-- The frauds against marking for hosts, refuted on document 01's sheet A: a function that returns 100 for all texts or tables, one that returns 101 for all, and
-- one that tells no reasons. Assumes nothing.
use mathlib.Core.Path.{◌≡◌, refl, ap, ◌∙◌}
use mathlib.Core.List.{List, [], ◌∷◌}
use Prim.Native.Nat.{ℕ}
use native.Mathlib.Omega.{arith}
use lib.IntN.{ℤ, pos}
use lib.ListN.{length, replicate}
use Rattle.rules.specs.Limits.{max_quantities}
use Rattle.rules.specs.Steps.{trivial_rule, rule_of}
use Rattle.tables.specs.Tables.{table_of}
use Rattle.tables.specs.Meaning.{Satisfies}
use Rattle.tables.proofs.SheetA.{rules}
use Rattle.tables.proofs.SheetA.{wide as wideRules}
use Rattle.marking.specs.declared.verdict.Verdict.TheVariants.{Loose}
use Rattle.marking.proofs.Frauds.{same, no_rule_given}
use Rattle.marking.proofs.Frauds.{equal_on_all as not_equal}
use Rattle.marking.proofs.Frauds.{loose_on_all as not_loose}
use Rattle.numerals.specs.Bytes.{bytes}
use Rattle.scripts.specs.Replies.{marked}
use Rattle.scripts.specs.Replies.{text_number, text_paper, text_value}
use Rattle.reports.proofs.Cases.{sheet_a, wide, narrow, reckoning}
use Rattle.reports.proofs.Shown.{sum_rule, wide_loose, narrow_tight}
use Rattle.acornsled.specs.Promises.{host_reply, MarkAnswer, count_marked, rule_marked, MarkTextsAnswer, MarkTablesAnswer}

-- the script +1:3 is loose, so 100 is not its number, nor is any but 101
pub loose_alone : (r : ℕ) → MarkAnswer (bytes wide.sheet) (bytes wide.script) r → r ≡ 101
loose_alone r m = m.number ∙ ap text_number wide_loose

-- the script +1:2, +1+3:5 is tight, and 102 is the only number
pub tight_alone : (r : ℕ) → MarkAnswer (bytes narrow.sheet) (bytes narrow.script) r → r ≡ 102
tight_alone r m = m.number ∙ ap text_number narrow_tight

-- so a function that returns 100 for all texts does not meet the contract
pub equal_on_all : ((sheet script : List ℕ) → MarkAnswer sheet script 100) → ⊥
equal_on_all f = let e = loose_alone 100 (f (bytes wide.sheet) (bytes wide.script)) in omega arith

-- nor does one that returns 101 for all
pub loose_on_all : ((sheet script : List ℕ) → MarkAnswer sheet script 101) → ⊥
loose_on_all f = let e = tight_alone 101 (f (bytes narrow.sheet) (bytes narrow.script)) in omega arith

-- ---- the reasons

-- the script +1:3 with an assignment of 32 words: no paper and no line, n, and the rule +1+3:5
pub loose_reasons : (n : ℕ) (rule values : List ℤ) (r p v n' : ℕ) (rule' values' : List ℤ) → length values ≡ max_quantities
    → MarkTextsAnswer (bytes wide.sheet) (bytes wide.script) n rule values r p v n' rule' values'
    → (r ≡ 101) × (p ≡ 0) × (v ≡ 0) × (n' ≡ 3) × (rule' ≡ pos 1 ∷ pos 3 ∷ pos 5 ∷ [])
unfolding rule_of
loose_reasons n rule values r p v n' rule' values' h m =
    let e : host_reply (bytes wide.sheet) (bytes wide.script) (length values) ≡ marked 3 (Loose sum_rule) = rw h wide_loose in (
      m.number ∙ ap text_number e,
      m.paper ∙ ap text_paper e,
      m.value ∙ ap text_value e,
      m.count ∙ ap (count_marked n) e,
      m.words ∙ ap (rule_marked rule) e,
    )

-- so a function that leaves the rule's words does not meet the contract
pub no_rule_on_all : ((sheet script : List ℕ) (n : ℕ) (rule values : List ℤ) → MarkTextsAnswer sheet script n rule values 101 0 0 3 rule values)
    → ⊥
no_rule_on_all f =
    let words : List ℤ = replicate max_quantities (pos 0) in
    let e = loose_reasons 0 [] words 101 0 0 3 [] words refl (f (bytes wide.sheet) (bytes wide.script) 0 [] words) in
    omega (arith, ap length e.4)

-- an empty script for sheet A is refused with 2 at its first line, whatever is lent: n and the rule's words stay
pub refused_reasons : (n : ℕ) (rule : List ℤ) (r p v n' : ℕ) (rule' values' : List ℤ)
    → MarkTextsAnswer (bytes sheet_a.sheet) [] n rule [] r p v n' rule' values' → (r ≡ 2) × (p ≡ 2) × (v ≡ 1) × (n' ≡ n) × (rule' ≡ rule)
unfolding reckoning
refused_reasons n rule r p v n' rule' values' m = (m.number, m.paper, m.value, m.count, m.words)

-- with no word for the assignment a script that is fine is refused with 6 and the length needed
pub short_reasons : (n : ℕ) (rule : List ℤ) (r p v n' : ℕ) (rule' values' : List ℤ)
    → MarkTextsAnswer (bytes wide.sheet) (bytes wide.script) n rule [] r p v n' rule' values'
    → (r ≡ 6) × (p ≡ 3) × (v ≡ 3) × (n' ≡ n) × (rule' ≡ rule)
unfolding reckoning
short_reasons n rule r p v n' rule' values' m = (m.number, m.paper, m.value, m.count, m.words)

-- ---- tables

-- scripts marked against sheet A, both as tables, whatever is lent
module _ (w u rule : List ℤ) (v : ℕ) (w' u' : List ℤ) where
  -- the script +1:3 is loose, so it is not answered with 100
  pub tables_equal : (rule' : List ℤ) → MarkTablesAnswer 3 2 (table_of 3 rules) (table_of 3 wideRules) w u rule 100 v w' u' rule' → ⊥
  tables_equal rule' m = not_equal (m.means (omega arith)).demand

  -- +1+1:7, +1+3:5 is equal, so it is not answered with 101
  pub tables_loose : (rule' : List ℤ) → MarkTablesAnswer 3 2 (table_of 3 rules) (table_of 3 same) w u rule 101 v w' u' rule' → ⊥
  tables_loose rule' m = not_loose (m.means (omega arith)).demand

  -- and +1:3 does not leave words that are of no rule
  pub tables_bare : (c : ℤ) → MarkTablesAnswer 3 2 (table_of 3 rules) (table_of 3 wideRules) w u rule 101 v w' u' (pos 0 ∷ pos 0 ∷ c ∷ []) → ⊥
  unfolding rule_of
  tables_bare c m = no_rule_given (Satisfies 3 (table_of 3 wideRules)) ((m.means (omega arith)).loose trivial_rule refl).0
