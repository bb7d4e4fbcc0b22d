-- What marking two tables promises: the reply and every lent word, for every input, and demand 3's meaning.
use Rattle.std.specs.Prelude.{true, ◌≡◌, List, ℕ, ◌≤◌, ℤ, length}
use Rattle.words.specs.Lent.{Lent}
use Rattle.rules.specs.Refusal.{refused_as}
use Rattle.rules.specs.Refusing.{DecidedBy}
use Rattle.tables.specs.Meaning.{Satisfies}
use Rattle.marking.specs.declared.verdict.Verdict.TheVariants.{Equal}
use Rattle.marking.specs.Verdicts.{verdict_returned, Marking, marking_returned, is_marked, is_marking_shown}
use Rattle.marking.specs.Meaning.{VerdictMeans, workspace_size, mark_needs, OwnKey}
use Rattle.marking.specs.Marking.{mark_reply}

-- marking two tables over n quantities with a hidden set; neither table is changed, and a refusal changes no word
pub record TablesMarked (n set : ℕ) (sheet script workspace values : List ℤ) (r : Marking) (workspace' values' : List ℤ) : Type 0 where
  pub reply : r ≡ mark_reply n set sheet script (length workspace) (length values)
  -- the workspace is free after a verdict; the assignment is written for loose and tight alone
  pub lent : Lent (workspace_size n) (is_marked r) workspace workspace'
  pub written : Lent n (is_marking_shown r) values values'
  -- refused by the first need that is not met, as it is returned, and a verdict exactly where all are
  pub decided : DecidedBy (mark_needs n set sheet script (length workspace) (length values)) (λ f. marking_returned r ≡ refused_as f) (is_marked r ≡ true)
  -- demand 3, with the rule and the assignment
  pub means : is_marked r ≡ true
      → VerdictMeans n set (Satisfies n sheet) (Satisfies n script) sheet script (marking_returned r) values'
  -- a sheet's own key, with the lent words there, is accepted and found equal
  pub own_key : OwnKey n set sheet script → workspace_size n ≤ length workspace → n ≤ length values → marking_returned r ≡ verdict_returned Equal
