-- `checks::lent` meets its contract. Assumes nothing.
use mathlib.Core.Path.{sym, ◌∙◌}
use Rattle.keys.proofs.Checking.{lent_size, lent_short, lent_done}
use Rattle.keys.proofs.checks.lent.Goals as goal

pub returns-then-not-serves : goal.returns-then-not-serves
returns-then-not-serves c = lent_size _ _ _ (sym c.serves.ensures ∙ c.if-not-serves.true)

pub returns-then-workspace_words-needed : goal.returns-then-workspace_words-needed
returns-then-workspace_words-needed c =
    lent_short _ _ _ _ (sym c.serves.ensures ∙ c.if-not-serves.false) c.size-needed.ensures c.if-workspace_words-needed.true

pub returns : goal.returns
returns c =
    lent_done _ _ _ _ (sym c.serves.ensures ∙ c.if-not-serves.false) c.size-needed.ensures c.if-workspace_words-needed.false
