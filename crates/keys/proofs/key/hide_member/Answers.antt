-- `key::hide_member` meets its contract: a quantity of the set is hidden with the live ones listed, another left. Assumes nothing.
use mathlib.Core.Path.{sym, ◌∙◌}
use Rattle.keys.proofs.Hiding.{member_hidden}
use Rattle.keys.proofs.key.hide_member.Goals as goal

pub returns : goal.returns
returns g c =
    member_hidden _ _ _ _ _ _ (sym c.is_hidden.ensures ∙ c.if-not-is_hidden.false) c.hide.ensures
