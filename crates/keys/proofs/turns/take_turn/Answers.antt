-- `turns::take_turn` meets its contract: a quantity of the part is paired with those that are listed. Assumes nothing.
use mathlib.Core.Path.{sym, ◌∙◌}
use native.Mathlib.Numerals.{add-one}
use Rattle.keys.proofs.Taking.{turn_taken}
use Rattle.keys.proofs.turns.take_turn.Goals as goal

pub returns : goal.returns
returns g c =
    turn_taken _ _ _ _ _ _ _ _ _ _ c.requires.0 (add-one _) c.list-count.ensures (sym c.is_member.ensures ∙ c.if-not-is_member.false) c.pair.ensures
