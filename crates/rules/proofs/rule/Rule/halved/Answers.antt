-- `rule::Rule::halved` meets its contract: two literals that are alike become one with the bound halved. Assumes nothing.
use Rattle.std.proofs.Common.{rules}
use mir.Syntax.{w64}
use mir.Val.{SFits}
use borrow.Author.Tests.{eq-eqb}
use Rattle.integers.proofs.Parts.{word_value, held_value}
use Rattle.rules.specs.Steps.{halved_of}
use Rattle.rules.proofs.Promised.{is_halved}
use Rattle.rules.proofs.rule.Rule.halved.Goals as goal

pub returns-in-Two : goal.returns-in-Two
unfolding halved_of
returns-in-Two c =
    let fits : SFits w64 c.in-Two.bound = search rules in
    is_halved _ _ (rw (held_value c.halved.type_inv, c.halved.ensures, word_value fits, c.in-Two.is, eq-eqb _ _ c.if-first-second.true))
