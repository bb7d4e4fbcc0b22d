-- `turns::take_turns` meets its contract. The loop's invariant: the members among the first j quantities have had their turn. Assumes nothing.
use mathlib.Core.Path.{◌≡◌, refl, ◌∙◌}
use native.Mathlib.Numerals.{add-one}
use native.Mathlib.Omega.{arith}
use Rattle.keys.proofs.AtTurns.{no_turn}
use Rattle.keys.proofs.Taking.{turn_rest, turn_more, turn_clash, turn_ready, set_done, set_none}
use Rattle.keys.proofs.turns.take_turns.Goals as goal

pub loop-j-init : goal.loop-j-init
loop-j-init g c = record { rest = refl; turns = no_turn _ _ _ }

pub take_turn-requires : goal.take_turn-requires
take_turn-requires g c =
    let l = c.loop-j in
    (omega arith, (turn_ready _ _ _ _ c.requires.0 l.j l.table c.loop-j-test.true l.auto.table l.invariant.turns, c.requires.1))

pub returns-then-take_turn : goal.returns-then-take_turn
returns-then-take_turn g c =
    let l = c.loop-j in
    set_none _ _ _ _ c.requires.0 _ (c.take_turn.auto.table ∙ l.auto.table) (turn_rest _ _ _ _ _ _ _ c.take_turn.ensures ∙ l.invariant.rest)
    (turn_clash _ _ _ _ c.requires.0 l.j l.table _ _ c.loop-j-test.true l.auto.table l.invariant.turns c.take_turn.ensures c.if-take_turn.true)

pub loop-j-preserved : goal.loop-j-preserved
loop-j-preserved g c =
    let l = c.loop-j in
    record {
      rest = turn_rest _ _ _ _ _ _ _ c.take_turn.ensures ∙ l.invariant.rest;
      turns = rw (add-one l.j)
          (turn_more _ _ _ _ c.requires.0 l.j l.table _ _ c.loop-j-test.true l.auto.table l.invariant.turns c.take_turn.ensures c.if-take_turn.false);
    }

pub returns : goal.returns
returns g c =
    let l = c.loop-j in
    let e : l.j ≡ c.args.n = omega arith in
    set_done _ _ _ _ c.requires.0 _ l.auto.table l.invariant.rest (rw e at l.invariant.turns)
