-- `turns::choose_values` meets its contract. The loop's invariant: as many members as have had their turn, the last first, have their values. Assumes nothing.
use native.Mathlib.Omega.{arith}
use Rattle.keys.proofs.Taking.{table_ready, read_none, read_more, read_ready}
use Rattle.keys.proofs.turns.choose_values.Goals as goal

pub loop-j-init : goal.loop-j-init
loop-j-init g c = read_none _ _ _ _ _

pub choose_value-requires : goal.choose_value-requires
choose_value-requires g c =
    let l = c.loop-j in
    (omega arith, (table_ready _ _ _ _ _ _ c.requires.0 (omega arith), c.requires.1, read_ready _ _ _ _ _ _ l.j c.requires.0 c.loop-j-test.true l.auto.j l.invariant))

pub loop-j-preserved : goal.loop-j-preserved
loop-j-preserved g c =
    let l = c.loop-j in
    rw c.choose_value.ensures (read_more _ _ _ l.j _ _ _ c.loop-j-test.true l.auto.j l.invariant)
