-- `key::make_key` meets its contract: the sheet is copied, its hidden quantities hidden in the copy, and the key decided. Assumes nothing.
use native.Mathlib.Omega.{arith}
use lib.IntN.{ℤ}
use lib.ListN.{length-replicate}
use Rattle.keys.proofs.Making.{copy_fits, tried_early, made_rest, tried_late, tried_done}
use Rattle.keys.proofs.key.make_key.Goals as goal

pub hide_set-requires : goal.hide_set-requires
hide_set-requires g c =
    copy_fits _ _ _ _ _ _ c.requires.0 c.size-m.ensures c.copy.ensures

pub returns-then-hide_set : goal.returns-then-hide_set
returns-then-hide_set g c =
    tried_early _ _ _ _ _ _ c.requires.0 c.size-m.ensures c.copy.ensures _ _ c.hide_set.ensures _ c.if-hide_set.true

pub decide-requires : goal.decide-requires
decide-requires g c =
    (made_rest _ _ _ _ _ _ c.requires.0 c.size-m.ensures c.copy.ensures _ _ c.hide_set.ensures c.if-hide_set.false, omega (arith, length-replicate {A = ℤ}))

pub returns-then-decide : goal.returns-then-decide
returns-then-decide g c =
    tried_late _ _ _ _ _ _ c.requires.0 c.size-m.ensures c.copy.ensures _ _ c.hide_set.ensures c.if-hide_set.false _ _ (rw c.if-decide.true at c.decide.ensures)

pub returns : goal.returns
returns g c =
    tried_done _ _ _ _ _ _ c.requires.0 c.size-m.ensures c.copy.ensures _ _ c.hide_set.ensures c.if-hide_set.false _ _ _
    (rw c.if-decide.false at c.decide.ensures) c.copy-2.ensures
