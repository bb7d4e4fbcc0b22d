-- `key::make_key` meets its contract: table and marks are copied, hidden quantities hidden in the copies, and the key decided. Assumes nothing.
use Rattle.std.proofs.Common.{arith, ◌≤◌, ℕ, ℤ, length}
use lib.ListN.{replicate, length-replicate}
use Rattle.places.specs.Numbering.{block_start}
use Rattle.rounded.proofs.Making.{bytes_room, copies_fit, marked_early, back_room, marked_rest, marked_late, marked_done}
use Rattle.rounded.proofs.key.make_key.Goals as goal

-- room on the stack that serves n is long enough for the marks
served : (n size : ℕ) → block_start n ≤ size → block_start n ≤ length (replicate {A = ℕ} size 0)
served n size h = omega (arith, length-replicate {A = ℕ})

pub copy-requires-2 : goal.copy-requires-2
copy-requires-2 g c = bytes_room _ _ _ _ _ _ _ _ c.requires.0 c.size-m.ensures c.copy.ensures (served _ _ c.requires.2.0)

pub hide_set-requires : goal.hide_set-requires
hide_set-requires g c =
    (copies_fit _ _ _ _ _ _ _ _ c.requires.0 c.size-m.ensures c.copy.ensures (served _ _ c.requires.2.0) _ c.copy-2.ensures c.requires.1, omega (arith, c.requires.2.0, length-replicate {A = ℤ}))

pub returns-then-hide_set : goal.returns-then-hide_set
returns-then-hide_set g c =
    marked_early _ _ _ _ _ _ _ _ c.requires.0 c.size-m.ensures c.copy.ensures (served _ _ c.requires.2.0) _ c.copy-2.ensures _ _ _ c.hide_set.ensures c.if-hide_set.true

pub decide-requires : goal.decide-requires
decide-requires g c = (
  marked_rest _ _ _ _ _ _ _ _ c.requires.0 c.size-m.ensures c.copy.ensures (served _ _ c.requires.2.0) _ c.copy-2.ensures _ _ _ c.hide_set.ensures c.if-hide_set.false,
  omega (arith, c.requires.2.0, c.hide_set.auto.copy, length-replicate {A = ℤ}),
)

pub returns-then-decide : goal.returns-then-decide
returns-then-decide g c =
    marked_late _ _ _ _ _ _ _ _ c.requires.0 c.size-m.ensures c.copy.ensures (served _ _ c.requires.2.0) _ c.copy-2.ensures _ _ _ c.hide_set.ensures c.if-hide_set.false _ _
    c.if-decide.ensures

pub copy-requires-4 : goal.copy-requires-4
copy-requires-4 g c = back_room _ _ _ _ _ _ _ _ c.requires.0 c.size-m.ensures c.copy.ensures (served _ _ c.requires.2.0) _ c.copy-2.ensures _ _ _ c.hide_set.ensures

pub returns : goal.returns
returns g c =
    marked_done _ _ _ _ _ _ _ _ c.requires.0 c.size-m.ensures c.copy.ensures (served _ _ c.requires.2.0) _ c.copy-2.ensures _ _ _ c.hide_set.ensures c.if-hide_set.false _ _ _ _
    c.if-decide.ensures c.copy-3.ensures c.copy-4.ensures
