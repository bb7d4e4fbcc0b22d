-- `pair::pair` meets its contract: the gathered rows hold the words that the definition reads. Assumes nothing.
use mathlib.Core.Path.{sym, ◌∙◌}
use Prim.Native.Nat.{◌+◌, ◌*◌}
use native.Mathlib.Omega.{arith}
use mir.Syntax.{w64}
use mir.Val.{to_z, of_z}
use Rattle.std.proofs.Common.{rules}
use Rattle.words.specs.Change.{word_at}
use Rattle.elimination.proofs.Rows.{own_inside, table_adds, gathered_row}
use Rattle.elimination.proofs.Promised.{rows_paired}
use Rattle.elimination.proofs.pair.pair.Goals as goal

pub slice_copy_out-p : goal.slice_copy_out-p
slice_copy_out-p c = omega (arith, own_inside c.args.n c.args.j c.requires.ready.one)

pub slice_copy_out-m : goal.slice_copy_out-m
slice_copy_out-m c = omega (arith, own_inside c.args.n c.args.j c.requires.ready.one)

pub pair_blocks-requires : goal.pair_blocks-requires
pair_blocks-requires c =
    let r = c.requires.ready in
    let t = c.args.table.now in
    let inside = own_inside c.args.n c.args.j r.one in
    let rows = gathered_row c.args.n c.args.j c.args.live.now t c.gather.new.plus c.gather.new.minus r (omega arith) (omega arith) c.gather.ensures in
    let plus_alone = table_adds c.args.n c.args.j t (2 * (c.args.j * c.args.j)) r (omega arith) in
    let minus_alone = table_adds c.args.n c.args.j t (2 * (c.args.j * c.args.j) + 1) r (omega arith) in
    record { listed = c.requires.listed; room = r.room; plus_row = rows.0; minus_row = rows.1; plus_alone = search rules; minus_alone = search rules }

pub is_bare_below-requires : goal.is_bare_below-requires
is_bare_below-requires c =
    let r = c.requires.ready in
    let t = c.args.table.now in
    let inside = own_inside c.args.n c.args.j r.one in
    let plus_alone = table_adds c.args.n c.args.j t (2 * (c.args.j * c.args.j)) r (omega arith) in
    let minus_alone = table_adds c.args.n c.args.j t (2 * (c.args.j * c.args.j) + 1) r (omega arith) in
    search rules

pub is_any_bare_below-requires : goal.is_any_bare_below-requires
is_any_bare_below-requires c =
    let rows = gathered_row c.args.n c.args.j c.args.live.now c.args.table.now c.gather.new.plus c.gather.new.minus c.requires.ready (omega arith) (omega arith) c.gather.ensures in
    (c.requires.listed, rows.0, rows.1)

pub returns-then-is_bare_below : goal.returns-then-is_bare_below
returns-then-is_bare_below c =
    let p = to_z w64 (of_z w64 (word_at c.args.table.now (2 * (c.args.j * c.args.j)))) in
    let m = to_z w64 (of_z w64 (word_at c.args.table.now (2 * (c.args.j * c.args.j) + 1))) in
    rows_paired c.args.n c.args.j c.args.live.now c.args.table.now _ _ _ p m _ c.gather.ensures (search rules) (search rules) c.pair_blocks.ensures
    (rw (sym c.is_bare_below.ensures ∙ c.if-is_bare_below.true) c.if-is_bare_below.true)

pub returns-else-is_bare_below : goal.returns-else-is_bare_below
returns-else-is_bare_below c =
    let p = to_z w64 (of_z w64 (word_at c.args.table.now (2 * (c.args.j * c.args.j)))) in
    let m = to_z w64 (of_z w64 (word_at c.args.table.now (2 * (c.args.j * c.args.j) + 1))) in
    rows_paired c.args.n c.args.j c.args.live.now c.args.table.now _ _ _ p m _ c.gather.ensures (search rules) (search rules) c.pair_blocks.ensures
    (rw (sym c.is_bare_below.ensures ∙ c.if-is_bare_below.false) c.is_any_bare_below.ensures)
