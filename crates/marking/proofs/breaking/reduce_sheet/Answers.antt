-- `breaking::reduce_sheet` meets its contract: the sheet copied and its hidden quantities eliminated, then the key copied and made the tightest. Assumes nothing.
use native.Mathlib.Omega.{arith}
use Prim.Native.Nat.{◌≤◌}
use lib.ListN.{length}
use Rattle.tables.proofs.Sizes.{size_known, small_start}
use Rattle.keys.proofs.Parts.{second_back}
use Rattle.marking.specs.Meaning.{workspace_size}
use Rattle.marking.proofs.Broken.{second_part}
use Rattle.marking.proofs.Reducing.{copy_fits, reduced_none, back_fits, reduced_some}
use Rattle.marking.proofs.breaking.reduce_sheet.Goals as goal

pub eliminate-requires : goal.eliminate-requires
eliminate-requires c =
    copy_fits _ _ _ _ _ _ _ c.requires c.size-m.ensures c.copy.ensures

pub returns-then-eliminate : goal.returns-then-eliminate
returns-then-eliminate c =
    reduced_none _ _ _ _ _ _ _ c.requires c.size-m.ensures c.copy.ensures _ _ c.eliminate.ensures c.if-eliminate.true

pub offset_bounds-workspace-m : goal.offset_bounds-workspace-m
offset_bounds-workspace-m c =
    omega (arith, size_known _ _ c.requires.hides.most c.size-m.ensures, small_start _ c.requires.hides.most)

-- the workspace has room for two tables still
pub slice_bounds-tighten-count : goal.slice_bounds-tighten-count
slice_bounds-tighten-count c =
    let wide : workspace_size c.args.n ≤ length c.copy_key.new.words = omega (arith, c.requires.room, c.copy_key.auto.words, c.eliminate.auto.table, c.copy.auto.t) in
    omega (arith, size_known _ _ c.requires.hides.most c.size-m.ensures, wide)

pub slice_bounds-tighten-start : goal.slice_bounds-tighten-start
slice_bounds-tighten-start c =
    let wide : workspace_size c.args.n ≤ length c.copy_key.new.words = omega (arith, c.requires.room, c.copy_key.auto.words, c.eliminate.auto.table, c.copy.auto.t) in
    omega (arith, size_known _ _ c.requires.hides.most c.size-m.ensures, wide)

pub tighten-requires : goal.tighten-requires
tighten-requires c =
    back_fits _ _ _ _ _ _ _ c.requires c.size-m.ensures c.copy.ensures _ _ c.eliminate.ensures c.if-eliminate.false _ c.copy_key.ensures _
    (second_part _ _ _ c.requires.hides.most c.size-m.ensures)

pub returns : goal.returns
returns c =
    let wide : workspace_size c.args.n ≤ length c.copy_key.new.words = omega (arith, c.requires.room, c.copy_key.auto.words, c.eliminate.auto.table, c.copy.auto.t) in
    reduced_some _ _ _ _ _ _ _ c.requires c.size-m.ensures c.copy.ensures _ _ c.eliminate.ensures c.if-eliminate.false _ c.copy_key.ensures _ _ _ _
    (second_back _ _ _ _ c.requires.hides.most c.size-m.ensures wide c.tighten.auto.table) c.tighten.ensures
