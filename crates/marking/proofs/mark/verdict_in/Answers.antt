-- `mark::verdict_in` meets its contract: the sheet reduced, the script compared with the key and the key with the script, and the rule found broken. Assumes nothing.
use Prim.Native.Nat.{◌<◌}
use native.Mathlib.Omega.{arith}
use Rattle.std.proofs.Common.{rules}
use Rattle.integers.proofs.Parts.{held_value}
use Rattle.words.specs.Change.{word_at}
use Rattle.places.specs.Numbering.{block_start}
use Rattle.tables.proofs.Sizes.{size_known, small_start}
use Rattle.keys.proofs.Parts.{second_room}
use Rattle.marking.proofs.Broken.{second_part}
use Rattle.marking.proofs.Reducing.{listed_visible}
use Rattle.marking.proofs.Promised.{told_given, verdict_without, sheet_reducible, script_comparable, loose_inside, loose_ready, loose_given, narrow_ready, narrow_given}
use Rattle.marking.proofs.mark.verdict_in.Goals as goal

pub reduce_sheet-requires : goal.reduce_sheet-requires
reduce_sheet-requires g c =
    sheet_reducible _ _ _ _ _ _ c.args.values.now c.requires.tables_accepted (listed_visible _ _ _ _ c.list-count.ensures)

pub returns-then-reduce_sheet : goal.returns-then-reduce_sheet
returns-then-reduce_sheet g c =
    told_given _ _ _ _ _ _ _ _ _ c.requires.tables_accepted (verdict_without _ _ _ _ _ _ _ _ _ _ _ c.reduce_sheet.ensures c.unsatisfiable_sheet.ensures)

pub offset_bounds-workspace-size : goal.offset_bounds-workspace-size
offset_bounds-workspace-size g c =
    omega (arith, size_known _ _ c.requires.tables_accepted.sized.most c.size.ensures, small_start _ c.requires.tables_accepted.sized.most)

pub slice_bounds-first_below-count : goal.slice_bounds-first_below-count
slice_bounds-first_below-count g c =
    omega (
      arith,
      size_known _ _ c.requires.tables_accepted.sized.most c.size.ensures,
      c.reduce_sheet.ensures.lent.size,
      c.requires.tables_accepted.workspace_room,
    )

pub slice_bounds-first_below-start : goal.slice_bounds-first_below-start
slice_bounds-first_below-start g c =
    omega (
      arith,
      size_known _ _ c.requires.tables_accepted.sized.most c.size.ensures,
      c.reduce_sheet.ensures.lent.size,
      c.requires.tables_accepted.workspace_room,
    )

pub first_below-tight-requires : goal.first_below-tight-requires
first_below-tight-requires g c =
    let p = c.requires.tables_accepted in
    record {
      most = p.sized.most;
      listed = c.list-count.ensures.listed;
      rules_room = p.sized.script_room;
      least_room = second_room _ _ c.args.workspace.now c.reduce_sheet.new.workspace p.sized.most c.size.ensures p.workspace_room c.reduce_sheet.ensures.lent.size;
    }

pub first_broken-loose-requires : goal.first_broken-loose-requires
first_broken-loose-requires g c =
    script_comparable _ _ _ c.args.sheet.now _ c.args.workspace.now c.args.values.now _ c.requires.tables_accepted (listed_visible _ _ _ _ c.list-count.ensures)
    c.reduce_sheet.ensures.lent.size

pub narrow_verdict-requires : goal.narrow_verdict-requires
narrow_verdict-requires g c =
    let p = c.requires.tables_accepted in
    narrow_ready _ _ _ _ _ _ _ _ p (listed_visible _ _ _ _ c.list-count.ensures) _ c.if-reduce_sheet.false c.reduce_sheet.ensures
    _ _ c.first_below-tight.ensures (second_part _ _ _ p.sized.most c.size.ensures) _ _ c.first_broken-loose.ensures c.in_default.is

pub returns-in_default : goal.returns-in_default
returns-in_default g c =
    let p = c.requires.tables_accepted in
    told_given _ _ _ _ _ _ _ _ _ p
    (narrow_given _ _ _ _ _ _ _ _ p (listed_visible _ _ _ _ c.list-count.ensures) _ c.if-reduce_sheet.false c.reduce_sheet.ensures
    _ _ c.first_below-tight.ensures (second_part _ _ _ p.sized.most c.size.ensures) _ _ c.first_broken-loose.ensures c.in_default.is _ _ _ c.narrow_verdict.ensures)

pub overflow_cast-k : goal.overflow_cast-k
overflow_cast-k g c =
    let inside : c.in-Some.k < block_start c.args.n =
    loose_inside _ _ _ _ _ _ c.args.values.now _ c.requires.tables_accepted (listed_visible _ _ _ _ c.list-count.ensures) _ c.if-reduce_sheet.false
    c.reduce_sheet.ensures _ _ c.first_broken-loose.ensures _ c.in-Some.is in
    omega (arith, inside, small_start _ c.requires.tables_accepted.sized.most)

pub break_script-requires : goal.break_script-requires
break_script-requires g c =
    loose_ready _ _ _ _ _ _ c.args.values.now _ c.requires.tables_accepted (listed_visible _ _ _ _ c.list-count.ensures) _ c.if-reduce_sheet.false
    c.reduce_sheet.ensures _ _ c.first_broken-loose.ensures _ c.in-Some.is _
    (rw (held_value {z = word_at c.first_broken-loose.new.workspace c.in-Some.k} (search rules)) at c.rule_at-rule.ensures.reply)

pub returns : goal.returns
returns g c =
    told_given _ _ _ _ _ _ _ _ _ c.requires.tables_accepted
    (loose_given _ _ _ _ _ _ c.args.values.now _ c.requires.tables_accepted (listed_visible _ _ _ _ c.list-count.ensures) _ c.if-reduce_sheet.false
    c.reduce_sheet.ensures _ _ c.first_broken-loose.ensures _ c.in-Some.is _
    (rw (held_value {z = word_at c.first_broken-loose.new.workspace c.in-Some.k} (search rules)) at c.rule_at-rule.ensures.reply) _ _ c.break_script.ensures)
