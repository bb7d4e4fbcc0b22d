-- `breaking::break_sheet` meets its contract: the key is copied to the back and the rule broken there, and hidden values complete the assignment. Assumes nothing.
use native.Mathlib.Omega.{arith}
use Rattle.tables.proofs.Sizes.{size_known}
use Rattle.keys.proofs.Parts.{second_back}
use Rattle.marking.proofs.Broken.{sheet_breakable, sheet_readable, sheet_shown, sheet_written, sheet_lent, second_part}
use Rattle.marking.proofs.breaking.break_sheet.Goals as goal

pub offset_bounds-workspace-m : goal.offset_bounds-workspace-m
offset_bounds-workspace-m c =
    omega (arith, c.requires.is.room, size_known _ _ c.requires.is.hides.most c.size-m.ensures)

pub slice_bounds-break_rule-count : goal.slice_bounds-break_rule-count
slice_bounds-break_rule-count c =
    omega (arith, c.requires.is.room, c.copy_key.auto.words, size_known _ _ c.requires.is.hides.most c.size-m.ensures)

pub slice_bounds-break_rule-start : goal.slice_bounds-break_rule-start
slice_bounds-break_rule-start c =
    omega (arith, c.requires.is.room, c.copy_key.auto.words, size_known _ _ c.requires.is.hides.most c.size-m.ensures)

pub break_rule-requires : goal.break_rule-requires
break_rule-requires c =
    sheet_breakable _ _ _ _ _ _ _ _ c.requires.is c.copy_key.ensures
    (second_part _ _ _ c.requires.is.hides.most c.size-m.ensures)

pub read_back-requires : goal.read_back-requires
read_back-requires c =
    let p = c.requires.is in
    let back = second_back _ _ _ _ p.hides.most c.size-m.ensures (omega (arith, p.room, c.copy_key.auto.words)) c.break_rule.auto.table in
    sheet_readable _ _ _ _ _ _ _ _ p c.copy_key.ensures (second_part _ _ _ p.hides.most c.size-m.ensures) _ _ _ back c.break_rule.ensures

pub returns : goal.returns
returns c =
    let p = c.requires.is in
    let part = second_part _ _ _ p.hides.most c.size-m.ensures in
    let back = second_back _ _ _ _ p.hides.most c.size-m.ensures (omega (arith, p.room, c.copy_key.auto.words)) c.break_rule.auto.table in
    record {
      lent = sheet_lent _ _ _ _ _ _ _ _ p c.copy_key.ensures part _ _ _ back c.break_rule.ensures;
      written = sheet_written _ _ _ _ _ _ _ _ p c.copy_key.ensures part _ _ _ back c.break_rule.ensures _ c.read_back.ensures.words;
      shown = λ sheet q. sheet_shown _ _ sheet _ _ _ _ _ q c.copy_key.ensures part _ _ _ back c.break_rule.ensures _ c.read_back.ensures.words;
    }
