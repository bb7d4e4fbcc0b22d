-- `pair::pair_blocks` meets its contract. Assumes nothing.
use mathlib.Core.Path.{◌≡◌, ◌∙◌}
use Prim.Native.Nat.{suc, ◌<◌}
use native.Mathlib.Numerals.{add-one}
use native.Mathlib.Omega.{arith}
use lib.ListN.{get_or, get_or-eq_default}
use mir.Syntax.{w64}
use mir.Val.{to_z, of_z}
use Rattle.integers.proofs.Parts.{word_value}
use Rattle.std.proofs.Common.{rules}
use Rattle.words.specs.Change.{word_at, change, starting_at}
use Rattle.words.proofs.Change.{change_on}
use Rattle.places.specs.Numbering.{block_start}
use Rattle.places.proofs.Numbering.{block_start_mono}
use Rattle.elimination.specs.Hiding.{pairing}
use Rattle.elimination.specs.Inner.{among}
use Rattle.elimination.proofs.Rows.{row_part}
use Rattle.elimination.proofs.Blocks.{inside_same, blocks_first, blocks_next}
use Rattle.elimination.proofs.pair.pair_blocks.Goals as goal

pub loop-i-init : goal.loop-i-init
loop-i-init c = blocks_first c.args.live.now c.requires.listed.rising _ _ _ _ _ _

pub pair_block-requires : goal.pair_block-requires
pair_block-requires c =
    let l = c.loop-i in
    let live = c.args.live.now in
    let b = get_or live l.i 0 in
    let below : b < c.args.n = c.requires.listed.below l.i (omega arith) in
    record {
      twos = record {
        some = omega arith;
        rising = c.requires.listed.rising;
        most = omega (arith, c.requires.plus_row.most);
        room = omega (arith, block_start_mono {a = suc b} {b = c.args.n} below);
        plus_row = row_part (suc b) c.args.n live c.args.plus.now below c.requires.plus_row;
        minus_row = row_part (suc b) c.args.n live c.args.minus.now below c.requires.minus_row;
      };
      plus_alone = search rules;
      minus_alone = search rules;
    }

pub loop-i-preserved : goal.loop-i-preserved
loop-i-preserved c =
    let l = c.loop-i in
    let n = c.args.n in
    let live = c.args.live.now in
    let t = c.args.table.now in
    let plus = word_at c.args.plus.now in
    let minus = word_at c.args.minus.now in
    let p = to_z w64 (of_z w64 c.args.p) in
    let m = to_z w64 (of_z w64 c.args.m) in
    let f = pairing (among live) plus minus p m in
    let b = get_or live l.i 0 in
    let e : get_or live l.i n ≡ b = inside_same live l.i n 0 (omega arith) in
    let before : l.table ≡ change (block_start b) f t = rw (← e) l.invariant in
    let own : change (block_start (suc b)) (starting_at (block_start b) f) l.table ≡ change (block_start (suc b)) f t =
    rw before (change_on (block_start b) (block_start (suc b)) f t (block_start_mono (omega arith))) in
    rw (add-one l.i)
    (c.pair_block.ensures.words.table ∙ own ∙ blocks_next live c.requires.listed.rising plus minus p m n l.i t (omega arith) (c.requires.listed.below l.i (omega arith)))

pub returns : goal.returns
returns c =
    let l = c.loop-i in
    let e : get_or c.args.live.now l.i c.args.n ≡ c.args.n = get_or-eq_default c.args.live.now c.args.n {n = l.i} (omega arith) in
    record { table = l.invariant ∙ rw (e, word_value c.ranges.p, word_value c.ranges.m) }
