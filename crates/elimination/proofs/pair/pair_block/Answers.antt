-- `pair::pair_block` meets its contract: a block is left where no sum goes there. Assumes nothing.
use mathlib.Core.Path.{sym, ◌∙◌}
use lib.ListN.{get_or}
use Rattle.std.proofs.Common.{rules}
use Rattle.words.specs.Change.{word_at}
use Rattle.elimination.specs.Inner.{among, BlockPaired}
use Rattle.elimination.proofs.Blocks.{block_none}
use Rattle.elimination.proofs.BlockOrder.{block_worked}
use Rattle.elimination.proofs.pair.pair_block.Goals as goal

pub returns-then-are_none : goal.returns-then-are_none
returns-then-are_none c =
    block_worked _ _ _ _ _ _ _ _ c.requires.twos.room (record {
      table = block_none (among c.args.live.now) (word_at c.args.plus.now) (word_at c.args.minus.now) c.args.p c.args.m _ c.args.table.now
          (rw c.of.ensures at (sym c.are_none.ensures ∙ c.if-are_none.true));
    })

pub returns : goal.returns
returns c =
    let paired : BlockPaired (get_or c.args.live.now c.args.i 0) c.args.live.now c.args.plus.now c.args.minus.now c.args.p c.args.m c.args.table.now c.pair_places.new.table = search rules in
    block_worked _ _ _ _ _ _ _ _ c.requires.twos.room paired
