-- `pair::pair_places` meets its contract: the two places of literals alone come first in a block, then those of two literals. Assumes nothing.
use mathlib.Core.Path.{◌∙◌}
use Prim.Native.Nat.{suc}
use native.Mathlib.Omega.{arith}
use lib.ListN.{get_or}
use Rattle.words.specs.Change.{word_at}
use Rattle.places.specs.Numbering.{block_start}
use Rattle.places.proofs.Numbering.{block_start_suc}
use Rattle.elimination.specs.Hiding.{on_one}
use Rattle.elimination.specs.Inner.{among}
use Rattle.elimination.proofs.Lists.{listed_at}
use Rattle.elimination.proofs.Rows.{quantity_adds}
use Rattle.elimination.proofs.Blocks.{block_whole}
use Rattle.elimination.proofs.pair.pair_places.Goals as goal

pub pair_one-requires : goal.pair_one-requires
unfolding block_start
pair_one-requires c =
    let r = c.requires.twos in
    let b = get_or c.args.live.now c.args.i 0 in (
      omega (arith, block_start_suc b),
      rw c.of-y.ensures (quantity_adds (suc b) c.args.live.now _ _ c.args.i r.plus_row r.minus_row r.some (omega arith)).literal,
      record { plus = c.requires.plus_alone; minus = c.requires.minus_alone },
    )

pub pair_one-requires-2 : goal.pair_one-requires-2
unfolding block_start
pair_one-requires-2 c =
    let r = c.requires.twos in
    let b = get_or c.args.live.now c.args.i 0 in (
      let k = c.pair_one.auto.table in omega (arith, block_start_suc b),
      rw c.of-y.ensures (quantity_adds (suc b) c.args.live.now _ _ c.args.i r.plus_row r.minus_row r.some (omega arith)).negated,
      record { plus = c.requires.plus_alone; minus = c.requires.minus_alone },
    )

pub returns : goal.returns
unfolding block_start on_one
returns c =
    let live = c.args.live.now in
    record {
      table = c.pair_twos.ensures.table c.args.alone.plus c.args.alone.minus
          ∙ block_whole (among live) (word_at c.args.plus.now) (word_at c.args.minus.now) c.args.alone.plus c.args.alone.minus (get_or live c.args.i 0)
          c.args.table.now c.pair_one.new.table c.pair_one-2.new.table (listed_at live c.args.i c.requires.twos.some) c.requires.twos.room
          (rw c.of-y.ensures at c.pair_one.ensures) (rw c.of-y.ensures at c.pair_one-2.ensures);
    }
