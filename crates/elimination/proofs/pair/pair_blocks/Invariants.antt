-- The loop of `pair::pair_blocks`: the sums are put in at every place before the block of the quantity of place i in the list, or of all n quantities where the list has ended. Assumes nothing.
use mathlib.Core.Path.{◌≡◌}
use lib.ListN.{get_or}
use Rattle.words.specs.Change.{word_at, change}
use Rattle.places.specs.Numbering.{block_start}
use Rattle.elimination.specs.Hiding.{pairing}
use Rattle.elimination.specs.Inner.{among}
use Rattle.elimination.proofs.pair.pair_blocks.Given as goal

abbrev pub invariant-loop-i : goal.invariant-loop-i
invariant-loop-i l =
    l.table ≡ change (block_start (get_or l.live l.i l.n)) (pairing (among l.live) (word_at l.plus) (word_at l.minus) l.p l.m) l.initial.table
