-- The loop of `pair::pair_twos`: the sums are put in at the places before those with the next lower quantity of the list. Assumes nothing.
use mathlib.Core.Path.{◌≡◌}
use Prim.Native.Nat.{◌+◌, ◌*◌}
use lib.IntN.{ℤ}
use lib.ListN.{get_or}
use Rattle.words.specs.Change.{word_at, change, starting_at}
use Rattle.places.specs.Numbering.{block_start}
use Rattle.elimination.specs.Hiding.{pairing}
use Rattle.elimination.specs.Inner.{among}
use Rattle.elimination.proofs.pair.pair_twos.Given as goal

abbrev pub invariant-loop-a : goal.invariant-loop-a
invariant-loop-a l = (p m : ℤ)
    → l.table ≡ change (block_start (get_or l.live l.i 0) + 2 + 4 * get_or l.live l.a-index 0)
    (starting_at (block_start (get_or l.live l.i 0) + 2) (pairing (among l.live) (word_at l.plus) (word_at l.minus) p m)) l.initial.table
