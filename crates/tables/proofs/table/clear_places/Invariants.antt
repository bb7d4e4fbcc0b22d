-- `table::clear_places` meets its contract. The loop's invariant: every block before block b, which starts at `next`, is cleared, given that the
-- first fill cleared those up to j's own. Assumes nothing.
use mathlib.Core.Path.{◌≡◌}
use mathlib.Core.List.{List}
use Prim.Native.Nat.{suc, ◌*◌, ◌≤◌}
use lib.IntN.{ℤ}
use Rattle.words.specs.Change.{change}
use Rattle.places.specs.Numbering.{block_start}
use Rattle.rules.specs.Limits.{max_quantities}
use Rattle.tables.specs.Tables.{clearing}
use Rattle.tables.proofs.table.clear_places.Given as goal

abbrev pub invariant-loop-b : goal.invariant-loop-b
invariant-loop-b l =
    (l.next ≡ block_start l.b) × (l.next ≤ 2 * (max_quantities * max_quantities))
    × ((t : List ℤ) → l.initial.table ≡ change (block_start (suc l.j)) (clearing (suc l.j)) t → l.table ≡ change (block_start l.b) (clearing (suc l.j)) t)
