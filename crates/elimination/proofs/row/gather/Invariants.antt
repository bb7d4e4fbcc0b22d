-- The loop of `row::gather`: the bounds with the quantities passed are gathered. Assumes nothing.
use Prim.Native.Nat.{◌+◌, ◌*◌}
use Rattle.elimination.specs.Hiding.{pair_word}
use Rattle.elimination.proofs.Rows.{FilledTo}
use Rattle.elimination.proofs.row.gather.Given as goal

abbrev pub invariant-loop-a : goal.invariant-loop-a
invariant-loop-a l = record {
  plus_filled : FilledTo l.a-index l.live (pair_word l.table (2 * l.j)) l.plus;
  minus_filled : FilledTo l.a-index l.live (pair_word l.table (2 * l.j + 1)) l.minus;
}
