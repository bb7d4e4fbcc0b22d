-- `turns::take_turns` meets its contract. The loop's invariant: the members among the first j quantities have had their turn. Assumes nothing.
use mathlib.Core.Path.{◌≡◌}
use lib.ListN.{drop}
use Rattle.places.specs.Numbering.{block_start}
use Rattle.keys.specs.Inner.{member_of, AtTurns}
use Rattle.keys.proofs.turns.take_turns.Given as goal

abbrev pub invariant-loop-j : goal.invariant-loop-j
invariant-loop-j g l = record {
  rest : drop (block_start l.n) l.table ≡ drop (block_start l.n) l.initial.table;
  turns : AtTurns (member_of l.set l.part) l.n l.j l.initial.table l.table;
}
