-- `key::hide_members` meets its contract. The loop's invariant: of the first j quantities those of the set are hidden, and no contradiction was met. Assumes nothing.
use mathlib.Core.Path.{◌≡◌}
use Rattle.rules.specs.Hidden.{hidden_in}
use Rattle.keys.specs.Keys.{hide_up_to}
use Rattle.keys.proofs.Deciding.{NoneMet}
use Rattle.keys.proofs.key.hide_members.Given as goal

abbrev pub invariant-loop-j : goal.invariant-loop-j
invariant-loop-j g l = record {
  table : l.table ≡ hide_up_to (hidden_in l.set) l.n l.j l.initial.table;
  none : NoneMet (hidden_in l.set) l.n l.j l.initial.table;
}
