-- `names::any_names_hidden` meets its contract. The loop's invariant: no word before the present one names a hidden quantity. Assumes nothing.
use Rattle.rules.specs.Hidden.{hidden_in}
use Rattle.tables.proofs.Naming.{NoneBefore}
use Rattle.tables.proofs.names.any_names_hidden.Given as goal

abbrev pub invariant-loop-k : goal.invariant-loop-k
invariant-loop-k l = NoneBefore (hidden_in l.set) l.k l.w-items
