-- `names::any_names_hidden` meets its contract: the words looked at are the table's. Assumes nothing.
use Rattle.std.proofs.Common.{rules, arith, ◌≡◌, sym, length, take, length-take-le}
use Rattle.tables.proofs.Sizes.{small_start, size_known}
use Rattle.tables.proofs.Naming.{none_hidden, one_hidden}
use Rattle.tables.proofs.names.any_names_hidden.Goals as goal

pub slice_bounds-w-items-end : goal.slice_bounds-w-items-end
slice_bounds-w-items-end c = let s = size_known _ _ c.requires.most c.size.ensures in sym (length-take-le _ _ (omega arith))

pub overflow_cast-k : goal.overflow_cast-k
overflow_cast-k c =
    let s = size_known _ _ c.requires.most c.size.ensures in
    let l : length (take c.size.result c.args.table.now) ≡ c.size.result = length-take-le _ _ (omega arith) in
    omega (arith, small_start _ c.requires.most)

pub returns-then-names_hidden : goal.returns-then-names_hidden
returns-then-names_hidden c =
    let s = size_known _ _ c.requires.most c.size.ensures in
    let l : length (take c.size.result c.args.table.now) ≡ c.size.result = length-take-le _ _ (omega arith) in
    one_hidden _ _ _ _ s c.requires.room c.loop-k.k (omega arith) (search rules) (search rules)

pub returns : goal.returns
returns c =
    let s = size_known _ _ c.requires.most c.size.ensures in
    let l : length (take c.size.result c.args.table.now) ≡ c.size.result = length-take-le _ _ (omega arith) in
    none_hidden _ _ _ _ s c.requires.room c.loop-k.k (omega arith) c.loop-k.invariant
