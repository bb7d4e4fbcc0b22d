-- `copies::copy_key` meets its contract: the first table is copied over the second, and in the copy the places of the set's quantities are cleared. Assumes nothing.
use lib.IntN.{pos}
use Rattle.keys.proofs.KeyCopies.{copied_is, copied_key}
use Rattle.keys.proofs.copies.copy_key.Goals as goal

pub returns : goal.returns
returns c =
    let by = c.copy_within.ensures.by_index in
    let copied = copied_is _ _ _ c.copy_within.ensures.len (λ k. by.1 k (pos 0)) (λ k. by.0 k (pos 0)) (λ k. by.2 k (pos 0)) in
    copied_key _ _ _ _ _ _ c.requires.0 c.size-m.ensures c.requires.1 copied c.clear_set.auto.table c.clear_set.ensures
