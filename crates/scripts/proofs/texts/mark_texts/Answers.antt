-- `texts::mark_texts` meets its contract: each answer of the check, and then what marking texts that passed promises. Assumes nothing.
use Rattle.std.proofs.lemmas.Result.{err_from_is_err_and}
use Rattle.scripts.proofs.Promised.{pair_told, refused_marked}
use Rattle.scripts.proofs.texts.mark_texts.Goals as goal

pub mark_passed-requires : goal.mark_passed-requires
mark_passed-requires c = pair_told _ _ _ c.check_pair.ensures c.in_ok-pair.was

pub returns-in_err-pair : goal.returns-in_err-pair
returns-in_err-pair c =
    let p = err_from_is_err_and c.from_residual.result c.from_residual.ensures.1 in
    rw (p.1, p.2) (refused_marked (pair_told _ _ _ c.check_pair.ensures c.in_err-pair.was))
