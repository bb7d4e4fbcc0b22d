-- `tighten::tighten_in` meets its contract: with no contradiction met, the table is paired and then strengthened. Assumes nothing.
use native.Mathlib.Omega.{arith}
use Rattle.tightening.proofs.Promised.{clear_adding, clear_alone, tightened_none, tightened_some}
use Rattle.tightening.proofs.tighten.tighten_in.Goals as goal

pub returns-then-pair_all : goal.returns-then-pair_all
returns-then-pair_all g c =
    tightened_none _ _ _ c.requires.0 (rw c.if-pair_all.true at c.pair_all.ensures)

pub strengthen-requires : goal.strengthen-requires
strengthen-requires g c =
    let paired = rw c.if-pair_all.false at c.pair_all.ensures in (
      clear_adding _ _ _ c.requires.0 paired,
      clear_alone _ _ _ _ c.requires.0 c.requires.1 paired,
      omega arith,
    )

pub returns : goal.returns
returns g c =
    tightened_some _ _ _ _ c.requires.0 (rw c.if-pair_all.false at c.pair_all.ensures) c.strengthen.ensures
