-- `header::put_list` meets its contract. The loop's invariant: the list of the quantities passed is written. Assumes nothing.
use Prim.Native.Nat.{suc}
use native.Mathlib.Numerals.{add-one}
use native.Mathlib.Omega.{arith}
use Rattle.numerals.proofs.Splices.{spliced_none, spliced_more}
use Rattle.writing.proofs.ListTexts.{list_none, list_more, list_more_length, list_longer}
use Rattle.writing.proofs.header.put_list.Goals as goal

pub loop-j-init : goal.loop-j-init
loop-j-init c = let a = c.args in rw (list_none a.set) (spliced_none a.out.now a.at)

pub put_member-next-requires-clause-j_in_bounds : goal.put_member-next-requires-clause-j_in_bounds
put_member-next-requires-clause-j_in_bounds c =
    let a = c.args in
    omega (arith, list_more_length a.set c.loop-j.j, list_longer a.set (suc c.loop-j.j) a.n (omega arith))

pub loop-j-preserved : goal.loop-j-preserved
loop-j-preserved c =
    rw (add-one c.loop-j.j, list_more c.args.set c.loop-j.j) (spliced_more c.loop-j.invariant c.put_member-next.ensures (omega arith))
