-- `table::clear_places` meets its contract. Assumes nothing.
use mathlib.Core.Path.{◌≡◌, ◌∙◌}
use Prim.Native.Nat.{suc}
use native.Mathlib.Numerals.{add-one}
use native.Mathlib.Omega.{arith}
use Rattle.places.specs.Numbering.{block_start}
use Rattle.places.proofs.Numbering.{block_start_suc}
use Rattle.tables.specs.Tables.{cleared}
use Rattle.tables.proofs.Sizes.{small_start}
use Rattle.tables.proofs.Clearing.{clear_own, clear_more}
use Rattle.tables.proofs.table.clear_places.Goals as goal

pub loop-b-init : goal.loop-b-init
unfolding block_start
loop-b-init c = let j = c.args.j in (omega arith, omega (arith, small_start (suc j) (omega arith)), λ t e. rw (add-one j) e)

pub loop-b-preserved : goal.loop-b-preserved
loop-b-preserved c = let b = c.loop-b.b in (
  rw (add-one b) (omega (arith, block_start_suc b)),
  omega (arith, block_start_suc b, small_start (suc b) (omega arith)),
  λ t e. rw (add-one b) (c.fill-in-loop-b.ensures ∙ rw (c.loop-b.invariant.0, c.loop-b.invariant.2 t e) (clear_more c.args.j b t (omega arith))),
)

pub returns : goal.returns
unfolding cleared block_start
returns c =
    let e : c.loop-b.b ≡ c.args.n = omega arith in
    c.loop-b.invariant.2 c.args.table.now (c.fill.ensures ∙ clear_own c.args.j c.args.table.now) ∙ rw e
