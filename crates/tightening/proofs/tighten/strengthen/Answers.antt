-- `tighten::strengthen` meets its contract: pairing the gathered row with itself strengthens the table. Assumes nothing.
use mathlib.Core.Path.{refl}
use native.Mathlib.Omega.{arith}
use Rattle.tables.proofs.Tests.{clash}
use Rattle.elimination.specs.Inner.{Row}
use Rattle.tightening.proofs.Strengthening.{lone_adds, strengthening_paired}
use Rattle.tightening.proofs.tighten.strengthen.Goals as goal

pub pair_blocks-requires : goal.pair_blocks-requires
pair_blocks-requires c =
    let row : Row c.args.n c.args.live.now c.gather_lone.new.row = lone_adds _ _ _ _ c.requires.0 (omega arith) c.gather_lone.ensures in
    record {
      listed = c.requires.1.listed;
      room = c.requires.0.room;
      plus_row = row;
      minus_row = row;
      plus_alone = λ q. clash q refl;
      minus_alone = λ q. clash q refl;
    }

pub returns : goal.returns
returns c =
    strengthening_paired _ _ _ _ _ c.requires.0.room c.requires.1 c.gather_lone.ensures c.pair_blocks.ensures
