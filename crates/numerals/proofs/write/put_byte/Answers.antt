-- `write::put_byte` meets its contract: it is a store. Assumes nothing.
use mathlib.Core.Path.{refl}
use native.Mathlib.Omega.{arith}
use Rattle.numerals.proofs.Splices.{splice_byte}
use Rattle.numerals.proofs.write.put_byte.Goals as goal

pub returns : goal.returns
returns c = record { cursor = refl; buffer = splice_byte c.args.out.now c.args.at c.args.b (omega arith) }
