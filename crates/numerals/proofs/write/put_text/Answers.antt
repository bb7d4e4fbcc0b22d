-- `write::put_text` meets its contract: the bytes are pasted. Assumes nothing.
use mathlib.Core.Path.{refl}
use native.Mathlib.Omega.{arith}
use Rattle.numerals.proofs.Splices.{splice_pasted}
use Rattle.numerals.proofs.write.put_text.Goals as goal

pub returns : goal.returns
returns c = record { cursor = refl; buffer = splice_pasted _ _ _ _ _ c.copy_from_slice.ensures.after (omega arith) }
