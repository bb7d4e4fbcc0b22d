-- `word::with_half` meets its contract. Assumes nothing.
use Rattle.std.proofs.Common.{rules}
use Rattle.elimination.specs.Hiding.{with_half}
use Rattle.elimination.proofs.word.with_half.Goals as goal

pub returns : goal.returns
unfolding with_half
returns c = search rules
