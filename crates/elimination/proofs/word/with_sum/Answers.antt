-- `word::with_sum` meets its contract. Assumes nothing.
use Rattle.std.proofs.Common.{rules}
use Rattle.elimination.specs.Hiding.{with_sum}
use Rattle.elimination.proofs.word.with_sum.Goals as goal

pub returns : goal.returns
unfolding with_sum
returns c = search rules
