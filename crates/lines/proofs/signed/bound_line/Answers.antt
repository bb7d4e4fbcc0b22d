-- `signed::bound_line` meets its contract: after the bound its line ends. Assumes nothing.
use mathlib.Core.Path.{◌∙◌}
use lib.ListN.{drop}
use Rattle.lines.proofs.SignedNumbers.{bound_missing, bound_ended}
use Rattle.lines.proofs.signed.bound_line.Goals as goal

pub returns-in_err-bound : goal.returns-in_err-bound
returns-in_err-bound c = rw c.from_residual.ensures (bound_missing c.args.s.now (drop c.args.at c.args.s.now) c.in_err-bound.ensures)

pub returns : goal.returns
returns c = c.ended.ensures ∙ bound_ended c.args.s.now c.args.at c.in_ok-bound.bound c.in_ok-bound.ensures
