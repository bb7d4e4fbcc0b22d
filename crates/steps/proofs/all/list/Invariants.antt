-- `all::list` meets its contract. The loop's invariant: the first i quantities are listed. Assumes nothing.
use Rattle.std.proofs.Common.{◌≡◌, ℕ, ◌<◌, get_or}
use Rattle.steps.proofs.all.list.Given as goal

abbrev pub invariant-loop-i : goal.invariant-loop-i
invariant-loop-i l = (h : ℕ) → h < l.i → get_or l.listed-items h 0 ≡ h
