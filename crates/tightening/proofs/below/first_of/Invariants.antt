-- `below::first_of` meets its contract. The loop's invariant: none of the places passed is one that is looked for. Assumes nothing.
use Prim.Native.Nat.{ℕ, ◌≤◌, ◌<◌}
use Rattle.tightening.specs.Below.{BelowAt}
use Rattle.tightening.proofs.below.first_of.Given as goal

abbrev pub invariant-loop-k : goal.invariant-loop-k
invariant-loop-k l = (i : ℕ) → l.at ≤ i → i < l.k → BelowAt l.rules l.least i → ⊥
