-- What following a step needs, in the order of its checks.
use Rattle.std.specs.Prelude.{List, ℕ, suc, ◌≤◌, ℤ}
use Rattle.rules.specs.declared.refusal.Refusal.TheVariants.{OutOfLimit, NoAssignment}
use Rattle.rules.specs.Refusing.{Needs, passed, ◌or◌then◌}
use Rattle.tables.specs.Meaning.{Satisfiable}
use Rattle.keys.specs.Meaning.{key_needs_then}

-- a quantity of n, and a point of its step: so many of n blocks done, or all and the places cleared
pub record PointWithin (n q blocks : ℕ) : Type 0 where
  pub some : 1 ≤ q
  pub most : q ≤ n
  pub point : blocks ≤ suc n

-- following the step of a quantity in a table with a workspace of w words: 1, 6, 3 as for a key, 3 for the quantity and the blocks, then others
abbrev pub step_needs_then : ℕ → ℕ → ℕ → ℕ → List ℤ → ℕ → Needs → Needs
step_needs_then n set q blocks t w rest = key_needs_then n set t w (PointWithin n q blocks or OutOfLimit 0 then rest)

-- and last 5
abbrev pub step_needs : ℕ → ℕ → ℕ → ℕ → List ℤ → ℕ → Needs
step_needs n set q blocks t w = step_needs_then n set q blocks t w (Satisfiable n t or NoAssignment then passed)
