-- `paper::bound_limit` meets its contract: a set has at most 32 quantities, so the doubled limit is a word. Assumes nothing.
use mathlib.Core.Path.{◌≡◌}
use Prim.Native.Nat.{ℕ, ◌*◌, ◌%◌, ◌^◌, ◌≤◌, ◌<◌}
use native.Mathlib.Nat.{mul-le-mul_left}
use native.Mathlib.Omega.{arith}
use lib.IntN.{pos}
use lib.Pow.{pow_mono}
use mir.Syntax.{w64}
use mir.Val.{to_z}
use mir.ValLaws.{to_z-of_z}
use Rattle.rules.specs.Hidden.{hidden_in, member_count}
use Rattle.rules.specs.Limits.{max_bound, bound_limit}
use Rattle.rules.proofs.Counts.{count_word}
use Rattle.rules.proofs.paper.bound_limit.Goals as goal

-- doubled once for each bit of a set
doubled_small : (k : ℕ) → k ≤ 32 → max_bound * 2 ^ k < 2 ^ 63
doubled_small k h = omega (arith, mul-le-mul_left max_bound (pow_mono {i = k} {j = 32} h))

doubled : (k : ℕ) → k ≤ 32 → to_z w64 ((max_bound * 2 ^ k) % 2 ^ 64) ≡ pos (max_bound * 2 ^ k)
doubled k h =
    let whole : (max_bound * 2 ^ k) % 2 ^ 64 ≡ max_bound * 2 ^ k = omega (arith, doubled_small k h) in
    rw whole (to_z-of_z w64 (pos (max_bound * 2 ^ k)) (record { sfits = doubled_small k h }))

small : (k set n : ℕ) → set < 2 ^ 32 → k ≡ member_count (hidden_in set) n → k ≤ 32
small k set n f e = rw e (count_word set n f)

pub overflow_cast-result : goal.overflow_cast-result
overflow_cast-result c = record { sfits = omega (arith, small _ _ _ c.ranges.hidden.fits c.count.ensures) }

pub overflow_shl-result : goal.overflow_shl-result
overflow_shl-result c = omega (arith, small _ _ _ c.ranges.hidden.fits c.count.ensures)

pub returns-in-Script : goal.returns-in-Script
unfolding bound_limit
returns-in-Script c = rw (doubled c.count.result (small _ _ _ c.ranges.hidden.fits c.count.ensures), c.in-Script.is, c.count.ensures)
