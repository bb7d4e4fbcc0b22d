-- A hiding step followed block after block: the table at a point of it, the checks of the call in order, and its reply, which compute.
use Rattle.std.specs.Prelude.{Bool, cond, not, ◌&&◌, List, ℕ, suc, ◌-◌, leb, ℤ, Ok}
use Rattle.rules.specs.declared.refusal.Refusal.TheVariants.{OutOfLimit, NoAssignment}
use Rattle.tables.specs.Replies.{Reply, check}
use Rattle.elimination.specs.Hiding.{every, paired, eliminated}
use Rattle.keys.specs.Keys.{key_of, refuted, key_checks}

-- a table over n quantities at a point of the step that hides quantity j + 1: with its first `blocks` blocks done; where `blocks` is more than n, with all done and the quantity's places cleared. The first b blocks are
-- the table of the first b quantities, and `paired` with b for n puts in just the sums that land there; the rules that are added are read from the whole table, also where the quantity is past b
unfoldable pub step_at : ℕ → ℕ → ℕ → List ℤ → List ℤ
step_at n j blocks t = cond (leb blocks n) (paired every blocks j t) (eliminated n j t)

-- the same of quantity q, with others hidden before the step
unfoldable pub step_of : (ℕ → Bool) → ℕ → ℕ → ℕ → List ℤ → List ℤ
step_of before n q blocks t = step_at n (q - 1) blocks (key_of before n t)

-- ---- the call's reply

-- is q a quantity of n, and so many blocks a point of a step?
unfoldable pub step_within : ℕ → ℕ → ℕ → Bool
step_within n q blocks = leb 1 q && (leb q n && leb blocks (suc n))

-- its checks: those of the key call, 1, 6 and 3, then 3 for quantity and blocks, and what follows
unfoldable pub step_checks : ℕ → ℕ → ℕ → ℕ → List ℤ → ℕ → Reply → Reply
step_checks n set q blocks t workspace next = key_checks n set t workspace (check (step_within n q blocks) (OutOfLimit 0) next)

-- its reply: these, and 5
unfoldable pub step_reply : ℕ → ℕ → ℕ → ℕ → List ℤ → ℕ → Reply
step_reply n set q blocks t workspace = step_checks n set q blocks t workspace (check (not (refuted n t)) NoAssignment (Ok tt))
