-- `room::check_room` meets its contract: each test is the definition's, and twice a table's size is small. Assumes nothing.
use native.Mathlib.Omega.{arith}
use Rattle.tables.proofs.Sizes.{small_start, size_known}
use Rattle.scripts.proofs.room.check_room.Goals as goal

pub overflow_mul-m : goal.overflow_mul-m
overflow_mul-m c =
    omega (arith, size_known c.args.n c.size-m.result c.requires.1 c.size-m.ensures, small_start c.args.n c.requires.1)

pub overflow_mul-result : goal.overflow_mul-result
overflow_mul-result c =
    omega (arith, size_known c.args.n c.size-m.result c.requires.1 c.size-m.ensures, small_start c.args.n c.requires.1)
