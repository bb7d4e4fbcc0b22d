-- `limit::is_table_in` meets its contract. Assumes nothing.
use Rattle.std.proofs.Common.{rules, arith, ◌≡◌, false, take, slice_index_or, pos}
use Rattle.tables.specs.Tables.{in_limit}
use Rattle.tables.proofs.Limits.{all_pass, one_fails}
use Rattle.tables.proofs.limit.is_table_in.Goals as goal

pub returns-then-not-is_word_in : goal.returns-then-not-is_word_in
returns-then-not-is_word_in c =
    let e : in_limit c.args.limit (slice_index_or (take c.min.result c.args.table.now) c.loop-w.w-index (pos 0)) ≡ false = search rules in
    one_fails _ _ _ _ _ c.min.ensures c.loop-w-test.true e

pub returns : goal.returns
returns c = all_pass _ _ c.loop-w.w-index _ _ c.min.ensures (omega arith) (search rules)
