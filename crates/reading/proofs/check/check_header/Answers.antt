-- `check::check_header` meets its contract: a line that is refused ends it with its refusal. Assumes nothing.
use native.Mathlib.Omega.{arith}
use Rattle.reading.proofs.CheckedHeaders.{first_refused, first_most, second_refused, third_refused, header_done}
use Rattle.reading.proofs.check.check_header.Goals as goal

pub returns-in_default : goal.returns-in_default
returns-in_default c = first_refused c.args.s.now (omega arith) _ (rw c.unwrap_err.ensures at c.count_line-first.ensures)

pub hidden_line-second-requires : goal.hidden_line-second-requires
hidden_line-second-requires c = first_most c.args.s.now (omega arith) c.in-Ok.ensures

pub returns-in_default-second : goal.returns-in_default-second
returns-in_default-second c =
    second_refused c.args.s.now (omega arith) c.in-Ok.ensures _
    (rw c.unwrap_err-in_default-second.ensures at c.hidden_line-second.ensures)

pub returns-in_default-third : goal.returns-in_default-third
returns-in_default-third c =
    third_refused c.args.s.now (omega arith) c.in-Ok.ensures c.in-Ok-second.ensures _
    (rw c.unwrap_err-in_default-third.ensures at c.count_line-third.ensures)

pub returns : goal.returns
returns c = header_done c.args.s.now (omega arith) c.in-Ok.ensures c.in-Ok-second.ensures c.in-Ok-third.ensures
