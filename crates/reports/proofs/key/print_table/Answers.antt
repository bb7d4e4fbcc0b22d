-- `key::print_table` meets its contract: the tightest key's text where the call is done, its refusal where not; there is room for both. Assumes nothing.
use native.Mathlib.Omega.{arith}
use Rattle.reports.proofs.TableReports.{report_room, key_serves, report_done, report_refusal}
use Rattle.reports.proofs.key.print_table.Goals as goal

pub print_text-requires : goal.print_text-requires
print_text-requires c =
    let done = c.in-Ok.is in
    let room = rw (report_done c.tight_key.ensures c.requires.0 (omega arith) done) at (report_room c.requires.0) in
    record {
      table_value = key_serves c.tight_key.ensures c.requires.0 (omega arith) done;
      table_in_bounds = omega (arith, room, c.requires.1);
    }

pub put_refusal-requires : goal.put_refusal-requires
put_refusal-requires c =
    let room = rw (report_refusal c.tight_key.ensures c.requires.0 (omega arith) _ c.in-Err.is) at (report_room c.requires.0) in
    omega (arith, room, c.requires.1)

pub returns-in-Ok : goal.returns-in-Ok
returns-in-Ok c =
    rw (report_done c.tight_key.ensures c.requires.0 (omega arith) c.in-Ok.is) c.print_text.ensures

pub returns-in-Err : goal.returns-in-Err
returns-in-Err c =
    rw (report_refusal c.tight_key.ensures c.requires.0 (omega arith) _ c.in-Err.is) c.put_refusal.ensures
