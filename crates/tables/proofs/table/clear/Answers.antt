-- `table::clear` meets its contract: a table that serves n quantities and a quantity of 1 to n are what `clear_places` asks. Assumes nothing.
use Rattle.std.proofs.Common.{◌≡◌, suc, ◌-◌, sym, arith}
use Rattle.tables.proofs.Sizes.{serves_tells}
use Rattle.tables.proofs.Promised.{cleared_refused_size, cleared_refused_limit, cleared_done}
use Rattle.tables.proofs.table.clear.Goals as goal

pub returns-then-not-serves : goal.returns-then-not-serves
returns-then-not-serves c = cleared_refused_size _ _ _ (sym c.if-not-serves.ensures)

pub returns-then-q-lt1 : goal.returns-then-q-lt1
returns-then-q-lt1 c = cleared_refused_limit _ _ _ (sym c.if-not-serves.ensures) c.then-q-lt1.either

pub clear_places-requires : goal.clear_places-requires
clear_places-requires c = let s = serves_tells _ _ (sym c.if-not-serves.ensures) in omega arith

pub returns : goal.returns
returns c =
    let q = c.args.q in
    let e : suc (q - 1) ≡ q = omega arith in
    cleared_done _ _ _ _ (sym c.if-not-serves.ensures) (omega arith) (omega arith) (rw e at c.clear_places.ensures)
