-- `check::check_rules` meets its contract. The loop's invariant: the lines so far are read, and the table is filled so far. Assumes nothing.
use mathlib.Core.Path.{◌≡◌, sym, ◌∙◌}
use mathlib.Core.Bool.{true}
use native.Mathlib.Omega.{arith}
use borrow.Author.Tests.{le-leb, lt-leb}
use Rattle.std.proofs.lemmas.Result.{err_from_is_err_and}
use Rattle.tables.proofs.Tests.{clash}
use Rattle.reading.proofs.OrderedLines.{Placed}
use Rattle.reading.proofs.Running.{begins_emptied, begins_same, line_ends, order_ends, goes_put, goes_on, bytes_follow, all_read}
use Rattle.reading.proofs.check.check_rules.Goals as goal
use Rattle.reading.proofs.check.check_rules.Goals.{then-fills, else-fills, then-ordered+in_ok-place, else-ordered, then-fills-2, else-fills-2}

-- the table as the loop begins: emptied, or as it was
pub loop-i-init : goal.loop-i-init
loop-i-init c = let a = c.args in
    elim c.if-fills.branch [
      | then-fills w ↦ rw w.table-is (begins_emptied a.ordered a.header a.limit a.s.now _ _ c.requires.1 c.size.ensures _ _ c.requires.0 w.if-fills.true w.empty.ensures w.empty.auto.table)
      | else-fills w ↦ rw w.table-is (begins_same a.ordered a.header a.limit a.s.now _ _ c.requires.1 c.size.ensures (lt-leb _ _ w.if-fills.false))
    ]

-- the line is refused
pub returns-in_default : goal.returns-in_default
returns-in_default c = line_ends c.loop-i.invariant _ c.loop-i-test.true (rw c.unwrap_err.ensures at c.rule_line-line.ensures)

-- its rule is not in order
pub returns-in_err-place : goal.returns-in_err-place
returns-in_err-place c =
    let p = err_from_is_err_and c.from_residual.result c.from_residual.ensures.1 in
    rw (p.1, p.2)
    (order_ends c.loop-i.invariant c.loop-i-test.true c.in-Ok.ensures _ c.if-ordered.true c.place_after.ensures c.in_err-place.ensures.value c.in_err-place.ensures.ok_part)

-- it is found: where the rules are to be in order, the last place is then that of the rule, and where the table is to be filled, the rule is put in
pub loop-i-preserved : goal.loop-i-preserved
loop-i-preserved c =
    let r = c.loop-i.invariant in
    let placed : c.args.ordered ≡ true → Placed c.loop-i.last c.if-ordered.last c.in-Ok.got.value =
    elim c.if-ordered.branch [
      | then-ordered+in_ok-place w ↦ λ o. record {
        place = w.in_ok-place.place;
        after = sym w.place_after.ensures ∙ w.in_ok-place.ensures.ok_part;
        is = w.last-is;
      }
      | else-ordered w ↦ λ o. clash o w.if-ordered.false
    ] in
    elim c.if-fills-2.branch [
      | then-fills-2 w ↦ rw w.table-is (goes_put r c.loop-i-test.true c.in-Ok.ensures _ _ _ placed c.requires.2 c.requires.0 c.requires.1
          (le-leb _ _ w.if-fills-2.true) (c.loop-i.auto.table ∙ c.if-fills.auto.table) w.put.ensures w.put.auto.table)
      | else-fills-2 w ↦ rw w.table-is (goes_on r c.loop-i-test.true c.in-Ok.ensures _ placed (lt-leb _ _ w.if-fills-2.false))
    ]

-- something follows the lines
pub returns-then-at-s : goal.returns-then-at-s
returns-then-at-s c = bytes_follow c.loop-i.invariant (omega arith) c.loop-i-test.false c.if-at-s.true

pub returns : goal.returns
returns c = all_read c.loop-i.invariant c.loop-i-test.false c.if-at-s.false
