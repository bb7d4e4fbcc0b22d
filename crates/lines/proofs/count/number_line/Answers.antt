-- `count::number_line` meets its contract: the key, the number and the line's end are read in turn. Assumes nothing.
use mathlib.Core.Path.{sym, ◌∙◌}
use native.Mathlib.Omega.{arith}
use lib.ListN.{drop, length-drop}
use Rattle.numerals.proofs.Keys.{starts_length}
use Rattle.lines.proofs.Counts.{count_unkeyed, count_bare, count_ended}
use Rattle.lines.proofs.count.number_line.Goals as goal

pub returns-then-not-has_key : goal.returns-then-not-has_key
returns-then-not-has_key c = count_unkeyed c.args.s.now c.args.key.now c.args.at (sym c.has_key.ensures ∙ c.if-not-has_key.true)

pub overflow_add-at : goal.overflow_add-at
overflow_add-at c = let a = c.args in
    omega (arith, starts_length a.key.now (drop a.at a.s.now) (sym c.has_key.ensures ∙ c.if-not-has_key.false), length-drop a.at a.s.now)

pub returns-in_err-found : goal.returns-in_err-found
returns-in_err-found c = let a = c.args in
    rw c.from_residual.ensures (count_bare a.s.now a.key.now a.at (sym c.has_key.ensures ∙ c.if-not-has_key.false) (sym c.in_err-found.ensures))

pub returns : goal.returns
returns c = let a = c.args in
    c.ended.ensures ∙ count_ended a.s.now a.key.now a.at (sym c.has_key.ensures ∙ c.if-not-has_key.false) c.in_ok-found.found (sym c.in_ok-found.ensures)
