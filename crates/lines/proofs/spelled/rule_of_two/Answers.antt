-- `spelled::rule_of_two` meets its contract: a second term, a colon and the bound follow. Assumes nothing.
use mathlib.Core.Path.{refl}
use lib.ListN.{drop}
use Rattle.integers.proofs.Parts.{word_value}
use Rattle.numerals.specs.declared.byte.Kind.TheVariants.{Colon}
use Rattle.numerals.proofs.Keys.{kind_holds, kind_fails}
use Rattle.lines.specs.Spelling.{signed_quantity}
use Rattle.lines.proofs.CappedIntegers.{found_word}
use Rattle.lines.proofs.RuleForms.{two_bare, two_uncoloned, two_unbounded, two_read}
use Rattle.lines.proofs.spelled.rule_of_two.Goals as goal

pub returns-in_err-second : goal.returns-in_err-second
returns-in_err-second c = let a = c.args in
    rw c.from_residual.ensures (two_bare a.s.now a.first (drop a.at a.s.now) c.in_err-second.ensures)

pub returns-then-ne : goal.returns-then-ne
returns-then-ne c = let a = c.args in
    two_uncoloned a.s.now a.at a.first c.in_ok-second.second c.in_ok-second.ensures
    (kind_fails Colon a.s.now _ refl c.byte_at.ensures c.from.ensures c.ne.ensures c.if-ne.true)

pub returns-in_err-bound : goal.returns-in_err-bound
returns-in_err-bound c = let a = c.args in
    rw c.from_residual-in_err-bound.ensures (two_unbounded a.s.now a.at a.first c.in_ok-second.second c.in_ok-second.ensures
    (kind_holds Colon a.s.now _ refl c.byte_at.ensures c.from.ensures c.ne.ensures c.if-ne.false) c.in_err-bound.ensures)

pub returns : goal.returns
returns c = let a = c.args in
    let y = found_word signed_quantity a.s.now _ c.in_ok-second.second c.in_ok-second.ensures in
    let b = found_word (λ z. z) a.s.now _ c.in_ok-bound.bound c.in_ok-bound.ensures in
    rw (word_value c.ranges.first, word_value y, word_value b)
    (two_read a.s.now a.at a.first c.in_ok-second.second c.in_ok-second.ensures
    (kind_holds Colon a.s.now _ refl c.byte_at.ensures c.from.ensures c.ne.ensures c.if-ne.false) c.in_ok-bound.bound c.in_ok-bound.ensures)
