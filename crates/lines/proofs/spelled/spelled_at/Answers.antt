-- `spelled::spelled_at` meets its contract: the key, a term, and what follows it. Assumes nothing.
use mathlib.Core.Path.{refl, sym, ◌∙◌, ap}
use Prim.Native.Nat.{◌+◌}
use native.Mathlib.Omega.{arith}
use lib.IntN.{ℤ}
use lib.ListN.{drop, length-drop}
use Rattle.integers.proofs.Parts.{word_value}
use Rattle.numerals.specs.declared.byte.Kind.TheVariants.{Colon}
use Rattle.numerals.proofs.Keys.{kind_holds, kind_fails, starts_length}
use Rattle.lines.specs.Spelling.{rule_key, signed_quantity}
use Rattle.lines.specs.Lines.{bound_line}
use Rattle.lines.specs.Inner.{found_answer, one_form, two_form, second_line}
use Rattle.lines.proofs.CappedIntegers.{found_word}
use Rattle.lines.proofs.RuleForms.{rule_unkeyed, rule_bare, rule_one, rule_two}
use Rattle.lines.proofs.spelled.spelled_at.Goals as goal

pub returns-then-not-has_key : goal.returns-then-not-has_key
returns-then-not-has_key c = rule_unkeyed c.args.s.now c.args.at (sym c.has_key.ensures ∙ c.if-not-has_key.true)

pub overflow_add-at : goal.overflow_add-at
overflow_add-at c = let a = c.args in
    omega (arith, starts_length rule_key (drop a.at a.s.now) (sym c.has_key.ensures ∙ c.if-not-has_key.false), length-drop a.at a.s.now)

pub returns-in_err-first : goal.returns-in_err-first
returns-in_err-first c = rw c.from_residual.ensures
    (rule_bare c.args.s.now c.args.at (sym c.has_key.ensures ∙ c.if-not-has_key.false) c.in_err-first.ensures)

pub returns-then-ne : goal.returns-then-ne
returns-then-ne c = let a = c.args in let first = c.in_ok-first.first in
    let word = word_value (found_word signed_quantity a.s.now _ first c.in_ok-first.ensures) in
    c.rule_of_two.ensures
    ∙ ap (λ (x : ℤ). found_answer (two_form x) a.s.now (second_line (drop first.next a.s.now))) word
    ∙ rule_two a.s.now a.at (sym c.has_key.ensures ∙ c.if-not-has_key.false) first c.in_ok-first.ensures
    (kind_fails Colon a.s.now _ refl c.byte_at.ensures c.from.ensures c.ne.ensures c.if-ne.true)

pub returns : goal.returns
returns c = let a = c.args in let first = c.in_ok-first.first in
    let word = word_value (found_word signed_quantity a.s.now _ first c.in_ok-first.ensures) in
    let e = kind_holds Colon a.s.now _ refl c.byte_at.ensures c.from.ensures c.ne.ensures c.if-ne.false in
    c.rule_of_one.ensures
    ∙ ap (λ (x : ℤ). found_answer (one_form x) a.s.now (bound_line (drop (first.next + 1) a.s.now))) word
    ∙ rule_one a.s.now a.at (sym c.has_key.ensures ∙ c.if-not-has_key.false) first c.in_ok-first.ensures e
