-- `choose::bounded_by` meets its contract: the bounds of both literals of a listed quantity are asked. Assumes nothing.
use mathlib.Core.Path.{◌≡◌, sym, ◌∙◌, ap}
use mathlib.Core.List.{List}
use Prim.Native.Nat.{ℕ, ◌+◌, ◌*◌, ◌/◌}
use native.Mathlib.Numerals.{add-one}
use native.Mathlib.Omega.{arith}
use lib.IntN.{ℤ, pos, neg_ℤ, ◌+ℤ◌}
use lib.ListN.{get_or}
use mir.Syntax.{w64}
use mir.Val.{to_z, of_z}
use Rattle.std.proofs.Common.{rules}
use Rattle.integers.proofs.Parts.{word_value}
use Rattle.integers.proofs.Within.{within_neg}
use Rattle.words.specs.Change.{word_at}
use Rattle.rules.specs.Meaning.{literal_value}
use Rattle.rules.proofs.Literals.{value_plus, value_minus}
use Rattle.tables.specs.Meaning.{assignment_of}
use Rattle.elimination.specs.Choosing.{with_upper}
use Rattle.elimination.specs.Inner.{Addable, Choosable}
use Rattle.elimination.proofs.Lists.{listed_at}
use Rattle.elimination.proofs.Rows.{row_adds}
use Rattle.elimination.proofs.Best.{best_none, best_more}
use Rattle.elimination.proofs.Values.{quantity_word, zero_less, zero_less_word}
use Rattle.elimination.proofs.choose.bounded_by.Goals as goal

-- the values of a quantity's two literals
plus_value : (values : List ℤ) (a : ℕ) → word_at values a ≡ literal_value (assignment_of values) (2 * a)
plus_value values a =
    let e : 2 * a / 2 ≡ a = omega arith in
    sym (value_plus (assignment_of values) (2 * a) (omega arith) ∙ quantity_word values (2 * a) ∙ ap (word_at values) e)

minus_value : (values : List ℤ) (a : ℕ) → neg_ℤ (word_at values a) ≡ literal_value (assignment_of values) (2 * a + 1)
minus_value values a =
    let e : (2 * a + 1) / 2 ≡ a = omega arith in
    sym (value_minus (assignment_of values) (2 * a + 1) (omega arith) ∙ ap neg_ℤ (quantity_word values (2 * a + 1) ∙ ap (word_at values) e))

-- the negation of a value reads back from its bits
negation_word : (v : ℤ) → Choosable v → to_z w64 (of_z w64 (pos 0 +ℤ neg_ℤ v)) ≡ neg_ℤ v
negation_word v h = word_value (zero_less_word (omega arith) h) ∙ zero_less v

pub loop-a-init : goal.loop-a-init
loop-a-init c = best_none c.args.live.now _ _ _ _ _ (search rules)

pub with_upper-best-requires-in-loop-a : goal.with_upper-best-requires-in-loop-a
with_upper-best-requires-in-loop-a c =
    let live = c.args.live.now in
    let a = get_or live c.loop-a.a-index 0 in
    let below = c.requires.0.below c.loop-a.a-index (omega arith) in
    let bound : Addable (word_at c.args.row.now (2 * a)) = row_adds c.args.n live c.args.row.now c.loop-a.a-index (2 * a) c.requires.1 (omega arith) (omega arith) (omega arith) in
    let value : Choosable (word_at c.args.values.now a) = c.requires.2.each a (listed_at live c.loop-a.a-index (omega arith)) in
    search rules

pub overflow_sub-value : goal.overflow_sub-value
overflow_sub-value c =
    let live = c.args.live.now in
    let a = get_or live c.loop-a.a-index 0 in
    let e : to_z w64 (of_z w64 (word_at c.args.values.now a)) ≡ word_at c.args.values.now a = search rules in
    rw e (zero_less_word (omega arith) (c.requires.2.each a (listed_at live c.loop-a.a-index (omega arith))))

pub with_upper-best-requires-in-loop-a-2 : goal.with_upper-best-requires-in-loop-a-2
with_upper-best-requires-in-loop-a-2 c =
    let live = c.args.live.now in
    let a = get_or live c.loop-a.a-index 0 in
    let below = c.requires.0.below c.loop-a.a-index (omega arith) in
    let bound : Addable (word_at c.args.row.now (2 * a + 1)) =
    row_adds c.args.n live c.args.row.now c.loop-a.a-index (2 * a + 1) c.requires.1 (omega arith) (omega arith) (omega arith) in
    let value : Choosable (word_at c.args.values.now a) = c.requires.2.each a (listed_at live c.loop-a.a-index (omega arith)) in
    let e : to_z w64 (of_z w64 (word_at c.args.values.now a)) ≡ word_at c.args.values.now a = search rules in
    let f : to_z w64 (of_z w64 (word_at c.args.row.now (2 * a + 1))) ≡ word_at c.args.row.now (2 * a + 1) = search rules in
    (rw f bound, rw (e, negation_word _ value) (within_neg value))

pub loop-a-preserved : goal.loop-a-preserved
loop-a-preserved c =
    let live = c.args.live.now in
    let values = c.args.values.now in
    let i = c.loop-a.a-index in
    let a = get_or live i 0 in
    let value = literal_value (assignment_of values) in
    let row = word_at c.args.row.now in
    let in_range = c.requires.2.each a (listed_at live i (omega arith)) in
    let e : to_z w64 (of_z w64 (word_at values a)) ≡ word_at values a = search rules in
    let f : to_z w64 (of_z w64 (row (2 * a))) ≡ row (2 * a) = search rules in
    let g : to_z w64 (of_z w64 (row (2 * a + 1))) ≡ row (2 * a + 1) = search rules in
    let first = c.with_upper-best-in-loop-a in
    let second = c.with_upper-best-in-loop-a-2 in
    let plus_lowered : to_z w64 (of_z w64 first.result) ≡ with_upper (row (2 * a)) (value (2 * a)) c.loop-a.best = rw (← plus_value values a) (search rules) in
    let both_lowered : to_z w64 (of_z w64 second.result) ≡ with_upper (row (2 * a + 1)) (value (2 * a + 1)) (with_upper (row (2 * a)) (value (2 * a)) c.loop-a.best) =
    rw (← plus_lowered, ← minus_value values a, ← negation_word _ in_range) (search rules) in
    rw (add-one i, both_lowered) (best_more live _ _ _ _ i c.loop-a.best c.requires.0.rising (omega arith) (rw c.loop-a.best-is at c.loop-a.invariant))
