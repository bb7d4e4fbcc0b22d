-- `pair::add_two` meets its contract: where all bounds are rules, both sums are put in. Assumes nothing.
use mathlib.Core.Path.{◌≡◌}
use mathlib.Core.Bool.{true}
use mathlib.Core.List.{List}
use Prim.Native.Nat.{ℕ}
use lib.IntN.{ℤ, ◌+ℤ◌}
use lib.ListN.{set}
use mir.Syntax.{w64}
use mir.Val.{SFits}
use Rattle.std.proofs.Common.{rules}
use Rattle.integers.specs.Bound.{smaller}
use Rattle.words.specs.Change.{word_at}
use Rattle.elimination.specs.declared.bounds.Bounds.{Bounds}
use Rattle.elimination.specs.Hiding.{with_sum}
use Rattle.elimination.specs.Inner.{BothAddable, both_held, two_paired}
use Rattle.elimination.proofs.Addable.{sum_fits, both_tells}
use Rattle.elimination.proofs.pair.add_two.Goals as goal

-- the sum of two of the bounds fits
plus_fits : (x y : Bounds) → BothAddable x → BothAddable y → both_held x ≡ true → both_held y ≡ true → SFits w64 (x.plus +ℤ y.minus)
plus_fits x y a b e f = sum_fits x.plus y.minus a.plus b.minus (both_tells x e).0 (both_tells y f).1

minus_fits : (x y : Bounds) → BothAddable x → BothAddable y → both_held x ≡ true → both_held y ≡ true → SFits w64 (x.minus +ℤ y.plus)
minus_fits x y a b e f = sum_fits x.minus y.plus a.minus b.plus (both_tells x e).1 (both_tells y f).0

-- both sums are put in
added : (t : List ℤ) (at : ℕ) (x y : Bounds) → both_held x ≡ true → both_held y ≡ true
    → two_paired t at x y ≡ set t at (smaller (smaller (word_at t at) (x.minus +ℤ y.plus)) (x.plus +ℤ y.minus))
unfolding with_sum
added t at x y e f = let g = both_tells x e in let h = both_tells y f in rw (g.0, g.1, h.0, h.1)

pub overflow_add-x : goal.overflow_add-x
overflow_add-x c = search (rules, minus_fits)

pub overflow_add-x-2 : goal.overflow_add-x-2
overflow_add-x-2 c = search (rules, plus_fits)

pub returns : goal.returns
returns c =
    let held = c.requires.held in
    let addable = c.requires.addable in
    let first = minus_fits c.args.x c.args.y addable.1 addable.2 held.0 held.1 in
    let second = plus_fits c.args.x c.args.y addable.1 addable.2 held.0 held.1 in
    rw (added c.args.table.now c.args.at c.args.x c.args.y held.0 held.1) (search rules)
