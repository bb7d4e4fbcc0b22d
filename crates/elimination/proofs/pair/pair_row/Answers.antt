-- `pair::pair_row` meets its contract: with no rule of the literal both places keep their words. Assumes nothing.
use mathlib.Core.Path.{◌≡◌, sym, ◌∙◌}
use mathlib.Core.Bool.{true}
use mathlib.Core.List.{List}
use Prim.Native.Nat.{ℕ, ◌+◌}
use lib.IntN.{ℤ, pos}
use lib.Seq.{set-get_or}
use Rattle.elimination.specs.declared.bounds.Bounds.{Bounds}
use Rattle.elimination.specs.declared.bounds.QuantityBounds.{QuantityBounds}
use Rattle.elimination.specs.Hiding.{with_sum}
use Rattle.elimination.specs.Inner.{two_paired, row_paired, neither_held}
use Rattle.elimination.proofs.Addable.{neither_tells}
use Rattle.elimination.proofs.pair.pair_row.Goals as goal

-- no sum with a word that is no rule
two_idle : (t : List ℤ) (at : ℕ) (x y : Bounds) → neither_held x ≡ true → two_paired t at x y ≡ t
unfolding with_sum
two_idle t at x y e = let f = neither_tells x e in rw (f.0, f.1) (set-get_or t at (pos 0))

row_idle : (t : List ℤ) (at : ℕ) (x : Bounds) (y : QuantityBounds) → neither_held x ≡ true → t ≡ row_paired t at x y
row_idle t at x y e = sym (rw (two_idle t at x y.literal e) (two_idle t (at + 1) x y.negated e))

pub returns-then-are_neither : goal.returns-then-are_neither
returns-then-are_neither c = row_idle _ _ _ _ (sym c.are_neither.ensures ∙ c.if-are_neither.true)
