-- Words of rules: the sum of two addable ones fits, and what it tells that some hold none. Assumes nothing.
use mathlib.Core.Path.{◌≡◌, refl}
use mathlib.Core.Bool.{Bool, true, false, not, ◌||◌}
use native.Mathlib.Omega.{arith}
use lib.IntN.{ℤ, ◌+ℤ◌}
use mir.Syntax.{w64}
use mir.Val.{SFits}
use Rattle.integers.proofs.Within.{sum_word}
use Rattle.tables.specs.Tables.{has_rule}
use Rattle.tables.proofs.Tests.{clash, both_true}
use Rattle.elimination.specs.declared.bounds.Bounds.{Bounds}
use Rattle.elimination.specs.Inner.{Addable, both_held, neither_held}

-- the sum of two addable words that hold rules is a word
pub sum_fits : (a b : ℤ) → Addable a → Addable b → has_rule a ≡ true → has_rule b ≡ true → SFits w64 (a +ℤ b)
sum_fits a b h k p q = sum_word {A = 4611686018427387903} {B = 4611686018427387903} (omega arith) (h p) (k q)

-- what it tells that neither of a literal's bounds is a rule
pub neither_tells : (x : Bounds) → neither_held x ≡ true → (has_rule x.plus ≡ false) × (has_rule x.minus ≡ false)
neither_tells x = go (has_rule x.plus) (has_rule x.minus)
  where
    go : (p q : Bool) → not (p || q) ≡ true → (p ≡ false) × (q ≡ false)
    go true q e = clash e refl
    go false true e = clash e refl
    go false false e = (refl, refl)

-- and that both are
pub both_tells : (x : Bounds) → both_held x ≡ true → (has_rule x.plus ≡ true) × (has_rule x.minus ≡ true)
both_tells x = both_true (has_rule x.plus) (has_rule x.minus)
