-- Magnitudes: the range of an assignment's values (`ValuesWithin`), and of bounds, by which sums are shown to fit; and a quantity that no rule names, whose step makes no sum.
use Rattle.std.specs.Prelude.{false, List, ◌≡◌, ℕ, suc, ◌<◌, ℤ, pos}
use Rattle.integers.specs.Bound.{Within}
use Rattle.words.specs.Change.{word_at}
use Rattle.rules.specs.Meaning.{names}
use Rattle.tables.specs.Meaning.{HoldsRule, rule_in}

-- two bounds of at most this magnitude, 2 ^ 62 - 1, have a sum that is a bound too, below the no-rule word
abbrev pub add_limit : ℤ
add_limit = pos 4611686018427387903

-- the values of an assignment lie between -2 ^ 62 and 2 ^ 62 (document 01, 'Finding an assignment')
abbrev pub value_limit : ℤ
value_limit = pos 4611686018427387904

-- no rule of a table over n quantities names quantity j + 1
pub record Unnamed (n j : ℕ) (t : List ℤ) : Type 0 where
  pub each : (k : ℕ) → HoldsRule n t k → names (suc j) (rule_in t k) ≡ false

-- the first n of the words lie between -2 ^ 62 and 2 ^ 62
abbrev pub ValuesWithin : ℕ → List ℤ → Type 0
ValuesWithin n values = (k : ℕ) → k < n → Within value_limit (word_at values k)
