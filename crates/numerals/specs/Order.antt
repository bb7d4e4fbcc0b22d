-- The order of two numerals by their digits alone, of any length.
use Rattle.std.specs.Prelude.{◌≡◌, Bool, false, cond, List, [], ◌∷◌, ℕ, ltb, eqb, length}
use Rattle.numerals.specs.Decimal.{decimal}

-- lexicographic order: the first byte that differs decides
unfoldable pub earlier : List ℕ → List ℕ → Bool
earlier [] ys = false
earlier (x ∷ xs) [] = false
earlier (x ∷ xs) (y ∷ ys) = cond (eqb x y) (earlier xs ys) (ltb x y)

-- the shorter one is the smaller; of two of one length the first digit that differs decides
unfoldable pub smaller_numeral : List ℕ → List ℕ → Bool
smaller_numeral xs ys = cond (eqb (length xs) (length ys)) (earlier xs ys) (ltb (length xs) (length ys))

-- the answer whether x is smaller than y; of numerals it is whether the value is
pub record Compared (x y : List ℕ) (r : Bool) : Type 0 where
  pub reply : r ≡ smaller_numeral x y
  pub meaning : (v w : ℕ) → x ≡ decimal v → y ≡ decimal w → r ≡ ltb v w
