-- A list of words changed at places: at one, or at each of the first m by a function of the place and the word. No order of work is in it.
use Rattle.std.specs.Prelude.{cond, List, [], ◌∷◌, ℕ, zero, suc, ltb, length, get_or, set, ℤ, pos}
use Rattle.integers.specs.Bound.{smaller}

-- the word at a place; 0 past the end
abbrev pub word_at : List ℤ → ℕ → ℤ
word_at t k = get_or t k (pos 0)

-- the words from place i on, the first m of them changed
unfoldable pub change_from : ℕ → ℕ → (ℕ → ℤ → ℤ) → List ℤ → List ℤ
change_from i zero f t = t
change_from i (suc m) f [] = []
change_from i (suc m) f (w ∷ t) = f i w ∷ change_from (suc i) m f t

-- the list with its first m words changed
unfoldable pub change : ℕ → (ℕ → ℤ → ℤ) → List ℤ → List ℤ
change m f t = change_from 0 m f t

-- as a change: another change at each place from the place i on
abbrev pub starting_at : ℕ → (ℕ → ℤ → ℤ) → ℕ → ℤ → ℤ
starting_at i f k w = cond (ltb k i) w (f k w)

-- as a change: the word of another list, where it has one
abbrev pub copying : List ℤ → ℕ → ℤ → ℤ
copying s k w = cond (ltb k (length s)) (word_at s k) w

-- as a change: the word w at each place from the place i on
abbrev pub fill_from : ℕ → ℤ → ℕ → ℤ → ℤ
fill_from i w k v = cond (ltb k i) v w

-- the list with the word w by minimum at place k; unchanged where it has no such place
unfoldable pub lowered : List ℤ → ℕ → ℤ → List ℤ
lowered t k w = set t k (smaller (word_at t k) w)
