-- The bytes that are lent for marks: 2n² of them, 0 or 1.
use Rattle.std.specs.Prelude.{Bool, true, ◌&&◌, ◌≡◌, ◌↔◌, List, [], ◌∷◌, ℕ, zero, suc, ◌+◌, ◌≤◌, ◌<◌, leb, eqb, length, drop}
use Rattle.integers.specs.Bound.{bit}
use Rattle.marks.specs.Marks.{Marked, byte_at}

-- each of the first m bytes, or of all where there are fewer, is 0 or 1
unfoldable pub marks_in : ℕ → List ℕ → Bool
marks_in zero marks = true
marks_in (suc m) [] = true
marks_in (suc m) (b ∷ marks) = leb b 1 && marks_in m marks

-- the same said of each
abbrev pub MarksWithin : ℕ → List ℕ → Type 0
MarksWithin m marks = (k : ℕ) → k < m → byte_at marks k ≤ 1

-- the test of marks
pub record MarksTested (m : ℕ) (marks : List ℕ) (r : Bool) : Type 0 where
  pub reply : r ≡ marks_in m marks
  pub meaning : (r ≡ true) ↔ MarksWithin m marks

-- the first m bytes tell of each place whether its rule is marked, 0 where there is none; other bytes stay
pub record MarksAre (m : ℕ) (places : ℕ → Marked) (before after : List ℕ) : Type 0 where
  pub size : length after ≡ length before
  pub each : (k : ℕ) → k < m → byte_at after k ≡ bit (places k).mark
  pub rest : drop m after ≡ drop m before

-- the first m bytes of another list copied; other bytes stay
pub record BytesCopied (m : ℕ) (from before after : List ℕ) : Type 0 where
  pub size : length after ≡ length before
  pub each : (k : ℕ) → k < m → byte_at after k ≡ byte_at from k
  pub rest : drop m after ≡ drop m before

-- how many of the first m bytes are 1
unfoldable pub mark_count : ℕ → List ℕ → ℕ
mark_count zero marks = 0
mark_count (suc m) [] = 0
mark_count (suc m) (b ∷ marks) = bit (eqb b 1) + mark_count m marks

-- how many of the first m places are marked
unfoldable pub marked_count : ℕ → (ℕ → Marked) → ℕ
marked_count zero places = 0
marked_count (suc k) places = marked_count k places + bit (places k).mark
