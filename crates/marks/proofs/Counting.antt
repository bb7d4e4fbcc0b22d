-- The number of marks, byte by byte; and where bytes tell of places whether they are marked, it is the number of marked places. Assumes nothing.
use mathlib.Core.Bool.{Bool, true, false, cond}
use mathlib.Core.Path.{◌≡◌, refl, ◌∙◌, ap}
use mathlib.Core.List.{List, [], ◌∷◌}
use Prim.Native.Nat.{ℕ, zero, suc, ◌+◌, ◌≤◌, ◌<◌}
use native.Mathlib.Omega.{arith}
use lib.Dec.{eqb}
use lib.ListN.{length, take}
use Rattle.std.specs.List.{filter}
use Rattle.integers.specs.Bound.{bit}
use Rattle.marks.specs.Marks.{Marked, byte_at}
use Rattle.marks.specs.Bytes.{mark_count, marked_count}

-- as the library counts them
pub count_all : (m : ℕ) (marks : List ℕ) → length (filter (λ b. eqb b 1) (take m marks)) ≡ mark_count m marks
unfolding mark_count
count_all zero marks = refl
count_all (suc m) [] = refl
count_all (suc m) (b ∷ marks) = go (count_all m marks) (eqb b 1)
  where
    go : length (filter (λ b. eqb b 1) (take m marks)) ≡ mark_count m marks
        → (t : Bool) → length (cond t (b ∷ filter (λ b. eqb b 1) (take m marks)) (filter (λ b. eqb b 1) (take m marks))) ≡ bit t + mark_count m marks
    go h true = omega arith
    go h false = omega arith

pub count_zero : (marks : List ℕ) → mark_count 0 marks ≡ 0
unfolding mark_count
count_zero marks = refl

-- one byte more at the end
pub count_last : (m : ℕ) (marks : List ℕ) → mark_count (suc m) marks ≡ mark_count m marks + bit (eqb (byte_at marks m) 1)
unfolding mark_count
count_last zero [] = refl
count_last zero (b ∷ marks) = omega arith
count_last (suc m) [] = refl
count_last (suc m) (b ∷ marks) = ap (λ (k : ℕ). bit (eqb b 1) + k) (count_last m marks) ∙ omega arith

bit_told : (b : ℕ) (mark : Bool) → b ≡ bit mark → bit (eqb b 1) ≡ bit mark
bit_told b true e = rw e
bit_told b false e = rw e

-- the marks that bytes tell are as many as places are marked
pub count_of_marks : (m : ℕ) (places : ℕ → Marked) (marks : List ℕ) → m ≤ length marks → ((k : ℕ) → k < m → byte_at marks k ≡ bit (places k).mark) → mark_count m marks ≡ marked_count m places
unfolding marked_count
count_of_marks zero places marks l h = count_zero marks
count_of_marks (suc m) places marks l h =
    let e = count_of_marks m places marks (omega arith) (λ k p. h k (omega arith)) in
    let f = bit_told (byte_at marks m) (places m).mark (h m (omega arith)) in
    count_last m marks ∙ rw (e, f)
