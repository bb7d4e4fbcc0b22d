-- The test of marks, byte by byte, and what it says of each. Assumes nothing.
use mathlib.Core.Bool.{Bool, true, ◌&&◌}
use mathlib.Core.Path.{◌≡◌, refl, ◌∙◌, ap}
use mathlib.Core.List.{List, [], ◌∷◌}
use Prim.Native.Nat.{ℕ, zero, suc}
use native.Mathlib.Omega.{arith}
use lib.Dec.{leb}
use lib.ListN.{take}
use Rattle.std.specs.List.{list_all}
use borrow.Author.Tests.{le-leb, leb-true}
use Rattle.tables.proofs.Tests.{both_true}
use Rattle.marks.specs.Bytes.{marks_in, MarksWithin, MarksTested}

-- as the library tests them
pub marks_all : (m : ℕ) (marks : List ℕ) → list_all (λ b. leb b 1) (take m marks) ≡ marks_in m marks
unfolding marks_in
marks_all zero marks = refl
marks_all (suc m) [] = refl
marks_all (suc m) (b ∷ marks) = ap (◌&&◌ (leb b 1)) (marks_all m marks)

-- where it passes each byte is 0 or 1
pub marks_within : (m : ℕ) (marks : List ℕ) → marks_in m marks ≡ true → MarksWithin m marks
unfolding marks_in
marks_within zero marks e k h = let z : ⊥ = omega arith in absurd z
marks_within (suc m) [] e k h = omega arith
marks_within (suc m) (b ∷ marks) e zero h = leb-true b 1 (both_true (leb b 1) (marks_in m marks) e).0
marks_within (suc m) (b ∷ marks) e (suc k) h = marks_within m marks (both_true (leb b 1) (marks_in m marks) e).1 k (omega arith)

-- and it passes where each is
pub within_marks : (m : ℕ) (marks : List ℕ) → MarksWithin m marks → marks_in m marks ≡ true
unfolding marks_in
within_marks zero marks w = refl
within_marks (suc m) [] w = refl
within_marks (suc m) (b ∷ marks) w = rw (le-leb b 1 (w 0 (omega arith)), within_marks m marks (λ k h. w (suc k) (omega arith)))

pub marks_tested : (m : ℕ) (marks : List ℕ) (r : Bool) → r ≡ marks_in m marks → MarksTested m marks r
marks_tested m marks r e = record { reply = e; meaning = (λ q. marks_within m marks (rw e at q), λ w. e ∙ within_marks m marks w) }
