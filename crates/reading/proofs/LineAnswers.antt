-- Answers of lines, one after the other. Assumes nothing.
use mathlib.Core.Path.{◌≡◌, refl}
use mathlib.Core.Bool.{Bool}
use mathlib.Core.List.{List}
use Prim.Native.Nat.{ℕ}
use Rattle.numerals.specs.Parsing.{Parsed, parsed, malformed}
use Rattle.lines.specs.Lines.{Judged, accepted, refused, judged}
use Rattle.reading.specs.Reading.{onward}

-- what goes on after two steps goes on after the second
pub onward_onward : {A B C : Type 0} (j : Judged A) (f : A → List ℕ → Judged B) (g : B → List ℕ → Judged C)
    → onward (onward j f) g ≡ onward j (λ a u. onward (f a u) g)
unfolding onward
onward_onward (accepted a u) f g = refl
onward_onward (refused r) f g = refl

-- the same answers go on alike
pub onward_same : {A B : Type 0} (j : Judged A) (f g : A → List ℕ → Judged B) → ((a : A) (u : List ℕ) → f a u ≡ g a u) → onward j f ≡ onward j g
unfolding onward
onward_same (accepted a u) f g e = e a u
onward_same (refused r) f g e = refl

-- a line is judged by what its two tests say
pub judged_same : {A : Type 0} (line : ℕ) (f g : A → Bool) (c d : A → Bool) → ((a : A) → f a ≡ g a) → ((a : A) → c a ≡ d a)
    → (p : Parsed A) → judged line f c p ≡ judged line g d p
unfolding judged
judged_same line f g c d e h malformed = refl
judged_same line f g c d e h (parsed a u) = rw (e a, h a)
