-- Reading one thing after another: where all was read each part was, and the end of a line. Assumes nothing.
use mathlib.Core.Path.{◌≡◌, refl, sym, ◌∙◌, ap}
use mathlib.Core.Bool.{Bool, true, false, cond}
use mathlib.Core.List.{List, [], ◌∷◌, ◌++◌, append_assoc}
use Prim.Native.Nat.{ℕ}
use lib.ListN.{length, drop}
use Rattle.numerals.specs.Bytes.{newline}
use Rattle.numerals.specs.Parsing.{Parsed, parsed, malformed, and_then, expect, starts_with}
use Rattle.numerals.proofs.Keys.{expect_tests, expect_append, starts_is}
use Rattle.numerals.proofs.Numerals.{never}
use Rattle.lines.specs.Spelling.{Line, key_text, value_text, line_text}
use Rattle.lines.specs.Lines.{ended}

-- ---- one thing after another

-- where two things were read, one after the other, the first was read, and then the second
pub by_both : {A B X : Type 0} (p : Parsed A) (next : A → List ℕ → Parsed B) (b : B) (rest : List ℕ) → and_then p next ≡ parsed b rest
    → ((a : A) (u : List ℕ) → p ≡ parsed a u → next a u ≡ parsed b rest → X) → X
unfolding and_then
by_both (parsed a u) next b rest e told = told a u refl e
by_both malformed next b rest e told = absurd (never e)

-- after the first is read the second is
pub both_read : {A B : Type 0} (p : Parsed A) (next : A → List ℕ → Parsed B) (a : A) (u : List ℕ) → p ≡ parsed a u → and_then p next ≡ next a u
unfolding and_then
both_read p next a u e = rw e

-- where something was read after a key, the key is there, and it was read after it
pub by_key : {A X : Type 0} (ks u : List ℕ) (next : List ℕ → Parsed A) (a : A) (rest : List ℕ) → expect ks u next ≡ parsed a rest
    → ((v : List ℕ) → u ≡ ks ++ v → next v ≡ parsed a rest → X) → X
by_key {A} {X} ks u next a rest e told = go (starts_with ks u) refl (sym (expect_tests ks u next) ∙ e)
  where
    go : (t : Bool) → starts_with ks u ≡ t → cond t (next (drop (length ks) u)) malformed ≡ parsed a rest → X
    go true q f = told (drop (length ks) u) (starts_is ks u q) f
    go false q f = absurd (never f)

-- ---- the end of a line

-- a line that has ended wrote what was read, and its end is there
pub ended_sound : {A : Type 0} (a b : A) (u rest : List ℕ) → ended a u ≡ parsed b rest → (a ≡ b) × (u ≡ newline ∷ rest)
unfolding ended
ended_sound a b u rest e = by_key (newline ∷ []) u (parsed a) b rest e (λ v p q. let f : v ≡ rest = cc in (cc, p ∙ ap (λ (x : List ℕ). newline ∷ x) f))

-- and where its end is there it ends
pub ended_complete : {A : Type 0} (a : A) (rest : List ℕ) → ended a (newline ∷ rest) ≡ parsed a rest
unfolding ended
ended_complete a rest = expect_append (newline ∷ []) rest (parsed a)

-- a line is its key, its value and its end
pub line_parts : (l : Line) (rest : List ℕ) → line_text l ++ rest ≡ key_text l ++ (value_text l ++ newline ∷ rest)
unfolding line_text
line_parts l rest = simp append_assoc
