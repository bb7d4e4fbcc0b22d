-- The values that a list of words gives literals: how large they are, and that a negation made as 0 less a word is a word. Assumes nothing.
use mathlib.Core.Path.{◌≡◌}
use mathlib.Core.List.{List}
use mathlib.Core.Logic.{⊎_elim}
use Prim.Native.Nat.{ℕ, ◌/◌, ◌^◌, ◌<◌}
use native.Mathlib.Numerals.{add-one}
use lib.IntN.{ℤ, pos, neg_ℤ, ◌+ℤ◌}
use mir.Syntax.{w64}
use mir.Val.{SFits}
use Rattle.integers.specs.Bound.{Within}
use Rattle.integers.proofs.Parts.{linear, positive_part, negative_part, parts_add}
use Rattle.integers.proofs.Within.{within_neg, within_word}
use Rattle.words.specs.Change.{word_at}
use Rattle.rules.specs.Literal.{quantity_of}
use Rattle.rules.specs.Meaning.{literal_value}
use Rattle.rules.proofs.Literals.{sign_cases, value_plus, value_minus}
use Rattle.tables.specs.Meaning.{assignment_of}

-- the value that a list of words gives a literal's quantity is the word at its place
pub quantity_word : (values : List ℤ) (x : ℕ) → assignment_of values (quantity_of x) ≡ word_at values (x / 2)
quantity_word values x = rw (add-one (x / 2))

-- a literal's value is as large as that word
pub literal_within : (B : ℕ) (values : List ℤ) (x : ℕ) → Within (pos B) (word_at values (x / 2)) → Within (pos B) (literal_value (assignment_of values) x)
literal_within B values x h =
    ⊎_elim
    (λ e. rw (value_plus (assignment_of values) x e, quantity_word values x) h)
    (λ e. rw (value_minus (assignment_of values) x e, quantity_word values x) (within_neg h))
    (sign_cases x)

-- 0 less an integer is its negation
pub zero_less : (v : ℤ) → pos 0 +ℤ neg_ℤ v ≡ neg_ℤ v
unfolding positive_part negative_part
zero_less v = omega (linear, parts_add (pos 0) (neg_ℤ v))

-- and a word where the integer's magnitude is that of one
pub zero_less_word : {B : ℕ} {v : ℤ} → B < 2 ^ 63 → Within (pos B) v → SFits w64 (pos 0 +ℤ neg_ℤ v)
zero_less_word {B} {v} l h = rw (zero_less v) (within_word l (within_neg h))
