-- The values that a list of words gives literals and terms, as the nearest words. Assumes nothing.
use mathlib.Core.Path.{◌≡◌, refl, sym, ◌∙◌, ap}
use mathlib.Core.Bool.{true}
use mathlib.Core.List.{List}
use Prim.Native.Nat.{ℕ, ◌/◌, ◌%◌}
use native.Mathlib.Omega.{arith}
use lib.IntN.{ℤ, pos, neg_ℤ, ◌+ℤ◌}
use Rattle.integers.specs.Bound.{opposite_bound, in_word, saturated}
use Rattle.integers.proofs.Parts.{linear, positive_part, negative_part, parts_add, parts_neg, parts_opposite, saturated_word}
use Rattle.words.specs.Change.{word_at}
use Rattle.rules.specs.declared.rule.Rule.TheVariants.{Two}
use Rattle.rules.specs.Literal.{quantity_of}
use Rattle.rules.specs.Meaning.{Assignment, literal_value, term_value}
use Rattle.rules.proofs.Literals.{value_plus, value_minus}
use Rattle.tables.specs.Meaning.{assignment_of}
use Rattle.elimination.proofs.Values.{quantity_word}
use Rattle.worked.specs.Values.{term_word}

-- the negation of a word is the bound of its opposite and 1
opposite_one : (w : ℤ) → opposite_bound w +ℤ pos 1 ≡ neg_ℤ w
unfolding positive_part negative_part
opposite_one w = omega (linear, parts_add (opposite_bound w) (pos 1), parts_opposite w, parts_neg w)

-- a literal with + is worth its quantity's word, 0 where it has none
pub literal_plus : (values : List ℤ) (x : ℕ) → x % 2 ≡ 0 → in_word (word_at values (x / 2)) ≡ true
    → word_at values (x / 2) ≡ saturated (literal_value (assignment_of values) x)
literal_plus values x e f =
    sym (ap saturated (value_plus (assignment_of values) x e ∙ quantity_word values x) ∙ saturated_word (word_at values (x / 2)) f)

-- and with - the negation of it
pub literal_minus : (values : List ℤ) (x : ℕ) → (x % 2 ≡ 0 → ⊥)
    → saturated (opposite_bound (word_at values (x / 2)) +ℤ pos 1) ≡ saturated (literal_value (assignment_of values) x)
literal_minus values x u =
    ap saturated (opposite_one (word_at values (x / 2)) ∙ sym (value_minus (assignment_of values) x (omega arith) ∙ ap neg_ℤ (quantity_word values x)))

-- the word of a term of two literals is its value where theirs are words and their sum is
pub term_word_exact : (σ : Assignment) (x y : ℕ) (c : ℤ) → in_word (literal_value σ x) ≡ true → in_word (literal_value σ y) ≡ true
    → in_word (literal_value σ x +ℤ literal_value σ y) ≡ true → term_word σ (Two x y c) ≡ term_value σ (Two x y c)
unfolding term_word
term_word_exact σ x y c a b s =
    rw (saturated_word (literal_value σ x) a, saturated_word (literal_value σ y) b, saturated_word (literal_value σ x +ℤ literal_value σ y) s) refl
