-- The bounds of the table that a fine text's rules make: each is in the text's limit. Assumes nothing.
use mathlib.Core.Path.{◌≡◌, refl, ◌∙◌}
use mathlib.Core.Bool.{Bool, true, false, cond, ◌&&◌}
use mathlib.Core.List.{List, [], ◌∷◌, ◌++◌}
use Prim.Native.Nat.{ℕ, ◌<◌, ◌≤◌}
use native.Mathlib.Omega.{arith}
use lib.Dec.{eqb, leb}
use lib.IntN.{ℤ, pos, nat_abs}
use lib.ListN.{length, length-append, get_or-append}
use borrow.Author.Tests.{leb-true}
use Rattle.integers.specs.Bound.{Within, half, smaller}
use Rattle.integers.proofs.Parts.{smaller_either}
use Rattle.integers.proofs.Within.{within_half}
use Rattle.words.specs.Change.{word_at}
use Rattle.places.specs.Numbering.{block_start}
use Rattle.rules.specs.declared.rule.Rule.{Rule}
use Rattle.rules.specs.declared.rule.Rule.TheVariants.{One, Two, Nothing}
use Rattle.rules.specs.Literal.{quantity_within}
use Rattle.rules.specs.Meaning.{bound_of}
use Rattle.rules.specs.Steps.{halved_of}
use Rattle.rules.proofs.Meanings.{rule_of_bound}
use Rattle.tables.specs.Places.{find_place}
use Rattle.tables.specs.Tables.{table_of, is_at, smallest_at}
use Rattle.tables.specs.Meaning.{WordsWithin}
use Rattle.tables.proofs.Tests.{both_true, clash}
use Rattle.tables.proofs.Limits.{Bounded}
use Rattle.tables.proofs.Lists.{table_of_length, table_of_smallest}
use Rattle.lines.specs.Spelling.{Written, one, two, rule, line_within, signed_quantity, written_rule, written_rules}
use Rattle.reading.specs.Texts.{rule_lines}
use Rattle.reading.specs.Meaning.{Fine, AllFine}
use Rattle.reading.proofs.FineRules.{bound_within}

-- ---- a fine rule's bound

-- the bound of a rule that a fine line writes is in the limit
fine_within : (n limit : ℕ) (w : Written) → Fine n limit (rule w) → Within (pos limit) (bound_of (written_rule w))
unfolding line_within written_rule
fine_within n limit (one x c) f =
    let p = both_true (quantity_within n x.quantity) (leb (nat_abs c) limit) f.within in
    rw (rule_of_bound (signed_quantity x) (pos 0) c) (bound_within limit c (leb-true (nat_abs c) limit p.1))
fine_within n limit (two x y c) f =
    let p = both_true (quantity_within n x.quantity && quantity_within n y.quantity) (leb (nat_abs c) limit) f.within in
    rw (rule_of_bound (signed_quantity x) (signed_quantity y) c) (bound_within limit c (leb-true (nat_abs c) limit p.1))

-- it stays there where a doubled term is halved
halved_within : (limit : ℕ) (r : Rule) → Within (pos limit) (bound_of r) → Within (pos limit) (bound_of (halved_of r))
unfolding halved_of
halved_within limit (One x c) w = w
halved_within limit (Two x y c) w = go (eqb x y)
  where
    go : (b : Bool) → Within (pos limit) (bound_of (cond b (One x (half c)) (Two x y c)))
    go true = within_half w
    go false = w
halved_within limit (Nothing c) w = w

-- ---- the smallest bound of a place

-- every rule of a list has its bound within B, a doubled term halved
abbrev HalvesWithin : ℤ → List Rule → Type 0
HalvesWithin B [] = Unit {0}
HalvesWithin B (r ∷ rs) = Within B (bound_of (halved_of r)) × HalvesWithin B rs

-- so have the rules of fine lines
fine_halves : (n limit : ℕ) (ws : List Written) → AllFine n limit (rule_lines ws) → HalvesWithin (pos limit) (written_rules ws)
fine_halves n limit [] f = tt
fine_halves n limit (w ∷ ws) f = (halved_within limit (written_rule w) (fine_within n limit w f.0), fine_halves n limit ws f.1)

-- the smallest bound of a place is within B, or no rule
smallest_bounded : (B : ℤ) (k : ℕ) (rs : List Rule) → HalvesWithin B rs → Bounded B (smallest_at k rs)
unfolding smallest_at
smallest_bounded B k [] h = λ e. clash e refl
smallest_bounded B k (r ∷ rs) h = go (is_at k (find_place (halved_of r))) (smallest_bounded B k rs h.1)
  where
    go : (c : Bool) → Bounded B (smallest_at k rs) → Bounded B (cond c (smaller (bound_of (halved_of r)) (smallest_at k rs)) (smallest_at k rs))
    go true l = smaller_either (Bounded B) (bound_of (halved_of r)) (smallest_at k rs) (λ e. h.0) l
    go false l = l

-- ---- the table

-- the table of a list of rules, with other words behind it
module _ (n : ℕ) (rs : List Rule) (v : List ℤ) where
  -- each of its words is the smallest bound of its place
  pub front_smallest : (k : ℕ) → k < block_start n → word_at (table_of n rs ++ v) k ≡ smallest_at k rs
  front_smallest k h = get_or-append (table_of n rs) v (pos 0) k (omega (arith, table_of_length n rs)) ∙ table_of_smallest n rs k h

  -- it is long enough
  pub front_room : block_start n ≤ length (table_of n rs ++ v)
  front_room = omega (arith, length-append (table_of n rs) v, table_of_length n rs)

-- the bounds of a table of fine rules are in their limit
pub fine_words : (n limit : ℕ) (ws : List Written) (v : List ℤ) → AllFine n limit (rule_lines ws)
    → WordsWithin (block_start n) (pos limit) (table_of n (written_rules ws) ++ v)
fine_words n limit ws v f = record {
  each = λ k h l. rw (front_smallest n (written_rules ws) v k h) (smallest_bounded (pos limit) k (written_rules ws) (fine_halves n limit ws f));
}
