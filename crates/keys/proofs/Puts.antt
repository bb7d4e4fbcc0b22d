-- A rule put into a table: the words stay within a limit that the rule's bound keeps, and a quantity that neither names stays unnamed. The opposite of a
-- rule has a place where the rule has one, and names the same quantities. Assumes nothing.
use mathlib.Core.Path.{◌≡◌, refl, ◌∙◌, ap}
use mathlib.Core.Bool.{Bool, true, false, cond}
use mathlib.Core.List.{List}
use Prim.Native.Nat.{ℕ, suc, ◌<◌}
use native.Mathlib.Omega.{arith}
use lib.Dec.{eqb}
use lib.IntN.{ℤ, pos}
use lib.ListN.{length}
use borrow.Author.Tests.{eqb-true, eqb-false, ne_eqb}
use Rattle.integers.specs.Bound.{Within, half}
use Rattle.integers.proofs.Parts.{smaller_either}
use Rattle.integers.proofs.Within.{within_half}
use Rattle.words.specs.Change.{word_at, lowered}
use Rattle.words.proofs.Change.{lowered_length, lowered_same, lowered_other}
use Rattle.std.specs.Prelude.{Option, Some, None}
use Rattle.places.specs.Numbering.{block_start}
use Rattle.rules.specs.declared.rule.Rule.{Rule}
use Rattle.rules.specs.declared.rule.Rule.TheVariants.{One, Two, Nothing}
use Rattle.rules.specs.Literal.{quantity_of}
use Rattle.rules.specs.Meaning.{bound_of, names}
use Rattle.rules.specs.Steps.{opposite_of, halved_of}
use Rattle.rules.proofs.Literals.{negated_quantity}
use Rattle.tables.specs.Places.{rule_at, find_place, HasPlace}
use Rattle.tables.specs.Tables.{has_rule, put_at, put_halved, put_rule}
use Rattle.tables.specs.Meaning.{rule_in, WordsWithin}
use Rattle.tables.proofs.Places.{place_of, has_place_found, names_bound, place_names}
use Rattle.elimination.specs.Magnitude.{Unnamed}

-- ---- magnitudes

-- halving a doubled term keeps the bound within a limit
halved_within : (B : ℕ) (r : Rule) → Within (pos B) (bound_of r) → Within (pos B) (bound_of (halved_of r))
unfolding halved_of
halved_within B (One x c) w = w
halved_within B (Two x y c) w = go (eqb x y)
  where
    go : (b : Bool) → Within (pos B) (bound_of (cond b (One x (half c)) (Two x y c)))
    go true = within_half w
    go false = w
halved_within B (Nothing c) w = w

-- a bound put in by minimum keeps all words within its limit
lowered_within : (m : ℕ) (B : ℤ) (t : List ℤ) (k : ℕ) (c : ℤ) → WordsWithin m B t → Within B c → WordsWithin m B (lowered t k c)
lowered_within m B t k c w h = record { each = λ j a l e. go j a (rw (lowered_length t k c) at l) e (eqb j k) refl }
  where
    go : (j : ℕ) → j < m → j < length t → has_rule (word_at (lowered t k c) j) ≡ true → (b : Bool) → eqb j k ≡ b → Within B (word_at (lowered t k c) j)
    go j a l e true d =
        let i : j ≡ k = eqb-true j k d in
        rw (i, lowered_same t k c (rw i at l))
        (smaller_either (λ z. has_rule z ≡ true → Within B z) (word_at t k) c (rw i at (w.each j a l)) (λ q. h)
        (rw (i, lowered_same t k c (rw i at l)) at e))
    go j a l e false d = rw (lowered_other t k j c (eqb-false j k d)) (w.each j a l (rw (lowered_other t k j c (eqb-false j k d)) at e))

-- wherever the rule's term stands
at_within : (m : ℕ) (B : ℤ) (t : List ℤ) (p : Option ℕ) (c : ℤ) → WordsWithin m B t → Within B c → WordsWithin m B (put_at t p c)
unfolding put_at
at_within m B t (Some k) c w h = lowered_within m B t k c w h
at_within m B t None c w h = w

-- so a rule whose bound is within a limit keeps the words within it
pub put_within : (m B : ℕ) (t : List ℤ) (r : Rule) → WordsWithin m (pos B) t → Within (pos B) (bound_of r) → WordsWithin m (pos B) (put_rule t r)
unfolding put_rule put_halved
put_within m B t r w h = at_within m (pos B) t (find_place (halved_of r)) (bound_of (halved_of r)) w (halved_within B r h)

-- ---- names

-- a rule that has a place is not doubled
halved_placed : (n : ℕ) (r : Rule) → HasPlace n r → halved_of r ≡ r
unfolding halved_of
halved_placed n (One x c) u = refl
halved_placed n (Two x y c) u = rw (ne_eqb x y (λ e. u.2 (ap quantity_of e)))
halved_placed n (Nothing c) u = refl

-- so it goes there by minimum
pub put_lowers : (n : ℕ) (t : List ℤ) (r : Rule) → HasPlace n r → put_rule t r ≡ lowered t (place_of r) (bound_of r)
unfolding put_rule put_halved put_at
put_lowers n t r u = rw (halved_placed n r u, has_place_found n r u)

-- a word at a place that does not name a quantity leaves one that no rule names so
lowered_unnamed : (n j : ℕ) (t : List ℤ) (k : ℕ) (c : ℤ) → names (suc j) (rule_at k c) ≡ false → Unnamed n j t → Unnamed n j (lowered t k c)
lowered_unnamed n j t k c e u = record { each = λ i p. go i p.inside (rw (lowered_length t k c) at p.there) p.rule (eqb i k) refl }
  where
    go : (i : ℕ) → i < block_start n → i < length t → has_rule (word_at (lowered t k c) i) ≡ true → (b : Bool) → eqb i k ≡ b
        → names (suc j) (rule_in (lowered t k c) i) ≡ false
    go i h l r true d = rw (eqb-true i k d) (names_bound (suc j) k _ c ∙ e)
    go i h l r false d =
        let same : word_at (lowered t k c) i ≡ word_at t i = lowered_other t k i c (eqb-false i k d) in
        rw same (u.each i (record { inside = h; there = l; rule = rw same at r }))

-- and so does a rule that does not name it
pub put_unnamed : (n j : ℕ) (t : List ℤ) (r : Rule) → HasPlace n r → names (suc j) r ≡ false → Unnamed n j t → Unnamed n j (put_rule t r)
put_unnamed n j t r h e u = rw (put_lowers n t r h) (lowered_unnamed n j t (place_of r) (bound_of r) (place_names n (suc j) r (bound_of r) h ∙ e) u)

-- ---- the opposite of a rule

-- the opposite has a place where the rule has one
pub opposite_has_place : (n : ℕ) (r : Rule) → HasPlace n r → HasPlace n (opposite_of r)
unfolding opposite_of
opposite_has_place n (One x c) u = omega arith
opposite_has_place n (Two x y c) u = (omega (arith, u.0), omega (arith, u.1), λ e. u.2 (omega arith))
opposite_has_place n (Nothing c) u = u

-- and names the same quantities
pub opposite_names : (q : ℕ) (r : Rule) → names q (opposite_of r) ≡ names q r
unfolding opposite_of names
opposite_names q (One x c) = rw (negated_quantity x)
opposite_names q (Two x y c) = rw (negated_quantity x, negated_quantity y)
opposite_names q (Nothing c) = refl
