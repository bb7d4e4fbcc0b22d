-- A table with the places of a quantity cleared is satisfied exactly by what meets the rules that do not name the quantity. Assumes
-- nothing.
use mathlib.Core.Path.{◌≡◌, refl, ◌∙◌}
use mathlib.Core.Bool.{Bool, true, false, cond}
use mathlib.Core.List.{List}
use mathlib.Core.Logic.{◌↔◌}
use Prim.Native.Nat.{ℕ, ◌≤◌, ◌<◌}
use native.Mathlib.Omega.{arith}
use lib.IntN.{ℤ}
use lib.ListN.{length}
use Rattle.words.specs.Change.{word_at}
use Rattle.words.proofs.Change.{change_length, change_below}
use Rattle.places.specs.Numbering.{block_start}
use Rattle.rules.specs.Limits.{no_rule}
use Rattle.rules.specs.Meaning.{Assignment, Meets, names}
use Rattle.tables.specs.Places.{rule_at}
use Rattle.tables.specs.Tables.{has_rule, clearing, cleared}
use Rattle.tables.specs.Meaning.{rule_in, Satisfies, SatisfiesWithout}
use Rattle.tables.proofs.Tests.{clash}

-- the word of a cleared table
pub cleared_word : (n q : ℕ) (t : List ℤ) (k : ℕ) → block_start n ≤ length t → k < block_start n → word_at (cleared n q t) k ≡ clearing q k (word_at t k)
unfolding cleared
cleared_word n q t k l h = change_below (block_start n) (clearing q) t k h (omega arith)

cleared_length : (n q : ℕ) (t : List ℤ) → length (cleared n q t) ≡ length t
unfolding cleared
cleared_length n q t = change_length (block_start n) (clearing q) t

pub cleared_meaning : (n q : ℕ) (t : List ℤ) (σ : Assignment) → block_start n ≤ length t → Satisfies n (cleared n q t) σ ↔ SatisfiesWithout q n t σ
cleared_meaning n q t σ l = (to, of)
  where
    kept : (k : ℕ) → k < block_start n → names q (rule_at k (word_at t k)) ≡ false → word_at (cleared n q t) k ≡ word_at t k
    kept k h e = cleared_word n q t k l h ∙ rw e

    to : Satisfies n (cleared n q t) σ → SatisfiesWithout q n t σ
    to s = record {
      each = λ k p e. rw (kept k p.inside e)
          at (s.each k (record { inside = p.inside; there = rw (cleared_length n q t) p.there; rule = rw (kept k p.inside e) p.rule }));
    }

    go : SatisfiesWithout q n t σ → (k : ℕ) → k < block_start n → k < length t → (b : Bool) → names q (rule_in t k) ≡ b
        → has_rule (cond b no_rule (word_at t k)) ≡ true → Meets σ (rule_at k (cond b no_rule (word_at t k)))
    go s k h g true e r = clash r refl
    go s k h g false e r = s.each k (record { inside = h; there = g; rule = r }) e

    of : SatisfiesWithout q n t σ → Satisfies n (cleared n q t) σ
    of s = record {
      each = λ k p. rw (cleared_word n q t k l p.inside)
          (go s k p.inside (rw (cleared_length n q t) at p.there) (names q (rule_in t k)) refl
          (rw (cleared_word n q t k l p.inside) at p.rule));
    }
