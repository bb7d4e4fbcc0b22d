-- The first rule by place that some assignment of a table breaks, found by comparing each rule's bound with the least bound of its term, over the places of visible quantities alone. Assumes nothing.
use mathlib.Core.Path.{◌≡◌, refl, ◌∙◌}
use mathlib.Core.Bool.{Bool, true, false, ◌&&◌, ◌||◌}
use mathlib.Core.List.{List}
use mathlib.Core.Logic.{◌↔◌}
use Prim.Native.Nat.{ℕ, suc, ◌/◌, ◌≤◌, ◌<◌}
use native.Mathlib.Omega.{arith}
use lib.IntN.{ℤ}
use lib.ListN.{length}
use lib.Signed.{◌<ℤ◌}
use Rattle.words.specs.Change.{word_at}
use Rattle.places.specs.Numbering.{block_start, is_one, higher_at, lower_at}
use Rattle.places.proofs.Numbering.{at_lower, at_below}
use Rattle.rules.specs.Hidden.{hidden_in}
use Rattle.tables.specs.Places.{rule_at}
use Rattle.tables.specs.Tables.{has_rule}
use Rattle.tables.specs.Meaning.{HoldsRule, Solutions, Breaks, NamesVisible}
use Rattle.elimination.specs.Hiding.{live_at}
use Rattle.elimination.specs.Inner.{among}
use Rattle.elimination.proofs.Terms.{higher_named, lower_named}
use Rattle.tightening.specs.Below.{FirstBelow, LivePlace}
use Rattle.marking.specs.Meaning.{FirstAt}
use Rattle.marking.specs.Inner.{VisibleListed, FirstSeen}
use Rattle.marking.proofs.Breakable.{NoneBroken}
use Rattle.std.specs.Prelude.{Option, Some, None}

-- ---- from least bounds to what is broken

-- the words of a list are the least bounds of a paper's terms
abbrev pub LeastOf : ℕ → Solutions → List ℤ → Type 0
LeastOf n paper least = (k : ℕ) → k < block_start n → (c : ℤ) → has_rule c ≡ true → (c <ℤ word_at least k) ↔ Breaks paper (rule_at k c)

-- the first rule below the least bound of its term is the first that is broken
pub below_seen : (n : ℕ) (live : List ℕ) (rules least : List ℤ) (paper : Solutions) (p : Option ℕ) → LeastOf n paper least → FirstBelow (LivePlace n live) rules least p
    → FirstSeen n live rules paper p
below_seen n live rules least paper (Some k) l f = record {
  seen = record { at = f.inside; rule = f.below.rule };
  breaks = (l k f.inside.0 (word_at rules k) f.below.rule).0 f.below.smaller;
  first = λ i h s b. f.sooner i h s.at (record { rule = s.rule; smaller = (l i s.at.0 (word_at rules i) s.rule).1 b });
}
below_seen n live rules least paper None l f =
    λ i s b. f i s.at (record { rule = s.rule; smaller = (l i s.at.0 (word_at rules i) s.rule).1 b })

-- ---- from visible places to all

-- a place that holds a rule of visible quantities alone is seen
pub visible_seen : (n set : ℕ) (visible : List ℕ) (rules : List ℤ) (k : ℕ) → VisibleListed n set visible → NamesVisible n (hidden_in set) rules → HoldsRule n rules k
    → LivePlace n visible k
unfolding live_at
visible_seen n set visible rules k v names_visible h = (h.inside, go (is_one k) refl)
  where
    high : among visible (higher_at k / 2) ≡ true
    high =
        let b : higher_at k / 2 < n = let g = at_below n k h.inside in omega arith in
        v.each (higher_at k / 2) b ∙ rw (names_visible.each k h (suc (higher_at k / 2)) (higher_named k (word_at rules k)))

    low : is_one k ≡ false → among visible (lower_at k / 2) ≡ true
    low o =
        let b : lower_at k / 2 < n = let g = at_below n k h.inside in let l = at_lower k o in omega arith in
        v.each (lower_at k / 2) b ∙ rw (names_visible.each k h (suc (lower_at k / 2)) (lower_named k (word_at rules k) o))

    go : (b : Bool) → is_one k ≡ b → (among visible (higher_at k / 2) && (b || among visible (lower_at k / 2))) ≡ true
    go true o = rw high
    go false o = rw (high, low o)

-- the first of a table's rules that a paper breaks; none where none does
abbrev pub Found : ℕ → Solutions → List ℤ → Option ℕ → Type 0
Found n paper rules (Some k) = FirstAt n rules paper k
Found n paper rules None = NoneBroken n rules paper

-- rules seen in words that are, at these places, those of a table of visible quantities are the table's
pub seen_found : (n set : ℕ) (visible : List ℕ) (words rules : List ℤ) (paper : Solutions) (p : Option ℕ) → VisibleListed n set visible
    → NamesVisible n (hidden_in set) rules → block_start n ≤ length rules → ((k : ℕ) → LivePlace n visible k → word_at words k ≡ word_at rules k)
    → FirstSeen n visible words paper p → Found n paper rules p
seen_found n set visible words rules paper (Some k) v names_visible l same f = record {
  holds = record { inside = f.seen.at.0; there = omega (arith, f.seen.at.0); rule = rw (same k f.seen.at) at f.seen.rule };
  breaks = rw (same k f.seen.at) at f.breaks;
  first = λ i h g b. let s = visible_seen n set visible rules i v names_visible g in
      f.first i h (record { at = s; rule = rw (same i s) g.rule }) (rw (same i s) b);
}
seen_found n set visible words rules paper None v names_visible l same f =
    λ i g b. let s = visible_seen n set visible rules i v names_visible g in f i (record { at = s; rule = rw (same i s) g.rule }) (rw (same i s) b)
