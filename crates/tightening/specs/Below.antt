-- A rule of one table below the word of another: the first such place, where only some places count. With least bounds as these words it is the first rule that is broken.
use Rattle.std.specs.Prelude.{true, ◌≡◌, List, ℕ, suc, ◌+◌, ◌≤◌, ◌<◌, ℤ, length, get_or, ◌<ℤ◌, Option, Some, None}
use Rattle.words.specs.Change.{word_at}
use Rattle.places.specs.Numbering.{block_start}
use Rattle.rules.specs.Limits.{max_quantities}
use Rattle.tables.specs.Tables.{has_rule}
use Rattle.elimination.specs.Hiding.{live_at}
use Rattle.elimination.specs.Inner.{among, Rising, Listed}

-- at a place there is a rule, and its bound is smaller than the other table's word
pub record BelowAt (rules least : List ℤ) (k : ℕ) : Type 0 where
  pub rule : has_rule (word_at rules k) ≡ true
  pub smaller : word_at rules k <ℤ word_at least k

-- of the places that count this is the first one
pub record FirstBelowAt (In : ℕ → Type 0) (rules least : List ℤ) (k : ℕ) : Type 0 where
  pub inside : In k
  pub below : BelowAt rules least k
  pub sooner : (i : ℕ) → i < k → In i → BelowAt rules least i → ⊥

-- or there is none
abbrev pub FirstBelow : (ℕ → Type 0) → List ℤ → List ℤ → Option ℕ → Type 0
FirstBelow In rules least (Some k) = FirstBelowAt In rules least k
FirstBelow In rules least None = (i : ℕ) → In i → BelowAt rules least i → ⊥

-- ---- the places that count

-- those of live quantities, in a table over n,
abbrev pub LivePlace : ℕ → List ℕ → ℕ → Type 0
LivePlace n live k = (k < block_start n) × (live_at (among live) k ≡ true)

-- of these the ones in the block of quantity b + 1,
abbrev pub BlockPlace : ℕ → List ℕ → ℕ → Type 0
BlockPlace b live k = (block_start b ≤ k) × (k < block_start (suc b)) × (live_at (among live) k ≡ true)

-- and so many from a place on
abbrev pub RunPlace : ℕ → ℕ → ℕ → Type 0
RunPlace start count k = (start ≤ k) × (k < start + count)

-- ---- what the functions ask: two tables that have the words of these places

pub record Comparable (n : ℕ) (live : List ℕ) (rules least : List ℤ) : Type 0 where
  pub most : n ≤ max_quantities
  pub listed : Listed n live
  pub rules_room : block_start n ≤ length rules
  pub least_room : block_start n ≤ length least

pub record BlockComparable (i : ℕ) (live : List ℕ) (rules least : List ℤ) : Type 0 where
  pub some : i < length live
  pub rising : Rising live
  pub most : get_or live i 0 < max_quantities
  pub rules_room : block_start (suc (get_or live i 0)) ≤ length rules
  pub least_room : block_start (suc (get_or live i 0)) ≤ length least

pub record RunComparable (start count : ℕ) (rules least : List ℤ) : Type 0 where
  pub rules_room : start + count ≤ length rules
  pub least_room : start + count ≤ length least
