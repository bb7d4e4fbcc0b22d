-- The first place with a rule below another table's word, where the places that count come in parts that follow one another: the first part that has such a place has the
-- first one of all. The live places of a table come in blocks, those of a block in runs. Assumes nothing.
use mathlib.Core.Path.{◌≡◌, refl}
use mathlib.Core.Bool.{Bool, true, false, ◌||◌}
use mathlib.Core.List.{List}
use Prim.Native.Nat.{ℕ, zero, suc, ◌+◌, ◌-◌, ◌*◌, ◌/◌, ◌≤◌, ◌<◌}
use native.Mathlib.Omega.{arith}
use lib.Dec.{ltb}
use lib.IntN.{ℤ}
use lib.ListN.{length, get_or, take}
use lib.Seq.{length-take-le}
use borrow.Author.Tests.{ltb-true, ltb-false, lt-ltb, le-ltb}
use Rattle.std.specs.Prelude.{Option, None}
use Rattle.std.proofs.lemmas.List.{get_or-take}
use Rattle.places.specs.Numbering.{block_start, block_of, offset_of, is_one, higher_at, lower_at}
use Rattle.places.proofs.Numbering.{block_start_suc, block_start_mono, block_starts, block_ends, block_unique, offset_place, higher_half}
use Rattle.tables.proofs.Tests.{both_true}
use Rattle.elimination.specs.Hiding.{live_at}
use Rattle.elimination.specs.Inner.{among, Rising, Listed}
use Rattle.tightening.specs.Below.{BelowAt, FirstBelowAt, FirstBelow, LivePlace, BlockPlace, RunPlace}
use Rattle.elimination.proofs.Lists.{StandsAt, listed_at, listed_place, rising_above, rising_later}

-- ---- places in parts

-- a part that has a place
pub record PartOf (Part : ℕ → ℕ → Type 0) (m k : ℕ) : Type 0 where
  pub part : ℕ
  pub some : part < m
  pub has : Part part k

-- the places that count are those of m parts that follow one another
pub record InParts (In : ℕ → Type 0) (Part : ℕ → ℕ → Type 0) (m : ℕ) : Type 0 where
  pub holds : (h k : ℕ) → h < m → Part h k → In k
  pub covers : (k : ℕ) → In k → PartOf Part m k
  pub ordered : (h j k l : ℕ) → h < j → j < m → Part h k → Part j l → k < l

module _ (rules least : List ℤ) where
  -- the first i parts have no such place
  pub record PassedTo (Part : ℕ → ℕ → Type 0) (i : ℕ) : Type 0 where
    pub none : (h k : ℕ) → h < i → Part h k → BelowAt rules least k → ⊥

  module _ (Part : ℕ → ℕ → Type 0) where
    -- no part
    pub passed_none : PassedTo Part 0
    passed_none = record { none = λ h k l p b. omega arith }

    -- one part more
    pub passed_more : (i : ℕ) (r : Option ℕ) → PassedTo Part i → r ≡ None → FirstBelow (Part i) rules least r → PassedTo Part (suc i)
    passed_more i r s q g = record { none = λ h k l p b. go h k l p b (ltb h i) refl }
      where
        f : FirstBelow (Part i) rules least None
        f = rw q at g

        go : (h k : ℕ) → h < suc i → Part h k → BelowAt rules least k → (c : Bool) → ltb h i ≡ c → ⊥
        go h k l p b true e = s.none h k (ltb-true h i e) p b
        go h k l p b false e = let d : h ≡ i = omega (arith, ltb-false h i e) in f k (rw d at p) b

  module _ (In : ℕ → Type 0) (Part : ℕ → ℕ → Type 0) (m : ℕ) (parts : InParts In Part m) where
    -- all parts
    pub passed_all : PassedTo Part m → FirstBelow In rules least None
    passed_all s = λ k p b. let o = parts.covers k p in s.none o.part k o.some o.has b

    -- the first one in a part is the first of all where the parts before have none
    pub first_at : (i k : ℕ) → i < m → PassedTo Part i → FirstBelowAt (Part i) rules least k → FirstBelowAt In rules least k
    first_at i k h s f = record {
      inside = parts.holds i k h f.inside;
      below = f.below;
      sooner = λ j l p b. let o = parts.covers j p in go j l o.part o.some o.has b (ltb o.part i) refl (ltb i o.part) refl;
    }
      where
        go : (j : ℕ) → j < k → (g : ℕ) → g < m → Part g j → BelowAt rules least j → (c : Bool) → ltb g i ≡ c → (d : Bool) → ltb i g ≡ d → ⊥
        go j l g u p b true e d q = s.none g j (ltb-true g i e) p b
        go j l g u p b false e true q = omega (arith, parts.ordered i g k j (ltb-true i g q) u f.inside p)
        go j l g u p b false e false q =
            let x : g ≡ i = omega (arith, ltb-false g i e, ltb-false i g q) in
            f.sooner j l (rw x at p) b

-- ---- the live places of a table: in blocks of live quantities

-- the quantity of a live place's block is live,
live_block : (live : ℕ → Bool) (k : ℕ) → live_at live k ≡ true → live (block_of k) ≡ true
unfolding live_at
live_block live k e = rw (higher_half k) at (both_true (live (higher_at k / 2)) (is_one k || live (lower_at k / 2)) e).0

-- and so is the lower one where it has two
live_lower : (live : ℕ → Bool) (k : ℕ) → live_at live k ≡ true → is_one k ≡ false → live (lower_at k / 2) ≡ true
unfolding live_at
live_lower live k e o = rw o at (both_true (live (higher_at k / 2)) (is_one k || live (lower_at k / 2)) e).1

-- the block of the live quantity of place h in the list
abbrev pub TableBlock : List ℕ → ℕ → ℕ → Type 0
TableBlock live h = BlockPlace (get_or live h 0) live

-- the live places of a table are those of these blocks
pub table_parts : (n : ℕ) (live : List ℕ) → Listed n live → InParts (LivePlace n live) (TableBlock live) (length live)
table_parts n live l = record {
  holds = λ h k s p. (omega (arith, p.1, block_start_mono {a = suc (get_or live h 0)} {b = n} (l.below h s)), p.2);
  covers = λ k p. covered k p.1 (listed_place live (block_of k) (live_block (among live) k p.1));
  ordered = λ h j k i a s p q. omega (
    arith,
    p.1,
    q.0,
    block_start_mono {a = suc (get_or live h 0)} {b = get_or live j 0} (rising_above live l.rising h j a s),
  );
}
  where
    covered : (k : ℕ) → live_at (among live) k ≡ true → StandsAt live (block_of k) → PartOf (TableBlock live) (length live) k
    covered k e s = record { part = s.place; some = s.inside; has = rw s.is (block_starts k, block_ends k, e) }

-- ---- those of a block: a run of its quantity alone, then one with each lower live quantity

-- the run of part h
abbrev pub BlockRun : ℕ → List ℕ → ℕ → ℕ → Type 0
BlockRun b live zero = RunPlace (block_start b) 2
BlockRun b live (suc h) = RunPlace (block_start b + 2 + 4 * get_or live h 0) 4

module _ (live : ℕ → Bool) (b : ℕ) (here : live b ≡ true) where
  -- the places of the block's quantity alone are live,
  alone_live : (k : ℕ) → block_start b ≤ k → k < block_start b + 2 → live_at live k ≡ true
  unfolding live_at is_one
  alone_live k l h =
      let e : block_of k ≡ b = block_unique b k l (omega (arith, block_start_suc b)) in
      let o : block_start b + offset_of k ≡ k = rw e at (offset_place k) in
      rw (higher_half k, e, here, lt-ltb (offset_of k) 2 (omega arith))

  -- and so are those with a lower live one
  pair_live : (a k : ℕ) → live a ≡ true → a < b → block_start b + 2 + 4 * a ≤ k → k < block_start b + 2 + 4 * a + 4 → live_at live k ≡ true
  unfolding live_at is_one lower_at
  pair_live a k there s l h =
      let e : block_of k ≡ b = block_unique b k (omega arith) (omega (arith, block_start_suc b)) in
      let o : block_start b + offset_of k ≡ k = rw e at (offset_place k) in
      let d : (offset_of k - 2) / 2 / 2 ≡ a = omega arith in
      rw (higher_half k, e, here, le-ltb (offset_of k) 2 (omega arith), d, there)

-- a place of two quantities lies in the run of the lower one,
pair_run : (b k : ℕ) → block_start b ≤ k → k < block_start (suc b) → is_one k ≡ false
    → (block_start b + 2 + 4 * (lower_at k / 2) ≤ k) × (k < block_start b + 2 + 4 * (lower_at k / 2) + 4) × (lower_at k / 2 < b)
unfolding is_one lower_at
pair_run b k l h f =
    let e : block_of k ≡ b = block_unique b k l h in
    let o : block_start b + offset_of k ≡ k = rw e at (offset_place k) in
    let g = ltb-false (offset_of k) 2 f in
    (omega arith, omega arith, omega (arith, block_start_suc b))

-- and one of its quantity alone in the first run
alone_run : (b k : ℕ) → block_start b ≤ k → k < block_start (suc b) → is_one k ≡ true → k < block_start b + 2
unfolding is_one
alone_run b k l h f =
    let e : block_of k ≡ b = block_unique b k l h in
    let o : block_start b + offset_of k ≡ k = rw e at (offset_place k) in
    omega (arith, ltb-true (offset_of k) 2 f)

-- the quantities listed before one are lower
pub lower_live : (i h : ℕ) (live : List ℕ) → Rising live → i < length live → h < length (take i live)
    → (h < i) × (get_or (take i live) h 0 ≡ get_or live h 0) × (get_or live h 0 < get_or live i 0)
lower_live i h live r s l =
    let e = length-take-le i live (omega arith) in
    let b : h < i = omega arith in (b, get_or-take i live h 0 b, rising_above live r h i b s)

-- the live places of a block are those of these runs
pub block_parts : (i : ℕ) (live : List ℕ) → Rising live → i < length live → InParts (BlockPlace (get_or live i 0) live) (BlockRun (get_or live i 0) live) (suc i)
block_parts i live r s = record { holds = held; covers = λ k p. covered k p (is_one k) refl; ordered = follow }
  where
    b : ℕ
    b = get_or live i 0

    held : (h k : ℕ) → h < suc i → BlockRun b live h k → BlockPlace b live k
    held zero k l p = (p.0, omega (arith, p.1, block_start_suc b), alone_live (among live) b (listed_at live i s) k p.0 p.1)
    held (suc h) k l p =
        let a = rising_above live r h i (omega arith) s in (
          omega (arith, p.0),
          omega (arith, p.1, a, block_start_suc b),
          pair_live (among live) b (listed_at live i s) (get_or live h 0) k (listed_at live h (omega arith)) a p.0 p.1,
        )

    at_place : (k : ℕ) → block_start b + 2 + 4 * (lower_at k / 2) ≤ k → k < block_start b + 2 + 4 * (lower_at k / 2) + 4 → lower_at k / 2 < b
        → StandsAt live (lower_at k / 2) → PartOf (BlockRun b live) (suc i) k
    at_place k l h g o = record {
      part = suc o.place;
      some = omega (arith, rising_later live r o.place i o.inside s (omega (arith, o.is)));
      has = rw o.is (l, h);
    }

    covered : (k : ℕ) → BlockPlace b live k → (c : Bool) → is_one k ≡ c → PartOf (BlockRun b live) (suc i) k
    covered k p true e = record { part = 0; some = omega arith; has = (p.0, alone_run b k p.0 p.1 e) }
    covered k p false e =
        let q = pair_run b k p.0 p.1 e in
        at_place k q.0 q.1 q.2 (listed_place live (lower_at k / 2) (live_lower (among live) k p.2 e))

    follow : (h j k l : ℕ) → h < j → j < suc i → BlockRun b live h k → BlockRun b live j l → k < l
    follow h zero k l a c p q = let z : ⊥ = omega arith in absurd z
    follow zero (suc j) k l a c p q = omega (arith, p.1, q.0)
    follow (suc h) (suc j) k l a c p q = omega (arith, p.1, q.0, rising_above live r h j (omega arith) (omega arith))
