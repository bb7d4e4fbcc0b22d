-- The marks of the places of two quantities, block after block. Assumes nothing.
use mathlib.Core.Path.{◌≡◌, refl}
use mathlib.Core.Bool.{Bool, true, false}
use mathlib.Core.List.{List}
use Prim.Native.Nat.{ℕ, suc, ◌+◌, ◌*◌, ◌≤◌, ◌<◌}
use native.Mathlib.Numerals.{add-one}
use native.Mathlib.Omega.{arith}
use lib.Dec.{ltb}
use borrow.Author.Tests.{ltb-true, ltb-false}
use Rattle.places.specs.Numbering.{block_start, block_of, offset_of, is_one}
use Rattle.places.proofs.Numbering.{block_start_suc, block_unique, offset_place}
use Rattle.marks.specs.Marks.{byte_at}
use Rattle.rounded.specs.Inner.{PairsUnmarked}

start : (b : ℕ) → block_start b ≡ 2 * (b * b)
unfolding block_start
start b = refl

-- a place of two quantities is not one of the first two of its block
pair_offset : (b k : ℕ) → block_start b ≤ k → k < block_start (suc b) → is_one k ≡ false → block_start b + 2 ≤ k
unfolding is_one
pair_offset b k h g o =
    let e : block_start (block_of k) + offset_of k ≡ k = offset_place k in
    let f : block_start b + offset_of k ≡ k = rw (block_unique b k h g) at e in
    omega (arith, ltb-false (offset_of k) 2 o)

-- no block is passed at first
pub none_passed : (marks : List ℕ) → PairsUnmarked 0 marks
none_passed marks k h o = let l : k < 0 = rw (start 0) at h in omega arith

-- one block more
pub block_passed : (b : ℕ) (marks : List ℕ) → PairsUnmarked b marks → ((k : ℕ) → 2 * (b * b) + 2 ≤ k → k < 2 * (b * b) + 4 * b + 2 → byte_at marks k ≡ 0)
    → PairsUnmarked (b + 1) marks
block_passed b marks before own k h o = go (ltb k (block_start b)) refl
  where
    inside : k < block_start (suc b)
    inside = rw (add-one b) at h

    go : (c : Bool) → ltb k (block_start b) ≡ c → byte_at marks k ≡ 0
    go true q = before k (ltb-true k (block_start b) q) o
    go false q =
        let l = pair_offset b k (ltb-false k (block_start b) q) inside o in own k (omega (arith, start b)) (omega (arith, inside, start b, block_start_suc b))
