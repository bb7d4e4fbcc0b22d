-- The numbering goes both ways: blocks do not overlap and leave no place out, so a place has one block, one offset and one term.
-- Assumes nothing.
use mathlib.Core.Path.{◌≡◌, refl}
use mathlib.Core.Bool.{Bool, true, false, cond}
use Prim.Native.Nat.{ℕ, zero, suc, ◌+◌, ◌*◌, ◌/◌, ◌%◌, ◌≤◌, ◌<◌}
use native.Mathlib.Omega.{arith}
use native.Mathlib.Nat.{mul-le-mul}
use lib.Dec.{leb}
use borrow.Author.Tests.{leb-true, leb-false, ltb-true, ltb-false, lt-ltb, le-ltb}
use Rattle.places.specs.Numbering.{block_start, place_of_one, place_of_pair, block_up_to, block_of, offset_of, is_one, higher_at, lower_at}

-- ---- blocks

pub block_start_mono : {a b : ℕ} → a ≤ b → block_start a ≤ block_start b
unfolding block_start
block_start_mono {a} {b} h = omega (arith, mul-le-mul h h)

-- the block of quantity j + 1 has 4j + 2 words
pub block_start_suc : (j : ℕ) → block_start (suc j) ≡ block_start j + 4 * j + 2
unfolding block_start
block_start_suc j = omega arith

-- a block starts no sooner than twice its number
pub block_start_above : (j : ℕ) → 2 * j ≤ block_start j
unfolding block_start
block_start_above zero = omega arith
block_start_above (suc j) = omega arith

-- a block that starts at or before a place is none after the block that ends past it
pub block_order : (a b k : ℕ) → block_start a ≤ k → k < block_start (suc b) → a ≤ b
block_order a b k l h = go (leb a b) refl
  where
    go : (t : Bool) → leb a b ≡ t → a ≤ b
    go true e = leb-true a b e
    go false e =
        let m : block_start (suc b) ≤ block_start a = block_start_mono (leb-false a b e) in
        let z : ⊥ = omega arith in absurd z

-- the block found is the one in which the place lies
up_to_starts : (j k : ℕ) → block_start (block_up_to j k) ≤ k
unfolding block_up_to block_start
up_to_starts zero k = omega arith
up_to_starts (suc j) k = go (up_to_starts j k) (leb (block_start (suc j)) k) refl
  where
    go : block_start (block_up_to j k) ≤ k → (t : Bool) → leb (block_start (suc j)) k ≡ t → block_start (cond t (suc j) (block_up_to j k)) ≤ k
    go ih true e = leb-true _ _ e
    go ih false e = ih

up_to_ends : (j k : ℕ) → k < block_start (suc j) → k < block_start (suc (block_up_to j k))
unfolding block_up_to
up_to_ends zero k h = h
up_to_ends (suc j) k h = go (up_to_ends j k) (leb (block_start (suc j)) k) refl
  where
    go : (k < block_start (suc j) → k < block_start (suc (block_up_to j k)))
        → (t : Bool) → leb (block_start (suc j)) k ≡ t → k < block_start (suc (cond t (suc j) (block_up_to j k)))
    go ih true e = h
    go ih false e = ih (leb-false _ _ e)

pub block_starts : (k : ℕ) → block_start (block_of k) ≤ k
unfolding block_of
block_starts k = up_to_starts k k

pub block_ends : (k : ℕ) → k < block_start (suc (block_of k))
unfolding block_of
block_ends k = up_to_ends k k (omega (arith, block_start_above (suc k)))

-- and there is no other
pub block_unique : (j k : ℕ) → block_start j ≤ k → k < block_start (suc j) → block_of k ≡ j
block_unique j k l h =
    let a : block_of k ≤ j = block_order (block_of k) j k (block_starts k) h in
    let b : j ≤ block_of k = block_order j (block_of k) k l (block_ends k) in
    omega arith

-- a place is its block's start and its offset, which is below the block's size
pub offset_place : (k : ℕ) → block_start (block_of k) + offset_of k ≡ k
unfolding offset_of
offset_place k = omega (arith, block_starts k)

pub offset_below : (k : ℕ) → offset_of k < 4 * block_of k + 2
unfolding offset_of
offset_below k = omega (arith, block_starts k, block_ends k, block_start_suc (block_of k))

pub offset_unique : (j i : ℕ) → i < 4 * j + 2 → offset_of (block_start j + i) ≡ i
unfolding offset_of
offset_unique j i h = rw (block_unique j (block_start j + i) (omega arith) (omega (arith, block_start_suc j))) (omega arith)

-- a place below a table's size lies in the block of one of its quantities
pub block_below : (n k : ℕ) → k < block_start n → block_of k < n
unfolding block_start
block_below zero k h = let z : k < 0 = h in let y : ⊥ = omega arith in absurd y
block_below (suc m) k h = omega (arith, block_order (block_of k) m k (block_starts k) h)

-- ---- from a term to its place and back

pub one_below : (n x : ℕ) → x < 2 * n → place_of_one x < block_start n
unfolding place_of_one
one_below n x h = omega (arith, block_start_suc (x / 2), block_start_mono {a = suc (x / 2)} {b = n} (omega arith))

pub pair_below : (n x y : ℕ) → x / 2 < y / 2 → y < 2 * n → place_of_pair x y < block_start n
unfolding place_of_pair
pair_below n x y l h = omega (arith, block_start_suc (y / 2), block_start_mono {a = suc (y / 2)} {b = n} (omega arith))

pub one_block : (x : ℕ) → block_of (place_of_one x) ≡ x / 2
unfolding place_of_one
one_block x = block_unique (x / 2) _ (omega arith) (omega (arith, block_start_suc (x / 2)))

pub one_offset : (x : ℕ) → offset_of (place_of_one x) ≡ x % 2
unfolding place_of_one
one_offset x = offset_unique (x / 2) (x % 2) (omega arith)

pub pair-block : (x y : ℕ) → x / 2 < y / 2 → block_of (place_of_pair x y) ≡ y / 2
unfolding place_of_pair
pair-block x y l = block_unique (y / 2) _ (omega arith) (omega (arith, block_start_suc (y / 2)))

pub pair_offset : (x y : ℕ) → x / 2 < y / 2 → offset_of (place_of_pair x y) ≡ 2 + 2 * x + y % 2
unfolding place_of_pair
pair_offset x y l = rw (sum (block_start (y / 2)) (2 * x) (y % 2)) (offset_unique (y / 2) (2 + 2 * x + y % 2) (omega arith))
  where
    sum : (s a b : ℕ) → s + 2 + a + b ≡ s + (2 + a + b)
    sum s a b = omega arith

-- the term at the place of one literal is that literal
pub one_is_one : (x : ℕ) → is_one (place_of_one x) ≡ true
unfolding is_one
one_is_one x = lt-ltb (offset_of (place_of_one x)) 2 (omega (arith, one_offset x))

pub one_higher : (x : ℕ) → higher_at (place_of_one x) ≡ x
unfolding higher_at
one_higher x = omega (arith, one_offset x, one_block x)

-- and at the place of two it is those two
pub pair_is_one : (x y : ℕ) → x / 2 < y / 2 → is_one (place_of_pair x y) ≡ false
unfolding is_one
pair_is_one x y l = le-ltb (offset_of (place_of_pair x y)) 2 (omega (arith, pair_offset x y l))

pub pair_higher : (x y : ℕ) → x / 2 < y / 2 → higher_at (place_of_pair x y) ≡ y
unfolding higher_at
pair_higher x y l = omega (arith, pair_offset x y l, pair-block x y l)

pub pair_lower : (x y : ℕ) → x / 2 < y / 2 → lower_at (place_of_pair x y) ≡ x
unfolding lower_at
pair_lower x y l = omega (arith, pair_offset x y l)

-- ---- from a place to its term and back

pub higher_half : (k : ℕ) → higher_at k / 2 ≡ block_of k
unfolding higher_at
higher_half k = omega arith

higher_odd : (k : ℕ) → higher_at k % 2 ≡ offset_of k % 2
unfolding higher_at
higher_odd k = omega arith

pub at_one : (k : ℕ) → is_one k ≡ true → place_of_one (higher_at k) ≡ k
unfolding is_one place_of_one
at_one k e = rw (higher_half k, higher_odd k) (omega (arith, ltb-true (offset_of k) 2 e, offset_place k))

pub at_lower : (k : ℕ) → is_one k ≡ false → lower_at k / 2 < higher_at k / 2
unfolding is_one lower_at
at_lower k e = rw (higher_half k) (omega (arith, ltb-false (offset_of k) 2 e, offset_below k))

pub at_pair : (k : ℕ) → is_one k ≡ false → place_of_pair (lower_at k) (higher_at k) ≡ k
unfolding is_one lower_at place_of_pair
at_pair k e = rw (higher_half k, higher_odd k) (omega (arith, ltb-false (offset_of k) 2 e, offset_place k))

-- the literals at a place below a table's size are of its quantities
pub at_below : (n k : ℕ) → k < block_start n → higher_at k < 2 * n
at_below n k h = omega (arith, higher_half k, block_below n k h)
