-- What it tells that a table serves n quantities, and when it does. Assumes nothing.
use mathlib.Core.Path.{◌≡◌, refl, ◌∙◌}
use mathlib.Core.Bool.{Bool, true, false, cond, ◌&&◌}
use mathlib.Core.Logic.{◌↔◌}
use Prim.Native.Nat.{ℕ, zero, suc, ◌*◌, ◌≤◌, ◌<◌}
use native.Mathlib.Nat.{mul-le-mul}
use native.Mathlib.Omega.{arith}
use lib.Dec.{leb, ltb}
use borrow.Author.Tests.{leb-true, ltb-true, le-leb, lt-ltb}
use Rattle.places.specs.Numbering.{block_start}
use Rattle.places.proofs.Numbering.{block_start_above}
use Rattle.rules.specs.Limits.{max_quantities}
use Rattle.tables.specs.Tables.{table_size, serves}
use Rattle.tables.specs.Meaning.{TableSized}
use Rattle.tables.proofs.Tests.{both_true}

-- the square of an n in its range, and where its block starts, are small
pub small_square : (n : ℕ) → n ≤ max_quantities → n * n ≤ max_quantities * max_quantities
small_square n h = mul-le-mul h h

pub small_start : (n : ℕ) → n ≤ max_quantities → block_start n ≤ 2 * (max_quantities * max_quantities)
unfolding block_start
small_start n h = omega (arith, small_square n h)

-- a size that is not 0 is that of an n in its range
sized : (n : ℕ) → 0 < table_size n → (1 ≤ n) × (n ≤ max_quantities) × (table_size n ≡ block_start n)
unfolding table_size
sized n h = go (◌&&◌ (leb 1 n) (leb n max_quantities)) refl h
  where
    go : (b : Bool) → ◌&&◌ (leb 1 n) (leb n max_quantities) ≡ b → 0 < cond b (block_start n) 0
        → (1 ≤ n) × (n ≤ max_quantities) × (cond b (block_start n) 0 ≡ block_start n)
    go true e l =
        let p = both_true (leb 1 n) (leb n max_quantities) e in
        (leb-true 1 n p.0, leb-true n max_quantities p.1, refl)
    go false e l = let z : ⊥ = omega arith in absurd z

pub record Served (n words : ℕ) : Type 0 where
  pub some : 1 ≤ n
  pub most : n ≤ max_quantities
  pub size : table_size n ≡ block_start n
  pub room : block_start n ≤ words

pub serves_tells : (n words : ℕ) → serves n words ≡ true → Served n words
unfolding serves
serves_tells n words e =
    let p = both_true (ltb 0 (table_size n)) (leb (table_size n) words) e in
    let s = sized n (ltb-true 0 (table_size n) p.0) in
    record { some = s.0; most = s.1; size = s.2; room = rw s.2 at (leb-true (table_size n) words p.1) }

-- ---- the other way

-- the size asked for is that of the table
pub size_whole : (n : ℕ) → n ≤ max_quantities → table_size n ≡ block_start n
unfolding table_size block_start
size_whole zero h = refl
size_whole (suc n) h = rw (le-leb 1 (suc n) (omega arith), le-leb (suc n) max_quantities h)

-- so whatever is that size is where the table's blocks end
pub size_known : (n m : ℕ) → n ≤ max_quantities → m ≡ table_size n → m ≡ block_start n
size_known n m h e = e ∙ size_whole n h

-- a table long enough for such an n serves it
pub long_serves : (n words : ℕ) → 1 ≤ n → n ≤ max_quantities → block_start n ≤ words → serves n words ≡ true
unfolding serves
long_serves n words h g l =
    rw (size_whole n g, lt-ltb 0 (block_start n) (omega (arith, block_start_above n)), le-leb (block_start n) words l)

-- the test is true exactly where n is in its range and the table long enough
pub serves_sized : (n words : ℕ) → (serves n words ≡ true) ↔ TableSized n words
serves_sized n words =
    (λ e. let s = serves_tells n words e in record { some = s.some; most = s.most; room = s.room }, λ s. long_serves n words s.some s.most s.room)
