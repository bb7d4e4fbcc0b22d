-- How many of the first quantities are in a set: no more than there are, and no more than the set has bits. Assumes nothing.
use mathlib.Core.Path.{◌≡◌, refl}
use mathlib.Core.Bool.{Bool, true, false, cond}
use Prim.Native.Nat.{ℕ, zero, suc, ◌+◌, ◌-◌, ◌^◌, ◌≤◌, ◌<◌, min}
use native.Mathlib.Nat.{add-zero, add-suc}
use native.Mathlib.Numerals.{add-one}
use native.Mathlib.Omega.{arith}
use lib.Dec.{leb}
use borrow.Author.Tests.{leb-true, leb-false}
use Rattle.rules.specs.Hidden.{hidden_in, member_count}
use Rattle.rules.proofs.Sets.{past_hidden}

pub count_zero : (hidden : ℕ → Bool) → member_count hidden 0 ≡ 0
unfolding member_count
count_zero hidden = refl

-- one quantity more
pub count_more : (hidden : ℕ → Bool) (j : ℕ) → member_count hidden (j + 1) ≡ cond (hidden (j + 1)) (member_count hidden j + 1) (member_count hidden j)
unfolding member_count
count_more hidden j = rw (add-one, add-one)

pub count_most : (hidden : ℕ → Bool) (n : ℕ) → member_count hidden n ≤ n
unfolding member_count
count_most hidden zero = omega arith
count_most hidden (suc j) = go (count_most hidden j) (hidden (suc j))
  where
    go : member_count hidden j ≤ j → (b : Bool) → cond b (suc (member_count hidden j)) (member_count hidden j) ≤ suc j
    go h true = omega arith
    go h false = omega arith

-- ---- past the last member

pub count_past : (hidden : ℕ → Bool) (m d : ℕ) → ((q : ℕ) → m < q → hidden q ≡ false) → member_count hidden (m + d) ≡ member_count hidden m
unfolding member_count
count_past hidden m zero none = rw add-zero
count_past hidden m (suc d) none = rw (add-suc, none (suc (m + d)) (omega arith)) (count_past hidden m d none)

-- a set of so many bits has no member past them
pub count_bits : (bits set n : ℕ) → set < 2 ^ bits → bits ≤ n → member_count (hidden_in set) n ≡ member_count (hidden_in set) bits
count_bits bits set n l h =
    let whole : n ≡ bits + (n - bits) = omega arith in
    rw whole (count_past (hidden_in set) bits (n - bits) (past_hidden bits set l))

-- so it has no more than bits
pub count_small : (bits set n : ℕ) → set < 2 ^ bits → member_count (hidden_in set) n ≤ bits
count_small bits set n l = go (leb bits n) refl
  where
    go : (b : Bool) → leb bits n ≡ b → member_count (hidden_in set) n ≤ bits
    go true e = rw (count_bits bits set n l (leb-true bits n e)) (count_most (hidden_in set) bits)
    go false e = omega (arith, count_most (hidden_in set) n, leb-false bits n e)

pub count_word : (set n : ℕ) → set < 2 ^ 32 → member_count (hidden_in set) n ≤ 32
count_word set n l = count_small 32 set n l

-- so it need not be counted past them
pub count_min : (set n : ℕ) → set < 2 ^ 32 → member_count (hidden_in set) (min n 32) ≡ member_count (hidden_in set) n
count_min set n l = go (leb 32 n) refl
  where
    go : (b : Bool) → leb 32 n ≡ b → member_count (hidden_in set) (min n 32) ≡ member_count (hidden_in set) n
    go true e =
        let h = leb-true 32 n e in
        let k : min n 32 ≡ 32 = omega arith in
        rw (k, count_bits 32 set n l h)
    go false e =
        let h = leb-false 32 n e in
        let k : min n 32 ≡ n = omega arith in
        rw k

-- for the loop that counts
pub ruleset counting = (count_zero, count_more, count_most, count_min)
