-- The hidden list of a set increases, is of the quantities 1 to n, and writes the set; bounds are limited by either alike. Assumes nothing.
use mathlib.Core.Path.{◌≡◌, refl, sym, ◌∙◌}
use mathlib.Core.Bool.{Bool, true, false, cond}
use mathlib.Core.List.{◌∷◌}
use Prim.Native.Nat.{ℕ, zero, suc, ◌+◌, ◌*◌, ◌/◌, ◌%◌, ◌^◌, ◌≤◌, ◌<◌}
use native.Mathlib.Nat.{add-zero, zero-add, add-suc, suc-add, div-eq_of_lt}
use native.Mathlib.Numerals.{add-one}
use native.Mathlib.Omega.{arith}
use lib.Dec.{eqb}
use lib.ListN.{length}
use lib.Pow.{shr-shr}
use borrow.Author.Tests.{ltb-true, le-leb, eqb-true, eqb-false}
use Rattle.rules.specs.declared.paper.Paper.{Paper}
use Rattle.rules.specs.Hidden.{hidden_in, set_within, set_of}
use Rattle.rules.specs.Limits.{bound_range, bound_limit}
use Rattle.lines.specs.Spelling.{IncreasingFrom, all_within}
use Rattle.lines.proofs.SetMembers.{increasing_less, power_more, set_more}
use Rattle.reading.proofs.Limits.{list_limit}
use Rattle.writing.specs.Writing.{hidden_from, hidden_list}

-- ---- the list

-- the members increase
from_increasing : (member : ℕ → Bool) (q k : ℕ) → IncreasingFrom q (hidden_from member q k)
unfolding hidden_from
from_increasing member q zero = tt
from_increasing member q (suc k) = go (from_increasing member (suc q) k) (member q)
  where
    go : IncreasingFrom (suc q) (hidden_from member (suc q) k) → (b : Bool)
        → IncreasingFrom q (cond b (q ∷ hidden_from member (suc q) k) (hidden_from member (suc q) k))
    go ih true = (omega arith, ih)
    go ih false = increasing_less q (suc q) (hidden_from member (suc q) k) (omega arith) ih

-- as a line of a text has them
pub hidden_increasing : (n set : ℕ) → IncreasingFrom 0 (hidden_list n set)
hidden_increasing n set = increasing_less 0 1 (hidden_list n set) (omega arith) (from_increasing (hidden_in set) 1 n)

-- they are of 1 to n
from_within : (member : ℕ → Bool) (n q k : ℕ) → 1 ≤ q → q + k ≤ suc n → all_within n (hidden_from member q k) ≡ true
unfolding hidden_from
from_within member n q zero l h = refl
from_within member n q (suc k) l h = go (from_within member n (suc q) k (omega arith) (omega arith)) (member q)
  where
    go : all_within n (hidden_from member (suc q) k) ≡ true → (b : Bool)
        → all_within n (cond b (q ∷ hidden_from member (suc q) k) (hidden_from member (suc q) k)) ≡ true
    go ih true = rw (le-leb 1 q l, le-leb q n (omega arith), ih)
    go ih false = ih

-- so is the list
pub hidden_within : (n set : ℕ) → all_within n (hidden_list n set) ≡ true
hidden_within n set = from_within (hidden_in set) n 1 n (omega arith) (omega arith)

-- ---- the set of the list

-- a number that is split into its last bit and the rest, times another
split_off : (a b h w : ℕ) → a ≡ 2 * h + b → a * w ≡ b * w + h * (2 * w)
split_off a b h w e = rw e (omega arith)

-- a number from bit j on is that bit and the number from the next bit on
bit_off : (h j : ℕ) → h / 2 ^ j * 2 ^ j ≡ h / 2 ^ j % 2 * 2 ^ j + h / 2 ^ suc j * 2 ^ suc j
bit_off h j = rw (next, power_more j) (split_off (h / 2 ^ j) (h / 2 ^ j % 2) (h / 2 ^ j / 2) (2 ^ j) (omega arith))
  where
    next : h / 2 ^ suc j ≡ h / 2 ^ j / 2
    next = rw (← add-one j) (sym (shr-shr h j 1))

-- the members from quantity j + 1 on make up the number from bit j on
from_back : (set j k : ℕ) → set < 2 ^ (j + k) → set_of (hidden_from (hidden_in set) (suc j) k) ≡ set / 2 ^ j * 2 ^ j
unfolding hidden_from set_of
from_back set j zero h = rw (div-eq_of_lt (rw (add-zero j) at h)) (omega arith)
from_back set j (suc k) h = go (from_back set (suc j) k (rw (suc-add j k, ← add-suc j k) h)) (eqb (set / 2 ^ j % 2) 1) refl
  where
    go : set_of (hidden_from (hidden_in set) (suc (suc j)) k) ≡ set / 2 ^ suc j * 2 ^ suc j → (b : Bool) → eqb (set / 2 ^ j % 2) 1 ≡ b
        → set_of (cond b (suc j ∷ hidden_from (hidden_in set) (suc (suc j)) k) (hidden_from (hidden_in set) (suc (suc j)) k)) ≡ set / 2 ^ j * 2 ^ j
    go ih true e = set_more j (hidden_from (hidden_in set) (suc (suc j)) k) ∙ rw (bit_off set j, eqb-true (set / 2 ^ j % 2) 1 e, ← ih) (omega arith)
    go ih false e =
        let none : set / 2 ^ j % 2 ≡ 0 = omega (arith, eqb-false (set / 2 ^ j % 2) 1 e) in
        rw (bit_off set j, none, ← ih) (omega arith)

-- the set of the list is the set
pub hidden_back : (n set : ℕ) → set_within n set ≡ true → set_of (hidden_list n set) ≡ set
hidden_back n set e = from_back set 0 n (rw (zero-add n) (ltb-true set (2 ^ n) e)) ∙ omega arith

-- ---- the limit of bounds

-- by the set it is as by the list
pub hidden_limit : (paper : Paper) (n set : ℕ) → set_within n set ≡ true → bound_limit paper n set ≡ bound_range paper n (length (hidden_list n set))
hidden_limit paper n set e = rw (hidden_back n set e) at (list_limit paper n (hidden_list n set) (hidden_increasing n set) (hidden_within n set))
