-- All quantities paired and nothing cleared: the sums fit. A step on a member at most doubles the bounds, and on a quantity that no rule names it enlarges nothing.
-- Assumes nothing.
use mathlib.Core.Path.{◌≡◌, refl}
use mathlib.Core.Bool.{Bool, true, false}
use mathlib.Core.List.{List}
use Prim.Native.Nat.{ℕ, zero, suc, ◌*◌, ◌≤◌, ◌<◌, ◌^◌}
use native.Mathlib.Omega.{arith}
use lib.IntN.{ℤ, pos}
use lib.ListN.{length}
use Rattle.places.specs.Numbering.{block_start}
use Rattle.rules.specs.Hidden.{member_count}
use Rattle.tables.specs.Meaning.{WordsWithin}
use Rattle.elimination.specs.Hiding.{every, paired}
use Rattle.elimination.specs.Inner.{Ready}
use Rattle.elimination.proofs.Growth.{paired_within}
use Rattle.elimination.proofs.Unnamed.{unnamed_same}
use Rattle.keys.specs.Inner.{Fits}
use Rattle.keys.proofs.Several.{Ample}
use Rattle.keys.proofs.Fitting.{words_mono, member_limit, limit_step, limit_stays, limit_rises}
use Rattle.tightening.specs.Tightening.{pair_up_to}
use Rattle.tightening.proofs.Pairing.{pair_room, pair_unnamed}

-- after m steps every bound is within the limit of the members among the first m
pair_within : (n m : ℕ) (t : List ℤ) (f : Fits n t) → m ≤ n
    → WordsWithin (block_start n) (pos (member_limit f.members f.sums.limit m)) (pair_up_to n m t)
unfolding pair_up_to member_count
pair_within n zero t f h = words_mono (block_start n) f.sums.limit (f.sums.limit * 2 ^ 0) t (omega arith) f.sums.within
pair_within n (suc j) t f h = go (pair_within n j t f (omega arith)) (f.members (suc j)) refl
  where
    limit : ℕ → ℕ
    limit = member_limit f.members f.sums.limit

    u : List ℤ
    u = pair_up_to n j t

    room : block_start n ≤ length u
    room = pair_room n j t f.sums.room

    go : WordsWithin (block_start n) (pos (limit j)) u → (b : Bool) → f.members (suc j) ≡ b
        → WordsWithin (block_start n) (pos (limit (suc j))) (paired every n j u)
    go w true e = rw (limit_step f.members f.sums.limit j e) (paired_within every n j (limit j) u room (omega arith) w)
    go w false e =
        let free = pair_unnamed n j j t (omega arith) f.sums.room (f.rest j (omega arith) e) in
        rw (limit_stays f.members f.sums.limit j e, unnamed_same n j u room free every (omega arith)) w

-- so two bounds add after every step,
pub pair_ample : (n m : ℕ) (t : List ℤ) → Fits n t → m ≤ n → Ample n (pair_up_to n m t)
pair_ample n m t f h = record {
  room = pair_room n m t f.sums.room;
  words = words_mono (block_start n) (member_limit f.members f.sums.limit m) 4611686018427387903 (pair_up_to n m t)
      (omega (arith, limit_rises f.members f.sums.limit m n h, f.sums.last)) (pair_within n m t f h);
  fits = omega arith;
}

-- and at each turn the table is ready for the next
pub pair_ready : (n j : ℕ) (t : List ℤ) → Fits n t → j < n → Ready n j (pair_up_to n j t)
pair_ready n j t f h = let a = pair_ample n j t f (omega arith) in record { most = f.sums.most; one = h; room = a.room; words = a.words }
