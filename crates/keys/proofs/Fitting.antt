-- The sums fit: what hiding several quantities does to magnitudes, for any n and any limits, and that a table within a paper's limit has room for all
-- steps. Assumes nothing.
use mathlib.Core.Path.{◌≡◌, refl}
use mathlib.Core.Bool.{Bool, true, false, cond}
use mathlib.Core.List.{List}
use mathlib.Core.Logic.{◌⊎◌, inl, inr}
use Prim.Native.Nat.{ℕ, zero, suc, ◌+◌, ◌*◌, ◌/◌, ◌≤◌, ◌<◌, ◌^◌}
use native.Mathlib.Nat.{mul-add, add-mul, mul-le-mul, two-pow-succ, zero-div}
use native.Mathlib.Omega.{arith}
use lib.Dec.{ltb}
use lib.IntN.{ℤ, pos}
use lib.ListN.{length}
use lib.Pow.{pow_mono}
use borrow.Author.Tests.{ltb-true, ltb-false, le-leb}
use Rattle.integers.proofs.Within.{within_mono}
use Rattle.places.specs.Numbering.{block_start}
use Rattle.rules.specs.declared.paper.Paper.TheVariants.{Sheet, Script}
use Rattle.rules.specs.Limits.{max_quantities, max_bound, bound_limit}
use Rattle.rules.specs.Hidden.{hidden_in, member_count}
use Rattle.rules.proofs.Counts.{count_most}
use Rattle.tables.specs.Meaning.{WordsWithin, BoundsWithin}
use Rattle.tables.proofs.Tests.{clash}
use Rattle.elimination.specs.Hiding.{every, eliminated}
use Rattle.elimination.specs.Magnitude.{Unnamed}
use Rattle.elimination.proofs.Growth.{eliminated_within}
use Rattle.elimination.proofs.Unnamed.{eliminated_unnamed_within, unnamed_eliminated}
use Rattle.keys.specs.Keys.{hide_up_to, key_of}
use Rattle.keys.specs.Inner.{outside, SetFits, Fits, RestFits}
use Rattle.keys.proofs.Several.{Ample, AmpleUpTo, hide_up_to_length}

pub words_mono : (m B C : ℕ) (t : List ℤ) → B ≤ C → WordsWithin m (pos B) t → WordsWithin m (pos C) t
words_mono m B C t h w = record { each = λ k a b r. within_mono h (w.each k a b r) }

-- a quantity that no rule names stays so
pub hide_unnamed : (hidden : ℕ → Bool) (n m i : ℕ) (t : List ℤ) → m ≤ n → block_start n ≤ length t → Unnamed n i t → Unnamed n i (hide_up_to hidden n m t)
unfolding hide_up_to
hide_unnamed hidden n zero i t h l u = u
hide_unnamed hidden n (suc j) i t h l u = go (hide_unnamed hidden n j i t (omega arith) l u) (hidden (suc j))
  where
    go : Unnamed n i (hide_up_to hidden n j t) → (b : Bool)
        → Unnamed n i (cond b (eliminated n j (hide_up_to hidden n j t)) (hide_up_to hidden n j t))
    go v true = unnamed_eliminated n j i (hide_up_to hidden n j t) (omega (arith, hide_up_to_length hidden n j t)) (omega arith) v
    go v false = v

-- ---- hiding several

-- the limits of hiding: each hidden quantity that a rule names may double the bounds, others enlarge nothing
pub record HideGrows (hidden : ℕ → Bool) (n : ℕ) (limit : ℕ → ℕ) (t : List ℤ) : Type 0 where
  pub room : block_start n ≤ length t
  pub start : WordsWithin (block_start n) (pos (limit 0)) t
  pub rises : (j : ℕ) → j < n → limit j ≤ limit (suc j)
  pub doubles : (j : ℕ) → j < n → hidden (suc j) ≡ true → (limit j + limit j ≤ limit (suc j)) ⊎ Unnamed n j t

pub hide_within : (hidden : ℕ → Bool) (n m : ℕ) (limit : ℕ → ℕ) (t : List ℤ) → m ≤ n → HideGrows hidden n limit t
    → WordsWithin (block_start n) (pos (limit m)) (hide_up_to hidden n m t)
unfolding hide_up_to
hide_within hidden n zero limit t h f = f.start
hide_within hidden n (suc j) limit t h f = go (hide_within hidden n j limit t (omega arith) f) (hidden (suc j)) refl
  where
    u : List ℤ
    u = hide_up_to hidden n j t

    l : block_start n ≤ length u
    l = omega (arith, hide_up_to_length hidden n j t, f.room)

    step : WordsWithin (block_start n) (pos (limit j)) u → (limit j + limit j ≤ limit (suc j)) ⊎ Unnamed n j t
        → WordsWithin (block_start n) (pos (limit (suc j))) (eliminated n j u)
    step w (inl e) = words_mono (block_start n) (limit j + limit j) (limit (suc j)) (eliminated n j u) e (eliminated_within n j (limit j) u l (omega arith) w)
    step w (inr v) =
        words_mono (block_start n) (limit j) (limit (suc j)) (eliminated n j u) (f.rises j (omega arith))
        (eliminated_unnamed_within n j u l (hide_unnamed hidden n j j t (omega arith) f.room v) (limit j) (omega arith) w)

    go : WordsWithin (block_start n) (pos (limit j)) u → (b : Bool) → hidden (suc j) ≡ b
        → WordsWithin (block_start n) (pos (limit (suc j))) (cond b (eliminated n j u) u)
    go w true e = step w (f.doubles j (omega arith) e)
    go w false e = words_mono (block_start n) (limit j) (limit (suc j)) u (f.rises j (omega arith)) w

doubled : (B c : ℕ) → B * 2 ^ suc c ≡ B * 2 ^ c + B * 2 ^ c
doubled B c = rw (two-pow-succ c) (mul-add B (2 ^ c) (2 ^ c))

-- ---- members counted

-- a limit doubled for each member among the first j quantities
abbrev pub member_limit : (ℕ → Bool) → ℕ → ℕ → ℕ
member_limit members L j = L * 2 ^ member_count members j

-- one quantity more: a member doubles it, another leaves it
pub limit_step : (members : ℕ → Bool) (L j : ℕ) → members (suc j) ≡ true → member_limit members L (suc j) ≡ member_limit members L j + member_limit members L j
unfolding member_count
limit_step members L j e = rw (e, doubled L (member_count members j))

pub limit_stays : (members : ℕ → Bool) (L j : ℕ) → members (suc j) ≡ false → member_limit members L (suc j) ≡ member_limit members L j
unfolding member_count
limit_stays members L j e = rw e

limit_more : (members : ℕ → Bool) (L j : ℕ) → member_limit members L j ≤ member_limit members L (suc j)
limit_more members L j = go (members (suc j)) refl
  where
    go : (b : Bool) → members (suc j) ≡ b → member_limit members L j ≤ member_limit members L (suc j)
    go true e = rw (limit_step members L j e) (omega arith)
    go false e = rw (limit_stays members L j e) (omega arith)

-- so it does not fall
pub limit_rises : (members : ℕ → Bool) (L a b : ℕ) → a ≤ b → member_limit members L a ≤ member_limit members L b
limit_rises members L a zero h = let e : a ≡ zero = omega arith in rw e (omega arith)
limit_rises members L a (suc b) h = go (ltb b a) refl (limit_rises members L a b)
  where
    go : (c : Bool) → ltb b a ≡ c → (a ≤ b → member_limit members L a ≤ member_limit members L b) → member_limit members L a ≤ member_limit members L (suc b)
    go true e ih = let d : a ≡ suc b = omega (arith, ltb-true b a e) in rw d (omega arith)
    go false e ih = omega (arith, ih (ltb-false b a e), limit_more members L b)

-- hiding what is a member, or named by no rule, keeps a table within the members' limit
pub hidden_within : (hidden members : ℕ → Bool) (n m L : ℕ) (t : List ℤ) → m ≤ n → block_start n ≤ length t → WordsWithin (block_start n) (pos L) t
    → ((j : ℕ) → j < n → hidden (suc j) ≡ true → (members (suc j) ≡ true) ⊎ Unnamed n j t)
    → WordsWithin (block_start n) (pos (member_limit members L m)) (hide_up_to hidden n m t)
unfolding member_count
hidden_within hidden members n m L t h l w named = hide_within hidden n m (member_limit members L) t h (record {
  room = l;
  start = words_mono (block_start n) L (L * 2 ^ 0) t (omega arith) w;
  rises = λ j g. limit_more members L j;
  doubles = λ j g e. go j (named j g e);
})
  where
    go : (j : ℕ) → (members (suc j) ≡ true) ⊎ Unnamed n j t → (member_limit members L j + member_limit members L j ≤ member_limit members L (suc j)) ⊎ Unnamed n j t
    go j (inl e) = inl (rw (limit_step members L j e) (omega arith))
    go j (inr u) = inr u

-- so a key of a table within B, with k quantities hidden, is within B * 2 ^ k
pub key_within : (hidden : ℕ → Bool) (n B : ℕ) (t : List ℤ) → block_start n ≤ length t → WordsWithin (block_start n) (pos B) t
    → WordsWithin (block_start n) (pos (B * 2 ^ member_count hidden n)) (key_of hidden n t)
unfolding key_of
key_within hidden n B t l w = hidden_within hidden hidden n n B t (omega arith) l w (λ j g e. inl e)

-- ---- bounds add at every turn

-- in a table within a limit on the way
limit_ample : (members : ℕ → Bool) (n m : ℕ) (t u : List ℤ) (f : SetFits members n t) → m ≤ n → length u ≡ length t
    → WordsWithin (block_start n) (pos (member_limit members f.limit m)) u → Ample n u
limit_ample members n m t u f h e w = record {
  room = omega (arith, f.room);
  words = words_mono (block_start n) (member_limit members f.limit m) 4611686018427387903 u
      (omega (arith, limit_rises members f.limit m n h, f.last)) w;
  fits = omega arith;
}

-- with the members hidden,
pub set_ample : (members : ℕ → Bool) (n : ℕ) (t : List ℤ) → SetFits members n t → AmpleUpTo members n t
set_ample members n t f j h =
    limit_ample members n j t (hide_up_to members n j t) f (omega arith) (hide_up_to_length members n j t)
    (hidden_within members members n j f.limit t (omega arith) f.room f.within (λ i g e. inl e))

-- or any, where no rule names another
pub hide_ample : (hidden : ℕ → Bool) (n : ℕ) (t : List ℤ) → Fits n t → AmpleUpTo hidden n t
hide_ample hidden n t f j h =
    limit_ample f.members n j t (hide_up_to hidden n j t) f.sums (omega arith) (hide_up_to_length hidden n j t)
    (hidden_within hidden f.members n j f.sums.limit t (omega arith) f.sums.room f.sums.within (λ i g e. go i g (f.members (suc i)) refl))
  where
    go : (i : ℕ) → i < n → (b : Bool) → f.members (suc i) ≡ b → (f.members (suc i) ≡ true) ⊎ Unnamed n i t
    go i g true e = inl e
    go i g false e = inr (f.rest i g e)

-- ---- a sheet's limit

-- the one fact about numbers: one more than the limit of a sheet, doubled once for each quantity, is below 2 ^ 62
pub limit_doubled : (n set : ℕ) → n ≤ max_quantities → (bound_limit Sheet n set + 1) * 2 ^ n < 2 ^ 62
unfolding bound_limit
limit_doubled n set h =
    let one : max_bound + 1 ≤ max_bound + 1 = omega arith in
    omega (arith, mul-le-mul one (pow_mono {i = n} {j = max_quantities} h))

-- a script's is the limit of a key
pub script_limit : (n set : ℕ) → bound_limit Sheet n set * 2 ^ member_count (hidden_in set) n ≡ bound_limit Script n set
unfolding bound_limit
script_limit n set = refl

-- so sums fit in the table of a sheet, whichever quantities are eliminated
pub sheet_sums : (members : ℕ → Bool) (n set : ℕ) (t : List ℤ) → n ≤ max_quantities → block_start n ≤ length t
    → BoundsWithin Sheet n set t → SetFits members n t
sheet_sums members n set t h l w = record {
  most = h;
  room = l;
  limit = bound_limit Sheet n set;
  within = w;
  last = let one : bound_limit Sheet n set ≤ bound_limit Sheet n set = omega arith in
      omega (
        arith,
        mul-le-mul one (pow_mono {i = member_count members n} {j = n} (count_most members n)),
        add-mul (bound_limit Sheet n set) 1 (2 ^ n),
        limit_doubled n set h,
      );
}

pub sheet_fits : (n set : ℕ) (t : List ℤ) → n ≤ max_quantities → block_start n ≤ length t
    → BoundsWithin Sheet n set t → Fits n t
sheet_fits n set t h l w = record { members = every; sums = sheet_sums every n set t h l w; rest = λ j g e. clash refl e }

-- and with none left out in particular
none_set : (q : ℕ) → hidden_in 0 q ≡ false
none_set zero = refl
none_set (suc j) = let z : 0 / 2 ^ j ≡ 0 = zero-div (2 ^ j) in rw z

pub whole_fits : (n set : ℕ) (t : List ℤ) → n ≤ max_quantities → block_start n ≤ length t
    → BoundsWithin Sheet n set t → RestFits n 0 t
whole_fits n set t h l w = record {
  sums = sheet_sums (outside 0) n set t h l w;
  alone = λ i g e. clash (rw (none_set (suc i), le-leb 0 i (omega arith))) e;
}
