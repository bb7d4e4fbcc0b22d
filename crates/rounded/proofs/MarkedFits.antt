-- The sums of a table with marks fit; and those of a table of its bounds doubled, where some quantity is no member. Assumes nothing.
use mathlib.Core.Path.{◌≡◌, refl}
use mathlib.Core.Bool.{Bool}
use mathlib.Core.List.{List}
use Prim.Native.Nat.{ℕ, zero, suc, ◌+◌, ◌*◌, ◌≤◌, ◌<◌, ◌^◌}
use native.Mathlib.Nat.{mul-add, add-mul, mul-le-mul, two-pow-succ}
use native.Mathlib.Omega.{arith}
use lib.IntN.{ℤ, pos}
use lib.ListN.{length}
use lib.Pow.{pow_mono}
use borrow.Author.Tests.{le-leb}
use Rattle.places.specs.Numbering.{block_start}
use Rattle.rules.specs.Hidden.{hidden_in, member_count}
use Rattle.rules.proofs.Counts.{count_most}
use Rattle.tables.specs.Meaning.{WordsWithin}
use Rattle.tables.proofs.Tests.{clash}
use Rattle.elimination.specs.Hiding.{every}
use Rattle.keys.specs.declared.live.Part.TheVariants.{Inside}
use Rattle.keys.specs.Inner.{SetFits, Fits, PartFits}
use Rattle.keys.proofs.Fitting.{words_mono}
use Rattle.rounded.specs.Inner.{MarkedFits}

-- ---- numbers

pub more_times : (L x : ℕ) → suc L * x ≡ L * x + x
more_times L x = let e : suc L ≡ L + 1 = omega arith in rw e (omega (arith, add-mul L 1 x))

twice_times : (L x : ℕ) → (L + L + 1) * x ≡ L * x + L * x + x
twice_times L x = omega (arith, add-mul (L + L) 1 x, add-mul L L x)

-- ---- a set hidden from within

pub part_inside : (n set : ℕ) (t : List ℤ) → SetFits (hidden_in set) n t → PartFits n set Inside t
part_inside n set t s = record { sums = s; alone = λ i g e. clash (rw (le-leb 0 i (omega arith))) e }

module _ (n : ℕ) (t : List ℤ) (marks : List ℕ) (f : MarkedFits n t marks) where
  -- a limit doubled at most once for each quantity
  pub once : (c : ℕ) → c ≤ n → suc f.limit * 2 ^ c < 2 ^ 62
  once c h = let one : suc f.limit ≤ suc f.limit = omega arith in omega (arith, mul-le-mul one (pow_mono {i = c} {j = n} h), f.last)

  -- and once more, where there is one quantity more
  pub once_more : (c : ℕ) → c < n → suc f.limit * 2 ^ c + suc f.limit * 2 ^ c < 2 ^ 62
  once_more c h = omega (arith, once (suc c) h, doubled)
    where
      doubled : suc f.limit * 2 ^ suc c ≡ suc f.limit * 2 ^ c + suc f.limit * 2 ^ c
      doubled = rw (two-pow-succ c) (mul-add (suc f.limit) (2 ^ c) (2 ^ c))

  pub marked_room : (c : ℕ) → c ≤ n → f.limit * 2 ^ c < 2 ^ 62
  marked_room c h = omega (arith, once c h, more_times f.limit (2 ^ c))

  pub marked_sums : (members : ℕ → Bool) → SetFits members n t
  marked_sums members = record { most = f.most; room = f.room; limit = f.limit; within = f.within; last = marked_room (member_count members n) (count_most members n) }

  pub marked_fits : Fits n t
  marked_fits = record { members = every; sums = marked_sums every; rest = λ j g e. clash refl e }

  -- the bounds doubled are words
  pub marked_words : WordsWithin (block_start n) (pos (2 ^ 61)) t
  unfolding block_start
  marked_words = go n f.within f.last
    where
      go : (n : ℕ) → WordsWithin (block_start n) (pos f.limit) t → suc f.limit * 2 ^ n < 2 ^ 62 → WordsWithin (block_start n) (pos (2 ^ 61)) t
      go zero w l = record { each = λ k h g r. let z : ⊥ = omega arith in absurd z }
      go (suc j) w l =
          let one : suc f.limit ≤ suc f.limit = omega arith in
          words_mono (block_start (suc j)) f.limit (2 ^ 61) t (omega (arith, mul-le-mul one (pow_mono {i = 1} {j = suc j} (omega arith)))) w

  -- and their sums fit, with 1 more each
  pub doubled_sums : (u : List ℤ) (members : ℕ → Bool) → block_start n ≤ length u → WordsWithin (block_start n) (pos (f.limit + f.limit + 1)) u → member_count members n < n → SetFits members n u
  doubled_sums u members room within h = record {
    most = f.most;
    room = room;
    limit = f.limit + f.limit + 1;
    within = within;
    last = let c = member_count members n in omega (arith, once_more c h, more_times f.limit (2 ^ c), twice_times f.limit (2 ^ c));
  }
