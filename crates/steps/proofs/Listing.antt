-- A list of all quantities: with its beginning, the sums that go to the first blocks are put in. Assumes nothing.
use mathlib.Core.Path.{◌≡◌, refl, sym, ◌∙◌}
use mathlib.Core.Bool.{Bool, true, false, ◌&&◌, ◌||◌}
use mathlib.Core.List.{List}
use Prim.Native.Nat.{ℕ, suc, ◌+◌, ◌*◌, ◌/◌, ◌≤◌, ◌<◌}
use native.Mathlib.Omega.{arith}
use lib.IntN.{ℤ}
use lib.ListN.{length, get_or, take}
use lib.Seq.{length-take-le, get_or-take}
use Rattle.words.proofs.Change.{change_same}
use Rattle.places.specs.Numbering.{block_start, is_one, higher_at, lower_at}
use Rattle.places.proofs.Numbering.{at_lower, at_below}
use Rattle.tables.proofs.Tests.{clash}
use Rattle.elimination.specs.Hiding.{every, lone_word, live_at, pairing, paired}
use Rattle.elimination.specs.Inner.{among, Listed, Ready, Gathered, NamesAlone}
use Rattle.elimination.specs.Blocks.{StepBegun}
use Rattle.elimination.proofs.Lists.{listed_at, listed_place}
use Rattle.elimination.proofs.Blocks.{blocks_over}
use Rattle.steps.specs.Inner.{AllListed}

-- the first b of all n
module _ (n b : ℕ) (out : List ℕ) (a : AllListed n out) (h : b ≤ n) where
  abbrev list : List ℕ
  list = take b out

  pub first_size : b ≡ length (take b out)
  first_size = let room = a.room in sym (length-take-le b out (omega arith))

  at : (i : ℕ) → i < b → get_or (take b out) i 0 ≡ i
  at i g = get_or-take b out i 0 g ∙ a.each i (omega arith)

  pub first_listed : Listed n (take b out)
  first_listed = record {
    rising = record { rises = λ i g. omega (arith, first_size, at i (omega (arith, first_size)), at (suc i) (omega (arith, first_size))) };
    below = λ i g. omega (arith, first_size, at i (omega (arith, first_size)));
  }

  -- they are live, and no other is
  first_live : (i : ℕ) → i < b → among (take b out) i ≡ true
  first_live i g = rw (at i g) at (listed_at list i (omega (arith, first_size)))

  none_live : (i : ℕ) → b ≤ i → among (take b out) i ≡ false
  none_live i g = go (among (take b out) i) refl
    where
      go : (c : Bool) → among (take b out) i ≡ c → c ≡ false
      go true e =
          let s = listed_place list i e in
          let inside = s.inside in
          let z : ⊥ = omega (arith, first_size, s.is, at s.place (omega (arith, first_size))) in
          absurd z
      go false e = refl

  -- so what is put in goes to the blocks of the first b,
  place_live : (k : ℕ) → k < block_start b → live_at (among (take b out)) k ≡ true
  unfolding live_at
  place_live k g = go (is_one k) refl
    where
      high : among (take b out) (higher_at k / 2) ≡ true
      high = first_live (higher_at k / 2) (omega (arith, at_below b k g))

      go : (o : Bool) → is_one k ≡ o → (among (take b out) (higher_at k / 2) && (o || among (take b out) (lower_at k / 2))) ≡ true
      go true e = rw high
      go false e = rw (high, first_live (lower_at k / 2) (omega (arith, at_lower k e, at_below b k g)))

  every_live : (k : ℕ) → live_at every k ≡ true
  unfolding live_at
  every_live k = go (is_one k)
    where
      go : (o : Bool) → (o || true) ≡ true
      go true = refl
      go false = refl

  -- and is all that goes there
  pub first_paired : (j : ℕ) (t : List ℤ) → paired (among (take b out)) n j t ≡ paired every b j t
  unfolding paired pairing
  first_paired j t =
      sym (blocks_over (among (take b out)) _ _ _ _ b n t h (λ i g l. none_live i g))
      ∙ change_same (block_start b) _ _ t (λ k l. rw (place_live k l, every_live k))

-- the rules of a table name quantities of all alone
pub all_alone : (n j : ℕ) (t : List ℤ) (out : List ℕ) → AllListed n out → NamesAlone n j (take n out) t
all_alone n j t out a i h d e = clash (first_live n n out a (omega arith) i h) e

-- and with the first of them listed a step comes to each of their blocks
pub first_begun : (n j blocks b : ℕ) (t plus minus : List ℤ) (p m : ℤ) (out : List ℕ) → AllListed n out → blocks ≤ n → b < blocks → Ready n j t
    → Gathered n j (take blocks out) t plus minus → p ≡ lone_word t (2 * j) → m ≡ lone_word t (2 * j + 1) → StepBegun n j b (take blocks out) t plus minus p m
first_begun n j blocks b t plus minus p m out a h l r g e d = record {
  ready = r;
  inside = omega arith;
  alone = λ i c o q. clash (first_live n blocks out a h i (omega arith)) q;
  rows = g;
  plus_alone = e;
  minus_alone = d;
}
