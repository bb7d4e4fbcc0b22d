-- A step goes one block after another: the work on one block stays in it and leaves its words as the whole step does, and so all blocks make the step. Assumes nothing.
use mathlib.Core.Path.{◌≡◌, refl, sym, ◌∙◌, ap}
use mathlib.Core.Bool.{Bool, true, false, cond, ◌&&◌, ◌||◌, or-false}
use mathlib.Core.List.{List}
use Prim.Native.Nat.{ℕ, suc, ◌+◌, ◌*◌, ◌/◌, ◌≤◌, ◌<◌}
use native.Mathlib.Omega.{arith}
use lib.Dec.{ltb}
use lib.IntN.{ℤ}
use lib.ListN.{length}
use lib.Signed.{◌≤ℤ◌}
use borrow.Author.Tests.{ltb-true, ltb-false, lt-ltb, le-ltb}
use Rattle.std.specs.Prelude.{Some}
use Rattle.words.specs.Change.{word_at, change, starting_at}
use Rattle.words.proofs.Change.{change_length, change_below, change_past, change_none}
use Rattle.places.specs.Numbering.{block_start, block_of, is_one, higher_at, lower_at}
use Rattle.places.proofs.Numbering.{block_start_mono, block_unique, higher_half, at_lower}
use Rattle.rules.specs.declared.rule.Rule.{Rule}
use Rattle.rules.specs.Meaning.{bound_of}
use Rattle.tables.specs.Places.{find_place}
use Rattle.tables.proofs.Tests.{neither}
use Rattle.elimination.specs.Hiding.{every, lone_word, live_at, pairing, paired, eliminated}
use Rattle.elimination.specs.ByRules.{IsSum}
use Rattle.elimination.specs.Blocks.{InBlock, BlockAlone, StepBegun, BlockDone, HiddenByBlocks}
use Rattle.elimination.specs.Inner.{among, Ready, Gathered, NamesAlone, BlockPaired}
use Rattle.elimination.specs.Promises.{BlockWorked}
use Rattle.elimination.proofs.PairedWords.{paired_at}
use Rattle.elimination.proofs.Step.{paired_length}
use Rattle.elimination.proofs.Fewer.{fewer_paired}
use Rattle.elimination.proofs.Blocks.{paired_rows}
use Rattle.elimination.proofs.Document.{hidden_word, named_word, sum_goes_in, sum_place}

-- a place outside a block is before it or after it
outside_cases : {P : Type 0} (b k : ℕ) → (InBlock b k → ⊥) → (k < block_start b → P) → (block_start (suc b) ≤ k → P) → P
outside_cases {P} b k out low high = go (ltb k (block_start b)) refl (ltb k (block_start (suc b))) refl
  where
    go : (c : Bool) → ltb k (block_start b) ≡ c → (d : Bool) → ltb k (block_start (suc b)) ≡ d → P
    go true e d f = low (ltb-true k (block_start b) e)
    go false e true f = absurd (out (record { from = ltb-false k (block_start b) e; below = ltb-true k (block_start (suc b)) f }))
    go false e false f = high (ltb-false k (block_start (suc b)) f)

-- ---- the work on one block

module _ (b : ℕ) (live : List ℕ) (plus minus : List ℤ) (p m : ℤ) (before after : List ℤ) (l : block_start (suc b) ≤ length before)
    (d : BlockPaired b live plus minus p m before after) where
  abbrev f : ℕ → ℤ → ℤ
  f = pairing (among live) (word_at plus) (word_at minus) p m

  changed : (k : ℕ) → word_at after k ≡ word_at (change (block_start (suc b)) (starting_at (block_start b) (pairing (among live) (word_at plus) (word_at minus) p m)) before) k
  changed k = ap (λ (t : List ℤ). word_at t k) d.table

  -- before the block nothing is put in,
  low : (k : ℕ) → k < block_start b → word_at after k ≡ word_at before k
  low k h =
      let g = block_start_mono {a = b} {b = suc b} (omega arith) in
      changed k
      ∙ change_below (block_start (suc b)) (starting_at (block_start b) f) before k (omega arith) (omega arith)
      ∙ ap (λ (c : Bool). cond c (word_at before k) (f k (word_at before k))) (lt-ltb k (block_start b) h)

  -- nor after it
  high : (k : ℕ) → block_start (suc b) ≤ k → word_at after k ≡ word_at before k
  high k h = changed k ∙ change_past (block_start (suc b)) (starting_at (block_start b) f) before k h

  alone : BlockAlone b before after
  alone = record {
    size = ap length d.table ∙ change_length (block_start (suc b)) (starting_at (block_start b) f) before;
    outside = λ k out. outside_cases b k out (low k) (high k);
  }

  -- in it each word by itself
  own : (k : ℕ) → InBlock b k → word_at after k ≡ pairing (among live) (word_at plus) (word_at minus) p m k (word_at before k)
  own k i =
      let below = i.below in
      changed k
      ∙ change_below (block_start (suc b)) (starting_at (block_start b) f) before k below (omega arith)
      ∙ ap (λ (c : Bool). cond c (word_at before k) (f k (word_at before k))) (le-ltb k (block_start b) i.from)

  module _ (n j : ℕ) (start : List ℤ) (s : StepBegun n j b live start plus minus p m) (e : (k : ℕ) → InBlock b k → word_at before k ≡ word_at start k) where
    inside : (k : ℕ) → InBlock b k → k < block_start n
    inside k i = let below = i.below in omega (arith, block_start_mono {a = suc b} {b = n} s.inside)

    -- for the block it is as if all quantities past its own were live,
    nearly : ℕ → Bool
    nearly i = among live i || ltb b i

    near : (i : ℕ) → i ≤ b → nearly i ≡ among live i
    unfolding nearly
    near i h = rw (le-ltb b i h) (or-false (among live i))

    near_place : (k : ℕ) → InBlock b k → live_at nearly k ≡ live_at (among live) k
    unfolding live_at
    near_place k i = go (is_one k) refl
      where
        own_block : block_of k ≡ b
        own_block = block_unique b k i.from i.below

        high : nearly (higher_at k / 2) ≡ among live (higher_at k / 2)
        high = near (higher_at k / 2) (omega (arith, higher_half k, own_block))

        go : (o : Bool) → is_one k ≡ o
            → (nearly (higher_at k / 2) && (o || nearly (lower_at k / 2))) ≡ (among live (higher_at k / 2) && (o || among live (lower_at k / 2)))
        go true q = rw high
        go false q = rw (high, near (lower_at k / 2) (omega (arith, higher_half k, own_block, at_lower k q)))

    -- with which the whole step is document 01's: those left out are named by no rule
    out : (i : ℕ) → nearly i ≡ false → (among live i ≡ false) × (i ≤ b)
    unfolding nearly
    out i q = let g = (neither (among live i) (ltb b i)).0 q in (g.0, ltb-false b i g.1)

    all : paired every n j start ≡ paired nearly n j start
    all = fewer_paired every nearly n j start s.ready.room s.ready.one (λ a c g. refl)
        (λ a c g o q. let r = out a q in s.alone a r.1 g r.0)

    -- so the block's words are changed as by the whole step
    stepped : (k : ℕ) → InBlock b k → word_at after k ≡ word_at (paired every n j start) k
    unfolding pairing
    stepped k i =
        let r = s.ready.room in
        own k i
        ∙ ap (f k) (e k i)
        ∙ sym (change_below (block_start n) f start k (inside k i) (omega (arith, inside k i)))
        ∙ ap (λ (t : List ℤ). word_at t k) (paired_rows n j live start plus minus p m s.rows s.plus_alone s.minus_alone)
        ∙ paired_at (among live) n j start r k (inside k i)
        ∙ rw (near_place k i) at (sym (paired_at nearly n j start r k (inside k i)))
        ∙ ap (λ (t : List ℤ). word_at t k) (sym all)

    done : BlockDone n j b start before after
    done = record {
      alone = alone;
      whole = λ k i q. stepped k i ∙ sym (hidden_word n j start s.ready.room s.ready.one k (inside k i) q);
      named = λ k i q. stepped k i ∙ named_word n j start s.ready.room s.ready.one k (inside k i) q;
    }

  pub block_worked : BlockWorked b live plus minus p m before after
  block_worked = record { words = d; alone = alone; done = done }

-- a step comes so to each block with the rows that are gathered for it
pub step_begun : (n j b : ℕ) (live : List ℕ) (t plus minus : List ℤ) (p m : ℤ) → Ready n j t → NamesAlone n j live t → Gathered n j live t plus minus
    → p ≡ lone_word t (2 * j) → m ≡ lone_word t (2 * j + 1) → b < n → StepBegun n j b live t plus minus p m
step_begun n j b live t plus minus p m r a g e d h = record {
  ready = r;
  inside = h;
  alone = λ i l o q. a i (omega arith) o q;
  rows = g;
  plus_alone = e;
  minus_alone = d;
}

-- ---- all blocks

module _ (n j : ℕ) (t : List ℤ) (l : block_start n ≤ length t) (h : j < n) where
  -- a block that is done stands as in the end
  reached : (b k : ℕ) → b ≤ n → k < block_start b → word_at (paired every b j t) k ≡ word_at (paired every n j t) k
  reached b k g i =
      let m = block_start_mono {a = b} {b = n} g in
      paired_at every b j t (omega arith) k i ∙ sym (paired_at every n j t l k (omega arith))

  -- and one that is not begun as at the start
  waiting : (b k : ℕ) → block_start b ≤ k → word_at (paired every b j t) k ≡ word_at t k
  unfolding paired
  waiting b k i = change_past (block_start b) _ t k i

  none_done : paired every 0 j t ≡ t
  unfolding paired block_start
  none_done = change_none _ t

  block : (b : ℕ) → b < n → BlockDone n j b t (paired every b j t) (paired every (suc b) j t)
  block b g = record {
    alone = record {
      size = paired_length every (suc b) j t ∙ sym (paired_length every b j t);
      outside = λ k out. outside_cases b k out
          (λ i. reached (suc b) k g (let m = block_start_mono {a = b} {b = suc b} (omega arith) in omega arith) ∙ sym (reached b k (omega arith) i))
          (λ i. waiting (suc b) k i ∙ sym (waiting b k (let m = block_start_mono {a = b} {b = suc b} (omega arith) in omega arith)));
    };
    whole = λ k i q. reached (suc b) k g i.below ∙ sym (hidden_word n j t l h k (inside k i.below) q);
    named = λ k i q. reached (suc b) k g i.below ∙ named_word n j t l h k (inside k i.below) q;
  }
    where
      inside : (k : ℕ) → k < block_start (suc b) → k < block_start n
      inside k i = omega (arith, block_start_mono {a = suc b} {b = n} g)

  -- so the step is made one block after another
  pub by_blocks : (v : List ℤ) → v ≡ eliminated n j t → HiddenByBlocks n j t v
  unfolding eliminated
  by_blocks v e = record {
    tables = λ (b : ℕ). paired every b j t;
    first = none_done;
    each = block;
    last = e;
    sums = in_block;
    waiting = λ b k g i. waiting b k i;
  }
    where
      block_within : (b k : ℕ) → InBlock b k → k < block_start n → b < n
      block_within b k i g = go (ltb b n) refl
        where
          go : (c : Bool) → ltb b n ≡ c → b < n
          go true q = ltb-true b n q
          go false q = let from = i.from in let z : ⊥ = omega (arith, block_start_mono {a = n} {b = b} (ltb-false b n q)) in absurd z

      in_block : (u : Rule) → IsSum n j t u → (b k : ℕ) → InBlock b k → find_place u ≡ Some k → word_at (paired every (suc b) j t) k ≤ℤ bound_of u
      in_block u s b k i p = rw (reached (suc b) k (block_within b k i (sum_place n j t l h u s k p).0) i.below) (sum_goes_in n j t l h u s k p)

  -- the tables between being those of the sums that go to the first blocks
  pub blocks_between : (v : List ℤ) (e : v ≡ eliminated n j t) (b : ℕ) → (by_blocks v e).tables b ≡ paired every b j t
  unfolding by_blocks
  blocks_between v e b = refl
