-- The order of work of a hiding step (document 02, request 4): one block after another, by place, and then the clearing. What the step puts in is said in
-- Hiding and in ByRules, apart from any order.
use Rattle.std.specs.Prelude.{true, false, ◌≡◌, List, ℕ, suc, ◌+◌, ◌*◌, ◌≤◌, ◌<◌, ℤ, length, ◌≤ℤ◌, Some}
use Rattle.words.specs.Change.{word_at}
use Rattle.places.specs.Numbering.{block_start}
use Rattle.rules.specs.declared.rule.Rule.{Rule}
use Rattle.rules.specs.Meaning.{bound_of, names}
use Rattle.tables.specs.Places.{find_place}
use Rattle.tables.specs.Tables.{cleared}
use Rattle.tables.specs.Meaning.{rule_in}
use Rattle.elimination.specs.Hiding.{lone_word, eliminated}
use Rattle.elimination.specs.ByRules.{IsSum}
use Rattle.elimination.specs.Magnitude.{Unnamed}
use Rattle.elimination.specs.Inner.{among, Ready, Gathered}

-- place k lies in the block of quantity b + 1
pub record InBlock (b k : ℕ) : Type 0 where
  pub from : block_start b ≤ k
  pub below : k < block_start (suc b)

-- no word outside that block is changed, also none past the table
pub record BlockAlone (b : ℕ) (before after : List ℤ) : Type 0 where
  pub size : length after ≡ length before
  pub outside : (k : ℕ) → (InBlock b k → ⊥) → word_at after k ≡ word_at before k

-- the step that hides quantity j + 1 of n is begun on the table `start`, and comes to the block of quantity b + 1: the rows have the bounds of its rules with live quantities, p and m are those of the quantity
-- alone, and no rule of `start` names a quantity up to b + 1 that is neither j + 1 nor live
pub record StepBegun (n j b : ℕ) (live : List ℕ) (start plus minus : List ℤ) (p m : ℤ) : Type 0 where
  pub ready : Ready n j start
  pub inside : b < n
  pub alone : (i : ℕ) → i ≤ b → (i ≡ j → ⊥) → among live i ≡ false → Unnamed n i start
  pub rows : Gathered n j live start plus minus
  pub plus_alone : p ≡ lone_word start (2 * j)
  pub minus_alone : m ≡ lone_word start (2 * j + 1)

-- the work on that block in this step: 'changes no word outside it and leaves each of its words that does
-- not name the hidden quantity as the whole step leaves it'. Those that name it stay until all blocks are done
pub record BlockDone (n j b : ℕ) (start before after : List ℤ) : Type 0 where
  pub alone : BlockAlone b before after
  pub whole : (k : ℕ) → InBlock b k → names (suc j) (rule_in start k) ≡ false → word_at after k ≡ word_at (eliminated n j start) k
  pub named : (k : ℕ) → InBlock b k → names (suc j) (rule_in start k) ≡ true → word_at after k ≡ word_at start k

-- 'all sums that land in one block are put in before the next block is begun': `tables b` is the table when the first b blocks are done, each by the work on that block alone; in the end the places that
-- name the quantity are cleared. So the whole step can be taken apart; that a program takes it in this order its code shows
pub record HiddenByBlocks (n j : ℕ) (start after : List ℤ) : Type 0 where
  pub tables : ℕ → List ℤ
  pub first : tables 0 ≡ start
  pub each : (b : ℕ) → b < n → BlockDone n j b start (tables b) (tables (suc b))
  pub last : after ≡ cleared n (suc j) (tables n)
  -- a sum is in when the work on the block of its place is done,
  pub sums : (u : Rule) → IsSum n j start u → (b k : ℕ) → InBlock b k → find_place u ≡ Some k → word_at (tables (suc b)) k ≤ℤ bound_of u
  -- and until a block is begun it stands as at the start, as do those after it
  pub waiting : (b k : ℕ) → b ≤ n → block_start b ≤ k → word_at (tables b) k ≡ word_at start k
