-- What the step's functions promise: one block worked on; a quantity paired, hidden, or given its value. What they ask is in Inner: a table whose words add.
use Rattle.std.specs.Prelude.{Bool, true, false, ◌≡◌, ◌↔◌, List, eqb, ℕ, suc, ◌+◌, ◌*◌, ◌≤◌, ℤ, pos, nat_abs}
use Rattle.words.specs.Change.{word_at}
use Rattle.places.specs.Numbering.{block_start}
use Rattle.rules.specs.declared.rule.Rule.{Rule}
use Rattle.rules.specs.Meaning.{Assignment}
use Rattle.rules.specs.Steps.{sum_over}
use Rattle.tables.specs.Meaning.{Satisfies, Unsatisfiable, SheetAllows, WordsWithin, assignment_of}
use Rattle.elimination.specs.Hiding.{every, paired, contradicts, eliminated}
use Rattle.elimination.specs.ByRules.{IsSum, HiddenByRules}
use Rattle.elimination.specs.Blocks.{InBlock, BlockAlone, StepBegun, BlockDone, HiddenByBlocks}
use Rattle.elimination.specs.Inner.{BlockPaired}
use Rattle.elimination.specs.Choosing.{choice}
use Rattle.elimination.specs.Feasible.{Feasible}

-- the work on the block of quantity b + 1 (document 02, request 4), given rows and the bounds p and m: the words, and that no word outside the block changes, whatever the rows and bounds are. Where a step has come to
-- the block, and the block stands as at the step's start, each of its words that does not name the hidden quantity is left as the whole step leaves it, whatever the other blocks have become
pub record BlockWorked (b : ℕ) (live : List ℕ) (plus minus : List ℤ) (p m : ℤ) (before after : List ℤ) : Type 0 where
  pub words : BlockPaired b live plus minus p m before after
  pub alone : BlockAlone b before after
  pub done : (n j : ℕ) (start : List ℤ) → StepBegun n j b live start plus minus p m → ((k : ℕ) → InBlock b k → word_at before k ≡ word_at start k) → BlockDone n j b start before after

-- the sums of quantity j + 1 put in, of the other quantities only the live ones, and whether one is a contradiction
pub record Paired (live : ℕ → Bool) (n j : ℕ) (before : List ℤ) (r : Bool) (after : List ℤ) : Type 0 where
  pub reply : r ≡ contradicts live n j before
  pub table : after ≡ paired live n j before

-- quantity j + 1 hidden, and whether a sum is a contradiction: place by place, and in document 01's words, each sum being the one that `Rule::sum` hands back. The
-- bounds at most double. There are tables between by which it is made one block after another. Where there is no contradiction, the table allows just what some integer for the quantity completes; where there is one, nothing
-- satisfied the table
pub record QuantityHidden (n j : ℕ) (before : List ℤ) (r : Bool) (after : List ℤ) : Type 0 where
  pub reply : r ≡ contradicts every n j before
  pub table : after ≡ eliminated n j before
  pub rules : HiddenByRules n j before r after
  pub blocks : HiddenByBlocks n j before after
  pub sums : (u : Rule) (s : IsSum n j before u) → u ≡ sum_over (2 * j) s.plus s.minus
  pub growth : (B : ℕ) → WordsWithin (block_start n) (pos B) before → WordsWithin (block_start n) (pos (B + B)) after
  pub meaning : r ≡ false → (σ : Assignment) → Satisfies n after σ ↔ SheetAllows (eqb (suc j)) (Satisfies n before) σ
  pub none : r ≡ true → Unsatisfiable n before

-- the value r chosen for quantity j + 1, given those of the live ones. Where the quantity's rules, alone and with live ones, leave it any integer v, they
-- leave it r, and r is at least as near to 0 as v
pub record Chosen (live : ℕ → Bool) (n j : ℕ) (table values : List ℤ) (r : ℤ) : Type 0 where
  pub reply : r ≡ choice live n table j values
  pub meaning : (v : ℤ) → Feasible live n j table (assignment_of values) v → Feasible live n j table (assignment_of values) r
  pub nearest : (v : ℤ) → Feasible live n j table (assignment_of values) v → nat_abs r ≤ nat_abs v
