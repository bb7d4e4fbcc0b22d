-- What the call promises: the reply and every lent word, for every input, and which table of a hiding step it leaves.
use Rattle.std.specs.Prelude.{Bool, true, false, cond, ◌≡◌, ◌↔◌, List, ℕ, ◌-◌, ◌≤◌, ◌<◌, ℤ, length, drop}
use Rattle.words.specs.Lent.{Lent}
use Rattle.places.specs.Numbering.{block_start}
use Rattle.rules.specs.Refusal.{refused_as}
use Rattle.rules.specs.Refusing.{passed, AllMet, DecidedBy}
use Rattle.rules.specs.Hidden.{hidden_in}
use Rattle.tables.specs.Replies.{Reply, is_done, reply_returned, reply_number}
use Rattle.tables.specs.Meaning.{Unsatisfiable}
use Rattle.elimination.specs.Hiding.{eliminated}
use Rattle.elimination.specs.Blocks.{HiddenByBlocks}
use Rattle.keys.specs.Keys.{hide_up_to, key_of, frees_workspace}
use Rattle.keys.specs.Promises.{KeyMade}
use Rattle.steps.specs.Steps.{step_of, step_reply}
use Rattle.steps.specs.Meaning.{step_needs_then, step_needs}

-- a table at a point of the step that hides quantity j + 1, which is begun on the table `start` and made one block after another: the table between with so many blocks done, or the end.
pub record PointReached (n j blocks : ℕ) (start table : List ℤ) : Type 0 where
  pub step : HiddenByBlocks n j start (eliminated n j start)
  pub between : blocks ≤ n → table ≡ step.tables blocks
  pub end : n < blocks → table ≡ eliminated n j start

-- the hidden quantities of a sheet that are below quantity q are those of the set, which has no others
pub record LowerHidden (n set q : ℕ) (hidden : ℕ → Bool) : Type 0 where
  pub lower : (i : ℕ) → 1 ≤ i → i < q → hidden i ≡ hidden_in set i
  pub none : (i : ℕ) → q ≤ i → i ≤ n → hidden_in set i ≡ false

-- the step of quantity q as one of those by which a sheet's key is made: it begins with the table that the steps below q leave; where q is hidden it ends with the table that the steps up to q leave, which is the key where
-- none past q is hidden
pub record KeyStep (n set q : ℕ) (sheet : List ℤ) (hidden : ℕ → Bool) : Type 0 where
  pub begun : key_of (hidden_in set) n sheet ≡ hide_up_to hidden n (q - 1) sheet
  pub ended : hidden q ≡ true → eliminated n (q - 1) (key_of (hidden_in set) n sheet) ≡ hide_up_to hidden n q sheet
  pub last : hidden q ≡ true → ((i : ℕ) → q < i → i ≤ n → hidden i ≡ false) → eliminated n (q - 1) (key_of (hidden_in set) n sheet) ≡ key_of hidden n sheet

-- a step of quantity q in a table over n quantities followed to a point, those of a set hidden before
pub record StepFollowed (n set q blocks : ℕ) (table workspace : List ℤ) (r : Reply) (table' workspace' : List ℤ) : Type 0 where
  pub reply : r ≡ step_reply n set q blocks table (length workspace)
  pub decided : DecidedBy (step_needs n set q blocks table (length workspace)) (λ f. reply_returned r ≡ refused_as f) (reply_number r ≡ 0)
  -- past the checks before it, 5 exactly when no integers satisfy the sheet
  pub none : AllMet (step_needs_then n set q blocks table (length workspace) passed) → (reply_number r ≡ 5) ↔ Unsatisfiable n table
  pub words : table' ≡ cond (is_done r) (step_of (hidden_in set) n q blocks table) table
  pub rest : drop (block_start n) table' ≡ drop (block_start n) table
  pub lent : Lent (block_start n) (frees_workspace r) workspace workspace'
  -- the step is begun on the key for the set, and is one of those of the sheet's own key where the set has its hidden ones below q
  pub start : reply_number r ≡ 0 → KeyMade n set table (key_of (hidden_in set) n table)
  pub turn : reply_number r ≡ 0 → (hidden : ℕ → Bool) → LowerHidden n set q hidden → KeyStep n set q table hidden
  pub reached : reply_number r ≡ 0 → PointReached n (q - 1) blocks (key_of (hidden_in set) n table) table'
