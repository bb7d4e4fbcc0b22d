-- What the two calls, and others that make a key, promise: the reply and every lent word, for every input, and demand 2's meaning.
use Rattle.std.specs.Prelude.{Bool, cond, ◌≡◌, ◌↔◌, List, ℕ, ℤ, length, drop}
use Rattle.words.specs.Lent.{Lent}
use Rattle.places.specs.Numbering.{block_start}
use Rattle.rules.specs.Refusal.{refused_as}
use Rattle.rules.specs.Refusing.{passed, AllMet, DecidedBy}
use Rattle.rules.specs.Hidden.{hidden_in}
use Rattle.rules.specs.Meaning.{Assignment}
use Rattle.tables.specs.Replies.{Reply, is_done, reply_returned, reply_number}
use Rattle.tables.specs.Meaning.{Satisfies, Satisfiable, Unsatisfiable, SheetAllows, KeyLike, assignment_of}
use Rattle.elimination.specs.Magnitude.{ValuesWithin}
use Rattle.keys.specs.Keys.{key_of, key_reply, assignment_reply, frees_workspace}
use Rattle.keys.specs.Meaning.{key_needs_then, key_needs, assignment_needs_then, assignment_needs, HiddenInTurn}

-- ---- the key call

-- what a plain key is. Demand 2: it allows integers for the visible quantities exactly when some integers for the hidden ones satisfy the whole sheet with them. It is made
-- by document 01's steps, names visible quantities alone, and its bounds double at most with each hidden one (`KeyLike`)
pub record KeyMade (n set : ℕ) (sheet key : List ℤ) : Type 0 where
  pub meaning : (σ : Assignment) → Satisfies n key σ ↔ SheetAllows (hidden_in set) (Satisfies n sheet) σ
  pub some : Satisfiable n sheet
  pub steps : HiddenInTurn (hidden_in set) n sheet key
  pub like : KeyLike n set key

-- a call on n quantities and a hidden set that makes a kind of key, given by its steps and by what it is: refused by the first need that is not met, as it is returned, and else the table is
-- that key
pub record KeyedAs (key_by : (ℕ → Bool) → ℕ → List ℤ → List ℤ) (IsKey : ℕ → ℕ → List ℤ → List ℤ → Type 0) (n set : ℕ) (table workspace : List ℤ) (r : Reply)
    (table' workspace' : List ℤ) : Type 0 where
  pub reply : r ≡ key_reply n set table (length workspace)
  pub decided : DecidedBy (key_needs n set table (length workspace)) (λ f. reply_returned r ≡ refused_as f) (reply_number r ≡ 0)
  -- demand 2: past the checks before it, 5 exactly when no integers satisfy the sheet
  pub none : AllMet (key_needs_then n set table (length workspace) passed) → (reply_number r ≡ 5) ↔ Unsatisfiable n table
  pub words : table' ≡ cond (is_done r) (key_by (hidden_in set) n table) table
  pub rest : drop (block_start n) table' ≡ drop (block_start n) table
  pub lent : Lent (block_start n) (frees_workspace r) workspace workspace'
  pub made : reply_number r ≡ 0 → IsKey n set table table'

-- the key call makes document 01's
abbrev pub Keyed : ℕ → ℕ → List ℤ → List ℤ → Reply → List ℤ → List ℤ → Type 0
Keyed n set table workspace r table' workspace' = KeyedAs key_of KeyMade n set table workspace r table' workspace'

-- ---- the assignment call

-- the first n words satisfy every rule of a table and lie between -2 ^ 62 and 2 ^ 62, which is what all choices have in common
pub record AssignmentFound (n : ℕ) (table values : List ℤ) : Type 0 where
  pub meaning : Satisfies n table (assignment_of values)
  pub range : ValuesWithin n values

-- the assignment call on n quantities. The table is only read
pub record Assigned (n : ℕ) (table workspace values : List ℤ) (r : Reply) (workspace' values' : List ℤ) : Type 0 where
  pub reply : r ≡ assignment_reply n table (length workspace) (length values)
  pub decided : DecidedBy (assignment_needs n table (length workspace) (length values)) (λ f. reply_returned r ≡ refused_as f) (reply_number r ≡ 0)
  -- past the checks before it, 5 exactly when no integers satisfy the table
  pub none : AllMet (assignment_needs_then n table (length workspace) (length values) passed) → (reply_number r ≡ 5) ↔ Unsatisfiable n table
  pub lent : Lent (block_start n) (frees_workspace r) workspace workspace'
  pub written : Lent n (is_done r) values values'
  pub found : reply_number r ≡ 0 → AssignmentFound n table values'
