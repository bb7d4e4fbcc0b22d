-- What the key call promises: the reply and every lent word and byte, for every input, and demand 2's meaning.
use Rattle.std.specs.Prelude.{false, cond, ◌≡◌, ◌↔◌, List, ℕ, ◌≤◌, ◌<◌, eqb, ℤ, length, drop}
use Rattle.words.specs.Change.{word_at}
use Rattle.words.specs.Lent.{Lent}
use Rattle.places.specs.Numbering.{block_start}
use Rattle.rules.specs.Refusal.{refused_as}
use Rattle.rules.specs.Refusing.{passed, AllMet, DecidedBy}
use Rattle.rules.specs.Hidden.{hidden_in}
use Rattle.tables.specs.Replies.{Reply, is_done, reply_returned, reply_number}
use Rattle.tables.specs.Meaning.{Unsatisfiable}
use Rattle.tables.specs.Tables.{has_rule}
use Rattle.marks.specs.Marks.{byte_at, marked_of}
use Rattle.marks.specs.Bytes.{MarksWithin, MarksAre}
use Rattle.keys.specs.Keys.{key_of, frees_workspace}
use Rattle.keys.specs.Promises.{KeyMade, Keyed}
use Rattle.rounded.specs.Hiding.{marked_key}
use Rattle.rounded.specs.ByRules.{MarkedInTurn}
use Rattle.rounded.specs.Keys.{marked_key_reply}
use Rattle.rounded.specs.Meaning.{marked_key_needs_then, marked_key_needs}

-- the marks of a plain key: those of hiding with marks, whose bounds are the key's
pub record MarksMade (n set : ℕ) (table : List ℤ) (marks : List ℕ) (key : List ℤ) (marks' : List ℕ) : Type 0 where
  pub are : MarksAre (block_start n) (marked_key (hidden_in set) n (marked_of table marks)) marks marks'
  -- a mark never changes a bound
  pub bounds : (k : ℕ) → k < block_start n → (marked_key (hidden_in set) n (marked_of table marks) k).bound ≡ word_at key k
  -- 'places without a rule end with mark 0'
  pub empty : (k : ℕ) → k < block_start n → has_rule (word_at key k) ≡ false → byte_at marks' k ≡ 0
  pub within : MarksWithin (block_start n) marks'
  -- the same in document 02's own words, by sums of rules: the marks between the steps that hide one quantity after the other
  pub steps : MarkedInTurn (hidden_in set) n table (λ k. (marked_of table marks k).mark) key (λ k. eqb (byte_at marks' k) 1)

-- the key call on n quantities, a hidden set, a sheet's table and its marks: refused by the first need that is not met, as it is returned, and else the table is document 01's key, with its marks
pub record MarkedKeyed (n set : ℕ) (table : List ℤ) (marks : List ℕ) (workspace : List ℤ) (r : Reply) (table' : List ℤ) (marks' : List ℕ) (workspace' : List ℤ) : Type 0 where
  pub reply : r ≡ marked_key_reply n set table marks (length workspace)
  pub decided : DecidedBy (marked_key_needs n set table marks (length workspace)) (λ f. reply_returned r ≡ refused_as f) (reply_number r ≡ 0)
  -- demand 2: past the checks before it, 5 exactly when no integers satisfy the sheet
  pub none : AllMet (marked_key_needs_then n set table marks (length workspace) passed) → (reply_number r ≡ 5) ↔ Unsatisfiable n table
  -- marks that are enough, and 0 or 1, change no bound and no refusal: all else is promised as without them
  pub plain : block_start n ≤ length marks → MarksWithin (block_start n) marks → Keyed n set table workspace r table' workspace'
  pub words : table' ≡ cond (is_done r) (key_of (hidden_in set) n table) table
  pub rest : drop (block_start n) table' ≡ drop (block_start n) table
  pub lent : Lent (block_start n) (frees_workspace r) workspace workspace'
  pub made : reply_number r ≡ 0 → KeyMade n set table table'
  pub marked : reply_number r ≡ 0 → MarksMade n set table marks table' marks'
  -- on a refusal all marks stay
  pub kept : (reply_number r ≡ 0 → ⊥) → marks' ≡ marks
