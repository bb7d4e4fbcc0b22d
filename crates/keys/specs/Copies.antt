-- The key copied from a table in which the hidden quantities are eliminated.
use Rattle.std.specs.Prelude.{true, cond, ◌≡◌, List, ℕ, suc, ◌+◌, ◌*◌, ◌≤◌, ◌<◌, ℤ, length}
use Rattle.words.specs.Change.{word_at, change}
use Rattle.words.specs.Lent.{Lent}
use Rattle.places.specs.Numbering.{block_start}
use Rattle.rules.specs.Limits.{no_rule}
use Rattle.rules.specs.Hidden.{hidden_in}
use Rattle.elimination.specs.Hiding.{live_at}
use Rattle.keys.specs.Keys.{key_of}
use Rattle.keys.specs.Inner.{outside, AtTurns}

-- as a change: the no-rule word at each place that names a quantity of the set
abbrev pub clearing_set : ℕ → ℕ → ℤ → ℤ
clearing_set set k w = cond (live_at (λ i. outside set (suc i)) k) w no_rule

-- the table with every place that names a quantity of the set cleared
unfoldable pub set_cleared : ℕ → ℕ → List ℤ → List ℤ
set_cleared n set t = change (block_start n) (clearing_set set) t

-- the second table of the words is the first with the places of the set cleared; so it is the key of each sheet of which the first is the table with its hidden quantities eliminated. The first stays
pub record KeyCopied (n set : ℕ) (before after : List ℤ) : Type 0 where
  pub front : (k : ℕ) → k < block_start n → word_at after k ≡ word_at before k
  pub back : (k : ℕ) → k < block_start n → word_at after (block_start n + k) ≡ clearing_set set k (word_at before k)
  pub key : (t : List ℤ) → block_start n ≤ length t → AtTurns (hidden_in set) n n t before → (k : ℕ) → k < block_start n
      → word_at after (block_start n + k) ≡ word_at (key_of (hidden_in set) n t) k
  pub lent : Lent (2 * block_start n) true before after
