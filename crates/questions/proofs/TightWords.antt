-- The sheet's tight table in the workspace: nothing is hidden, so it is the sheet itself that is tightened; and it is tight by the definition. Assumes nothing.
use mathlib.Core.Path.{◌≡◌, refl, ◌∙◌}
use mathlib.Core.Bool.{false}
use mathlib.Core.List.{List}
use Prim.Native.Nat.{ℕ, zero, suc, ◌≤◌, ◌<◌}
use native.Mathlib.Omega.{arith}
use lib.IntN.{ℤ}
use lib.ListN.{length, take}
use Rattle.words.specs.Change.{word_at}
use Rattle.places.specs.Numbering.{block_start}
use Rattle.rules.specs.Hidden.{hidden_in}
use Rattle.rules.proofs.Sets.{past_hidden}
use Rattle.tables.specs.Meaning.{Solutions}
use Rattle.keys.specs.Keys.{hide_up_to, key_of}
use Rattle.keys.proofs.Copying.{SameTable, front_same}
use Rattle.tightening.specs.Tightening.{tightened, tight_key_of}
use Rattle.tightening.specs.Meaning.{TightKey, TightTable}
use Rattle.tightening.proofs.TightSteps.{tight_length}

-- ---- nothing is hidden

none_hidden_lem : (q : ℕ) → hidden_in 0 q ≡ false
none_hidden_lem zero = refl
none_hidden_lem (suc j) = past_hidden 0 0 (omega arith) (suc j) (omega arith)

hides_none : (n m : ℕ) (t : List ℤ) → hide_up_to (hidden_in 0) n m t ≡ t
unfolding hide_up_to
hides_none n zero t = refl
hides_none n (suc j) t = rw (none_hidden_lem (suc j)) (hides_none n j t)

pub nothing_hidden : (n : ℕ) (t : List ℤ) → tight_key_of (hidden_in 0) n t ≡ tightened n t
unfolding tight_key_of key_of
nothing_hidden n t = rw (hides_none n n t)

-- ---- tight tables

-- with no quantity hidden, whichever way that is said
pub unhidden : (n : ℕ) (sheet : Solutions) (a : List ℤ) → TightKey (hidden_in 0) n sheet a → TightTable n sheet a
unhidden n sheet a x = record {
  rule = λ k h. (λ p. (λ q e. refl, ((x.rule k h).0 p).1), λ p. (x.rule k h).1 (λ q e. none_hidden_lem q, p.1));
  least = x.least;
  room = x.room;
  words = x.words;
}

module _ (n : ℕ) (t u : List ℤ) (room : block_start n ≤ length t) (e : take (block_start n) u ≡ take (block_start n) (tight_key_of (hidden_in 0) n t)) where
  same : SameTable n (tight_key_of (hidden_in 0) n t) u
  same = front_same n (tight_key_of (hidden_in 0) n t) u (omega (arith, room, tight_length (hidden_in 0) n t)) e

  pub tight_room : block_start n ≤ length u
  tight_room = same.theirs

  -- word by word it is the sheet tightened
  pub tight_word : (k : ℕ) → k < block_start n → word_at u k ≡ word_at (tightened n t) k
  tight_word k h = same.words k h ∙ rw (nothing_hidden n t)
