-- The key is made in document 01's own words: one quantity after the other, each by sums of rules. Assumes nothing.
use mathlib.Core.Path.{refl, sym}
use mathlib.Core.Bool.{Bool, false}
use mathlib.Core.List.{List}
use Prim.Native.Nat.{ℕ, suc, ◌≤◌}
use native.Mathlib.Omega.{arith}
use lib.IntN.{ℤ}
use lib.ListN.{length}
use Rattle.places.specs.Numbering.{block_start}
use Rattle.rules.specs.Meaning.{Assignment}
use Rattle.tables.specs.Meaning.{Satisfies}
use Rattle.elimination.proofs.Document.{by_rules}
use Rattle.keys.specs.Keys.{hide_up_to, key_of}
use Rattle.keys.specs.Meaning.{HiddenInTurn}
use Rattle.keys.proofs.Several.{AmpleUpTo, hide_up_to_length, never_contradicts}

pub key_turns : (hidden : ℕ → Bool) (n : ℕ) (t : List ℤ) (σ : Assignment) → block_start n ≤ length t → AmpleUpTo hidden n t → Satisfies n t σ
    → HiddenInTurn hidden n t (key_of hidden n t)
unfolding hide_up_to key_of
key_turns hidden n t σ l a s = record {
  tables = λ j. hide_up_to hidden n j t;
  first = refl;
  last = refl;
  hides = λ j h e. by_rules n j (hide_up_to hidden n j t) (omega (arith, hide_up_to_length hidden n j t)) h (hide_up_to hidden n (suc j) t) false
      (sym (never_contradicts hidden n j t σ h a s)) (rw e);
  passes = λ j h e. rw e;
}
