-- What the functions promise, from the answer that they give: the promises' records, each from its `reply`. Assumes nothing.
use mathlib.Core.Path.{◌≡◌, sym, ◌∙◌}
use Prim.Native.Nat.{ℕ, ◌+◌, ◌^◌, ◌<◌}
use mathlib.Core.Bool.{Bool}
use native.Mathlib.Omega.{arith}
use native.Mathlib.Nat.{lt_of_lt_of_le}
use lib.IntN.{ℤ}
use lib.Pow.{pow_mono}
use Rattle.rules.specs.declared.rule.Rule.{Rule}
use Rattle.rules.specs.Hidden.{set_within}
use Rattle.rules.specs.Steps.{rule_of, opposite_of, halved_of, sum_over}
use Rattle.rules.specs.Promises.{InRange, Made, Opposite, Halved, Added}
use Rattle.std.proofs.lemmas.Int.{to_z-of_z}
use Rattle.integers.proofs.Parts.{word_in_word}
use Rattle.rules.proofs.Sets.{within_hidden, hidden_within}
use Rattle.rules.proofs.Meanings.{rule_of_meaning, opposite_meaning, halved_meaning, sum_sound, sum_exact, sum_gone}

pub in_range : (n h : ℕ) (r : Bool) → h < 2 ^ 32 → r ≡ set_within n h → InRange n h r
in_range n h r f e = record {
  reply = e;
  meaning = (λ t. within_hidden n h (sym e ∙ t), λ g. e ∙ hidden_within n 32 h (lt_of_lt_of_le f (pow_mono {i = 32} {j = n + 32} (omega arith))) g);
}

pub made : (p q c : ℤ) (r : Rule) → r ≡ rule_of p q c → Made p q c r
made p q c r e = record { reply = e; meaning = λ σ. rw e (rule_of_meaning σ p q c) }

pub is_opposite : (r s : Rule) → s ≡ opposite_of r → Opposite r s
is_opposite r s e = record { reply = e; meaning = λ σ. rw e (opposite_meaning σ r) }

pub is_halved : (r s : Rule) → s ≡ halved_of r → Halved r s
is_halved r s e = record { reply = e; meaning = λ σ. rw e (halved_meaning σ r) }

pub is_sum : (z : ℕ) (r s t : Rule) → t ≡ sum_over z r s → Added z r s t
is_sum z r s t e = record {
  reply = e;
  sound = λ σ h k. rw e (sum_sound z r s σ h k);
  exact = λ p q. rw e (sum_exact z r s p q);
  gone = λ p q. rw e (sum_gone z r s p q);
}

-- for functions of words: with these a word that is read back from its bits is the word
pub ruleset adding = (is_sum, to_z-of_z)

pub ruleset resting = (word_in_word, to_z-of_z)
