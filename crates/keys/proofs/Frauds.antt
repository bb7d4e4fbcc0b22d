-- Document 01's frauds and traps about keys and refusal 5: on a named sheet each gives another answer than the definitions that the contracts cite.
-- `FraudMeanings` refutes frauds by demand 2. Assumes nothing.
use mathlib.Core.Path.{◌≡◌, refl, sym}
use mathlib.Core.Bool.{true, false}
use mathlib.Core.List.{List, [], ◌∷◌}
use Prim.Native.Nat.{ℕ}
use lib.IntN.{ℤ, pos, negsuc}
use lib.Signed.{lt_z}
use Rattle.integers.proofs.Parts.{linear}
use Rattle.words.specs.Change.{word_at}
use Rattle.rules.specs.Steps.{rule_of}
use Rattle.tables.specs.Tables.{empty_table, table_of, cleared}
use Rattle.elimination.specs.Hiding.{every, contradicts, eliminated}
use Rattle.keys.specs.Keys.{refuted}
use Rattle.keys.proofs.Sheets.{Case, sheet_table, key_table, reply_to, sheet_a, seen_late, steps}

-- tables that differ at a place are not the same
differ : (s t : List ℤ) (k : ℕ) → lt_z (word_at s k) (word_at t k) ≡ true → s ≡ t → ⊥
differ s t k h e = let z : word_at s k ≡ word_at t k = cc in omega linear

-- ---- keys

-- a hiding that returns the sheet: A's key has +1:3 at place 0, where A has no rule
pub sheet_returned : key_table sheet_a ≡ sheet_table sheet_a → ⊥
unfolding steps
sheet_returned = differ (key_table sheet_a) (sheet_table sheet_a) 0 refl

-- a key with no rules, on A
pub no-rules : key_table sheet_a ≡ empty_table 3 → ⊥
unfolding steps
no-rules = differ (key_table sheet_a) (empty_table 3) 0 refl

-- hidden 1 and 2, -1+3:0, +1-2:0, +2:5 give +3:5
abbrev pub chain : Case
chain = record {
  n = 3;
  set = 3;
  rules = rule_of (negsuc 0) (pos 3) (pos 0) ∷ rule_of (pos 1) (negsuc 1) (pos 0) ∷ rule_of (pos 2) (pos 0) (pos 5) ∷ [];
}

-- a key that removes only the first hidden quantity and merely blanks the other: nothing is left of the chain
pub blanked : cleared 3 2 (eliminated 3 0 (sheet_table chain)) ≡ empty_table 3
unfolding steps
blanked = refl

pub others_blanked : key_table chain ≡ cleared 3 2 (eliminated 3 0 (sheet_table chain)) → ⊥
unfolding steps
others_blanked = differ (key_table chain) (cleared 3 2 (eliminated 3 0 (sheet_table chain))) 8 refl

-- ---- rules of one quantity

-- hidden 1, +1+2:3, -1:0 give +2:3
abbrev pub lone_added : Case
lone_added = record {
  n = 2;
  set = 1;
  rules = rule_of (pos 1) (pos 2) (pos 3) ∷ rule_of (negsuc 0) (pos 0) (pos 0) ∷ [];
}

-- one-quantity rules forgotten when pairing: there is no sum then, and what names 1 goes
pub lone_forgotten : key_table lone_added ≡ cleared 2 1 (sheet_table lone_added) → ⊥
unfolding steps
lone_forgotten = differ (key_table lone_added) (cleared 2 1 (sheet_table lone_added)) 2 refl

-- hidden 1, +1:4, +2:5 give +2:5
abbrev pub lone_dropped : Case
lone_dropped = record {
  n = 2;
  set = 1;
  rules = rule_of (pos 1) (pos 0) (pos 4) ∷ rule_of (pos 2) (pos 0) (pos 5) ∷ [];
}

-- a hidden quantity's lone rule kept: the sheet would stay as it is
pub lone_kept : key_table lone_dropped ≡ sheet_table lone_dropped → ⊥
unfolding steps
lone_kept e = differ (sheet_table lone_dropped) (key_table lone_dropped) 0 refl (sym e)

-- ---- halving

-- hidden 2, +1+2:0, +1-2:-1 give +1+1:-1, so +1:-1
abbrev pub sum_halved : Case
sum_halved = record {
  n = 2;
  set = 2;
  rules = rule_of (pos 1) (pos 2) (pos 0) ∷ rule_of (pos 1) (negsuc 1) (negsuc 0) ∷ [];
}

-- -1 halved rounded to 0: the key would be +1:0
pub rounded_up : key_table sum_halved ≡ table_of 2 (rule_of (pos 1) (pos 0) (pos 0) ∷ []) → ⊥
unfolding steps
rounded_up = differ (key_table sum_halved) (table_of 2 (rule_of (pos 1) (pos 0) (pos 0) ∷ [])) 0 refl

-- ---- refusal 5

-- 5 decided on the hidden quantities only: hiding the one hidden quantity meets no contradiction, yet the reply is 5
pub hidden_only : (contradicts every 2 0 (sheet_table seen_late) ≡ false) × (reply_to seen_late ≡ 5)
unfolding steps
hidden_only = (refl, refl)

-- 5 decided before any pair is added: as the sheet stands, no two of its rules contradict each other over either quantity, yet no integers satisfy it
pub before_pairs :
    (contradicts every 2 0 (sheet_table seen_late) ≡ false) × (contradicts every 2 1 (sheet_table seen_late) ≡ false)
    × (refuted 2 (sheet_table seen_late) ≡ true)
unfolding steps
before_pairs = (refl, refl, refl)

-- 5 on every sheet: some integers satisfy A
pub always : refuted 3 (sheet_table sheet_a) ≡ false
unfolding steps
always = refl
