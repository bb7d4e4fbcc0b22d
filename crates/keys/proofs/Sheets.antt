-- Two of document 01's sheets as tables, against which frauds are held, with their keys and replies by the definitions that the contracts cite.
-- (All starred cases are computed in the crate `reports`, as texts.) Assumes nothing.
use mathlib.Core.List.{List, [], ◌∷◌}
use Prim.Native.Nat.{ℕ}
use lib.IntN.{ℤ, pos, negsuc}
use Rattle.integers.specs.Bound.{half, smaller}
use Rattle.words.specs.Change.{change_from, change, lowered}
use Rattle.places.specs.Numbering.{block_start, place_of_one, place_of_pair, place_of_two, find_two, block_up_to, block_of, offset_of, is_one, higher_at, lower_at}
use Rattle.rules.specs.declared.rule.Rule.{Rule}
use Rattle.rules.specs.Hidden.{hidden_in}
use Rattle.rules.specs.Limits.{bound_limit}
use Rattle.rules.specs.Meaning.{names}
use Rattle.rules.specs.Steps.{rule_of, halved_of}
use Rattle.tables.specs.Places.{rule_at, find_place}
use Rattle.tables.specs.Tables.{table_size, serves, put_at, put_halved, put_rule, put_all, table_of, cleared, in_limit, words_in_limit}
use Rattle.tables.specs.Replies.{reply_number}
use Rattle.elimination.specs.Hiding.{with_sum, with_half, bare_below, pair_word, on_one, on_two, live_at, pairing, any_bare, paired, contradicts, eliminated}
use Rattle.keys.specs.Keys.{hide_up_to, key_of, refuted_up_to, refuted, lent_checks, key_checks, key_reply}

-- a sheet of n quantities with its hidden set, bit q - 1 for quantity q, and its rules as written
pub record Case : Type 0 where
  pub n : ℕ
  pub set : ℕ
  pub rules : List Rule

-- the sheet's table, and its key
abbrev pub sheet_table : Case → List ℤ
sheet_table c = table_of c.n c.rules

abbrev pub key_table : Case → List ℤ
key_table c = key_of (hidden_in c.set) c.n (sheet_table c)

-- the number of the reply to the sheet's table, with a workspace just long enough
abbrev pub reply_to : Case → ℕ
reply_to c = reply_number (key_reply c.n c.set (sheet_table c) (block_start c.n))

-- sheet A: hidden 2, +1+2:5, +1-2:2, +3-2:0 give +1:3, +1+3:5
abbrev pub sheet_a : Case
sheet_a = record {
  n = 3;
  set = 2;
  rules = rule_of (pos 1) (pos 2) (pos 5) ∷ rule_of (pos 1) (negsuc 1) (pos 2) ∷ rule_of (pos 3) (negsuc 1) (pos 0) ∷ [];
}

-- hidden 1, +1+2:1, -1-2:-1, +1-2:0, -1+2:0 are refused by 5, seen only after both quantities go
abbrev pub seen_late : Case
seen_late = record {
  n = 2;
  set = 1;
  rules =
      rule_of (pos 1) (pos 2) (pos 1) ∷ rule_of (negsuc 0) (negsuc 1) (negsuc 0) ∷ rule_of (pos 1) (negsuc 1) (pos 0)
      ∷ rule_of (negsuc 0) (pos 2) (pos 0) ∷ [];
}

-- `unfolding steps` lets every definition compute that a case uses
unfoldable pub steps : Unit {0}
unfolding
    half smaller change_from change lowered
    block_start place_of_one place_of_pair place_of_two find_two block_up_to block_of offset_of is_one higher_at lower_at
    names rule_of halved_of rule_at find_place table_size serves put_at put_halved put_rule put_all cleared in_limit words_in_limit
    with_sum with_half bare_below pair_word on_one on_two live_at pairing any_bare paired contradicts eliminated
    bound_limit hide_up_to key_of refuted_up_to refuted lent_checks key_checks key_reply
steps = tt
