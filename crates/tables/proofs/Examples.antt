-- Document 01's limits, places and numbers on small tables. Assumes nothing.
use mathlib.Core.Path.{◌≡◌, refl}
use mathlib.Core.Bool.{true, false, ◌&&◌}
use mathlib.Core.List.{List, [], ◌∷◌}
use Prim.Native.Nat.{ℕ}
use lib.IntN.{ℤ, pos, negsuc}
use Rattle.std.specs.Prelude.{Some, None}
use Rattle.places.specs.Numbering.{block_start, place_of_one, place_of_pair, place_of_two, find_two, block_up_to, block_of, offset_of, is_one, higher_at, lower_at}
use Rattle.rules.specs.declared.paper.Paper.TheVariants.{Sheet, Script}
use Rattle.rules.specs.declared.rule.Rule.{Rule}
use Rattle.rules.specs.declared.rule.Rule.TheVariants.{Nothing}
use Rattle.rules.specs.Hidden.{member_count}
use Rattle.rules.specs.Limits.{bound_limit, no_rule}
use Rattle.rules.specs.Refusal.{Returned}
use Rattle.rules.specs.Steps.{rule_of, halved_of}
use Rattle.integers.specs.Bound.{half}
use Rattle.tables.specs.Places.{rule_at, find_place}
use Rattle.tables.specs.Replies.{reply_returned}
use Rattle.tables.specs.Tables.{table_size, serves, has_rule, in_limit, rule_reply, put_reply, clear_reply}

-- ---- limits

-- 32 quantities have a table, of 2,048 words; 0 and 33 have none
sizes : (table_size 1 ≡ 2) × (table_size 3 ≡ 18) × (table_size 32 ≡ 2048) × (table_size 0 ≡ 0) × (table_size 33 ≡ 0)
unfolding table_size block_start
sizes = (refl, refl, refl, refl, refl)

served : (serves 32 2048 ≡ true) × (serves 32 2047 ≡ false) × (serves 33 10000 ≡ false) × (serves 0 10000 ≡ false)
unfolding serves table_size block_start
served = (refl, refl, refl, refl)

-- 1,000,000,000 is in the limit of a sheet and 1,000,000,001 is not, on either side of 0, whatever is hidden
largest_in : (n set : ℕ) → (in_limit (pos (bound_limit Sheet n set)) (pos 1000000000) && in_limit (pos (bound_limit Sheet n set)) (negsuc 999999999)) ≡ true
unfolding in_limit bound_limit
largest_in n set = refl

larger_out : (n set : ℕ)
    → (in_limit (pos (bound_limit Sheet n set)) (pos 1000000001) ≡ false) × (in_limit (pos (bound_limit Sheet n set)) (negsuc 1000000000) ≡ false)
unfolding in_limit bound_limit
larger_out n set = (refl, refl)

-- in a script over 3 quantities 2,000,000,000 is in the limit where quantity 2 is hidden, and one more is not; where none is hidden, the limit is a sheet's
script_largest : (in_limit (pos (bound_limit Script 3 2)) (pos 2000000000) ≡ true) × (in_limit (pos (bound_limit Script 3 2)) (pos 2000000001) ≡ false)
    × (in_limit (pos (bound_limit Script 3 0)) (pos 1000000000) ≡ true) × (in_limit (pos (bound_limit Script 3 0)) (pos 1000000001) ≡ false)
unfolding in_limit bound_limit member_count
script_largest = (refl, refl, refl, refl)

-- with 31 hidden it is 2,147,483,648,000,000,000, on either side of 0
script_widest : (in_limit (pos (bound_limit Script 32 2147483647)) (pos 2147483648000000000) ≡ true)
    × (in_limit (pos (bound_limit Script 32 2147483647)) (negsuc 2147483647999999999) ≡ true)
    × (in_limit (pos (bound_limit Script 32 2147483647)) (pos 2147483648000000001) ≡ false)
unfolding in_limit bound_limit member_count
script_widest = (refl, refl, refl)

-- the no-rule word is no bound and so in every limit; the word before it is a bound
no_rule_in : (has_rule (pos 9223372036854775807) ≡ false) × (in_limit (pos 0) (pos 9223372036854775807) ≡ true) × (has_rule (pos 9223372036854775806) ≡ true)
unfolding in_limit
no_rule_in = (refl, refl, refl)

-- ---- the places of rules, by signed quantity numbers

-- +1+2, +1-2, -1+2, -1-2 have places 4 to 7
abbrev rule : ℤ → ℤ → Rule
rule p q = rule_of p q (pos 5)

rules_found : (find_place (rule (pos 1) (pos 2)) ≡ Some 4) × (find_place (rule (pos 1) (negsuc 1)) ≡ Some 5)
    × (find_place (rule (negsuc 0) (pos 2)) ≡ Some 6) × (find_place (rule (negsuc 0) (negsuc 1)) ≡ Some 7)
unfolding rule_of find_place find_two place_of_two place_of_pair block_start
rules_found = (refl, refl, refl, refl)

-- and they stand there
rules-at : (rule_at 4 (pos 5) ≡ rule (pos 1) (pos 2)) × (rule_at 5 (pos 5) ≡ rule (pos 1) (negsuc 1))
    × (rule_at 6 (pos 5) ≡ rule (negsuc 0) (pos 2)) × (rule_at 7 (pos 5) ≡ rule (negsuc 0) (negsuc 1))
unfolding rule_at rule_of is_one higher_at lower_at offset_of block_of block_up_to block_start
rules-at = (refl, refl, refl, refl)

-- 'quantity 3 starts at 8 and +1+3 has place 10'
three_found : (find_place (rule (pos 3) (pos 0)) ≡ Some 8) × (find_place (rule (pos 1) (pos 3)) ≡ Some 10)
unfolding rule_of find_place find_two place_of_one place_of_two place_of_pair block_start
three_found = (refl, refl)

-- +1+1, +1-1 and a bare rule have no place
nowhere : (find_place (rule (pos 1) (pos 1)) ≡ None) × (find_place (rule (pos 1) (negsuc 0)) ≡ None) × (find_place (rule (pos 0) (pos 0)) ≡ None)
unfolding rule_of find_place find_two
nowhere = (refl, refl, refl)

-- ---- document 01's numbers, for one quantity and a table of 2 words

-- what is returned, with these values beside the number
abbrev returned : ℕ → List ℤ → Returned
returned k vs = record { number = k; values = vs }

-- +1 ≤ 5 and +1+1 ≤ 5 are put in, and so is 0 ≤ 0, which asks nothing
put_done : (reply_returned (put_reply 1 2 (rule (pos 1) (pos 0))) ≡ returned 0 []) × (reply_returned (put_reply 1 2 (rule (pos 1) (pos 1))) ≡ returned 0 [])
    × (reply_returned (put_reply 1 2 (Nothing (pos 0))) ≡ returned 0 [])
unfolding put_reply serves table_size block_start rule_reply halved_of half rule_of
put_done = (refl, refl, refl)

-- 1: a table of one word; n = 33
put_1 : (reply_returned (put_reply 1 1 (rule (pos 1) (pos 0))) ≡ returned 1 []) × (reply_returned (put_reply 33 10000 (rule (pos 1) (pos 0))) ≡ returned 1 [])
unfolding put_reply serves table_size block_start
put_1 = (refl, refl)

-- 3: quantity 2; the no-rule word as a bound; before 4
put_3 : (reply_returned (put_reply 1 2 (rule (pos 1) (pos 2))) ≡ returned 3 (pos 0 ∷ []))
    × (reply_returned (put_reply 1 2 (rule_of (pos 1) (pos 0) no_rule)) ≡ returned 3 (pos 0 ∷ []))
    × (reply_returned (put_reply 1 2 (rule (pos 2) (negsuc 1))) ≡ returned 3 (pos 0 ∷ []))
unfolding put_reply serves table_size block_start rule_reply halved_of rule_of
put_3 = (refl, refl, refl)

-- 4: +1-1 and -1+1; and no 5, though no integers meet 0 ≤ -1
put_4 : (reply_returned (put_reply 1 2 (rule (pos 1) (negsuc 0))) ≡ returned 4 (pos 0 ∷ []))
    × (reply_returned (put_reply 1 2 (rule_of (negsuc 0) (pos 1) (negsuc 0))) ≡ returned 4 (pos 0 ∷ []))
unfolding put_reply serves table_size block_start rule_reply halved_of rule_of
put_4 = (refl, refl)

-- 5: 0 ≤ -1
put_5 : reply_returned (put_reply 1 2 (Nothing (negsuc 0))) ≡ returned 5 []
unfolding put_reply serves table_size block_start rule_reply halved_of
put_5 = refl

-- quantity 1 is cleared, 0 and 2 are none of 1 to 1
clear_3 : (reply_returned (clear_reply 1 2 1) ≡ returned 0 []) × (reply_returned (clear_reply 1 2 0) ≡ returned 3 (pos 0 ∷ []))
    × (reply_returned (clear_reply 1 2 2) ≡ returned 3 (pos 0 ∷ []))
unfolding clear_reply serves table_size block_start
clear_3 = (refl, refl, refl)
