-- Sums whose bounds together are no word: two bare ones, and two whose rest is alike; and a doubled term taken as written. Assumes nothing.
use mathlib.Core.Path.{◌≡◌, refl}
use lib.IntN.{pos, negsuc}
use lib.Signed.{◌≤ℤ◌}
use Rattle.integers.specs.Bound.{in_word, saturated, half}
use Rattle.integers.proofs.Parts.{linear, positive_part, negative_part}
use Rattle.rules.specs.declared.rule.Rule.TheVariants.{One, Two, Nothing}
use Rattle.rules.specs.Meaning.{Meets, literal_value}
use Rattle.rules.specs.Steps.{halved_of, in_order, partner_of, rest_rule, fitted, sum_over}

-- +1 ≤ -2 ^ 63 and -1 ≤ -1 contradict each other
contradiction_stays : sum_over 0 (One 0 (negsuc 9223372036854775807)) (One 1 (negsuc 0)) ≡ Nothing (negsuc 9223372036854775807)
unfolding sum_over fitted rest_rule partner_of saturated
contradiction_stays = refl

-- +1+2 ≤ 2 ^ 63 - 1 and -1+2 ≤ 2 ^ 63 - 1 give +2 ≤ 2 ^ 63 - 1
halved_rest_stays :
    sum_over 0 (Two 0 2 (pos 9223372036854775807)) (Two 1 2 (pos 9223372036854775807)) ≡ One 2 (pos 9223372036854775807)
unfolding sum_over fitted rest_rule partner_of in_order halved_of half in_word
halved_rest_stays = refl

-- `+1+1:7` is met by 3 and not by 4
met_by_3 : Meets (λ q. pos 3) (Two 0 0 (pos 7))
unfolding positive_part negative_part literal_value
met_by_3 = let h : pos 6 ≤ℤ pos 7 = omega linear in record { met = h }

not_met_by_4 : Meets (λ q. pos 4) (Two 0 0 (pos 7)) → ⊥
unfolding positive_part negative_part literal_value
not_met_by_4 m = let h : pos 8 ≤ℤ pos 7 = m.met in omega linear
