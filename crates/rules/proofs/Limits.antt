-- The limits as document 01 has them ('Sheet limits', 'The table') and document 02 the script's, so that one which is changed in code and definition together is refused here. Assumes nothing.
use mathlib.Core.Path.{◌≡◌, refl}
use Prim.Native.Nat.{ℕ, ◌-◌, ◌*◌, ◌^◌}
use lib.IntN.{pos}
use Rattle.rules.specs.declared.paper.Paper.TheVariants.{Sheet, Script}
use Rattle.rules.specs.Limits.{max_quantities, max_bound, bound_range, max_rules, no_rule, max_text}

-- 'n quantities, 1 to 32'
quantities : max_quantities ≡ 32
quantities = refl

-- 'bounds -1,000,000,000 to 1,000,000,000'
bound : max_bound ≡ 1000000000
bound = refl

-- 'Sheets keep their range'
range_of_sheet : (n k : ℕ) → bound_range Sheet n k ≡ 1000000000
range_of_sheet n k = refl

-- 'With k hidden quantities in its header a script may hold bounds up to 1,000,000,000 multiplied by 2 to the power k'
range_of_script : (n k : ℕ) → bound_range Script n k ≡ 1000000000 * 2 ^ k
range_of_script n k = refl

-- 'at most 2,048 rule lines'
rules : max_rules ≡ 2048
rules = refl

-- 'a text of at most 65,536 bytes'
text : max_text ≡ 65536
text = refl

-- 'the word 9,223,372,036,854,775,807 means no rule'; it is the largest of 64 bits
no-rule : no_rule ≡ pos 9223372036854775807
no-rule = refl

no_rule_largest : no_rule ≡ pos (2 ^ 63 - 1)
no_rule_largest = refl
