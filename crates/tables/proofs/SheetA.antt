-- Document 01's sheet A, on which the meanings are shown by witnesses. The sheet allows 3 and 0 for quantities 1 and 3, by 1 for the hidden
-- quantity 2, and it does not allow 0 and 6. The script `+1:3` allows 0 and 6, so it is too wide; the script `+1:2`, `+1+3:5` forbids 3 and 0,
-- so it is too narrow. Assumes nothing.
use mathlib.Core.Path.{refl}
use mathlib.Core.Bool.{Bool}
use mathlib.Core.List.{List, [], ◌∷◌}
use Prim.Native.Nat.{ℕ, pred}
use lib.IntN.{ℤ, pos, negsuc, neg_ℤ, ◌+ℤ◌}
use lib.ListN.{get_or}
use lib.Signed.{◌≤ℤ◌, le_z_yes}
use Rattle.integers.proofs.Parts.{linear, positive_part, negative_part, parts_add, parts_neg}
use Rattle.rules.specs.declared.rule.Rule.{Rule}
use Rattle.rules.specs.Hidden.{hidden_in}
use Rattle.rules.specs.Meaning.{Assignment, literal_value}
use Rattle.rules.specs.Steps.{rule_of, halved_of}
use Rattle.tables.specs.Tables.{table_of, rule_reply}
use Rattle.tables.specs.Meaning.{Satisfies, MeetsAll, Solutions, joined, Completes, SheetAllows, ScriptAllows, ScriptForbids}
use Rattle.tables.proofs.Lists.{AllAccepted, table_of_meaning}

-- +1+2:5, +1-2:2, +3-2:0
unfoldable pub rules : List Rule
rules = rule_of (pos 1) (pos 2) (pos 5) ∷ rule_of (pos 1) (negsuc 1) (pos 2) ∷ rule_of (pos 3) (negsuc 1) (pos 0) ∷ []

-- quantity 2 is hidden: bit 1
abbrev pub hidden : ℕ → Bool
hidden = hidden_in 2

accepted : AllAccepted 3 rules
unfolding rules rule_of halved_of rule_reply
accepted = (refl, (refl, (refl, tt)))

-- the sheet by its table
abbrev pub sheet : Solutions
sheet = Satisfies 3 (table_of 3 rules)

-- integers for quantities 1 and 3, and one for quantity 2
abbrev pub of_one_and_three : ℤ → ℤ → Assignment
of_one_and_three a c = λ q. get_or (a ∷ pos 0 ∷ c ∷ []) (pred q) (pos 0)

abbrev pub of_two_lem : ℤ → Assignment
of_two_lem b = λ q. b

-- ---- the sheet

-- 1 completes 3 and 0
pub completes : Completes hidden sheet (of_one_and_three (pos 3) (pos 0)) (of_two_lem (pos 1))
unfolding rules rule_of literal_value
completes = (table_of_meaning 3 rules (joined hidden (of_one_and_three (pos 3) (pos 0)) (of_two_lem (pos 1))) accepted).1
    (record { met = le_z_yes tt }, (record { met = le_z_yes tt }, (record { met = le_z_yes tt }, tt)))

pub allowed : SheetAllows hidden sheet (of_one_and_three (pos 3) (pos 0))
allowed = record { hiddens = of_two_lem (pos 1); complete = completes }

-- nothing completes 0 and 6: quantity 2 would be at least 6 and at most 5
pub nothing_between : (b : ℤ) → (pos 0 +ℤ b) ≤ℤ pos 5 → (pos 6 +ℤ neg_ℤ b) ≤ℤ pos 0 → ⊥
unfolding positive_part negative_part
nothing_between b h g = omega (linear, parts_add (pos 0) b, parts_add (pos 6) (neg_ℤ b), parts_neg b)

pub not_allowed : SheetAllows hidden sheet (of_one_and_three (pos 0) (pos 6)) → ⊥
unfolding rules rule_of literal_value
not_allowed a =
    let m = (table_of_meaning 3 rules (joined hidden (of_one_and_three (pos 0) (pos 6)) a.hiddens) accepted).0 a.complete in
    nothing_between (a.hiddens 2) m.0.met m.1.1.0.met

-- ---- two scripts, by the rules that their texts write

-- +1:3
unfoldable pub wide : List Rule
wide = rule_of (pos 1) (pos 0) (pos 3) ∷ []

pub wide_allows : ScriptAllows (λ σ. MeetsAll σ wide) (of_one_and_three (pos 0) (pos 6))
unfolding wide rule_of literal_value
wide_allows = (record { met = le_z_yes tt }, tt)

-- +1:2, +1+3:5
unfoldable pub narrow : List Rule
narrow = rule_of (pos 1) (pos 0) (pos 2) ∷ rule_of (pos 1) (pos 3) (pos 5) ∷ []

pub narrow_forbids : ScriptForbids (λ σ. MeetsAll σ narrow) (of_one_and_three (pos 3) (pos 0))
unfolding narrow rule_of literal_value
narrow_forbids m = m.0.met.le
