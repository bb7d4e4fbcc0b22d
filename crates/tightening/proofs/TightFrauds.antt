-- Wrong tight keys refuted by the definition alone, over unbounded integers: on one named sheet some integers show each one false, whatever steps made the answer. Assumes nothing.
use mathlib.Core.Path.{◌≡◌, refl}
use mathlib.Core.Bool.{Bool, true, false}
use mathlib.Core.List.{List, [], ◌∷◌}
use Prim.Native.Nat.{ℕ, suc, ◌<◌}
use native.Mathlib.Omega.{arith}
use lib.IntN.{ℤ, pos, negsuc, ◌+ℤ◌}
use lib.Signed.{◌≤ℤ◌, le_z_yes}
use Rattle.integers.proofs.Parts.{linear, positive_part, negative_part, parts_add}
use Rattle.words.specs.Change.{word_at}
use Rattle.places.specs.Numbering.{block_start}
use Rattle.rules.specs.declared.rule.Rule.{Rule}
use Rattle.rules.specs.Hidden.{hidden_in}
use Rattle.rules.specs.Limits.{no_rule}
use Rattle.rules.specs.Meaning.{literal_value}
use Rattle.rules.specs.Steps.{rule_of, halved_of}
use Rattle.tables.specs.Tables.{table_of, rule_reply, has_rule}
use Rattle.tables.specs.Places.{rule_at}
use Rattle.tables.specs.Meaning.{HoldsRule, Satisfies, Solutions, assignment_of, MetByAll}
use Rattle.tables.proofs.Lists.{AllAccepted, table_of_meaning}
use Rattle.tables.proofs.Tests.{clash}
use Rattle.keys.proofs.Sheets.{steps}
use Rattle.tightening.specs.Meaning.{Bounded, TightKey}

-- ---- the sheet

-- n 2, +1:1, +2:1: the tightest key with nothing hidden has +1+2:2 at place 4 besides, and no rule at place 1, which is that of -1
unfoldable pub rules : List Rule
rules = rule_of (pos 1) (pos 0) (pos 1) ∷ rule_of (pos 2) (pos 0) (pos 1) ∷ []

abbrev pub sheet : Solutions
sheet = Satisfies 2 (table_of 2 rules)

-- nothing is hidden
abbrev pub nothing : ℕ → Bool
nothing = λ q. false

-- the rules are accepted, so what satisfies the table meets each of them as written
accepted : AllAccepted 2 rules
unfolding rules rule_of halved_of rule_reply
accepted = (refl, (refl, tt))

-- 1 and 1 satisfy it,
ones : sheet (assignment_of (pos 1 ∷ pos 1 ∷ []))
unfolding rules rule_of literal_value
ones = (table_of_meaning 2 rules (assignment_of (pos 1 ∷ pos 1 ∷ [])) accepted).1 (record { met = le_z_yes tt }, (record { met = le_z_yes tt }, tt))

-- and so do -m - 1 and 0, for every m
far : (m : ℕ) → sheet (assignment_of (negsuc m ∷ pos 0 ∷ []))
unfolding rules rule_of literal_value
far m = (table_of_meaning 2 rules (assignment_of (negsuc m ∷ pos 0 ∷ [])) accepted).1 (record { met = le_z_yes tt }, (record { met = le_z_yes tt }, tt))

-- two integers that are at most 1 have a sum of at most 2
two_ones : (a b : ℤ) → a ≤ℤ pos 1 → b ≤ℤ pos 1 → (a +ℤ b) ≤ℤ pos 2
unfolding positive_part negative_part
two_ones a b h g = omega (linear, parts_add a b)

-- so +1+2:2 is met by all
sum_met : MetByAll sheet (rule_at 4 (pos 2))
unfolding steps rules literal_value
sum_met σ s = let m = (table_of_meaning 2 rules σ accepted).0 s in record { met = two_ones (σ 1) (σ 2) m.0.met m.1.0.met }

-- one more than its positive part is above an integer
past : (d : ℤ) → pos (suc (positive_part d)) ≤ℤ d → ⊥
unfolding positive_part negative_part
past d h = omega linear

-- so no bound on -1 is met by all, of whatever size: -m - 1 breaks that of m
none_bounds : Bounded sheet 1 → ⊥
unfolding steps literal_value
none_bounds b = past b.bound (b.met (assignment_of (negsuc (positive_part b.bound) ∷ pos 0 ∷ [])) (far (positive_part b.bound))).met

-- ---- the keys

module _ (hidden : ℕ → Bool) (key : List ℤ) (x : TightKey hidden 2 sheet key) where
  -- a word of the key other than the no-rule word is a rule
  held : (k : ℕ) → k < 8 → has_rule (word_at key k) ≡ true → HoldsRule 2 key k
  unfolding block_start
  held k h e = record { inside = omega arith; there = omega (arith, x.room); rule = e }

module _ (key : List ℤ) (x : TightKey nothing 2 sheet key) where
  -- +1+2 has a rule,
  sum_held : HoldsRule 2 key 4
  unfolding block_start
  sum_held = (x.rule 4 (omega arith)).1 (λ q e. refl, record { bound = pos 2; met = sum_met })

  -- its bound is at most 2, which is met by all,
  sum_most : word_at key 4 ≤ℤ pos 2
  sum_most = (x.least 4 sum_held).least (pos 2) sum_met

  -- and at least the sum of 1 and 1
  sum_least : pos 2 ≤ℤ word_at key 4
  unfolding steps literal_value
  sum_least = ((x.least 4 sum_held).met (assignment_of (pos 1 ∷ pos 1 ∷ [])) ones).met

  -- the plain key given: with nothing hidden it is the sheet, which has no rule on +1+2
  pub plain_kept : word_at key 4 ≡ no_rule → ⊥
  plain_kept e = clash sum_held.rule (rw e refl)

  -- a rule that is true and says too little: +1+2:7
  pub loosely_stated : word_at key 4 ≡ pos 7 → ⊥
  unfolding positive_part negative_part
  loosely_stated e = omega (linear, sum_most)

  -- a bound that is one too large: +1+2:3
  pub one_too_large : word_at key 4 ≡ pos 3 → ⊥
  unfolding positive_part negative_part
  one_too_large e = omega (linear, sum_most)

  -- or one too small: +1+2:1, which 1 and 1 break
  pub one_too_small : word_at key 4 ≡ pos 1 → ⊥
  unfolding positive_part negative_part
  one_too_small e = omega (linear, sum_least)

  -- a rule on -1, which the sheet does not bound
  pub unbounded_given : (c : ℤ) → has_rule c ≡ true → word_at key 1 ≡ c → ⊥
  unfolding block_start
  unbounded_given c h e = none_bounds ((x.rule 1 (omega arith)).0 (held nothing key x 1 (omega arith) (rw e h))).1

-- with quantity 2 hidden, its rule +2:1 kept at place 2
pub hidden_kept : (key : List ℤ) → TightKey (hidden_in 2) 2 sheet key → word_at key 2 ≡ pos 1 → ⊥
unfolding steps
hidden_kept key x e = clash {b = hidden_in 2 2} refl (((x.rule 2 (omega arith)).0 (held (hidden_in 2) key x 2 (omega arith) (rw e refl))).0 2 refl)
