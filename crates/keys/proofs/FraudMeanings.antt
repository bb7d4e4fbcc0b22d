-- Document 01's frauds about keys and refusal 5 refuted by demand 2, over unbounded integers: on a named sheet some integers show each one false,
-- whatever steps made the answer. Last, values out of their range and words that are not the call's to change. Assumes nothing.
use mathlib.Core.Path.{◌≡◌, refl}
use mathlib.Core.List.{List, [], ◌∷◌}
use mathlib.Core.Logic.{◌↔◌}
use Prim.Native.Nat.{ℕ}
use native.Mathlib.Omega.{arith}
use lib.IntN.{ℤ, pos, negsuc, neg_ℤ, ◌+ℤ◌}
use lib.ListN.{length}
use lib.Signed.{◌≤ℤ◌}
use Rattle.std.specs.Prelude.{Err}
use Rattle.integers.proofs.Parts.{linear, positive_part, negative_part, parts_add, parts_neg}
use Rattle.rules.specs.Hidden.{hidden_in}
use Rattle.rules.specs.Meaning.{Assignment, literal_value}
use Rattle.rules.specs.Steps.{rule_of, halved_of}
use Rattle.places.specs.Numbering.{block_start}
use Rattle.rules.specs.declared.refusal.Refusal.{Refusal}
use Rattle.tables.specs.Tables.{empty_table, cleared, rule_reply}
use Rattle.tables.specs.Meaning.{HoldsRule, Satisfies, Satisfiable, Unsatisfiable, SheetAllows, NamesVisible, joined}
use Rattle.tables.proofs.Tests.{clash}
use Rattle.tables.proofs.Lists.{AllAccepted, empty_satisfied, table_of_length, table_of_meaning}
use Rattle.tables.proofs.SheetA.{rules, of_one_and_three, of_two_lem, completes, allowed, not_allowed}
use Rattle.tables.specs.Replies.{Reply, reply_number}
use Rattle.elimination.specs.Hiding.{eliminated}
use Rattle.rules.specs.Refusing.{passed, AllMet}
use Rattle.keys.specs.Meaning.{key_needs_then, assignment_needs_then}
use Rattle.keys.specs.Promises.{Keyed, AssignmentFound, Assigned}
use Rattle.keys.proofs.Sheets.{Case, sheet_table, sheet_a, seen_late, steps}
use Rattle.keys.proofs.Frauds.{chain, blanked}

-- demand 2 of a table that is to be a sheet's key: it allows visible integers exactly when some integers for the hidden quantities satisfy the sheet
abbrev pub MeansKey : Case → List ℤ → Type 0
MeansKey c key = (σ : Assignment) → Satisfies c.n key σ ↔ SheetAllows (hidden_in c.set) (Satisfies c.n (sheet_table c)) σ

-- and of a reply's number: it is 5 exactly when no integers satisfy the sheet
abbrev pub MeansFive : Case → ℕ → Type 0
MeansFive c number = (number ≡ 5) ↔ Unsatisfiable c.n (sheet_table c)

-- the key call promises both, and the assignment call the second
pub key_promises : (c : Case) (workspace : List ℤ) (r : Reply) (key workspace' : List ℤ)
    → Keyed c.n c.set (sheet_table c) workspace r key workspace'
    → (reply_number r ≡ 0 → MeansKey c key)
    × (AllMet (key_needs_then c.n c.set (sheet_table c) (length workspace) passed) → MeansFive c (reply_number r))
key_promises c workspace r key workspace' k = (λ e. (k.made e).meaning, k.none)

pub assignment_promises : (c : Case) (workspace values : List ℤ) (r : Reply) (workspace' values' : List ℤ)
    → Assigned c.n (sheet_table c) workspace values r workspace' values'
    → AllMet (assignment_needs_then c.n (sheet_table c) (length workspace) (length values) passed) → MeansFive c (reply_number r)
assignment_promises c workspace values r workspace' values' a = a.none

-- ---- the sheets' rules are accepted, so what satisfies their tables meets each rule as written

sheet_a_accepted : AllAccepted 3 sheet_a.rules
unfolding rule_of halved_of rule_reply
sheet_a_accepted = (refl, (refl, (refl, tt)))

chain_accepted : AllAccepted 3 chain.rules
unfolding rule_of halved_of rule_reply
chain_accepted = (refl, (refl, (refl, tt)))

seen_late_accepted : AllAccepted 2 seen_late.rules
unfolding rule_of halved_of rule_reply
seen_late_accepted = (refl, (refl, (refl, (refl, tt))))

-- ---- keys

-- 0 for quantity 1 and 6 for quantity 3; 3 for quantity 1 and 0 for quantity 3. Both have 0 for quantity 2
abbrev zero_and_six : Assignment
zero_and_six = of_one_and_three (pos 0) (pos 6)

abbrev three_and_zero : Assignment
three_and_zero = of_one_and_three (pos 3) (pos 0)

-- a key with no rules: it allows 0 and 6, which no integer for the hidden quantity of A completes
pub no_rules_meaning : MeansKey sheet_a (empty_table 3) → ⊥
unfolding rules
no_rules_meaning m = not_allowed ((m zero_and_six).0 (empty_satisfied 3 zero_and_six))

-- a hiding that returns the sheet: A allows 3 and 0, which 1 completes, but its own rule +1-2:2 is broken where quantity 2 has 0
pub sheet_returned_meaning : MeansKey sheet_a (sheet_table sheet_a) → ⊥
unfolding rules rule_of literal_value
sheet_returned_meaning m =
    let k = (table_of_meaning 3 sheet_a.rules three_and_zero sheet_a_accepted).0 ((m three_and_zero).1 allowed) in k.1.0.met.le

-- and it names the hidden quantity: +1+2:5 stands at place 4
pub sheet_returned_names : NamesVisible 3 (hidden_in 2) (sheet_table sheet_a) → ⊥
unfolding steps
sheet_returned_names v =
    let h : HoldsRule 3 (sheet_table sheet_a) 4 =
    record { inside = omega arith; there = omega (arith, table_of_length 3 sheet_a.rules); rule = refl } in
    clash {b = hidden_in 2 2} refl (v.each 4 h 2 refl)

-- the chain's rules with 6 for quantity 3: quantity 1 would be at least 6, quantity 2 at least that and at most 5
chain_broken : (a b : ℤ) → (neg_ℤ a +ℤ pos 6) ≤ℤ pos 0 → (a +ℤ neg_ℤ b) ≤ℤ pos 0 → b ≤ℤ pos 5 → ⊥
unfolding positive_part negative_part
chain_broken a b f g h = omega (linear, parts_add (neg_ℤ a) (pos 6), parts_neg a, parts_add a (neg_ℤ b), parts_neg b)

-- a key that removes only the first hidden quantity and merely blanks the other: it allows 6 for quantity 3 of the chain, which nothing completes
pub others_blanked_meaning : MeansKey chain (cleared 3 2 (eliminated 3 0 (sheet_table chain))) → ⊥
unfolding rule_of literal_value
others_blanked_meaning m =
    let a = (m zero_and_six).0 (rw blanked (empty_satisfied 3 zero_and_six)) in
    let k = (table_of_meaning 3 chain.rules (joined (hidden_in 3) zero_and_six a.hiddens) chain_accepted).0 a.complete in
    chain_broken (a.hiddens 1) (a.hiddens 2) k.0.met k.1.0.met k.1.1.0.met

-- ---- refusal 5

-- 3, 1 and 0 satisfy A
pub sheet_a_satisfiable : Satisfiable 3 (sheet_table sheet_a)
unfolding rules
sheet_a_satisfiable = record { assignment = joined (hidden_in 2) three_and_zero (of_two_lem (pos 1)); satisfies = completes }

-- so 5 on every sheet breaks the promise
pub always_meaning : MeansFive sheet_a 5 → ⊥
always_meaning m = m.0 refl sheet_a_satisfiable.assignment sheet_a_satisfiable.satisfies

-- two equal integers have no sum of 1
no_half : (a b : ℤ) → (a +ℤ b) ≤ℤ pos 1 → (neg_ℤ a +ℤ neg_ℤ b) ≤ℤ negsuc 0 → (a +ℤ neg_ℤ b) ≤ℤ pos 0 → (neg_ℤ a +ℤ b) ≤ℤ pos 0 → ⊥
unfolding positive_part negative_part
no_half a b f g h i =
    omega
    (linear, parts_add a b, parts_add (neg_ℤ a) (neg_ℤ b), parts_add a (neg_ℤ b), parts_add (neg_ℤ a) b, parts_neg a, parts_neg b)

-- no integers satisfy `seen_late`, whose rules ask for two equal ones with a sum of 1
pub seen_late_unsatisfiable : Unsatisfiable 2 (sheet_table seen_late)
unfolding rule_of literal_value
seen_late_unsatisfiable σ s =
    let m = (table_of_meaning 2 seen_late.rules σ seen_late_accepted).0 s in
    no_half (σ 1) (σ 2) m.0.met m.1.0.met m.1.1.0.met m.1.1.1.0.met

-- so 5 decided on the hidden quantities only, or before any pair is added, breaks the promise: neither gives 5 there
pub missed_meaning : MeansFive seen_late 0 → ⊥
missed_meaning m = omega (arith, m.1 seen_late_unsatisfiable)

-- ---- values

-- an assignment with 2 ^ 62 + 1 in it is past the range, whatever the table is
pub past_range : (t : List ℤ) → AssignmentFound 1 t (pos 4611686018427387905 ∷ []) → ⊥
unfolding positive_part negative_part
past_range t f = omega (linear, (f.range 0 (omega arith)).below)

-- and so is one with -2 ^ 62 - 1
pub below_range : (t : List ℤ) → AssignmentFound 1 t (negsuc 4611686018427387904 ∷ []) → ⊥
unfolding positive_part negative_part
below_range t f = omega (linear, (f.range 0 (omega arith)).above)

-- ---- words

-- a key call of n 1 that changes the third word of the table, whatever it replies
pub past_table_changed : (set : ℕ) (w w' : List ℤ) (r : Reply) → Keyed 1 set (pos 1 ∷ pos 2 ∷ pos 3 ∷ []) w r (pos 1 ∷ pos 2 ∷ pos 4 ∷ []) w' → ⊥
unfolding block_start
past_table_changed set w w' r k = let e = k.rest in let z : ◌≡◌ {A = ℕ} 4 3 = cc in omega arith

-- one that changes the first on a refusal
pub refused_changed : (set : ℕ) (w w' : List ℤ) (f : Refusal) → Keyed 1 set (pos 1 ∷ pos 2 ∷ []) w (Err f) (pos 0 ∷ pos 2 ∷ []) w' → ⊥
refused_changed set w w' f k = let e = k.words in let z : ◌≡◌ {A = ℕ} 0 1 = cc in omega arith
