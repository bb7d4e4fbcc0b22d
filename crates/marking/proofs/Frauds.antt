-- Document 01's frauds and traps about marking: on named sheets and scripts each one breaks demand 3's conditions, or carries another rule or another
-- assignment than the promises ask for. Assumes nothing.
use mathlib.Core.Path.{◌≡◌, refl, sym, ◌∙◌, ap}
use mathlib.Core.Bool.{Bool, true, not}
use mathlib.Core.List.{List, [], ◌∷◌}
use mathlib.Core.Logic.{inl, inr}
use Prim.Native.Nat.{ℕ, ◌<◌}
use native.Mathlib.Omega.{arith}
use lib.IntN.{ℤ, pos, negsuc, neg_ℤ, ◌+ℤ◌}
use lib.ListN.{take}
use lib.Signed.{◌≤ℤ◌, le_z_yes}
use Rattle.integers.specs.Bound.{half, opposite_bound}
use Rattle.integers.proofs.Parts.{linear, positive_part, negative_part, parts_add, parts_neg}
use Rattle.words.specs.Change.{word_at}
use Rattle.places.specs.Numbering.{block_start}
use Rattle.rules.specs.declared.rule.Rule.{Rule}
use Rattle.rules.specs.declared.rule.Rule.TheVariants.{One, Two, Nothing}
use Rattle.rules.specs.Hidden.{hidden_in}
use Rattle.rules.specs.Literal.{negated}
use Rattle.rules.specs.Meaning.{Assignment, literal_value, has_term}
use Rattle.rules.specs.Steps.{trivial_rule, rule_of, halved_of, opposite_of}
use Rattle.tables.specs.Places.{HasPlace}
use Rattle.tables.specs.Tables.{empty_table, table_of, put_rule, rule_reply}
use Rattle.tables.specs.Meaning.{HoldsRule, rule_in, Satisfies, Unsatisfiable, MeetsAll, Solutions, joined, SheetAllows, Breaks}
use Rattle.tables.proofs.Tests.{clash}
use Rattle.tables.proofs.Lists.{AllAccepted, empty_satisfied, table_of_meaning}
use Rattle.tables.proofs.Places.{place_of, rule_at_place, rule_at_has_place}
use Rattle.tables.proofs.SheetA.{rules, hidden, sheet, of_one_and_three, of_two_lem, completes, not_allowed, wide, wide_allows}
use Rattle.keys.specs.Keys.{key_of, refuted}
use Rattle.keys.proofs.Sheets.{sheet_table, seen_late, steps}
use Rattle.keys.proofs.FraudMeanings.{seen_late_unsatisfiable}
use Rattle.tightening.specs.Tightening.{pair_up_to, strengthening, strengthened, tightened}
use Rattle.marking.specs.declared.verdict.Verdict.{Verdict}
use Rattle.marking.specs.declared.verdict.Verdict.TheVariants.{Equal, Loose, Tight}
use Rattle.marking.specs.Verdicts.{verdict_number}
use Rattle.marking.specs.Meaning.{IsLoose, ByDemand, FirstBroken, LooseRule, TightRule, LooseShown, TightShown}
use Rattle.marking.specs.Marking.{breakable, first_rule, first_broken, or_else}

-- ---- scripts for sheet A, beside `wide`, which is +1:3

-- +1+1:7, +1+3:5
unfoldable pub same : List Rule
same = rule_of (pos 1) (pos 1) (pos 7) ∷ rule_of (pos 1) (pos 3) (pos 5) ∷ []

-- +1:2
unfoldable pub crossed : List Rule
crossed = rule_of (pos 1) (pos 0) (pos 2) ∷ []

-- `unfolding marks` lets every definition compute that the markers and keys below use
unfoldable pub marks : Unit {0}
unfolding steps rules same opposite_bound opposite_of breakable first_rule first_broken
marks = tt

-- ---- what they mean

-- a script's table as a paper
abbrev pub script : List Rule → Solutions
script rs = Satisfies 3 (table_of 3 rs)

-- the rules are accepted, so what satisfies their tables meets each rule as written
rules_accepted : AllAccepted 3 rules
unfolding rules rule_of halved_of rule_reply
rules_accepted = (refl, (refl, (refl, tt)))

wide_accepted : AllAccepted 3 wide
unfolding wide rule_of halved_of rule_reply
wide_accepted = (refl, tt)

same_accepted : AllAccepted 3 same
unfolding same half rule_of halved_of rule_reply
same_accepted = (refl, (refl, tt))

crossed_accepted : AllAccepted 3 crossed
unfolding crossed rule_of halved_of rule_reply
crossed_accepted = (refl, tt)

-- 0 for quantity 1 and 6 for quantity 3, which A does not allow
abbrev zero_and_six : Assignment
zero_and_six = of_one_and_three (pos 0) (pos 6)

-- 3, 1 and 0, which satisfy A
abbrev three_one_zero : Assignment
three_one_zero = joined hidden (of_one_and_three (pos 3) (pos 0)) (of_two_lem (pos 1))

-- `wide` allows 0 and 6
wide_loose : IsLoose hidden sheet (script wide)
wide_loose = record { visibles = zero_and_six; allowed = (table_of_meaning 3 wide zero_and_six wide_accepted).1 wide_allows; incomplete = not_allowed }

-- and so does `crossed`
crossed_loose : IsLoose hidden sheet (script crossed)
unfolding crossed rule_of literal_value
crossed_loose = record {
  visibles = zero_and_six;
  allowed = (table_of_meaning 3 crossed zero_and_six crossed_accepted).1 (record { met = le_z_yes tt }, tt);
  incomplete = not_allowed;
}

-- 5 less quantity 1 completes what `same` allows: the first rule of A is met,
first_met : (a : ℤ) → (a +ℤ (pos 5 +ℤ neg_ℤ a)) ≤ℤ pos 5
unfolding positive_part negative_part
first_met a = omega (linear, parts_add a (pos 5 +ℤ neg_ℤ a), parts_add (pos 5) (neg_ℤ a), parts_neg a)

-- the second,
second_met : (a : ℤ) → (a +ℤ a) ≤ℤ pos 7 → (a +ℤ neg_ℤ (pos 5 +ℤ neg_ℤ a)) ≤ℤ pos 2
unfolding positive_part negative_part
second_met a h =
    omega (
      linear,
      parts_add a a,
      parts_add a (neg_ℤ (pos 5 +ℤ neg_ℤ a)),
      parts_neg (pos 5 +ℤ neg_ℤ a),
      parts_add (pos 5) (neg_ℤ a),
      parts_neg a,
    )

-- and the third
third_met : (a c : ℤ) → (a +ℤ c) ≤ℤ pos 5 → (c +ℤ neg_ℤ (pos 5 +ℤ neg_ℤ a)) ≤ℤ pos 0
unfolding positive_part negative_part
third_met a c h =
    omega (
      linear,
      parts_add a c,
      parts_add c (neg_ℤ (pos 5 +ℤ neg_ℤ a)),
      parts_neg (pos 5 +ℤ neg_ℤ a),
      parts_add (pos 5) (neg_ℤ a),
      parts_neg a,
    )

-- so A allows what `same` does
same_completed : (σ : Assignment) → MeetsAll σ same → SheetAllows hidden sheet σ
unfolding same rules rule_of literal_value
same_completed σ m = record {
  hiddens = of_two_lem (pos 5 +ℤ neg_ℤ (σ 1));
  complete = (table_of_meaning 3 rules (joined hidden σ (of_two_lem (pos 5 +ℤ neg_ℤ (σ 1)))) rules_accepted).1 (
    record { met = first_met (σ 1) },
    (record { met = second_met (σ 1) m.0.met }, (record { met = third_met (σ 1) (σ 3) m.1.0.met }, tt)),
  );
}

-- ---- the number

-- a marker that says equal on all scripts
pub equal_on_all : ByDemand hidden sheet (script wide) 100 → ⊥
equal_on_all d = wide_loose.incomplete ((d.equal.0 refl wide_loose.visibles).0 wide_loose.allowed)

-- one that says loose on all
pub loose_on_all : ByDemand hidden sheet (script same) 101 → ⊥
loose_on_all d =
    let l = d.loose.0 refl in
    l.incomplete (same_completed l.visibles ((table_of_meaning 3 same l.visibles same_accepted).0 l.allowed))

-- one that says tight of a script that is both too wide and too narrow
pub tight_before_loose : ByDemand hidden sheet (script crossed) 102 → ⊥
tight_before_loose d = (d.tight.0 refl).0 crossed_loose

-- one that compares with the sheet's rules instead of its key's, here of a sheet that some integers satisfy
unfoldable pub by_sheet : ℕ → List ℤ → List ℤ → Verdict
by_sheet n t s = or_else Loose (first_broken n t s) (or_else Tight (first_broken n s t) Equal)

-- it says loose of `same`, by +1+2:5, which the script does not keep
pub compared_with_sheet : ByDemand hidden sheet (script same) (verdict_number (by_sheet 3 (table_of 3 rules) (table_of 3 same))) → ⊥
unfolding marks by_sheet
compared_with_sheet d = loose_on_all d

-- one that takes the opposite of t ≤ c as -t ≤ -c
unfoldable pub plain_opposite : Rule → Rule
plain_opposite (One x c) = One (negated x) (neg_ℤ c)
plain_opposite (Two x y c) = Two (negated x) (negated y) (neg_ℤ c)
plain_opposite (Nothing c) = Nothing (neg_ℤ c)

-- the first rule that is broken by this, and the verdict of a sheet that some integers satisfy
unfoldable pub plain_first : ℕ → List ℤ → List ℤ → Rule
plain_first n rs t = first_rule (λ r. not (refuted n (put_rule t (plain_opposite r)))) 0 (take (block_start n) rs)

unfoldable pub by_plain : (ℕ → Bool) → ℕ → List ℤ → List ℤ → Verdict
by_plain h n t s = or_else Loose (plain_first n (key_of h n t) s) (or_else Tight (plain_first n s t) Equal)

-- it says loose of `same`, by +1:3, which 3 meets
pub opposite_too_near : ByDemand hidden sheet (script same) (verdict_number (by_plain hidden 3 (table_of 3 rules) (table_of 3 same))) → ⊥
unfolding marks plain_opposite plain_first by_plain
opposite_too_near d = loose_on_all d

-- one that does not decide first whether some integers satisfy the sheet
unfoldable pub undecided : (ℕ → Bool) → ℕ → List ℤ → List ℤ → Verdict
undecided h n t s = or_else Loose (first_broken n (key_of h n t) s) (or_else Tight (first_broken n s t) Equal)

-- n 1, hidden 1, +1:0, -1:-1: no integers satisfy it, and its key has no rules
unfoldable pub void : List Rule
void = rule_of (pos 1) (pos 0) (pos 0) ∷ rule_of (negsuc 0) (pos 0) (negsuc 0) ∷ []

void_accepted : AllAccepted 1 void
unfolding void rule_of halved_of rule_reply
void_accepted = (refl, (refl, tt))

-- no integer is at most 0 and at least 1
none_between : (a : ℤ) → a ≤ℤ pos 0 → neg_ℤ a ≤ℤ negsuc 0 → ⊥
unfolding positive_part negative_part
none_between a h g = omega (linear, parts_neg a)

-- it says equal of a script with no rules, which allows the one empty choice
pub sheet_undecided :
    ByDemand (hidden_in 1) (Satisfies 1 (table_of 1 void)) (Satisfies 1 (empty_table 1)) (verdict_number (undecided (hidden_in 1) 1 (table_of 1 void) (empty_table 1))) → ⊥
unfolding marks void undecided literal_value
sheet_undecided d =
    let a = (d.equal.0 refl (of_two_lem (pos 0))).0 (empty_satisfied 1 (of_two_lem (pos 0))) in
    let m = (table_of_meaning 1 void (joined (hidden_in 1) (of_two_lem (pos 0)) a.hiddens) void_accepted).0 a.complete in
    none_between (a.hiddens 1) m.0.met m.1.0.met

-- ---- the rule

-- some integers satisfy A
satisfied : Unsatisfiable 3 (table_of 3 rules) → ⊥
satisfied u = u three_one_zero completes

-- no place before that of the first broken rule holds a broken one
first_of_all : (n : ℕ) (rs : List ℤ) (paper : Solutions) (r : Rule) (k : ℕ) → FirstBroken n rs paper r → k < place_of r → HoldsRule n rs k
    → Breaks paper (rule_in rs k) → ⊥
first_of_all n rs paper r k f h p b =
    let e : place_of r ≡ f.place = ap place_of f.is ∙ rule_at_place f.place (word_at rs f.place) in
    f.at.first k (omega arith) p b

-- sheet A's key has +1:3 at place 0,
key_holds : HoldsRule 3 (key_of hidden 3 (table_of 3 rules)) 0
unfolding marks
key_holds = record { inside = omega arith; there = omega arith; rule = refl }

-- which 4, 0 and 0 break
key_broken : Breaks (script []) (rule_in (key_of hidden 3 (table_of 3 rules)) 0)
unfolding marks literal_value
key_broken = record {
  assignment = of_one_and_three (pos 4) (pos 0);
  satisfies = empty_satisfied 3 (of_one_and_three (pos 4) (pos 0));
  broken = λ m. m.met.le;
}

-- a marker that gives a later rule: of a script with no rules, +1+3:5 of the key
pub later_loose_rule : LooseRule hidden 3 (table_of 3 rules) (script []) (rule_of (pos 1) (pos 3) (pos 5)) → ⊥
unfolding marks place_of
later_loose_rule (inl u) = satisfied u.0
later_loose_rule (inr s) = first_of_all 3 (key_of hidden 3 (table_of 3 rules)) (script []) (rule_of (pos 1) (pos 3) (pos 5)) 0 s.1 (omega arith) key_holds key_broken

-- +1:2, +1+3:4
unfoldable pub twice : List Rule
twice = rule_of (pos 1) (pos 0) (pos 2) ∷ rule_of (pos 1) (pos 3) (pos 4) ∷ []

-- it has +1:2 at place 0,
twice_holds : HoldsRule 3 (table_of 3 twice) 0
unfolding marks twice
twice_holds = record { inside = omega arith; there = omega arith; rule = refl }

-- which 3, 1 and 0 break
twice_broken : Breaks sheet (rule_in (table_of 3 twice) 0)
unfolding marks twice literal_value
twice_broken = record { assignment = three_one_zero; satisfies = completes; broken = λ m. m.met.le }

-- and of this script, +1+3:4
pub later_tight_rule : TightRule 3 sheet (table_of 3 twice) (rule_of (pos 1) (pos 3) (pos 4)) → ⊥
unfolding marks place_of
later_tight_rule f = first_of_all 3 (table_of 3 twice) sheet (rule_of (pos 1) (pos 3) (pos 4)) 0 f (omega arith) twice_holds twice_broken

-- a marker that gives no rule to a loose script, though the sheet allows something
pub no_rule_given : (s : Solutions) → LooseRule hidden 3 (table_of 3 rules) s trivial_rule → ⊥
no_rule_given s (inl u) = satisfied u.0
no_rule_given s (inr p) =
    let f = p.1 in
    let h = rule_at_has_place 3 f.place (word_at (key_of hidden 3 (table_of 3 rules)) f.place) f.at.holds.inside in
    let z : HasPlace 3 trivial_rule = rw (← f.is) at h in z

-- one that gives a rule though the sheet allows nothing: hidden 1, +1+2:1, -1-2:-1, +1-2:0, -1+2:0
pub rule_of_nothing : (s : Solutions) (r : Rule) → has_term r ≡ true → LooseRule (hidden_in 1) 2 (sheet_table seen_late) s r → ⊥
rule_of_nothing s r h (inl u) = clash h u.1
rule_of_nothing s r h (inr p) = seen_late_unsatisfiable p.0.assignment p.0.satisfies

-- n 2, none hidden, +1+2:0, +1-2:0: the sum of the two is +1:0 halved, which the tightest table has at place 0, and the key, which is the sheet, has not
unfoldable pub implied : List Rule
implied = rule_of (pos 1) (pos 2) (pos 0) ∷ rule_of (pos 1) (negsuc 1) (pos 0) ∷ []

tightened_holds : rule_in (tightened 2 (table_of 2 implied)) 0 ≡ rule_of (pos 1) (pos 0) (pos 0)
unfolding marks implied pair_up_to strengthening strengthened tightened
tightened_holds = refl

-- a marker that gives a rule of the tightest table, which follows from the key's
pub tightened_rule : (s : Solutions) → LooseRule (hidden_in 0) 2 (table_of 2 implied) s (rule_of (pos 1) (pos 0) (pos 0)) → ⊥
unfolding marks implied place_of
tightened_rule s (inl u) = clash refl u.1
tightened_rule s (inr p) =
    let f = p.1 in
    let e : f.place ≡ 0 = sym (ap place_of f.is ∙ rule_at_place f.place (word_at (key_of (hidden_in 0) 2 (table_of 2 implied)) f.place)) in
    clash (rw e at f.at.holds.rule) refl

-- ---- the assignment

-- one that leaves a hidden word other than 0 with loose: 0, 1 and 6
pub hidden_word_one : (p s : Solutions) (r : Rule) → LooseShown 3 hidden p s r (pos 0 ∷ pos 1 ∷ pos 6 ∷ []) → ⊥
hidden_word_one p s r l = let e = l.zero 2 (omega arith) (omega arith) refl in let z : ◌≡◌ {A = ℕ} 1 0 = cc in omega arith

-- one that shows loose by 2 ^ 62 + 1,
pub loose_past_range : (p s : Solutions) (r : Rule) → LooseShown 1 (hidden_in 0) p s r (pos 4611686018427387905 ∷ []) → ⊥
unfolding positive_part negative_part
loose_past_range p s r l = omega (linear, (l.range 0 (omega arith)).below)

-- or tight by -2 ^ 62 - 1
pub tight_past_range : (p s : Solutions) (r : Rule) → TightShown 1 (hidden_in 0) p s r (negsuc 4611686018427387904 ∷ []) → ⊥
unfolding positive_part negative_part
tight_past_range p s r t = omega (linear, (t.range 0 (omega arith)).above)

-- a marker that reports tight without completing the hidden values: 3, 0 and 0 break +1-2:2 of the sheet
pub not_completed : (s : Solutions) (r : Rule) → TightShown 3 hidden sheet s r (pos 3 ∷ pos 0 ∷ pos 0 ∷ []) → ⊥
unfolding rules rule_of literal_value
not_completed s r t = ((table_of_meaning 3 rules _ rules_accepted).0 t.complete).1.0.met.le
