-- The two assignments that document 01 gives for scripts of sheet A: (0, 0, 6) shows that `+1:3` is loose, and (3, 1, 0) that `+1:2`, `+1+3:5` is tight. What the
-- texts write and the verdicts are computed; what shows them is held against the rules as written. Assumes nothing.
use mathlib.Core.Path.{◌≡◌, refl, sym, ap, ◌∙◌}
use mathlib.Core.Bool.{true, false}
use mathlib.Core.List.{List, [], ◌∷◌}
use Prim.Native.Nat.{ℕ, zero, suc, ◌≤◌}
use native.Mathlib.Omega.{arith}
use lib.Dec.{T}
use lib.IntN.{ℤ, pos, neg_ℤ}
use lib.Signed.{le_z, le_z_yes}
use Rattle.integers.specs.Bound.{Within}
use Rattle.rules.specs.declared.paper.Paper.{Paper}
use Rattle.rules.specs.declared.paper.Paper.TheVariants.{Sheet, Script}
use Rattle.rules.specs.declared.rule.Rule.{Rule}
use Rattle.rules.specs.Hidden.{hidden_in, set_of}
use Rattle.rules.specs.Refusal.{Returned}
use Rattle.marking.proofs.Carried.{loose_shown_alike, tight_shown_alike}
use Rattle.rules.specs.Meaning.{literal_value}
use Rattle.rules.specs.Steps.{rule_of}
use Rattle.tables.specs.Meaning.{assignment_of}
use Rattle.tables.proofs.SheetA.{nothing_between}
use Rattle.tables.proofs.Tests.{clash}
use Rattle.elimination.specs.Magnitude.{value_limit, ValuesWithin}
use Rattle.marking.specs.declared.verdict.Verdict.TheVariants.{Loose, Tight}
use Rattle.marking.specs.Meaning.{LooseShown, TightShown}
use Rattle.numerals.specs.Bytes.{bytes}
use Rattle.lines.specs.Spelling.{Term, one, two, written_rule}
use Rattle.lines.specs.Lines.{accepted}
use Rattle.reading.specs.Texts.{Contents}
use Rattle.reading.specs.Meaning.{Reads, rules_of}
use Rattle.reading.specs.Reading.{check_text}
use Rattle.reading.proofs.Means.{reads_same}
use Rattle.reading.proofs.Frauds.{contents_a}
use Rattle.scripts.specs.Replies.{marked, texts_returned}
use Rattle.scripts.proofs.Judging.{accepted_reads}
use Rattle.reports.proofs.Cases.{MayShow, sheet_a, wide, narrow, reply_for, reckoning}

-- ---- what the texts write

-- sheet A
pub sheet_writes : check_text Sheet (bytes sheet_a.sheet) ≡ accepted contents_a []
unfolding reckoning
sheet_writes = refl

-- +1 and +3
abbrev first : Term
first = record { negative = false; quantity = 1 }

abbrev third : Term
third = record { negative = false; quantity = 3 }

-- the script +1:3
abbrev pub contents_wide : Contents
contents_wide = record { count = 3; hiddens = 2 ∷ []; written = one first (pos 3) ∷ [] }

pub wide_writes : check_text Script (bytes wide.script) ≡ accepted contents_wide []
unfolding reckoning
wide_writes = refl

-- the script +1:2, +1+3:5
abbrev pub contents_narrow : Contents
contents_narrow = record { count = 3; hiddens = 2 ∷ []; written = one first (pos 2) ∷ two first third (pos 5) ∷ [] }

pub narrow_writes : check_text Script (bytes narrow.script) ≡ accepted contents_narrow []
unfolding reckoning
narrow_writes = refl

-- ---- the range of an assignment

-- a word is in it by its tests
in_range : {z : ℤ} → T (le_z (neg_ℤ value_limit) z) → T (le_z z value_limit) → Within value_limit z
in_range a b = record { above = le_z_yes a; below = le_z_yes b }

-- three words that are in it
three_within : {a b c : ℤ} → Within value_limit a → Within value_limit b → Within value_limit c → ValuesWithin 3 (a ∷ b ∷ c ∷ [])
three_within f g h zero l = f
three_within f g h (suc zero) l = g
three_within f g h (suc (suc zero)) l = h
three_within f g h (suc (suc (suc k))) l = absurd (omega arith)

-- ---- (0, 0, 6) and loose

abbrev pub zero_zero_six : List ℤ
zero_zero_six = pos 0 ∷ pos 0 ∷ pos 6 ∷ []

-- the rule +1+3:5
abbrev pub sum_rule : Rule
sum_rule = rule_of (pos 1) (pos 3) (pos 5)

-- is the one that the verdict carries
pub wide_loose : reply_for wide ≡ marked 3 (Loose sum_rule)
unfolding reckoning
wide_loose = refl

-- quantity 2 has 0
zero_hidden : (q : ℕ) → 1 ≤ q → q ≤ 3 → hidden_in 2 q ≡ true → assignment_of zero_zero_six q ≡ pos 0
zero_hidden zero l u h = refl
zero_hidden (suc zero) l u h = refl
zero_hidden (suc (suc zero)) l u h = refl
zero_hidden (suc (suc (suc zero))) l u h = clash {b = hidden_in 2 3} h refl
zero_hidden (suc (suc (suc (suc q)))) l u h = absurd (omega arith)

-- the script allows 0 and 6, nothing completes them, and they break the rule
pub wide_shown : LooseShown 3 (hidden_in 2) (rules_of contents_a) (rules_of contents_wide) sum_rule zero_zero_six
unfolding written_rule rule_of literal_value
wide_shown = record {
  allowed = (record { met = le_z_yes tt }, tt);
  incomplete = λ a. nothing_between (a.hiddens 2) a.complete.0.met a.complete.1.1.0.met;
  breaks = λ m. m.met.le;
  zero = zero_hidden;
  there = omega arith;
  range = three_within (in_range tt tt) (in_range tt tt) (in_range tt tt);
}

-- ---- (3, 1, 0) and tight

abbrev pub three_one_zero : List ℤ
three_one_zero = pos 3 ∷ pos 1 ∷ pos 0 ∷ []

-- the rule +1:2
abbrev pub low_rule : Rule
low_rule = rule_of (pos 1) (pos 0) (pos 2)

-- is the one that the verdict carries
pub narrow_tight : reply_for narrow ≡ marked 3 (Tight low_rule)
unfolding reckoning
narrow_tight = refl

-- 1 completes 3 and 0, the script forbids them, and they break the rule
pub narrow_shown : TightShown 3 (hidden_in 2) (rules_of contents_a) (rules_of contents_narrow) low_rule three_one_zero
unfolding written_rule rule_of literal_value
narrow_shown = record {
  complete = (record { met = le_z_yes tt }, (record { met = le_z_yes tt }, (record { met = le_z_yes tt }, tt)));
  forbidden = λ m. m.0.met.le;
  breaks = λ m. m.met.le;
  there = omega arith;
  range = three_within (in_range tt tt) (in_range tt tt) (in_range tt tt);
}

-- ---- so *mark* may print both

abbrev number : Returned → ℕ
number r = r.number

abbrev values : Returned → List ℤ
values r = r.values

-- a text is read in one way
pub one_reading : (paper : Paper) {s : List ℕ} {c d : Contents} → check_text paper s ≡ accepted c [] → Reads paper s d → d ≡ c
one_reading paper {s} {c} {d} e r = reads_same paper s d c r (accepted_reads paper e)

-- (0, 0, 6) for the script that is too wide
pub wide_may_show : MayShow wide zero_zero_six
unfolding set_of
wide_may_show t rule = (
  λ e. rw (one_reading Sheet sheet_writes t.sheet_reads, one_reading Script wide_writes t.script_reads)
      (loose_shown_alike sum_rule rule (ap values (sym (ap texts_returned wide_loose) ∙ e)) 3 (hidden_in 2) _ _ _ wide_shown),
  λ e. absurd (omega (arith, ap number (sym (ap texts_returned wide_loose) ∙ e))),
)

-- (3, 1, 0) for the one that is too narrow
pub narrow_may_show : MayShow narrow three_one_zero
unfolding set_of
narrow_may_show t rule = (
  λ e. absurd (omega (arith, ap number (sym (ap texts_returned narrow_tight) ∙ e))),
  λ e. rw (one_reading Sheet sheet_writes t.sheet_reads, one_reading Script narrow_writes t.script_reads)
      (tight_shown_alike low_rule rule (ap values (sym (ap texts_returned narrow_tight) ∙ e)) 3 (hidden_in 2) _ _ _ narrow_shown),
)
