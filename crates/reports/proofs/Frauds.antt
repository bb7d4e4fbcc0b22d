-- Frauds of *key*: for a named sheet each breaks what is promised of the text printed, by its count and its bytes alone; and texts that are no key's by what
-- they mean. And two of *mark*: equal printed for a script that is too wide, refuted by what that name means; and a line of the assignment with fewer integers
-- than the sheet has quantities. Assumes nothing.
use mathlib.Core.Path.{◌≡◌, sym, ◌∙◌, refl, ap}
use mathlib.Core.Bool.{false}
use mathlib.Core.List.{List, [], ◌∷◌, ◌++◌}
use Prim.Native.Nat.{ℕ, ◌≤◌}
use native.Mathlib.Omega.{arith}
use lib.Dec.{eqb}
use lib.IntN.{ℤ}
use lib.ListN.{length, get_or, take, drop, length-append}
use lib.Seq.{take-append_seam}
use borrow.Author.Tests.{eqb-false}
use Rattle.numerals.specs.Bytes.{bytes}
use Rattle.numerals.proofs.Decimals.{signed_some}
use Rattle.rules.specs.declared.paper.Paper.TheVariants.{Sheet, Script}
use Rattle.rules.specs.Hidden.{hidden_in, set_of, is_listed}
use Rattle.rules.specs.Meaning.{names}
use Rattle.rules.specs.Steps.{rule_of}
use Rattle.tables.specs.Meaning.{SheetAllows, NoneNames, joined, assignment_of}
use Rattle.tables.proofs.Tests.{clash}
use Rattle.lines.specs.Spelling.{written_rule, written_rules}
use Rattle.reading.specs.Meaning.{rules_of}
use Rattle.reading.proofs.Frauds.{contents_a}
use Rattle.marking.specs.declared.verdict.Verdict.TheVariants.{Equal, Loose}
use Rattle.scripts.specs.Replies.{TextMarking, marked, texts_returned, is_text_marked, text_counts}
use Rattle.scripts.proofs.Judging.{accepted_reads}
use Rattle.reports.specs.Reports.{key_report}
use Rattle.reports.specs.Marks.{word_text, further_text, integers_text, values_text, verdict_text, mark_text}
use Rattle.reports.specs.Meaning.{KeyText, PrintedKey}
use Rattle.reports.specs.Promises.{KeyTextMade, KeyPrinted, MarkPrinted}
use Rattle.reports.proofs.PrintedReplies.{verdict_same}
use Rattle.reports.proofs.KeyTexts.{key_told}
use Rattle.reports.proofs.Reports.{key_made}
use Rattle.reports.proofs.MarkTexts.{values_length}
use Rattle.reports.proofs.Cases.{KeyCase, KeyPasses, shown_line, sheet_a, wide, narrow, halved_below, one_half, seen_late, unpaired}
use Rattle.reports.proofs.Starred.{starred_pass}
use Rattle.reports.proofs.Shown.{
  sheet_writes,
  contents_wide,
  wide_writes,
  contents_narrow,
  narrow_writes,
  zero_zero_six,
  sum_rule,
  wide_loose,
  wide_shown,
  three_one_zero,
  narrow_shown,
  one_reading,
}

-- what is printed for a case that passes, so many bytes as are counted, is no list that differs from the case's at some byte
unlike : (c : KeyCase) → KeyPasses c → {out : List ℕ} {end : ℕ} {out' s : List ℕ} (k : ℕ) → KeyPrinted (bytes c.sheet) out end out'
    → take end out' ≡ s → eqb (get_or s k 0) (get_or (bytes c.printed) k 0) ≡ false → ⊥
unlike c h {out} {end} {out'} {s} k p e d =
    let r = key_report (bytes c.sheet) in
    let f : take end out' ≡ bytes c.printed = rw (p.bytes, p.count) (take-append_seam r (drop (length r) out)) ∙ h in
    eqb-false (get_or s k 0) (get_or (bytes c.printed) k 0) d (ap (λ (l : List ℕ). get_or l k 0) (sym e ∙ f))

module _ (out : List ℕ) (end : ℕ) (out' : List ℕ) where
  -- the sheet itself printed as its key
  pub sheet_printed : KeyPrinted (bytes sheet_a.sheet) out end out' → take end out' ≡ bytes sheet_a.sheet → ⊥
  sheet_printed p e = unlike sheet_a starred_pass.0 28 p e refl

  -- a key with no rules
  pub no-rules : KeyPrinted (bytes sheet_a.sheet) out end out' → take end out' ≡ bytes "quantities=3\nhidden=2\nrules=0\n" → ⊥
  no-rules p e = unlike sheet_a starred_pass.0 28 p e refl

  -- nothing printed
  pub nothing : KeyPrinted (bytes sheet_a.sheet) out end out' → take end out' ≡ bytes "" → ⊥
  nothing p e = unlike sheet_a starred_pass.0 0 p e refl

  -- 5 for a sheet that has an assignment
  pub always_five : KeyPrinted (bytes sheet_a.sheet) out end out' → take end out' ≡ bytes "refused=5\nline=0\n" → ⊥
  always_five p e = unlike sheet_a starred_pass.0 0 p e refl

  -- -1 halved rounded to 0
  pub rounded_up : KeyPrinted (bytes halved_below.sheet) out end out' → take end out' ≡ bytes "quantities=1\nhidden=\nrules=1\nrule=+1:0\n" → ⊥
  rounded_up p e = unlike halved_below starred_pass.1.1.1.1.1.1.1.0 37 p e refl

  -- a key printed, of whatever rules, where one half alone fits
  pub half_allowed : (s : List ℕ) → KeyPrinted (bytes one_half.sheet) out end out' → take end out' ≡ bytes "quantities=1\nhidden=\n" ++ s → ⊥
  half_allowed s p e = unlike one_half starred_pass.1.1.1.1.1.1.1.1.0 0 p e refl

  -- 5 decided on the hidden quantities only: a key printed where the contradiction is seen only after both quantities go
  pub hidden_only : (s : List ℕ) → KeyPrinted (bytes seen_late.sheet) out end out' → take end out' ≡ bytes "quantities=2\nhidden=1\n" ++ s → ⊥
  hidden_only s p e = unlike seen_late starred_pass.1.1.1.1.1.1.1.1.1.0 0 p e refl

  -- a hidden quantity's lone rule kept
  pub lone_kept : KeyPrinted (bytes unpaired.sheet) out end out' → take end out' ≡ bytes unpaired.sheet → ⊥
  lone_kept p e = unlike unpaired starred_pass.1.1.1.1.1.1.1.1.1.1.0 28 p e refl

-- ---- texts that are no key of sheet A

-- what follows of a text that is
made_of : (text : List ℕ) (k : KeyText contents_a text) → KeyTextMade contents_a k.key text
unfolding set_of
made_of text k =
    let p : PrintedKey (bytes sheet_a.sheet) text = record {
      contents = contents_a;
      reads = accepted_reads Sheet sheet_writes;
      integers = joined (hidden_in 2) (assignment_of three_one_zero) (assignment_of three_one_zero);
      satisfied = narrow_shown.complete;
      is = k;
    } in
    key_made (bytes sheet_a.sheet) text p

-- +1:3 alone: it allows 0 and 6, which nothing completes
pub too_wide : KeyText contents_a (bytes wide.script) → ⊥
unfolding set_of
too_wide k =
    let t = made_of (bytes wide.script) k in
    let e = key_told t contents_wide.written (accepted_reads Script wide_writes).spelled.text in
    wide_shown.incomplete ((t.meaning (assignment_of zero_zero_six)).0 (rw e wide_shown.allowed))

-- +1:2, +1+3:5: it forbids 3 and 0, which 1 completes
pub too_narrow : KeyText contents_a (bytes narrow.script) → ⊥
unfolding set_of
too_narrow k =
    let t = made_of (bytes narrow.script) k in
    let e = key_told t contents_narrow.written (accepted_reads Script narrow_writes).spelled.text in
    let σ = assignment_of three_one_zero in
    let allowed : SheetAllows (hidden_in 2) (rules_of contents_a) σ = record { hiddens = σ; complete = narrow_shown.complete } in
    narrow_shown.forbidden (rw e at ((t.meaning σ).1 allowed))

-- the sheet's own rules: they name quantity 2, which is hidden
pub hidden-named : KeyText contents_a (bytes sheet_a.sheet) → ⊥
unfolding is_listed written_rule rule_of names
hidden-named k =
    let t = made_of (bytes sheet_a.sheet) k in
    let e = key_told t contents_a.written (accepted_reads Sheet sheet_writes).spelled.text in
    let none : NoneNames 2 (written_rules contents_a.written) = rw e at (t.visible 2 refl) in
    clash refl none.0

-- ---- *mark*, for sheet A and the script +1:3

-- what is printed for them
abbrev WidePrinted : List ℕ → ℕ → List ℕ → Type 0
WidePrinted out end out' = MarkPrinted (bytes wide.sheet) (bytes wide.script) out end out'

-- equal: the sheet would allow 0 and 6 as the script does
pub equal_printed : {out : List ℕ} {end : ℕ} {out' : List ℕ} → WidePrinted out end out' → take end out' ≡ bytes "verdict=equal\n" → ⊥
unfolding set_of verdict_text word_text
equal_printed p e =
    let t = p.accepted Equal [] e in
    let v = p.verdict t in
    let same = v.judged.means.demand.equal.0 (verdict_same v.verdict Equal v.values [] (sym v.spelled ∙ e)) in
    let there : rules_of t.of_script (assignment_of zero_zero_six) = rw (one_reading Script wide_writes t.script_reads) wide_shown.allowed in
    wide_shown.incomplete (rw (one_reading Sheet sheet_writes t.sheet_reads) at ((same (assignment_of zero_zero_six)).0 there))

-- the assignment has an integer for each of the three quantities
pub three_integers : {out : List ℕ} {end : ℕ} {out' : List ℕ} (p : WidePrinted out end out') → 3 ≤ length p.values
three_integers p =
    let e : p.reply ≡ marked 3 (Loose sum_rule) = p.judged.reply ∙ wide_loose in
    let t = p.judged.accepted.0 (ap is_text_marked e) in
    let shown = ((p.judged.judged t).means.loose sum_rule (ap texts_returned e)).1 in
    let c : 3 ∷ [] ≡ t.of_sheet.count ∷ [] = sym (ap text_counts e) ∙ p.judged.counts t in
    let n : 3 ≡ t.of_sheet.count = cc in
    omega (arith, shown.there)

-- three integers joined by commas have at least five bytes
three_long : (values : List ℤ) → 3 ≤ length values → 5 ≤ length (integers_text (take 3 values))
unfolding integers_text further_text
three_long [] h = omega arith
three_long (a ∷ []) h = omega arith
three_long (a ∷ b ∷ []) h = omega arith
three_long (a ∷ b ∷ c ∷ values) h = simp length-append (omega (arith, signed_some a, signed_some b, signed_some c))

-- a single 4 in the assignment's line
pub four_alone : {out : List ℕ} {end : ℕ} {out' : List ℕ} → WidePrinted out end out' → take end out' ≡ bytes "verdict=loose\nrule=+1+3:5\nvalues=4\n" → ⊥
four_alone {out} {end} {out'} p e =
    let values = p.values in
    let line = values_text (take 3 values) in
    let text : mark_text p.reply values ≡ bytes wide.printed ++ line =
    ap (λ (r : TextMarking). mark_text r values) p.judged.reply ∙ starred_pass.1.1.0 values
    ∙ ap (λ (r : TextMarking). bytes wide.printed ++ shown_line r values) wide_loose in
    omega (
      arith,
      p.front,
      p.count,
      ap length e,
      ap length text,
      length-append (bytes wide.printed) line,
      values_length (take 3 values),
      three_long values (three_integers p),
    )
