-- How long a verdict's or a refusal's text is at most where two texts are marked, for which *mark* lends room enough. Assumes nothing.
use Rattle.std.specs.Prelude.{Ok, Err}
use mathlib.Core.Path.{◌≡◌, refl, ap, subst}
use mathlib.Core.Bool.{false}
use mathlib.Core.List.{List}
use mathlib.Core.Logic.{inl, inr, ⊎_elim}
use Prim.Native.Nat.{ℕ, ◌+◌, ◌^◌, ◌≤◌, ◌<◌}
use native.Mathlib.Omega.{arith}
use lib.IntN.{ℤ, pos}
use lib.ListN.{length, take}
use Rattle.places.specs.Numbering.{block_start}
use Rattle.rules.specs.declared.rule.Rule.{Rule}
use Rattle.rules.specs.declared.rule.Rule.TheVariants.{One, Two, Nothing}
use Rattle.rules.specs.declared.paper.Paper.TheVariants.{Sheet, Script}
use Rattle.rules.specs.declared.refusal.Refusal.{Refusal}
use Rattle.rules.specs.Limits.{max_quantities, bound_limit, max_rules}
use Rattle.rules.specs.Hidden.{hidden_in}
use Rattle.rules.specs.Meaning.{has_term}
use Rattle.rules.specs.Refusal.{refusal_line}
use Rattle.rules.specs.Refusing.{RefusedBy}
use Rattle.tables.specs.Meaning.{Solutions, WordsWithin}
use Rattle.tables.proofs.Tests.{clash}
use Rattle.elimination.specs.Magnitude.{ValuesWithin}
use Rattle.marking.specs.declared.verdict.Verdict.{Verdict}
use Rattle.marking.specs.declared.verdict.Verdict.TheVariants.{Equal, Loose, Tight}
use Rattle.marking.specs.Meaning.{LooseRule, TightRule}
use Rattle.reading.specs.Texts.{Contents}
use Rattle.reading.proofs.Limits.{limit_told}
use Rattle.writing.specs.Writing.{rule_line_text}
use Rattle.writing.specs.Promises.{max_line}
use Rattle.scripts.specs.declared.room.Lengths.{Lengths}
use Rattle.scripts.specs.declared.reply.Subject.{Subject}
use Rattle.scripts.specs.declared.reply.Subject.TheVariants.{Sheet as OfSheet, Script as OfScript, Both as OfBoth}
use Rattle.scripts.specs.declared.reply.Marked.{Marked}
use Rattle.scripts.specs.declared.reply.PaperRefusal.{PaperRefusal}
use Rattle.scripts.specs.Replies.{TextMarking, marked, texts_returned, text_subjects, is_text_marked, text_counts}
use Rattle.scripts.specs.Meaning.{set_in, table_in, Matches, pair_needs, AcceptedPair, RefusedPair, own_lengths}
use Rattle.scripts.specs.Promises.{MarkedInOwnRoom}
use Rattle.scripts.proofs.Sheets.{FineTable, FineSheet, fine_table, key_like}
use Rattle.reports.specs.Marks.{verdict_key, word_text, shown_text, verdict_name, carried_text, verdict_text, refused_mark_text}
use Rattle.reports.proofs.RefusalLengths.{refused_line}
use Rattle.reports.proofs.MarkTexts.{max_values, word_length, values_short, shown_length, broken_short, verdict_length, refused_short}

-- the first line of a verdict, and the bytes of the output that *mark* lends, `ROOM`: the proof of `print_mark` finds no room where that is less
abbrev verdict_line : ℕ
verdict_line = 14

abbrev mark_room : ℕ
mark_room = verdict_line + max_line + max_values

-- ---- how long a verdict is at most

-- the line of a rule without a term is its key alone
bare_line : (r : Rule) → has_term r ≡ false → length (rule_line_text r) ≤ max_line
bare_line (One x c) e = clash refl e
bare_line (Two x y c) e = clash refl e
bare_line (Nothing c) e = omega arith

-- the line of a loose verdict's rule
loose_line : (c : Contents) → FineSheet c → {paper : Solutions} {r : Rule} → LooseRule (hidden_in (set_in c)) c.count (table_in c) paper r
    → length (rule_line_text r) ≤ max_line
loose_line c s {paper} {r} =
    ⊎_elim (λ a. bare_line r a.1)
    (λ b.
    let small : bound_limit Script c.count (set_in c) < 2 ^ 63 = omega (arith, limit_told Script c.count (set_in c) s.most) in
    broken_short (bound_limit Script c.count (set_in c)) b.1 s.most small (key_like c s).within)

-- the line of a tight verdict's rule
tight_line : (c d : Contents) → FineSheet c → FineTable Script d → d.count ≡ c.count → {paper : Solutions} {r : Rule}
    → TightRule c.count paper (table_in d) r → length (rule_line_text r) ≤ max_line
tight_line c d s u e l =
    let small : bound_limit Script d.count (set_in d) < 2 ^ 63 = omega (arith, limit_told Script d.count (set_in d) u.most) in
    broken_short (bound_limit Script d.count (set_in d)) l s.most small
    (subst (λ (n : ℕ). WordsWithin (block_start n) (pos (bound_limit Script d.count (set_in d))) (table_in d)) e u.bounds)

-- that line and the line of an assignment in its range
shown_short : (n : ℕ) (r : Rule) (values : List ℤ) → n ≤ max_quantities → length (rule_line_text r) ≤ max_line → ValuesWithin n values
    → length (shown_text r (take n values)) ≤ max_line + max_values
shown_short n r values h l f = omega (arith, shown_length r (take n values), values_short n values h f)

-- the first line is as long whichever verdict it names
first_line : (v : Verdict) → length (word_text verdict_key (verdict_name v)) ≡ verdict_line
first_line Equal = word_length verdict_key (verdict_name Equal)
first_line (Loose r) = word_length verdict_key (verdict_name (Loose r))
first_line (Tight r) = word_length verdict_key (verdict_name (Tight r))

-- ---- the line of a refusal

-- a refusal of two fine texts names no line
pair_line : (c d : Contents) (lent : Lengths) (f : Refusal) → RefusedBy (pair_needs c d lent) f → refusal_line f ≡ 0
pair_line c d lent f (inl x) = ap refusal_line x.1
pair_line c d lent f (inr (a, inl x)) = ap refusal_line x.1
pair_line c d lent f (inr (a, inr (b, inl x))) = ap refusal_line x.1
pair_line c d lent f (inr (a, inr (b, inr (g, inl x)))) = ap refusal_line x.1
pair_line c d lent f (inr (a, inr (b, inr (g, inr (h, inl x))))) = ap refusal_line x.1
pair_line c d lent f (inr (a, inr (b, inr (g, inr (h, inr x))))) = absurd x.1

-- a refusal names a line of a text, which has at most this number, or none
refusal-line : (sheet script : List ℕ) (lent : Lengths) (p : Subject) (f : Refusal) → RefusedPair sheet script lent p f → refusal_line f ≤ max_rules + 4
refusal-line sheet script lent OfSheet f h = refused_line Sheet sheet f h
refusal-line sheet script lent OfScript f h = refused_line Script script f h.1
refusal-line sheet script lent OfBoth f h = omega (arith, pair_line h.of_sheet h.of_script lent f h.fails)

-- ---- room for what is printed

-- the script of two accepted texts fits the sheet, and the assignment has words enough
pub accepted_matches : {sheet script : List ℕ} {lent : Lengths} (t : AcceptedPair sheet script lent) → Matches t.of_sheet t.of_script
accepted_matches t = t.met.1.1.1.1.0

pub accepted_room : {sheet script : List ℕ} {lent : Lengths} (t : AcceptedPair sheet script lent) → t.of_sheet.count ≤ lent.values
accepted_room t = t.met.1.1.1.0

module _ {sheet script : List ℕ} {before : List ℤ} {r : TextMarking} {values : List ℤ} (m : MarkedInOwnRoom sheet script before r values) where
  -- both texts are accepted
  both_accepted : (n : ℕ) (v : Verdict) → r ≡ marked n v → AcceptedPair sheet script (own_lengths (length before))
  both_accepted n v e = m.judged.accepted.0 (ap is_text_marked e)

  -- the n beside a verdict is the sheet's
  counted : {n : ℕ} {v : Verdict} (t : AcceptedPair sheet script (own_lengths (length before))) → r ≡ marked n v → n ≡ t.of_sheet.count
  counted t e = let c = m.judged.counts t in let d = ap text_counts e in cc

  -- what follows the first line of a verdict
  carried_short : (n : ℕ) (v : Verdict) → r ≡ marked n v → length (carried_text v (take n values)) ≤ max_line + max_values
  carried_short n Equal e = omega arith
  carried_short n (Loose rule) e =
      let t = both_accepted n (Loose rule) e in
      let s = fine_table Sheet t.of_sheet t.sheet_reads.spelled.fine in
      let q = counted t e in
      let x = (m.judged.judged t).means.loose rule (ap texts_returned e) in
      let line = loose_line t.of_sheet s x.0 in
      rw q (shown_short t.of_sheet.count rule values s.most line x.1.range)
  carried_short n (Tight rule) e =
      let t = both_accepted n (Tight rule) e in
      let s = fine_table Sheet t.of_sheet t.sheet_reads.spelled.fine in
      let u = fine_table Script t.of_script t.script_reads.spelled.fine in
      let q = counted t e in
      let x = (m.judged.judged t).means.tight rule (ap texts_returned e) in
      let line = tight_line t.of_sheet t.of_script s u (accepted_matches t).count x.0 in
      rw q (shown_short t.of_sheet.count rule values s.most line x.1.range)

  -- a verdict's n is no more than the words of the assignment, and there is room for its text
  pub verdict_room : length before ≡ max_quantities → {x : Marked} → r ≡ Ok x
      → (x.quantities ≤ length values) × (length (verdict_text x.verdict (take x.quantities values)) ≤ mark_room)
  verdict_room s {x} e =
      let v = x.verdict in
      let t = both_accepted x.quantities v e in
      let q = counted t e in (
        omega (arith, s, m.written.size, accepted_room t),
        omega (arith, verdict_length {v = v} (take x.quantities values) refl, first_line v, carried_short x.quantities v e),
      )

  -- there is room for a refusal's text
  pub refusal_room : {x : PaperRefusal} → r ≡ Err x → length (refused_mark_text x.paper x.refusal) ≤ mark_room
  refusal_room {x} e =
      let line = refusal-line sheet script (own_lengths (length before)) x.paper x.refusal
      ((m.judged.refused x.paper x.refusal).0 (ap texts_returned e, ap text_subjects e)) in
      omega (arith, refused_short x.paper x.refusal (omega (arith, line)))
