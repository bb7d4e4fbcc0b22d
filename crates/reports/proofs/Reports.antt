-- What *key* prints for a text, by what the text means: its refusal, 5, or the text of its tightest key; and that it is never longer than the longest text written.
-- Assumes nothing.
use mathlib.Core.Path.{◌≡◌, refl, sym, ◌∙◌, ap, subst}
use mathlib.Core.Bool.{Bool, true, false, cond}
use mathlib.Core.List.{List, ◌++◌}
use mathlib.Core.Logic.{◌↔◌, ◌⊎◌, inl, inr, ⊎_elim}
use Prim.Native.Nat.{ℕ, ◌≤◌}
use native.Mathlib.Omega.{arith}
use lib.ListN.{length, take, drop, length-append}
use lib.Seq.{length-take-le, take-append_seam}
use Rattle.rules.specs.declared.paper.Paper.TheVariants.{Sheet}
use Rattle.rules.specs.declared.refusal.Refusal.{Refusal}
use Rattle.rules.specs.declared.refusal.Refusal.TheVariants.{NoAssignment}
use Rattle.rules.specs.Meaning.{Assignment}
use Rattle.tables.specs.Meaning.{BoundsWithin}
use Rattle.keys.specs.Keys.{refuted}
use Rattle.numerals.specs.Writing.{Spliced}
use Rattle.numerals.proofs.Splices.{splice_start}
use Rattle.lines.specs.Lines.{Judged, accepted, refused}
use Rattle.reading.specs.Texts.{Contents}
use Rattle.reading.specs.Meaning.{Reads, rules_of, FailsFor}
use Rattle.reading.specs.Reading.{check_text}
use Rattle.writing.specs.Writing.{written_text}
use Rattle.writing.specs.Promises.{max_written}
use Rattle.reports.specs.Refusals.{refusal_text}
use Rattle.reports.specs.Reports.{table_report, report_of, key_report}
use Rattle.reports.specs.Meaning.{KeyText, PrintedKey, Unmet}
use Rattle.reports.specs.Promises.{KeyTextMade, KeyPrinted}
use Rattle.reading.proofs.Means.{Means, text_means, reads_check}
use Rattle.scripts.specs.Meaning.{set_in, table_in}
use Rattle.scripts.proofs.OwnKeys.{own_reply}
use Rattle.scripts.proofs.Sheets.{FineSheet, fine_table, sheet_refuted, sheet_unmet, sheet_some, sheet_met}
use Rattle.reports.proofs.RefusalLengths.{refusal_width}
use Rattle.reports.proofs.PrintedReplies.{refusal_same, fails_number, text_unlike}
use Rattle.reports.proofs.TightTexts.{tight_in, tight_short, tight_text, tight_own, texts_same}
use Rattle.reports.proofs.KeyTextsMade.{own_sheet, text_made}

-- ---- of a table

-- refuted
pub report_five : (c : Contents) → refuted c.count (table_in c) ≡ true → table_report c.count (set_in c) (table_in c) ≡ refusal_text NoAssignment
unfolding table_report
report_five c e = rw e

-- not refuted
pub report_key : (c : Contents) → refuted c.count (table_in c) ≡ false
    → table_report c.count (set_in c) (table_in c) ≡ written_text c.count (set_in c) (tight_in c)
unfolding table_report
report_key c e = rw e

-- never longer than the longest text written
pub table_length : (c : Contents) → FineSheet c → length (table_report c.count (set_in c) (table_in c)) ≤ max_written
unfolding table_report
table_length c s = go (refuted c.count (table_in c))
  where
    go : (b : Bool) → length (cond b (refusal_text NoAssignment) (written_text c.count (set_in c) (tight_in c))) ≤ max_written
    go true = omega (arith, refusal_width 0 NoAssignment (omega arith))
    go false = tight_short c s

-- ---- of a text

-- it is refused: the refusal
pub report_refused : (s : List ℕ) (f : Refusal) → FailsFor Sheet s f → key_report s ≡ refusal_text f
unfolding key_report report_of
report_refused s f h = rw ((text_means Sheet s (refused f)).1 h)

-- it is accepted: what is printed of its table
pub report_accepted : (s : List ℕ) (c : Contents) → Reads Sheet s c
    → key_report s ≡ table_report c.count (set_in c) (table_in c)
unfolding key_report report_of
report_accepted s c p = rw (reads_check Sheet s c p)

-- no integers meet its rules: 5
report_none : (s : List ℕ) (c : Contents) → Reads Sheet s c → ((σ : Assignment) → rules_of c σ → ⊥)
    → key_report s ≡ refusal_text NoAssignment
report_none s c p none = report_accepted s c p ∙ report_five c (sheet_refuted c (fine_table Sheet c p.spelled.fine) none)

-- some do: the text of its tightest key
pub report_some : (s : List ℕ) (c : Contents) → Reads Sheet s c → (σ : Assignment) → rules_of c σ → KeyText c (key_report s)
report_some s c p σ m = let t = fine_table Sheet c p.spelled.fine in rw (report_accepted s c p ∙ report_key c (sheet_met c t σ m)) (tight_text c t σ m)

-- the text of a tightest key, as a sheet, has itself printed: one meaning has one text
key_again : (s text : List ℕ) (k : PrintedKey s text) → BoundsWithin Sheet k.contents.count (set_in k.contents) k.is.key → key_report text ≡ text
key_again s text k b =
    let o = own_sheet k.contents (fine_table Sheet k.contents k.reads.spelled.fine) k.integers k.satisfied text k.is b in
    let p : PrintedKey text (key_report text) = record {
      contents = o.contents;
      reads = o.reads;
      integers = o.integers;
      satisfied = o.satisfied;
      is = report_some text o.contents o.reads o.integers o.satisfied;
    } in
    sym ((texts_same text text text (key_report text) o p refl refl).0 (λ σ. (λ a. a, λ a. a)))

-- so all that follows of such a text
pub key_made : (s text : List ℕ) (k : PrintedKey s text) → KeyTextMade k.contents k.is.key text
key_made s text k = text_made k.contents (fine_table Sheet k.contents k.reads.spelled.fine) k.integers k.satisfied text k.is (key_again s text k)

-- what is printed is a refusal's text: it is the text's own, or 5 and no integers meet its rules
report_tells : (s : List ℕ) (f : Refusal) → key_report s ≡ refusal_text f → FailsFor Sheet s f ⊎ ((f ≡ NoAssignment) × Unmet s)
unfolding key_report report_of
report_tells s f = go (check_text Sheet s) ((text_means Sheet s (check_text Sheet s)).0 refl)
  where
    table : (c : Contents) → Reads Sheet s c → (b : Bool) → refuted c.count (table_in c) ≡ b
        → table_report c.count (set_in c) (table_in c) ≡ refusal_text f → (f ≡ NoAssignment) × Unmet s
    table c p true h e = (
      sym (refusal_same NoAssignment f (λ z. omega arith) (sym (report_five c h) ∙ e)),
      record { contents = c; reads = p; none = sheet_unmet c (fine_table Sheet c p.spelled.fine) h },
    )
    table c p false h e = absurd (text_unlike c.count (set_in c) (tight_in c) f (sym (report_key c h) ∙ e))

    go : (j : Judged Contents) → Means Sheet s j → report_of j ≡ refusal_text f → FailsFor Sheet s f ⊎ ((f ≡ NoAssignment) × Unmet s)
    go (accepted c u) m e = inr (table c m.0 (refuted c.count (table_in c)) refl e)
    go (refused g) m e = inl (subst (FailsFor Sheet s) (refusal_same g f (fails_number Sheet s g m).1 e) m)

-- it is none: it is the text of the sheet's tightest key
report_key_text : (s : List ℕ) → ((f : Refusal) → key_report s ≡ refusal_text f → ⊥) → PrintedKey s (key_report s)
report_key_text s other = go (check_text Sheet s) ((text_means Sheet s (check_text Sheet s)).0 refl)
  where
    table : (c : Contents) → Reads Sheet s c → (b : Bool) → refuted c.count (table_in c) ≡ b → PrintedKey s (key_report s)
    table c p true h = absurd (other NoAssignment (report_accepted s c p ∙ report_five c h))
    table c p false h =
        let t = fine_table Sheet c p.spelled.fine in
        let w = sheet_some c t h in
        let m = (t.held.meaning w.assignment).0 w.satisfies in
        record { contents = c; reads = p; integers = w.assignment; satisfied = m; is = report_some s c p w.assignment m }

    go : (j : Judged Contents) → Means Sheet s j → PrintedKey s (key_report s)
    go (accepted c u) m = table c m.0 (refuted c.count (table_in c)) refl
    go (refused g) m = absurd (other g (report_refused s g m))

-- only then
key_text_other : (s text : List ℕ) → PrintedKey s text → (f : Refusal) → text ≡ refusal_text f → ⊥
key_text_other s text k f e = text_unlike k.contents.count (set_in k.contents) k.is.key f (sym k.is.written ∙ e)

-- a refusal other than 5, exactly when the text is refused for it
pub refused_exactly : (s : List ℕ) (f : Refusal) → (f ≡ NoAssignment → ⊥) → (key_report s ≡ refusal_text f) ↔ FailsFor Sheet s f
refused_exactly s f other = (λ e. ⊎_elim (λ h. h) (λ u. absurd (other u.0)) (report_tells s f e), report_refused s f)

-- 5, exactly when the text is accepted and no integers meet its rules
pub five_exactly : (s : List ℕ) → (key_report s ≡ refusal_text NoAssignment) ↔ Unmet s
five_exactly s = (
  λ e. ⊎_elim (λ h. absurd ((fails_number Sheet s NoAssignment h).0 refl)) (λ u. u.1) (report_tells s NoAssignment e),
  λ u. report_none s u.contents u.reads u.none,
)

-- the record of the contract, where the text printed is known
pub printed : {s out text : List ℕ} {end : ℕ} {out' : List ℕ} → key_report s ≡ text → Spliced out 0 text end out' → KeyPrinted s out end out'
unfolding tight_own
printed {s} {out} {text} {end} {out'} e w =
    let count : end ≡ length (key_report s) = omega (arith, w.cursor, ap length e) in
    let bytes : out' ≡ key_report s ++ drop (length (key_report s)) out = rw e (w.buffer ∙ splice_start out text) in
    let text : take end out' ≡ key_report s = rw (count, bytes) (take-append_seam (key_report s) (drop (length (key_report s)) out)) in
    let room : end ≤ length out' = omega (arith, ap length bytes, length-append (key_report s) (drop (length (key_report s)) out)) in
    record {
      count = count;
      bytes = bytes;
      room = room;
      front = sym (length-take-le end out' room);
      refused = λ f d. rw text (refused_exactly s f d);
      five = rw text (five_exactly s);
      some = λ c p σ m. rw text (report_some s c p σ m);
      made = key_made s (take end out');
      accepted = (λ h. rw text (report_key_text s (λ f d. h f (text ∙ d))), key_text_other s (take end out'));
      same = λ k s₂ text₂ k₂. texts_same s (take end out') s₂ text₂ k k₂;
      own_key = tight_own s (take end out');
      own_script = λ k w lent enough. own_reply s (take end out') lent (tight_own s (take end out') k w) enough;
    }
