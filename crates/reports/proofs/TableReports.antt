-- What the tight key call and the writer answer for a sheet's table: the call refuses with 5 alone, and its key can be written. Assumes nothing.
use Rattle.std.specs.Prelude.{Ok, Err}
use mathlib.Core.Path.{◌≡◌, refl, sym, ◌∙◌, ap}
use mathlib.Core.Bool.{Bool, true, false, not}
use mathlib.Core.List.{List}
use Prim.Native.Nat.{ℕ, ◌*◌, ◌≤◌}
use native.Mathlib.Omega.{arith}
use lib.IntN.{ℤ}
use lib.ListN.{length}
use Rattle.rules.specs.declared.paper.Paper.TheVariants.{Sheet}
use Rattle.rules.specs.declared.refusal.Refusal.{Refusal}
use Rattle.rules.specs.declared.refusal.Refusal.TheVariants.{NoAssignment}
use Rattle.rules.specs.Hidden.{hidden_in, set_within}
use Rattle.rules.specs.Limits.{max_quantities}
use Rattle.tables.specs.Tables.{serves}
use Rattle.tables.proofs.Sizes.{small_start, long_serves}
use Rattle.tables.proofs.Tests.{refused_done}
use Rattle.tables.specs.Replies.{Reply, check}
use Rattle.keys.specs.Keys.{refuted}
use Rattle.tightening.specs.Tightening.{tight_key_of}
use Rattle.tightening.specs.Promises.{TightKeyed}
use Rattle.keys.proofs.Promised.{key_late}
use Rattle.numerals.specs.Writing.{Spliced}
use Rattle.numerals.proofs.Splices.{splice_start}
use Rattle.writing.specs.Writing.{Writing, written_text, writing_number}
use Rattle.writing.specs.Promises.{max_written, TextWritten}
use Rattle.writing.proofs.Promised.{reply_text, number_output}
use Rattle.reports.specs.Refusals.{refusal_text}
use Rattle.reports.specs.Reports.{table_report}
use Rattle.reports.specs.Inner.{SheetTable}
use Rattle.scripts.specs.Meaning.{set_in, table_in}
use Rattle.scripts.proofs.Sheets.{FineSheet, fine_table, table_sized}
use Rattle.reports.proofs.Reports.{table_length}
use Rattle.reports.proofs.TightTexts.{tight_in, tight_room}

-- ---- the writer, where it can write

-- a table written where it serves, its hidden set is in its range, and the output has room
module _ {n set : ℕ} {t : List ℤ} {out : List ℕ} {r : Writing} {out' : List ℕ} (w : TextWritten n set t out r out')
    (p : (serves n (length t) ≡ true) × (set_within n set ≡ true)) (h : length (written_text n set t) ≤ length out) where
  -- the reply is the text's length
  pub replied : r ≡ Ok (length (written_text n set t))
  replied = w.reply ∙ sym (reply_text n set t (length out) (length (written_text n set t)) p.0 p.1 refl h)

  -- its text stands at the start
  pub text_spliced : (m : ℕ) → m ≡ length (written_text n set t) → Spliced out 0 (written_text n set t) m out'
  text_spliced m e = record {
    cursor = omega arith;
    buffer = w.bytes ∙ number_output n set t out (ap writing_number (sym w.reply ∙ replied)) ∙ sym (splice_start out (written_text n set t));
  }

-- ---- a sheet's table

-- its report is never longer than the longest text written
pub report_room : {n set : ℕ} {t : List ℤ} → SheetTable n set t → length (table_report n set t) ≤ max_written
report_room s = rw (s.counts, s.hides, s.holds) (table_length s.contents (fine_table Sheet s.contents s.fine))

-- ---- the tight key call on it, with a workspace for every table

module _ {n set : ℕ} {t w : List ℤ} {r : Reply} {t' w' : List ℤ} (k : TightKeyed n set t w r t' w') (s : SheetTable n set t)
    (h : 2 * (max_quantities * max_quantities) ≤ length w) where
  -- the sheet's table is fine
  fine : FineSheet s.contents
  fine = fine_table Sheet s.contents s.fine

  -- its checks before 5 pass
  replied_key : r ≡ check (not (refuted n t)) NoAssignment (Ok tt)
  replied_key =
      let c = s.contents in
      k.keyed.reply ∙ rw (s.counts, s.hides, s.holds)
      (key_late c.count (set_in c) (table_in c) (length w)
      (table_sized Sheet c fine, (omega (arith, small_start c.count fine.most), ((fine.range, fine.bounds), tt))))

  decided : (b : Bool) → check (not b) NoAssignment (Ok tt) ≡ Ok tt → b ≡ false
  decided true e = absurd (refused_done e)
  decided false e = refl

  refused_five : (b : Bool) (f : Refusal) → check (not b) NoAssignment (Ok tt) ≡ Err f → (b ≡ true) × (f ≡ NoAssignment)
  refused_five true f e = (refl, cc)
  refused_five false f e = absurd (refused_done (sym e))

  -- done: the table is the key
  keyed : r ≡ Ok tt → t' ≡ tight_key_of (hidden_in set) n t
  keyed e = k.keyed.words ∙ rw e

  -- which can be written
  pub key_serves : r ≡ Ok tt → (serves n (length t') ≡ true) × (set_within n set ≡ true)
  key_serves e =
      let c = s.contents in
      rw (keyed e, s.counts, s.hides, s.holds)
      (long_serves c.count (length (tight_in c)) fine.some fine.most (tight_room c fine), fine.range)

  -- and its text is what is printed
  pub report_done : r ≡ Ok tt → table_report n set t ≡ written_text n set t'
  unfolding table_report
  report_done e = rw (decided (refuted n t) (sym replied_key ∙ e), keyed e)

  -- refused: what is printed is the refusal
  pub report_refusal : (f : Refusal) → r ≡ Err f → table_report n set t ≡ refusal_text f
  unfolding table_report
  report_refusal f e = let d = refused_five (refuted n t) f (sym replied_key ∙ e) in rw (d.0, d.1)
