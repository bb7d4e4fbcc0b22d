-- What reading a text into the largest table leaves: a sheet's table where it is accepted; where not, the refusal is the text's own. Assumes nothing.
use Rattle.std.specs.Prelude.{Ok, Err}
use mathlib.Core.Path.{◌≡◌, sym, ◌∙◌, ap}
use mathlib.Core.List.{List, ◌++◌}
use mathlib.Core.Logic.{⊎_elim}
use Prim.Native.Nat.{ℕ, ◌*◌, ◌≤◌}
use native.Mathlib.Omega.{arith}
use lib.IntN.{ℤ}
use lib.ListN.{length, take, drop, length-append}
use lib.Seq.{take_at}
use Rattle.places.specs.Numbering.{block_start}
use Rattle.rules.specs.declared.paper.Paper.TheVariants.{Sheet as OfSheet}
use Rattle.rules.specs.declared.refusal.Refusal.{Refusal}
use Rattle.rules.specs.declared.sheet.Sheet.{Sheet}
use Rattle.rules.specs.Hidden.{set_of}
use Rattle.rules.specs.Limits.{max_quantities}
use Rattle.tables.specs.Tables.{table_size}
use Rattle.tables.proofs.Sizes.{small_start, size_whole}
use Rattle.reading.specs.Texts.{Contents}
use Rattle.reading.specs.Meaning.{Reads, Readable, FailsFor}
use Rattle.reading.specs.Reading.{Reading, reading_returned}
use Rattle.reading.specs.Promises.{ReadInto}
use Rattle.reports.specs.Reports.{table_report, key_report}
use Rattle.reports.specs.Inner.{SheetTable}
use Rattle.scripts.specs.Meaning.{table_in}
use Rattle.scripts.proofs.Sheets.{fine_table}
use Rattle.reports.proofs.Reports.{report_accepted}

-- ---- accepted

-- a text accepted, its first m words being those of its table
pub record FrontRead (s : List ℕ) (n set m : ℕ) (table : List ℤ) : Type 0 where
  pub contents : Contents
  pub reads : Reads OfSheet s contents
  pub counts : n ≡ contents.count
  pub hides : set ≡ set_of contents.hiddens
  pub enough : m ≤ length table
  pub first : take m table ≡ table_in contents

-- as reading leaves it
pub table_read : {s : List ℕ} {t t' : List ℤ} {r : Reading} {x : Sheet} {m : ℕ} → ReadInto s t r t' → r ≡ Ok x → m ≡ table_size x.quantities
    → FrontRead s x.quantities x.hidden m t'
table_read {s} {t} {t'} {r} {x} {m} i e z =
    let a = (i.accepted x.quantities x.hidden).0 (ap reading_returned e) in
    let c = a.contents in
    let f = fine_table OfSheet c a.reads.spelled.fine in
    let rest = drop (block_start c.count) t in
    let size : m ≡ length (table_in c) = z ∙ ap table_size a.counts ∙ size_whole c.count f.most ∙ sym f.size in
    let words : t' ≡ table_in c ++ rest = (i.read c a.reads a.enough).filled in
    record {
      contents = c;
      reads = a.reads;
      counts = a.counts;
      hides = a.hides;
      enough = omega (arith, ap length words, length-append (table_in c) rest);
      first = rw words (take_at (table_in c) rest m (sym size));
    }

-- these words are a sheet's table
pub sheet-table : {s : List ℕ} {n set m : ℕ} {t : List ℤ} → FrontRead s n set m t → SheetTable n set (take m t)
sheet-table a = record { contents = a.contents; fine = a.reads.spelled.fine; counts = a.counts; hides = a.hides; holds = a.first }

-- whose report is printed
pub report_table : {s : List ℕ} {n set m : ℕ} {t : List ℤ} → FrontRead s n set m t → key_report s ≡ table_report n set (take m t)
report_table {s} a = report_accepted s a.contents a.reads ∙ rw (a.counts, a.hides, a.first)

-- ---- refused

-- the table is long enough, so it is for the text itself
pub text_fails : {s : List ℕ} {t t' : List ℤ} {r : Reading} {f : Refusal} → ReadInto s t r t' → r ≡ Err f
    → 2 * (max_quantities * max_quantities) ≤ length t → FailsFor OfSheet s f
text_fails {s} {t} {t'} {r} {f} i e h = ⊎_elim (λ a. a) (λ b. ⊎_elim (λ x. absurd (x.0 (long b.0))) (λ x. absurd x.1) b.1)
    ((i.refused f).0 (ap reading_returned e))
  where
    long : (b : Readable OfSheet s) → block_start b.contents.count ≤ length t
    long b = let c = b.contents in omega (arith, small_start c.count (fine_table OfSheet c b.reads.spelled.fine).most)
