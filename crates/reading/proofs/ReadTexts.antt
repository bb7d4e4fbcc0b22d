-- Each way of reading a text that was checked into a table: it was refused, the table is too short, or it is filled; and so of reading it. Assumes nothing.
use mathlib.Core.Path.{◌≡◌, refl, ◌∙◌, ap, subst}
use mathlib.Core.Bool.{cond}
use mathlib.Core.List.{List}
use Rattle.std.specs.Prelude.{Ok, Err}
use Prim.Native.Nat.{ℕ, ◌≤◌, ◌<◌}
use lib.IntN.{ℤ}
use lib.ListN.{length}
use borrow.Author.Tests.{le-leb, lt-ltb, le-ltb}
use Rattle.places.specs.Numbering.{block_start}
use Rattle.rules.specs.declared.paper.Paper.TheVariants.{Sheet}
use Rattle.rules.specs.declared.refusal.Refusal.{Refusal}
use Rattle.rules.specs.declared.refusal.Refusal.TheVariants.{TooShort}
use Rattle.rules.specs.Limits.{max_quantities}
use Rattle.tables.specs.Tables.{table_size}
use Rattle.lines.specs.Lines.{Judged, accepted, refused}
use Rattle.reading.specs.declared.check.Passed.{Passed}
use Rattle.reading.specs.Texts.{Contents}
use Rattle.reading.specs.Reading.{Checked, Reading, sheet_of, check_text, checked_of, reply_to, read_reply, filled, is_accepted, read_table, reply_after, table_after}
use Rattle.reading.specs.Meaning.{Passes}
use Rattle.reading.specs.Promises.{Vouched, CheckedRead, ReadInto}
use Rattle.reading.proofs.CheckedTexts.{checked_passes}
use Rattle.reading.proofs.Promised.{read_promised}
use Rattle.reading.proofs.Headers.{passed_opened}

-- ---- a text that was checked

-- it was refused
pub read_refused : (s : List ℕ) (t : List ℤ) (r : Checked) (f : Refusal) → r ≡ Err f → CheckedRead s r t (Err f) t
unfolding reply_after table_after
read_refused s t r f q = record { reply = rw q; words = rw q }

module _ (s : List ℕ) (r : Checked) (p : Passed) (needed : ℕ) (q : r ≡ Ok p) (v : Vouched s r) (k : needed ≡ table_size p.quantities) where
  -- it passed
  pub passes : Passes Sheet s p.quantities p.hidden p.rules p.body
  passes = subst (Vouched s) q v

  -- the words that are needed are those of the table
  size_is : needed ≡ block_start p.quantities
  unfolding table_size
  size_is = let o = passed_opened Sheet s p.quantities p.hidden p.rules p.body passes in
      k ∙ rw (le-leb 1 p.quantities o.some, le-leb p.quantities max_quantities o.most)

  -- there is room
  pub room : (words : ℕ) → needed ≤ words → block_start p.quantities ≤ words
  room words l = rw (← size_is) l

  -- the table is too short
  pub read_short : (t : List ℤ) → length t < needed → CheckedRead s r t (Err (TooShort needed)) t
  unfolding reply_after table_after
  read_short t l = record { reply = rw (q, ← size_is, lt-ltb (length t) needed l); words = rw (q, ← size_is, lt-ltb (length t) needed l) }

  -- it is filled
  pub read_done : (t u : List ℤ) → needed ≤ length t → u ≡ filled (check_text Sheet s) t → CheckedRead s r t (Ok (sheet_of p.quantities p.hidden)) u
  unfolding reply_after table_after
  read_done t u l e = record { reply = rw (q, ← size_is, le-ltb (length t) needed l); words = rw (q, ← size_is, le-ltb (length t) needed l) e }

-- ---- a text that is read

-- a check that answers what the text writes may be relied on
pub checked_vouched : (s : List ℕ) (r : Checked) → r ≡ checked_of (check_text Sheet s) → Vouched s r
checked_vouched s (Ok p) e = checked_passes Sheet s (Ok p) e p refl
checked_vouched s (Err f) e = tt

-- the reply by what the check has told is that by what the text writes
pub reply_told : (words : ℕ) (j : Judged Contents) → reply_after words (checked_of j) ≡ reply_to words j
unfolding reply_after checked_of reply_to
reply_told words (accepted c u) = refl
reply_told words (refused f) = refl

-- so the text is read
pub read_whole : (s : List ℕ) (t : List ℤ) (c : Checked) (r : Reading) (u : List ℤ) → c ≡ checked_of (check_text Sheet s) → CheckedRead s c t r u → ReadInto s t r u
unfolding read_reply read_table table_after
read_whole s t c r u e p = read_promised s t r u (p.reply ∙ same) (p.words ∙ ap (λ (x : Reading). cond (is_accepted x) (filled (check_text Sheet s) t) t) same)
  where
    same : reply_after (length t) c ≡ reply_to (length t) (check_text Sheet s)
    same = ap (reply_after (length t)) e ∙ reply_told (length t) (check_text Sheet s)
