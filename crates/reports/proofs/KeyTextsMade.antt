-- What follows of the text of a sheet's tightest key. It is never too long for the reader: the sheet's integers satisfy it, so of a term's bound and its opposite's at most one is below 0. So it is
-- refused for a bound that is too large, and not for its length; and with bounds in a sheet's limit it is printed again. Assumes nothing.
use mathlib.Core.Path.{◌≡◌, ◌∙◌}
use mathlib.Core.List.{List}
use Prim.Native.Nat.{ℕ, ◌^◌, ◌≤◌}
use lib.IntN.{pos}
use lib.ListN.{length}
use Rattle.places.specs.Numbering.{block_start}
use Rattle.rules.specs.declared.paper.Paper.{Paper}
use Rattle.rules.specs.declared.paper.Paper.TheVariants.{Sheet}
use Rattle.rules.specs.Hidden.{hidden_in}
use Rattle.rules.specs.Limits.{max_text}
use Rattle.rules.specs.Meaning.{Assignment}
use Rattle.tables.specs.Meaning.{Satisfies, Satisfiable, WordsWithin, BoundsWithin}
use Rattle.keys.proofs.Copying.{same_within}
use Rattle.tightening.specs.Meaning.{TightKey}
use Rattle.tightening.proofs.Tight.{tight_table, tight_only, tight_visible, tight_solutions, tight_meaning}
use Rattle.tightening.proofs.Again.{definition_again, tight_stays}
use Rattle.reading.specs.Texts.{Contents}
use Rattle.reading.specs.Meaning.{rules_of}
use Rattle.writing.specs.Writing.{contents_of}
use Rattle.writing.specs.Promises.{PastLimit, RefusedPast}
use Rattle.writing.proofs.Back.{spells_within, sheet_reads}
use Rattle.writing.proofs.Members.{hidden_back}
use Rattle.writing.proofs.Meanings.{table_meaning}
use Rattle.writing.proofs.Past.{written_past}
use Rattle.writing.proofs.TightLengths.{satisfied_short}
use Rattle.scripts.specs.Meaning.{set_in, table_in}
use Rattle.scripts.proofs.Alike.{alike_back}
use Rattle.scripts.proofs.OwnKeys.{table_spares, key-rules}
use Rattle.scripts.proofs.Sheets.{FineSheet, sheet_ample}
use Rattle.reports.specs.Reports.{key_report}
use Rattle.reports.specs.Meaning.{KeyText, PrintedKey}
use Rattle.reports.specs.Promises.{KeyTextMade}
use Rattle.reports.proofs.TightTexts.{tight_in, within, made}

-- the text of a table that is the tightest key of contents
module _ (c : Contents) (s : FineSheet c) (σ₀ : Assignment) (m : rules_of c σ₀) (text : List ℕ) (k : KeyText c text) where
  -- of the table that holds the rules
  tight : TightKey (hidden_in (set_in c)) c.count (Satisfies c.count (table_in c)) k.key
  tight = tight_solutions (hidden_in (set_in c)) c.count (rules_of c) (Satisfies c.count (table_in c)) k.key (alike_back s.held.meaning) k.tight

  some : Satisfiable c.count (table_in c)
  some = record { assignment = σ₀; satisfies = (s.held.meaning σ₀).1 m }

  -- it has the words that the steps make, so its bounds fit words
  words : WordsWithin (block_start c.count) (pos (2 ^ 63)) k.key
  words =
      same_within c.count (2 ^ 63) (tight_in c) k.key
      (tight_table (hidden_in (set_in c)) c.count (Satisfies c.count (table_in c)) (tight_in c) k.key (made c s σ₀ m).tight tight) (within c s)

  -- what satisfies the sheet satisfies it
  satisfied : Satisfies c.count k.key σ₀
  satisfied = record { each = λ i p. (k.tight.least i p).met σ₀ m }

  short : length text ≤ max_text
  short = rw k.written (satisfied_short c.count k.key σ₀ s.most k.tight.room words satisfied (set_in c))

  past : (paper : Paper) (i : ℕ) → PastLimit paper c.count (set_in c) k.key i → RefusedPast paper c.count (set_in c) k.key text
  past paper i p = rw k.written (written_past c.count (set_in c) k.key s.some s.most s.range paper (rw k.written at short) i p)

  -- as a sheet it has its own rules, of which it is the tightest key
  pub own_sheet : BoundsWithin Sheet c.count (set_in c) k.key → PrintedKey text text
  own_sheet b = record {
    contents = contents_of c.count (set_in c) k.key;
    reads = rw k.written (sheet_reads c.count (set_in c) k.key s.some s.most s.range b);
    integers = σ₀;
    satisfied = (table_meaning c.count k.key k.tight.room σ₀).0 satisfied;
    is = record {
      key = k.key;
      tight = rw (hidden_back c.count (set_in c) s.range)
          (tight_solutions (hidden_in (set_in c)) c.count (Satisfies c.count k.key) (rules_of (contents_of c.count (set_in c) k.key)) k.key
          (table_meaning c.count k.key k.tight.room) (definition_again (hidden_in (set_in c)) c.count (rules_of c) k.key k.tight));
      written = rw (hidden_back c.count (set_in c) s.range) k.written;
    };
  }

  pub text_made : (BoundsWithin Sheet c.count (set_in c) k.key → key_report text ≡ text) → KeyTextMade c k.key text
  text_made again = record {
    only = λ other x. tight_only (hidden_in (set_in c)) c.count (rules_of c) k.key other k.tight x;
    spelled = rw k.written (rw s.back at (spells_within c.count (set_in c) k.key s.some s.most (2 ^ 63) words));
    visible = λ q h. table_spares c.count (hidden_in (set_in c)) k.key (tight_visible (hidden_in (set_in c)) c.count (rules_of c) k.key k.tight) q (s.members q ∙ h);
    meaning = key-rules c s k.key k.tight.room (tight_meaning (hidden_in (set_in c)) c.count (table_in c) k.key tight (sheet_ample c s) some);
    stays = tight_stays (hidden_in (set_in c)) c.count (rules_of c) k.key k.tight;
    short = short;
    past = past;
    again = again;
  }
