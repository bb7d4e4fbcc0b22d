-- The text of a sheet's tightest key: what it is by its definition, that it is never longer than the longest text written, and that of two sheets it is the same exactly when they allow the same
-- visible integers. Assumes nothing.
use mathlib.Core.Path.{◌≡◌, refl, sym, ◌∙◌, ap}
use mathlib.Core.Bool.{true}
use mathlib.Core.List.{List}
use mathlib.Core.Logic.{◌↔◌}
use Prim.Native.Nat.{ℕ, ◌≤◌, ◌<◌, ◌^◌}
use native.Mathlib.Omega.{arith}
use lib.IntN.{ℤ, pos}
use lib.ListN.{length, take}
use lib.Seq.{take_all}
use Rattle.integers.proofs.Parts.{positive_part, negative_part, word_of, lt_z_true}
use Rattle.integers.proofs.Within.{within_to}
use Rattle.words.specs.Change.{word_at}
use Rattle.places.specs.Numbering.{block_start}
use Rattle.rules.specs.declared.paper.Paper.TheVariants.{Sheet, Script}
use Rattle.rules.specs.Hidden.{hidden_in}
use Rattle.rules.specs.Limits.{no_rule}
use Rattle.rules.specs.Meaning.{Assignment}
use Rattle.tables.specs.Tables.{has_rule}
use Rattle.tables.specs.Meaning.{Satisfies, Satisfiable, Solutions, WordsWithin, BoundsWithin, NoneAbove}
use Rattle.tables.proofs.Lists.{smallest_most}
use Rattle.numerals.specs.Decimal.{signed_decimal}
use Rattle.lines.specs.Spelling.{written_rules}
use Rattle.keys.specs.Keys.{key_of}
use Rattle.keys.specs.Inner.{Fits}
use Rattle.keys.proofs.Visible.{key_rest}
use Rattle.keys.proofs.Deciding.{rest_fits}
use Rattle.tightening.specs.Tightening.{tight_key_of}
use Rattle.tightening.specs.Meaning.{TightKey, SheetsAllowSame}
use Rattle.tightening.specs.Promises.{TightKeyMade}
use Rattle.tightening.proofs.Tight.{tight_solutions, tight_alike}
use Rattle.tightening.proofs.Tight.{alike_same as tables-alike}
use Rattle.tightening.proofs.TightSteps.{tight_length, tightened_within}
use Rattle.tightening.proofs.TightMaking.{tight_made}
use Rattle.reading.specs.Texts.{Contents, sheet_text}
use Rattle.reading.specs.Meaning.{rules_of}
use Rattle.writing.specs.Writing.{rules_at, table_rules, hidden_list, written_text}
use Rattle.writing.specs.Promises.{max_written}
use Rattle.writing.proofs.Lengths.{longest}
use Rattle.writing.proofs.Lines.{word_width, word_short}
use Rattle.writing.proofs.Meanings.{table_meaning}
use Rattle.marking.specs.Meaning.{tight}
use Rattle.scripts.specs.Meaning.{set_in, table_in, OwnKeyText}
use Rattle.scripts.proofs.Alike.{allows, alike_back}
use Rattle.scripts.proofs.Sheets.{FineSheet, fine_table, sheet_ample}
use Rattle.reports.specs.Meaning.{KeyText, PrintedKey}
use Rattle.reports.proofs.KeyTexts.{written_same}

-- the tightest key of the table of contents
abbrev pub tight_in : Contents → List ℤ
tight_in c = tight_key_of (hidden_in (set_in c)) c.count (table_in c)

-- ---- its words

module _ (c : Contents) (s : FineSheet c) where
  pub tight_room : block_start c.count ≤ length (tight_in c)
  tight_room = omega (arith, tight_length (hidden_in (set_in c)) c.count (table_in c), s.size)

  -- the sheet's own are not above the no-rule word
  none_above : NoneAbove (block_start c.count) (table_in c)
  none_above k h = rw (s.held.smallest k h) (smallest_most k (written_rules c.written))

  pub within : WordsWithin (block_start c.count) (pos (2 ^ 63)) (tight_in c)
  unfolding tight_key_of
  within =
      let key = key_of (hidden_in (set_in c)) c.count (table_in c) in
      tightened_within c.count key (rest_fits c.count (set_in c) key (key_rest c.count (set_in c) (table_in c) s.most (omega (arith, s.size)) s.bounds))

  -- the numeral of a bound that fits a word is short
  numeral : (j : ℕ) → j < block_start c.count → j < length (tight_in c) → has_rule (word_at (tight_in c) j) ≡ true
      → length (signed_decimal (word_at (tight_in c) j)) ≤ word_width
  unfolding positive_part negative_part
  numeral j b l e =
      let w = within_to (within.each j b l e) in
      word_short (word_at (tight_in c) j) (word_of (omega (arith, lt_z_true (word_at (tight_in c) j) no_rule e)) (omega (arith, w)))

  -- so the text is never longer than the longest text written
  pub tight_short : length (written_text c.count (set_in c) (tight_in c)) ≤ max_written
  tight_short = longest c.count (set_in c) (tight_in c) word_width s.most numeral

  -- ---- what it is

  module _ (σ₀ : Assignment) (m : rules_of c σ₀) where
    some : Satisfiable c.count (table_in c)
    some = record { assignment = σ₀; satisfies = (s.held.meaning σ₀).1 m }

    pub made : TightKeyMade c.count (set_in c) (table_in c) (tight_in c)
    made = tight_made c.count (set_in c) (table_in c) s.most (omega (arith, s.size)) s.bounds none_above some

    pub tight_text : KeyText c (written_text c.count (set_in c) (tight_in c))
    tight_text = record {
      key = tight_in c;
      tight = tight_solutions (hidden_in (set_in c)) c.count (Satisfies c.count (table_in c)) (rules_of c) (tight_in c) s.held.meaning made.tight;
      written = refl;
    }

-- ---- as a script

-- where its bounds are in a script's range, it is one of the sheet's own keys
unfoldable pub tight_own : (s text : List ℕ) (k : PrintedKey s text) → BoundsWithin Script k.contents.count (set_in k.contents) k.is.key → OwnKeyText s text
tight_own s text k w =
    let c = k.contents in
    let f = fine_table Sheet c k.reads.spelled.fine in
    record {
      contents = c;
      reads = k.reads;
      integers = k.integers;
      satisfied = k.satisfied;
      key = k.is.key;
      table = table_in c;
      held = take_all (block_start c.count) (table_in c) (omega (arith, f.size));
      is = tight
          (tight_solutions (hidden_in (set_in c)) c.count (rules_of c) (Satisfies c.count (table_in c)) k.is.key (alike_back f.held.meaning) k.is.tight) w;
      text = k.is.written;
    }

-- ---- one meaning, one text

-- tables with the same first words have the same text
same_text : (n set : ℕ) (t u : List ℤ) → take (block_start n) t ≡ take (block_start n) u → written_text n set t ≡ written_text n set u
unfolding written_text
same_text n set t u e = ap (λ (front : List ℤ). sheet_text (record { count = n; hiddens = hidden_list n set; written = rules_at 0 front })) e

-- and tables with the same text are satisfied alike
text_satisfies : (n set : ℕ) (t u : List ℤ) → block_start n ≤ length t → block_start n ≤ length u → written_text n set t ≡ written_text n set u
    → (σ : Assignment) → Satisfies n t σ ↔ Satisfies n u σ
unfolding written_text
text_satisfies n set t u l h e σ =
    let rules = written_same n (hidden_list n set) (table_rules n t) (table_rules n u) e in
    let a = table_meaning n t l σ in
    let b = table_meaning n u h σ in
    (λ s. b.1 (rw rules at (a.0 s)), λ s. a.1 (rw (← rules) at (b.0 s)))

-- of two tables whose rules are those of two sheets
module _ (n set : ℕ) (A B : Solutions) (t u v w : List ℤ) (a : (σ : Assignment) → Satisfies n t σ ↔ A σ) (b : (σ : Assignment) → Satisfies n v σ ↔ B σ)
    (x : TightKey (hidden_in set) n A u) (y : TightKey (hidden_in set) n B w) where
  mine : TightKey (hidden_in set) n (Satisfies n t) u
  mine = tight_solutions (hidden_in set) n A (Satisfies n t) u (alike_back a) x

  theirs : TightKey (hidden_in set) n (Satisfies n v) w
  theirs = tight_solutions (hidden_in set) n B (Satisfies n v) w (alike_back b) y

  tables_same : Fits n t → Fits n v → Satisfiable n t → Satisfiable n v → SheetsAllowSame (hidden_in set) A B ↔ (written_text n set u ≡ written_text n set w)
  tables_same f g p q = (
    λ h. same_text n set u w (tight_alike (hidden_in set) n t u v w mine theirs (λ σ. (
      λ d. allows (hidden_in set) (alike_back b) σ ((h σ).0 (allows (hidden_in set) a σ d)),
      λ d. allows (hidden_in set) (alike_back a) σ ((h σ).1 (allows (hidden_in set) b σ d)),
    ))),
    λ e σ. let h = tables-alike (hidden_in set) n t u v w mine theirs f g p q (text_satisfies n set u w x.room y.room e) σ in (
      λ d. allows (hidden_in set) b σ (h.0 (allows (hidden_in set) (alike_back a) σ d)),
      λ d. allows (hidden_in set) a σ (h.1 (allows (hidden_in set) (alike_back b) σ d)),
    ),
  )

-- a sheet over n quantities with a hidden set, its table and its tightest key
record SheetAt (n set : ℕ) (rules : Solutions) (text : List ℕ) : Type 0 where
  table : List ℤ
  key : List ℤ
  held : (σ : Assignment) → Satisfies n table σ ↔ rules σ
  least : TightKey (hidden_in set) n rules key
  fits : Fits n table
  some : Satisfiable n table
  written : text ≡ written_text n set key

sheet_at : (n set : ℕ) (s text : List ℕ) (k : PrintedKey s text) → n ≡ k.contents.count → set ≡ set_in k.contents → SheetAt n set (rules_of k.contents) text
sheet_at n set s text k e f =
    let c = k.contents in
    let t = fine_table Sheet c k.reads.spelled.fine in
    record {
      table = table_in c;
      key = k.is.key;
      held = rw e t.held.meaning;
      least = rw (e, f) k.is.tight;
      fits = rw e (sheet_ample c t);
      some = rw e (some c t k.integers k.satisfied);
      written = rw (e, f) k.is.written;
    }

-- two sheets of equal n and hidden set allow the same visible integers exactly when the texts of their tightest keys are the same
pub texts_same : (s text s₂ text₂ : List ℕ) (k : PrintedKey s text) (k₂ : PrintedKey s₂ text₂) → k.contents.count ≡ k₂.contents.count → set_in k.contents ≡ set_in k₂.contents
    → SheetsAllowSame (hidden_in (set_in k.contents)) (rules_of k.contents) (rules_of k₂.contents) ↔ (text ≡ text₂)
texts_same s text s₂ text₂ k k₂ e f =
    let c = k.contents in
    let a = sheet_at c.count (set_in c) s text k refl refl in
    let b = sheet_at c.count (set_in c) s₂ text₂ k₂ e f in
    let same = tables_same c.count (set_in c) (rules_of c) (rules_of k₂.contents) a.table a.key b.table b.key a.held b.held a.least b.least
    a.fits b.fits a.some b.some in
    (λ h. a.written ∙ same.0 h ∙ sym b.written, λ h. same.1 (sym a.written ∙ h ∙ b.written))
