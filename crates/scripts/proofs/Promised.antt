-- What marking two texts promises, from what its steps answer. Assumes nothing.
use Rattle.std.specs.Prelude.{Ok, Err}
use mathlib.Core.Path.{◌≡◌, refl, sym, ◌∙◌, ap, subst}
use mathlib.Core.Bool.{Bool, true, false}
use mathlib.Core.List.{List, ◌++◌}
use Prim.Native.Nat.{ℕ, ◌≤◌}
use lib.IntN.{ℤ}
use lib.ListN.{length, take, drop}
use lib.Seq.{take-append_seam}
use Rattle.places.specs.Numbering.{block_start}
use Rattle.rules.specs.declared.paper.Paper.{Paper}
use Rattle.rules.specs.declared.paper.Paper.TheVariants.{Sheet, Script}
use Rattle.rules.specs.declared.refusal.Refusal.{Refusal}
use Rattle.rules.specs.Hidden.{hidden_in}
use Rattle.rules.specs.Limits.{max_quantities}
use Rattle.tables.specs.Replies.{Reply}
use Rattle.tables.specs.Tables.{table_names_hidden}
use Rattle.keys.proofs.Promised.{untouched}
use Rattle.lines.specs.Lines.{Judged, accepted, refused}
use Rattle.reading.specs.Texts.{Contents, header_text}
use Rattle.reading.specs.Meaning.{Reads}
use Rattle.reading.specs.declared.check.Passed.{Passed}
use Rattle.reading.specs.Reading.{Checked, check_text, checked_of, filled}
use Rattle.reading.specs.Promises.{TextChecked}
use Rattle.reading.proofs.Means.{reads_check}
use Rattle.reading.proofs.CheckedTexts.{checked_passes}
use Rattle.scripts.specs.declared.room.Lengths.{Lengths}
use Rattle.scripts.specs.declared.pair.Pair.{Pair}
use Rattle.scripts.specs.declared.reply.Subject.{Subject}
use Rattle.scripts.specs.Replies.{TextMarking, refused_for}
use Rattle.scripts.specs.Meaning.{lengths_of, set_in, table_in}
use Rattle.scripts.specs.Marking.{pair_reply, texts_reply}
use Rattle.scripts.specs.Inner.{PairChecked, first_checks, passed_or, checked_pair, PassedPair, TablesFilled, FilledMarked}
use Rattle.scripts.specs.Promises.{TextsMarked}
use Rattle.scripts.proofs.Sheets.{fine_table}
use Rattle.scripts.proofs.Rooms.{room_roomy, headers_same, first_tells, first_refused}
use Rattle.scripts.proofs.Judging.{accepted_reads, refused-accepted, texts_judged}
use Rattle.scripts.proofs.Pairs.{pair-reply, tables_filled, tables_marked, named_marked}

-- a text that passed has an n in its range
pub passed_range : (paper : Paper) {s : List ℕ} {r : Checked} {p : Passed} → TextChecked paper s r → r ≡ Ok p
    → (1 ≤ p.quantities) × (p.quantities ≤ max_quantities)
passed_range paper {s} {r} {p = h} t e =
    let p = checked_passes paper s r t.reply h e in
    let f = fine_table paper p.contents p.reads.spelled.fine in
    rw p.counts (f.some, f.most)

-- ---- both texts checked, with what is lent

-- what the answer tells
abbrev pub PairTells : List ℕ → List ℕ → Lengths → PairChecked → Type 0
PairTells sheet script lent (Ok p) = PassedPair sheet script lent p
PairTells sheet script lent (Err r) = texts_reply sheet script lent ≡ Err r

-- of a fine text the header, and where its rule lines begin
abbrev passed_of : Contents → Passed
passed_of c = record { quantities = c.count; hidden = set_in c; rules = length c.written; body = length (header_text c) }

-- two texts that are fine by themselves
module _ (sheet script : List ℕ) (lent : Lengths) (c d : Contents) (p : Reads Sheet sheet c) (q : Reads Script script d) where
  -- the answer where their other checks are done
  abbrev pair_of : Pair
  pair_of = record { sheet = passed_of c; script = passed_of d }

  fine_tell : PairTells sheet script lent (passed_or (first_checks c.count (set_in c) d.count (set_in d) lent) pair_of)
  fine_tell = go (first_checks c.count (set_in c) d.count (set_in d) lent) refl
    where
      go : (r : Reply) → first_checks c.count (set_in c) d.count (set_in d) lent ≡ r → PairTells sheet script lent (passed_or r pair_of)
      go (Ok tt) e =
          let t = first_tells c.count lent (set_in c) d.count (set_in d) e in
          record {
            of_sheet = record { contents = c; reads = p; counts = refl; hides = refl; rules = refl; begins = refl };
            of_script = record { contents = d; reads = q; counts = refl; hides = refl; rules = refl; begins = refl };
            counts = sym t.1;
            sets = sym t.2;
            room = t.0;
          }
      go (Err f) e = pair-reply sheet script c d p q lent ∙ rw (first_refused c d lent f e)

pair_tells : (sheet script : List ℕ) (lent : Lengths)
    → PairTells sheet script lent (checked_pair (checked_of (check_text Sheet sheet)) (checked_of (check_text Script script)) lent)
unfolding checked_pair checked_of texts_reply pair_reply
pair_tells sheet script lent = go (check_text Sheet sheet) refl (check_text Script script) refl
  where
    go : (x : Judged Contents) → check_text Sheet sheet ≡ x → (y : Judged Contents) → check_text Script script ≡ y
        → PairTells sheet script lent (checked_pair (checked_of x) (checked_of y) lent)
    go (refused f) e y d = rw e
    go (accepted c u) e (refused f) d = rw (e, d)
    go (accepted c u) e (accepted i z) d = fine_tell sheet script lent c i (accepted_reads Sheet e) (accepted_reads Script d)

-- the answer of checking them tells so
pub pair_told : (sheet script : List ℕ) (lent : Lengths) {r x : PairChecked}
    → r ≡ checked_pair (checked_of (check_text Sheet sheet)) (checked_of (check_text Script script)) lent → r ≡ x → PairTells sheet script lent x
pair_told sheet script lent e d = subst (PairTells sheet script lent) (sym e ∙ d) (pair_tells sheet script lent)

-- ---- refused

-- nothing is changed
pub refused_marked : {sheet script : List ℕ} {a b w v : List ℤ} {p : Subject} {f : Refusal}
    → PairTells sheet script (lengths_of a b w v) (refused_for p f) → TextsMarked sheet script a b w v (refused_for p f) a b w v
refused_marked {sheet} {script} {a} {b} {w} {v} {p} {f} t = record {
  judged = texts_judged sheet script _ (refused_for p f) v (sym t) (λ x. refused-accepted sheet script _ p f t x);
  sheet_lent = untouched _ _ a;
  script_lent = untouched _ _ b;
  workspace_lent = untouched _ _ w;
  written = untouched _ _ v;
}

-- ---- marked

-- the table that a text fills is the front of what it fills
filled_front : (paper : Paper) (s : List ℕ) (c : Contents) (t t' : List ℤ) (k : ℕ) → Reads paper s c → t' ≡ filled (check_text paper s) t
    → length (table_in c) ≡ k → (t' ≡ table_in c ++ drop (block_start c.count) t) × (take k t' ≡ table_in c)
unfolding filled
filled_front paper s c t t' k p e f =
    let g : t' ≡ table_in c ++ drop (block_start c.count) t = e ∙ rw (reads_check paper s c p) in
    (g, rw (g, sym f) (take-append_seam (table_in c) (drop (block_start c.count) t)))

module _ {sheet script : List ℕ} {lent : Lengths} {p : Pair} (x : PassedPair sheet script lent p) where
  -- the checks before the tables are filled are done
  passed_first : first_checks x.of_sheet.contents.count (set_in x.of_sheet.contents) x.of_script.contents.count (set_in x.of_script.contents) lent ≡ Ok tt
  passed_first =
      rw (← x.of_sheet.counts, ← x.of_sheet.hides, ← x.of_script.counts, ← x.of_script.hides)
      (sym (headers_same p.sheet.quantities lent p.sheet.hidden p.script.quantities p.script.hidden (room_roomy p.sheet.quantities lent x.room)
      (sym x.counts) (sym x.sets)))

-- texts that passed, with both tables filled
pub record FilledPair (sheet script : List ℕ) (a b w v : List ℤ) (p : Pair) (a' b' : List ℤ) : Type 0 where
  pub passed : PassedPair sheet script (lengths_of a b w v) p
  pub sheet-filled : a' ≡ filled (check_text Sheet sheet) a
  pub script-filled : b' ≡ filled (check_text Script script) b

module _ {sheet script : List ℕ} {a b w v : List ℤ} {p : Pair} {a' b' : List ℤ} (x : FilledPair sheet script a b w v p a' b') where
  -- what the texts write
  abbrev c : Contents
  c = x.passed.of_sheet.contents

  abbrev d : Contents
  d = x.passed.of_script.contents

  -- the front of each table
  sheet_front : (a' ≡ table_in c ++ drop (block_start c.count) a) × (take (block_start c.count) a' ≡ table_in c)
  sheet_front =
      let t = x.passed.of_sheet in
      filled_front Sheet sheet c a a' (block_start c.count) t.reads x.sheet-filled (fine_table Sheet c t.reads.spelled.fine).size

  script_front : (b' ≡ table_in d ++ drop (block_start d.count) b) × (take (block_start c.count) b' ≡ table_in d)
  script_front =
      let t = x.passed.of_script in
      filled_front Script script d b b' (block_start c.count) t.reads x.script-filled
      ((fine_table Script d t.reads.spelled.fine).size ∙ ap block_start (sym t.counts ∙ x.passed.counts ∙ x.passed.of_sheet.counts))

  -- they need no more checks but of the script's names
  pub filled_tables : TablesFilled p.sheet.quantities p.sheet.hidden (take (block_start p.sheet.quantities) a') (take (block_start p.sheet.quantities) b')
      (length w) (length v)
  filled_tables =
      rw (x.passed.of_sheet.counts, x.passed.of_sheet.hides, sheet_front.1, script_front.1)
      (tables_filled sheet script a b w v c d x.passed.of_sheet.reads x.passed.of_script.reads (passed_first x.passed))

  -- and how they are marked is how the texts are
  pub filled_marked : {r : TextMarking} {w' v' : List ℤ}
      → FilledMarked p.sheet.quantities p.sheet.hidden (take (block_start p.sheet.quantities) a') (take (block_start p.sheet.quantities) b') w v r w' v'
      → TextsMarked sheet script a b w v r a' b' w' v'
  filled_marked {r} {w'} {v'} g =
      go (table_names_hidden (hidden_in (set_in c)) c.count (table_in d)) refl
      (rw (x.passed.of_sheet.counts, x.passed.of_sheet.hides, sheet_front.1, script_front.1) at g)
    where
      go : (named : Bool) → table_names_hidden (hidden_in (set_in c)) c.count (table_in d) ≡ named
          → FilledMarked c.count (set_in c) (table_in c) (table_in d) w v r w' v' → TextsMarked sheet script a b w v r a' b' w' v'
      go true e m =
          let z = m.named e in
          rw (z.reply, z.workspace_kept, z.values_kept)
          (named_marked sheet script a b w v c d x.passed.of_sheet.reads x.passed.of_script.reads (passed_first x.passed) a' b'
          sheet_front.0 script_front.0 e)
      go false e m =
          let z = m.visible e in
          rw z.reply
          (tables_marked sheet script a b w v c d x.passed.of_sheet.reads x.passed.of_script.reads (passed_first x.passed) a' b'
          sheet_front.0 script_front.0 w' v' e z.verdict z.given)
