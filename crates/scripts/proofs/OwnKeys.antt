-- The text of a sheet's own key, plain or tight, read as its script, is accepted and found equal: every line of it is fine in a script's limit, it is not too long, it names no hidden quantity,
-- and by demand 2 its rules allow what the sheet allows. Assumes nothing.
use Rattle.std.specs.Prelude.{Ok}
use Rattle.scripts.specs.Replies.{marked}
use mathlib.Core.Path.{◌≡◌, refl, sym, ◌∙◌}
use mathlib.Core.Bool.{Bool, true, false, cond}
use mathlib.Core.List.{List, [], ◌∷◌}
use Prim.Native.Nat.{ℕ, suc, ◌+◌, ◌≤◌, ◌<◌}
use native.Mathlib.Nat.{add-zero, zero-add, add-suc, suc-add}
use native.Mathlib.Omega.{arith}
use lib.IntN.{ℤ}
use lib.ListN.{length, take}
use lib.Seq.{take_all}
use Rattle.words.specs.Change.{word_at}
use Rattle.places.specs.Numbering.{block_start}
use Rattle.places.proofs.Numbering.{block_start_mono}
use Rattle.rules.specs.declared.paper.Paper.TheVariants.{Sheet, Script}
use Rattle.rules.specs.Hidden.{hidden_in}
use Rattle.rules.specs.Limits.{max_quantities}
use Rattle.rules.specs.Meaning.{names}
use Rattle.tables.specs.Places.{rule_at}
use Rattle.tables.specs.Tables.{has_rule}
use Rattle.tables.specs.Meaning.{HoldsRule, rule_in, Satisfies, NamesVisible, NoneNames, KeyLike}
use Rattle.tables.proofs.Tests.{clash}
use Rattle.lines.specs.Spelling.{written_rules}
use Rattle.reading.specs.Texts.{Contents}
use Rattle.reading.specs.Meaning.{Reads, rules_of}
use Rattle.reading.proofs.Means.{reads_check}
use Rattle.writing.specs.Writing.{written_of, rules_at, table_rules, written_text}
use Rattle.writing.proofs.Meanings.{written-rule, table_meaning}
use Rattle.writing.proofs.Meanings.{front_word as written-word}
use Rattle.writing.proofs.Back.{key_reads as written-key}
use Rattle.marking.specs.declared.verdict.Verdict.TheVariants.{Equal}
use Rattle.keys.specs.Meaning.{SheetAccepted}
use Rattle.marking.specs.Meaning.{AllowSame, KeyOfSheet}
use Rattle.marking.specs.Marking.{verdict_of}
use Rattle.marking.specs.Inner.{TablesAccepted}
use Rattle.marking.proofs.Checking.{met_accepted}
use Rattle.marking.proofs.Demand.{verdict_demand}
use Rattle.marking.proofs.OwnKeys.{is_equal, answer_room, answer_like, answer_allows, key_of_copy}
use Rattle.scripts.specs.declared.room.Lengths.{Lengths}
use Rattle.scripts.specs.Meaning.{set_in, table_in, own_lengths, Matches, Room, OwnKeyText}
use Rattle.scripts.specs.Marking.{pair_checks, pair_reply, texts_reply}
use Rattle.scripts.proofs.Sheets.{FineTable, FineSheet, fine_table, table_sized}
use Rattle.scripts.proofs.Matching.{matches_visible}
use Rattle.scripts.proofs.Rooms.{pair_tied}
use Rattle.scripts.proofs.Alike.{alike_back, alike_same}

-- the contents that the text of a key has
abbrev pub key_contents : Contents → List ℤ → Contents
key_contents c u = record { count = c.count; hiddens = c.hiddens; written = table_rules c.count u }

-- ---- no rule names a hidden quantity

-- no word that holds a rule has one that names q, the first being the word of place k
abbrev EachSpares : ℕ → ℕ → List ℤ → Type 0
EachSpares q k t = (j : ℕ) → j < length t → has_rule (word_at t j) ≡ true → names q (rule_at (k + j) (word_at t j)) ≡ false

-- then none of the rules that words hold names it
words_spare : (q k : ℕ) (t : List ℤ) → EachSpares q k t → NoneNames q (written_rules (rules_at k t))
unfolding rules_at
words_spare q k [] f = tt
words_spare q k (w ∷ t) f = go (words_spare q (suc k) t (λ j l e. rw (suc-add k j, ← add-suc k j) (f (suc j) (omega arith) e))) (has_rule w) refl
  where
    go : NoneNames q (written_rules (rules_at (suc k) t)) → (b : Bool) → has_rule w ≡ b
        → NoneNames q (written_rules (cond b (written_of (rule_at k w) ∷ rules_at (suc k) t) (rules_at (suc k) t)))
    go ih true e = (rw (written-rule (rule_at k w), ← add-zero k) (f 0 (omega arith) e), ih)
    go ih false e = ih

-- the rules of a table that names visible quantities alone name no hidden one
pub table_spares : (n : ℕ) (hidden : ℕ → Bool) (t : List ℤ) → NamesVisible n hidden t → (q : ℕ) → hidden q ≡ true
    → NoneNames q (written_rules (table_rules n t))
table_spares n hidden t v q h = words_spare q 0 (take (block_start n) t) each
  where
    spared : (k : ℕ) → HoldsRule n t k → (b : Bool) → names q (rule_in t k) ≡ b → b ≡ false
    spared k p true e = clash h (v.each k p q e)
    spared k p false e = refl

    each : EachSpares q 0 (take (block_start n) t)
    each k l e =
        let w = written-word (block_start n) t k l in
        rw (zero-add k, w.2) (spared k (record { inside = w.0; there = w.1; rule = rw w.2 at e }) (names q (rule_in t k)) refl)

-- ---- a table like a key of the sheet

module _ (c : Contents) (s : FineSheet c) (u : List ℤ) (room : block_start c.count ≤ length u) (like : KeyLike c.count (set_in c) u) where
  -- its text is fine as a script,
  pub key_reads : Reads Script (written_text c.count (set_in c) u) (key_contents c u)
  key_reads = rw s.back at (written-key c.count (set_in c) u s.some s.most s.range room like)

  -- no rule of it names a hidden quantity,
  key_spares : (q : ℕ) → hidden_in (set_in c) q ≡ true → NoneNames q (written_rules (table_rules c.count u))
  key_spares = table_spares c.count (hidden_in (set_in c)) u like.visible

  -- so it fits its sheet
  key_matches : Matches c (key_contents c u)
  key_matches = record { count = refl; hiddens = refl; visible = λ q e. key_spares q (s.members q ∙ e) }

-- the rules that it writes allow what the table does
pub key-rules : (c : Contents) (s : FineSheet c) (u : List ℤ) → block_start c.count ≤ length u
    → AllowSame (hidden_in (set_in c)) (Satisfies c.count (table_in c)) (Satisfies c.count u) → AllowSame (hidden_in (set_in c)) (rules_of c) (rules_of (key_contents c u))
key-rules c s u room a = alike_same (hidden_in (set_in c)) s.held.meaning (table_meaning c.count u room) a

-- ---- the reply

module _ (sheet script : List ℕ) (lent : Lengths) (k : OwnKeyText sheet script) (room : Room k.contents.count lent) where
  abbrev c : Contents
  c = k.contents

  abbrev d : Contents
  d = key_contents k.contents k.key

  fine : FineSheet c
  fine = fine_table Sheet c k.reads.spelled.fine

  accepted : SheetAccepted c.count (set_in c) (table_in c)
  accepted = record {
    sized = table_sized Sheet c fine;
    within = (fine.range, fine.bounds);
    some = record { assignment = k.integers; satisfies = (fine.held.meaning k.integers).1 k.satisfied };
  }

  own : KeyOfSheet c.count (set_in c) (table_in c) k.key
  own =
      key_of_copy c.count (set_in c) (table_in c) k.table k.key accepted.sized.room
      (k.held ∙ sym (take_all (block_start c.count) (table_in c) (omega (arith, fine.size)))) k.is

  there : block_start c.count ≤ length k.key
  there = answer_room c.count (set_in c) (table_in c) k.key accepted own

  like : KeyLike c.count (set_in c) k.key
  like = answer_like c.count (set_in c) (table_in c) k.key accepted own

  script_reads : Reads Script script d
  script_reads = rw k.text (key_reads c fine k.key there like)

  written : FineTable Script d
  written = fine_table Script d script_reads.spelled.fine

  -- its table is accepted
  own_tables : TablesAccepted c.count (set_in c) (table_in c) (table_in d) lent.workspace lent.values
  own_tables =
      met_accepted c.count (set_in c) (table_in c) (table_in d) lent.workspace lent.values (
        (table_sized Sheet c fine, table_sized Script d written),
        (room.workspace_room, (room.values_room, (((fine.range, fine.bounds), written.bounds), (visible, tt)))),
      )
    where
      visible : NamesVisible c.count (hidden_in (set_in c)) (table_in d)
      visible = matches_visible c d k.reads.spelled.fine script_reads.spelled.fine (key_matches c fine k.key there like)

  -- and allows what the sheet allows
  own_allows : AllowSame (hidden_in (set_in c)) (Satisfies c.count (table_in c)) (Satisfies c.count (table_in d))
  own_allows =
      alike_same (hidden_in (set_in c)) (alike_back fine.held.meaning) (alike_back written.held.meaning) (key-rules c fine k.key there
      (answer_allows c.count (set_in c) (table_in c) k.key accepted own))

  own_verdict : verdict_of (hidden_in (set_in c)) c.count (table_in c) (table_in d) ≡ Equal
  own_verdict = is_equal _ ((verdict_demand c.count (set_in c) (table_in c) (table_in d) lent.workspace lent.values own_tables).equal.1 own_allows)

  own_checks : pair_checks c d lent ≡ Ok tt
  own_checks =
      (pair_tied c d k.reads.spelled.fine script_reads.spelled.fine lent).accepted.1 (room.sheet_room, (room.script_room, (room.workspace_room, (room.values_room, (key_matches c fine k.key there like, tt)))))

  pub own_reply : texts_reply sheet script lent ≡ marked k.contents.count Equal
  unfolding texts_reply pair_reply
  own_reply = rw (reads_check Sheet sheet c k.reads, reads_check Script script d script_reads, own_checks, own_verdict)

-- with tables and a workspace for every sheet, it is so where the assignment has words enough
pub own_in_room : (sheet script : List ℕ) (v : ℕ) (k : OwnKeyText sheet script) → k.contents.count ≤ v → texts_reply sheet script (own_lengths v) ≡ marked k.contents.count Equal
own_in_room sheet script v k h = own_reply sheet script (own_lengths v) k (record { sheet_room = table; script_room = table; workspace_room = omega (arith, table); values_room = h })
  where
    table : block_start k.contents.count ≤ block_start max_quantities
    table = block_start_mono {a = k.contents.count} {b = max_quantities} (fine_table Sheet k.contents k.reads.spelled.fine).most
