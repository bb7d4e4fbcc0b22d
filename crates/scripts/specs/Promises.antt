-- What marking two texts promises: the reply and every lent word, for every input, and demand 3 over the rules as written.
use Rattle.std.specs.Prelude.{◌≡◌, true, ◌↔◌, List, [], ◌∷◌, ℕ, ◌≤◌, ◌<◌, ℤ, length}
use Rattle.words.specs.Lent.{Lent}
use Rattle.places.specs.Numbering.{block_start}
use Rattle.rules.specs.declared.paper.Paper.TheVariants.{Sheet, Script}
use Rattle.rules.specs.declared.refusal.Refusal.{Refusal}
use Rattle.rules.specs.Hidden.{hidden_in, is_listed}
use Rattle.rules.specs.Limits.{max_quantities}
use Rattle.rules.specs.Refusal.{Returned, refused_as}
use Rattle.marking.specs.declared.verdict.Verdict.TheVariants.{Equal}
use Rattle.marking.specs.Verdicts.{verdict_returned}
use Rattle.marking.specs.Meaning.{VerdictMeans, workspace_size}
use Rattle.reading.specs.Texts.{Contents}
use Rattle.reading.specs.Meaning.{Reads, Readable, rules_of}
use Rattle.reading.specs.Promises.{TableHolds}
use Rattle.scripts.specs.declared.room.Lengths.{Lengths}
use Rattle.scripts.specs.declared.reply.Subject.{Subject}
use Rattle.scripts.specs.Replies.{TextMarking, texts_returned, text_number, text_value, text_counts, text_subjects, is_text_marked, is_text_shown}
use Rattle.scripts.specs.Meaning.{lengths_of, own_lengths, set_in, table_in, AcceptedPair, RefusedPair, Room, OwnKeyText}
use Rattle.scripts.specs.Marking.{texts_reply, count_in}

-- what is promised of two texts that are accepted: the hidden set and the tables are what the texts write, and a verdict that is returned so, with these
-- words, means what demand 3 says of the rules as written (with equal only its number counts)
pub record PairJudged {sheet script : List ℕ} {lent : Lengths} (t : AcceptedPair sheet script lent) (returned : Returned) (values : List ℤ) : Type 0 where
  -- the set has the quantities that are listed
  pub members : (q : ℕ) → hidden_in (set_in t.of_sheet) q ≡ is_listed q t.of_sheet.hiddens
  -- each place of a table holds the smallest bound that rules of its text have there, and what satisfies it meets the rules
  pub sheet-table : TableHolds t.of_sheet (table_in t.of_sheet)
  pub script_table : TableHolds t.of_script (table_in t.of_script)
  pub means : VerdictMeans t.of_sheet.count (set_in t.of_sheet) (rules_of t.of_sheet) (rules_of t.of_script) (table_in t.of_sheet) (table_in t.of_script)
      returned values

-- the reply r for two texts with so many words lent, and the assignment that comes with it
pub record TextsJudged (sheet script : List ℕ) (lent : Lengths) (r : TextMarking) (values : List ℤ) : Type 0 where
  pub reply : r ≡ texts_reply sheet script lent
  -- refused exactly for these reasons, as it is returned and with the paper named, and a verdict exactly where both are accepted
  pub refused : (p : Subject) (f : Refusal) → ((texts_returned r ≡ refused_as f) × (text_subjects r ≡ p ∷ [])) ↔ RefusedPair sheet script lent p f
  pub accepted : (is_text_marked r ≡ true) ↔ AcceptedPair sheet script lent
  -- 5 is no reply of marking
  pub never : (text_number r ≡ 5) → ⊥
  -- the sheet's n, by which words are counted, is beside a verdict
  pub count : (c : Contents) → Reads Sheet sheet c → count_in sheet ≡ c.count
  pub counts : (t : AcceptedPair sheet script lent) → text_counts r ≡ t.of_sheet.count ∷ []
  -- demand 3, with the rule and the assignment
  pub judged : (t : AcceptedPair sheet script lent) → PairJudged t (texts_returned r) values
  -- the text of a sheet's own key, with the lent words there, is accepted and found equal
  pub own_key : (k : OwnKeyText sheet script) → Room k.contents.count lent → texts_returned r ≡ verdict_returned Equal

-- two texts marked. The words that the sheet's n needs of the tables and the workspace are free after every reply; the assignment is written for loose and
-- tight alone; no word past these changes, and none at all where the sheet's text is refused, whose n is not known
pub record TextsMarked (sheet script : List ℕ) (sheet-table script_table workspace values : List ℤ) (r : TextMarking)
    (sheet_table' script_table' workspace' values' : List ℤ) : Type 0 where
  pub judged : TextsJudged sheet script (lengths_of sheet-table script_table workspace values) r values'
  pub sheet_lent : Lent (block_start (count_in sheet)) true sheet-table sheet_table'
  pub script_lent : Lent (block_start (count_in sheet)) true script_table script_table'
  pub workspace_lent : Lent (workspace_size (count_in sheet)) true workspace workspace'
  pub written : Lent (count_in sheet) (is_text_shown r) values values'

-- two texts marked as if in tables and a workspace that are long enough for every sheet; of what is lent, the assignment alone is promised
pub record MarkedInOwnRoom (sheet script : List ℕ) (values : List ℤ) (r : TextMarking) (values' : List ℤ) : Type 0 where
  pub judged : TextsJudged sheet script (own_lengths (length values)) r values'
  pub written : Lent (count_in sheet) (is_text_shown r) values values'
  -- 6 exactly where both texts are fine and the assignment is shorter than the sheet's n, which is the length needed and at most 32
  pub short : (text_number r ≡ 6) ↔ (Readable Script script × (length values < count_in sheet))
  pub needed : (text_number r ≡ 6) → text_value r ≡ count_in sheet
  pub most : count_in sheet ≤ max_quantities
