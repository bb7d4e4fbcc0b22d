-- What the exported functions promise: the number and value of a call's reply, and what the call promises of every lent word.
use Rattle.std.specs.Prelude.{◌≡◌, ◌↔◌, List, ℕ, ◌<◌, ◌≤◌, ℤ, length, take, Ok, Err}
use Rattle.words.specs.Lent.{Lent}
use Rattle.places.specs.Numbering.{block_start}
use Rattle.rules.specs.declared.paper.Paper.TheVariants.{Sheet, Script}
use Rattle.rules.specs.declared.refusal.Refusal.{Refusal}
use Rattle.rules.specs.Limits.{max_quantities}
use Rattle.rules.specs.Refusal.{refusal_number, refusal_value}
use Rattle.rules.specs.Refusing.{DecidedBy}
use Rattle.rules.specs.RuleWords.{rule_values, no_rule_words, rule_of_words}
use Rattle.tables.specs.Replies.{Reply, reply_number, reply_value}
use Rattle.tables.specs.Meaning.{Satisfies, Unsatisfiable, BoundsWithin}
use Rattle.keys.specs.Keys.{key_reply, assignment_reply}
use Rattle.keys.specs.Meaning.{key_needs, assignment_needs}
use Rattle.keys.specs.Promises.{Keyed, Assigned}
use Rattle.steps.specs.Steps.{step_reply}
use Rattle.steps.specs.Meaning.{step_needs}
use Rattle.steps.specs.Promises.{StepFollowed}
use Rattle.tightening.specs.Promises.{TightKeyed}
use Rattle.questions.specs.Meaning.{ask_needs}
use Rattle.questions.specs.Replies.{asked_number, asked_value, answers_after}
use Rattle.questions.specs.Asking.{ask_reply}
use Rattle.questions.specs.Promises.{ListAnswers, QuestionsAsked}
use Rattle.marking.specs.Verdicts.{Marking, carried_words, marking_number, marking_value}
use Rattle.marking.specs.Meaning.{VerdictMeans, mark_needs, workspace_size, OwnKey}
use Rattle.marking.specs.Marking.{mark_reply}
use Rattle.marking.specs.Promises.{TablesMarked}
use Rattle.reading.specs.Reading.{Reading, read_reply, reading_number, reading_value}
use Rattle.reading.specs.Promises.{ReadInto}
use Rattle.reading.specs.Texts.{Contents}
use Rattle.reading.specs.Meaning.{Reads, Readable, RefusedFor, AcceptedAs}
use Rattle.writing.specs.Writing.{written_text, write_reply, writing_number, writing_value}
use Rattle.writing.specs.Promises.{write_needs, TextWritten}
use Rattle.bank.specs.Banking.{bank_reply}
use Rattle.bank.specs.Meaning.{BankRefusedFor, BankAcceptedAs}
use Rattle.bank.specs.Promises.{SheetTable, BankBack, BankRead}
use Rattle.scripts.specs.declared.reply.Subject.{Subject}
use Rattle.scripts.specs.declared.room.Lengths.{Lengths}
use Rattle.scripts.specs.Replies.{TextMarking, texts_returned, text_number, text_value, text_paper, paper_number, is_text_shown}
use Rattle.scripts.specs.Meaning.{table_in, AcceptedPair, RefusedPair, OwnKeyText, own_lengths}
use Rattle.scripts.specs.Marking.{texts_reply, count_in}
use Rattle.scripts.specs.Promises.{PairJudged, TextsJudged}

-- a host is told of a refusal: by its number r, and the line or length beside it as one value v, 0 where there is none
abbrev pub TellsRefusal : ℕ → ℕ → Refusal → Type 0
TellsRefusal r v f = (r ≡ refusal_number f) × (v ≡ refusal_value f)

-- n or the hidden set after reading: that of the text where it is accepted, else as it was
abbrev pub count_read : ℕ → Reading → ℕ
count_read before (Ok sheet) = sheet.quantities
count_read before (Err f) = before

abbrev pub set_read : ℕ → Reading → ℕ
set_read before (Ok sheet) = sheet.hidden
set_read before (Err f) = before

-- what a host is told of a reading: its number r and value v, and n and the hidden set after it
pub record ReadingTold (reply : Reading) (n set r v n' set' : ℕ) : Type 0 where
  pub number : r ≡ reading_number reply
  pub value : v ≡ reading_value reply
  pub count : n' ≡ count_read n reply
  pub hidden : set' ≡ set_read set reply

-- the number r and value v of a call that reads a text, by its reply, the reasons of a refusal and of acceptance, and what is promised of it
pub record ReadAnswerBy (reply : Reading) (RefusedWhy : Refusal → Type 0) (AcceptedWhy : ℕ → ℕ → Type 0) (Promised : Type 0) (n set r v n' set' : ℕ) : Type 0 where
  pub told : ReadingTold reply n set r v n' set'
  -- a refusal's number and value exactly for its reason; 0 exactly where the text is accepted, with this n and hidden set
  pub refused : (f : Refusal) → TellsRefusal r v f ↔ RefusedWhy f
  pub accepted : (r ≡ 0) ↔ AcceptedWhy n' set'
  pub call : Promised

-- of reading
abbrev pub ReadAnswer : List ℕ → List ℤ → ℕ → ℕ → ℕ → ℕ → ℕ → ℕ → List ℤ → Type 0
ReadAnswer text table n set r v n' set' table' =
    ReadAnswerBy (read_reply text (length table)) (RefusedFor text (length table)) (AcceptedAs text (length table))
    (ReadInto text table (read_reply text (length table)) table') n set r v n' set'

-- of bank reading; with 0 the text is, byte for byte, the writer's text of what the host has then
pub record BankAnswer (text : List ℕ) (table : List ℤ) (n set r v n' set' : ℕ) (table' : List ℤ) : Type 0 where
  pub answer : ReadAnswerBy (bank_reply text (length table)) (BankRefusedFor text (length table)) (BankAcceptedAs text (length table))
      (BankRead text table (bank_reply text (length table)) table') n set r v n' set'
  pub canonical : r ≡ 0 → SheetTable n' set' table' × (text ≡ written_text n' set' table')

-- writing's
pub record WriteAnswer (n set : ℕ) (table : List ℤ) (out : List ℕ) (r v : ℕ) (out' : List ℕ) : Type 0 where
  pub number : r ≡ writing_number (write_reply n set table (length out))
  pub value : v ≡ writing_value (write_reply n set table (length out))
  pub decided : DecidedBy (write_needs n set table (length out)) (TellsRefusal r v) (r ≡ 0)
  pub call : TextWritten n set table out (write_reply n set table (length out)) out'
  -- read by the bank, the text of a table whose bounds lie in the sheet's limits gives the table back
  pub banked : r ≡ 0 → BoundsWithin Sheet n set table → (t : List ℤ) → block_start n ≤ length t → BankBack n set table (take v out') t

-- the number r and value v of a call with the key call's arguments, of which this is promised
pub record KeyAnswerBy (Promised : ℕ → ℕ → List ℤ → List ℤ → Reply → List ℤ → List ℤ → Type 0) (n set : ℕ) (table workspace : List ℤ) (r v : ℕ) (table' workspace' : List ℤ) : Type 0 where
  pub number : r ≡ reply_number (key_reply n set table (length workspace))
  pub value : v ≡ reply_value (key_reply n set table (length workspace))
  pub decided : DecidedBy (key_needs n set table (length workspace)) (TellsRefusal r v) (r ≡ 0)
  pub call : Promised n set table workspace (key_reply n set table (length workspace)) table' workspace'

-- the key call's
abbrev pub KeyAnswer : ℕ → ℕ → List ℤ → List ℤ → ℕ → ℕ → List ℤ → List ℤ → Type 0
KeyAnswer n set table workspace r v table' workspace' = KeyAnswerBy Keyed n set table workspace r v table' workspace'

-- the tight key call's
abbrev pub TightKeyAnswer : ℕ → ℕ → List ℤ → List ℤ → ℕ → ℕ → List ℤ → List ℤ → Type 0
TightKeyAnswer n set table workspace r v table' workspace' = KeyAnswerBy TightKeyed n set table workspace r v table' workspace'

-- the number r and value v of the call that follows a hiding step
pub record StepAnswer (n set q blocks : ℕ) (table workspace : List ℤ) (r v : ℕ) (table' workspace' : List ℤ) : Type 0 where
  pub number : r ≡ reply_number (step_reply n set q blocks table (length workspace))
  pub value : v ≡ reply_value (step_reply n set q blocks table (length workspace))
  pub decided : DecidedBy (step_needs n set q blocks table (length workspace)) (TellsRefusal r v) (r ≡ 0)
  pub call : StepFollowed n set q blocks table workspace (step_reply n set q blocks table (length workspace)) table' workspace'

-- the assignment call's
pub record AssignmentAnswer (n : ℕ) (table workspace values : List ℤ) (r v : ℕ) (workspace' values' : List ℤ) : Type 0 where
  pub number : r ≡ reply_number (assignment_reply n table (length workspace) (length values))
  pub value : v ≡ reply_value (assignment_reply n table (length workspace) (length values))
  pub decided : DecidedBy (assignment_needs n table (length workspace) (length values)) (TellsRefusal r v) (r ≡ 0)
  pub call : Assigned n table workspace values (assignment_reply n table (length workspace) (length values)) workspace' values'

-- ---- asking

-- asking's number r and value v, with the number that has the answers before and after it
pub record AskAnswer (n : ℕ) (table list workspace : List ℤ) (answers r v : ℕ) (workspace' : List ℤ) (answers' : ℕ) : Type 0 where
  pub number : r ≡ asked_number (ask_reply n table list (length workspace))
  pub value : v ≡ asked_value (ask_reply n table list (length workspace))
  pub bits : answers' ≡ answers_after answers (ask_reply n table list (length workspace))
  pub decided : DecidedBy (ask_needs n table list (length workspace)) (TellsRefusal r v) (r ≡ 0)
  pub call : QuestionsAsked n table list workspace (ask_reply n table list (length workspace)) workspace'
  -- with 0 the bits are the answers, and mean what the request says; any other number leaves them as they were
  pub answered : r ≡ 0 → ListAnswers n table list workspace' answers'
  pub kept : (r ≡ 0 → ⊥) → answers' ≡ answers

-- ---- marking two texts

-- the reply to a host that lends so many words for the assignment, with tables and a workspace for every sheet
abbrev pub host_reply : List ℕ → List ℕ → ℕ → TextMarking
host_reply sheet script words = texts_reply sheet script (own_lengths words)

-- a refusal's number k, with the paper that it is about and its reason
pub record RefusedWith (sheet script : List ℕ) (k : ℕ) : Type 0 where
  pub paper : Subject
  pub refusal : Refusal
  pub reason : RefusedPair sheet script (own_lengths max_quantities) paper refusal
  pub number : k ≡ refusal_number refusal

-- marking two texts, for the exam host: its number r is that of the reply with room enough lent, a verdict's or a refusal's
pub record MarkAnswer (sheet script : List ℕ) (r : ℕ) : Type 0 where
  pub number : r ≡ text_number (host_reply sheet script max_quantities)
  -- a refusal's number exactly for these reasons, a verdict's exactly where both texts are accepted
  pub refused : (k : ℕ) → k < 100 → (r ≡ k) ↔ RefusedWith sheet script k
  pub accepted : (100 ≤ r) ↔ AcceptedPair sheet script (own_lengths max_quantities)
  -- there is room for every sheet, so 6 does not come, and 5 is no reply of marking
  pub never : ((r ≡ 5) → ⊥) × ((r ≡ 6) → ⊥)
  -- the number means what demand 3 says; what else the reply has, its paper and line, or the rule of the verdict and an assignment that shows it, is not told
  pub values : List ℤ
  pub call : TextsJudged sheet script (own_lengths max_quantities) (host_reply sheet script max_quantities) values
  pub judged : (t : AcceptedPair sheet script (own_lengths max_quantities)) → PairJudged t (record { number = r; values = (texts_returned (host_reply sheet script max_quantities)).values }) values
  -- the text of a sheet's own key is equal
  pub own_key : OwnKeyText sheet script → r ≡ 100

-- n after marking: with a verdict the sheet's, else as it was
abbrev pub count_marked : ℕ → TextMarking → ℕ
count_marked before (Ok m) = m.quantities
count_marked before (Err r) = before

-- the rule's words after marking: with a verdict what it makes of them, else as they were
abbrev pub rule_marked : List ℤ → TextMarking → List ℤ
rule_marked before (Ok m) = carried_words before m.verdict
rule_marked before (Err r) = before

-- what a host is told, with so much lent: the number r, the paper p, the line or length v, n, the rule's words and the assignment
pub record Told (sheet script : List ℕ) (lent : Lengths) (r p v n : ℕ) (rule values : List ℤ) : Type 0 where
  -- a refusal's number, with this paper and this line or length, exactly for these reasons
  pub refused : (w : Subject) (f : Refusal)
      → ((r ≡ refusal_number f) × (p ≡ paper_number w) × (v ≡ refusal_value f)) ↔ RefusedPair sheet script lent w f
  -- a verdict's exactly where both texts are accepted, with the sheet's n
  pub accepted : (100 ≤ r) ↔ AcceptedPair sheet script lent
  pub count : (t : AcceptedPair sheet script lent) → n ≡ t.of_sheet.count
  -- it means what demand 3 says; the rule of a loose or tight verdict is the one of these words, and the assignment shows the verdict and breaks it
  pub judged : (t : AcceptedPair sheet script lent) → PairJudged t (record { number = r; values = rule_values (rule_of_words rule) }) values
  -- a loose verdict has no rule, and its words are all 0, exactly where no integers satisfy the sheet
  pub none : (r ≡ 101) → (t : AcceptedPair sheet script lent) → Unsatisfiable t.of_sheet.count (table_in t.of_sheet) ↔ (rule ≡ no_rule_words)

-- marking two texts with the reasons: n, the rule's words and the assignment before the call, then the number r, the paper p and the line or length v, and the
-- same three after it
pub record MarkTextsAnswer (sheet script : List ℕ) (n : ℕ) (rule values : List ℤ) (r p v n' : ℕ) (rule' values' : List ℤ) : Type 0 where
  pub number : r ≡ text_number (host_reply sheet script (length values))
  pub paper : p ≡ text_paper (host_reply sheet script (length values))
  pub value : v ≡ text_value (host_reply sheet script (length values))
  pub count : n' ≡ count_marked n (host_reply sheet script (length values))
  pub words : rule' ≡ rule_marked rule (host_reply sheet script (length values))
  -- the assignment is written for loose and tight alone, so many words of it as the sheet's n
  pub written : Lent (count_in sheet) (is_text_shown (host_reply sheet script (length values))) values values'
  pub counted : (c : Contents) → Reads Sheet sheet c → count_in sheet ≡ c.count
  pub told : Told sheet script (own_lengths (length values)) r p v n' rule' values'
  -- 5 is no reply of marking; 6 exactly where both texts are fine and the assignment is shorter than the sheet's n, which is the length needed
  pub never : (r ≡ 5) → ⊥
  pub short : (r ≡ 6) ↔ (Readable Script script × (length values < count_in sheet))
  pub needed : (r ≡ 6) → v ≡ count_in sheet
  -- the text of a sheet's own key is equal, where the assignment has the sheet's n words
  pub own_key : OwnKeyText sheet script → count_in sheet ≤ length values → r ≡ 100
  -- any other number is that of marking without the reasons
  pub agrees : ((r ≡ 6) → ⊥) → r ≡ text_number (host_reply sheet script max_quantities)

-- ---- marking two tables

-- the rule's words after marking: with a verdict what it makes of them, else as they were
abbrev pub rule_given : List ℤ → Marking → List ℤ
rule_given before (Ok v) = carried_words before v
rule_given before (Err f) = before

-- marking two tables: the workspace, the assignment and the rule's words before the call, then the number r and the value v, and the same three after it
pub record MarkTablesAnswer (n set : ℕ) (sheet script workspace values rule : List ℤ) (r v : ℕ) (workspace' values' rule' : List ℤ) : Type 0 where
  pub number : r ≡ marking_number (mark_reply n set sheet script (length workspace) (length values))
  pub value : v ≡ marking_value (mark_reply n set sheet script (length workspace) (length values))
  pub words : rule' ≡ rule_given rule (mark_reply n set sheet script (length workspace) (length values))
  pub decided : DecidedBy (mark_needs n set sheet script (length workspace) (length values)) (TellsRefusal r v) (100 ≤ r)
  pub call : TablesMarked n set sheet script workspace values (mark_reply n set sheet script (length workspace) (length values)) workspace' values'
  -- a verdict's number means what demand 3 says; the rule of a loose or tight verdict is the one of these words, and the assignment shows the verdict and breaks it
  pub means : 100 ≤ r
      → VerdictMeans n set (Satisfies n sheet) (Satisfies n script) sheet script (record { number = r; values = rule_values (rule_of_words rule') }) values'
  -- a loose verdict has no rule, and its words are all 0, exactly where no integers satisfy the sheet
  pub none : (r ≡ 101) → Unsatisfiable n sheet ↔ (rule' ≡ no_rule_words)
  -- a sheet's own key, with the lent words there, is equal
  pub own_key : OwnKey n set sheet script → workspace_size n ≤ length workspace → n ≤ length values → r ≡ 100
  -- 5 is no reply of marking
  pub never : (r ≡ 5) → ⊥
