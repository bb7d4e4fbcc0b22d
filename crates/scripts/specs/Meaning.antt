-- When two texts are accepted for marking, and when and for which paper they are refused, by how they are spelled and what they write; nothing is read here.
use Rattle.std.specs.Prelude.{◌≡◌, true, List, ℕ, ◌≤◌, ℤ, length, take}
use Rattle.places.specs.Numbering.{block_start}
use Rattle.rules.specs.declared.paper.Paper.TheVariants.{Sheet, Script}
use Rattle.rules.specs.declared.refusal.Refusal.{Refusal}
use Rattle.rules.specs.declared.refusal.Refusal.TheVariants.{TooShort, Mismatch}
use Rattle.rules.specs.Hidden.{set_of, is_listed}
use Rattle.rules.specs.Limits.{max_quantities}
use Rattle.rules.specs.Meaning.{Assignment}
use Rattle.rules.specs.Refusing.{Needs, passed, ◌or◌then◌, RefusedBy, AllMet}
use Rattle.tables.specs.Tables.{table_of}
use Rattle.tables.specs.Meaning.{NoneNames}
use Rattle.lines.specs.Spelling.{written_rules}
use Rattle.reading.specs.Texts.{Contents}
use Rattle.reading.specs.Meaning.{Reads, Readable, rules_of, FailsFor}
use Rattle.writing.specs.Writing.{written_text}
use Rattle.marking.specs.Meaning.{workspace_size, KeyOfSheet}
use Rattle.scripts.specs.declared.room.Lengths.{Lengths}
use Rattle.scripts.specs.declared.reply.Subject.{Subject}
use Rattle.scripts.specs.declared.reply.Subject.TheVariants.{Both}
use Rattle.scripts.specs.declared.reply.Subject.TheVariants.{Sheet as OfSheet}
use Rattle.scripts.specs.declared.reply.Subject.TheVariants.{Script as OfScript}

-- the hidden set and the table of contents
abbrev pub set_in : Contents → ℕ
set_in c = set_of c.hiddens

abbrev pub table_in : Contents → List ℤ
table_in c = table_of c.count (written_rules c.written)

-- a script fits a sheet: it has its n and its hidden list, and no rule names a hidden quantity
pub record Matches (sheet script : Contents) : Type 0 where
  pub count : script.count ≡ sheet.count
  pub hiddens : script.hiddens ≡ sheet.hiddens
  pub visible : (q : ℕ) → is_listed q sheet.hiddens ≡ true → NoneNames q (written_rules script.written)

-- the lengths of what is lent
abbrev pub lengths_of : List ℤ → List ℤ → List ℤ → List ℤ → Lengths
lengths_of sheet-table script_table workspace values = record {
  sheet = length sheet-table;
  script = length script_table;
  workspace = length workspace;
  values = length values;
}

-- tables and a workspace long enough for every sheet, and so many words for the assignment
abbrev pub own_lengths : ℕ → Lengths
own_lengths values = record {
  sheet = block_start max_quantities;
  script = block_start max_quantities;
  workspace = workspace_size max_quantities;
  values = values;
}

-- what two fine texts need of what is lent, by the sheet's n, and of each other: 6 for the sheet's table, the script's, the workspace, the assignment, in that order; 7
abbrev pub pair_needs : Contents → Contents → Lengths → Needs
pair_needs c d lent =
    (block_start c.count ≤ lent.sheet) or TooShort (block_start c.count) then
    (block_start c.count ≤ lent.script) or TooShort (block_start c.count) then
    (workspace_size c.count ≤ lent.workspace) or TooShort (workspace_size c.count) then
    (c.count ≤ lent.values) or TooShort c.count then
    Matches c d or Mismatch then
    passed

-- two texts are accepted: each is fine by itself, and these needs are met
pub record AcceptedPair (sheet script : List ℕ) (lent : Lengths) : Type 0 where
  pub of_sheet : Contents
  pub of_script : Contents
  pub sheet_reads : Reads Sheet sheet of_sheet
  pub script_reads : Reads Script script of_script
  pub met : AllMet (pair_needs of_sheet of_script lent)

-- both are fine, and refused by the first of these needs that is not met
pub record PairFails (sheet script : List ℕ) (lent : Lengths) (f : Refusal) : Type 0 where
  pub of_sheet : Contents
  pub of_script : Contents
  pub sheet_reads : Reads Sheet sheet of_sheet
  pub script_reads : Reads Script script of_script
  pub fails : RefusedBy (pair_needs of_sheet of_script lent) f

-- a refusal and the paper that it names: the sheet's comes first, then the script's
abbrev pub RefusedPair : List ℕ → List ℕ → Lengths → Subject → Refusal → Type 0
RefusedPair sheet script lent OfSheet f = FailsFor Sheet sheet f
RefusedPair sheet script lent OfScript f = Readable Sheet sheet × FailsFor Script script f
RefusedPair sheet script lent Both f = PairFails sheet script lent f

-- ---- a sheet's own key

-- what is lent has words enough for n quantities
pub record Room (n : ℕ) (lent : Lengths) : Type 0 where
  pub sheet_room : block_start n ≤ lent.sheet
  pub script_room : block_start n ≤ lent.script
  pub workspace_room : workspace_size n ≤ lent.workspace
  pub values_room : n ≤ lent.values

-- the script is the writer's text of a key of its sheet, plain or tight with bounds in a script's limit. The sheet is a fine text whose rules some integers satisfy, and the key is made of a table
-- that holds these rules in its first words, as reading leaves it
pub record OwnKeyText (sheet script : List ℕ) : Type 0 where
  pub contents : Contents
  pub reads : Reads Sheet sheet contents
  pub integers : Assignment
  pub satisfied : rules_of contents integers
  pub table : List ℤ
  pub held : take (block_start contents.count) table ≡ table_in contents
  pub key : List ℤ
  pub is : KeyOfSheet contents.count (set_in contents) table key
  pub text : script ≡ written_text contents.count (set_in contents) key
