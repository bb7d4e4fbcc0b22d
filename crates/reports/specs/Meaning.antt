-- What is meant by what the programs print: the text of a sheet's tightest key, that no integers satisfy a sheet, the text of a verdict. No step of a program is in it but how a table, a rule and integers are written.
use Rattle.std.specs.Prelude.{◌≡◌, List, ℕ, ℤ, length}
use Rattle.rules.specs.Hidden.{hidden_in}
use Rattle.rules.specs.declared.paper.Paper.TheVariants.{Sheet}
use Rattle.rules.specs.Meaning.{Assignment}
use Rattle.tightening.specs.Meaning.{TightKey}
use Rattle.reading.specs.Texts.{Contents}
use Rattle.reading.specs.Meaning.{Reads, rules_of}
use Rattle.writing.specs.Writing.{written_text}
use Rattle.marking.specs.declared.verdict.Verdict.{Verdict}
use Rattle.marking.specs.Verdicts.{verdict_returned}
use Rattle.scripts.specs.declared.room.Lengths.{Lengths}
use Rattle.scripts.specs.Meaning.{set_in, AcceptedPair}
use Rattle.scripts.specs.Promises.{PairJudged}
use Rattle.reports.specs.Marks.{verdict_text}

-- ---- *key*

-- the text is that of the tightest key of these contents (document 02, [2])
pub record KeyText (c : Contents) (text : List ℕ) : Type 0 where
  pub key : List ℤ
  -- "A term has a rule exactly when it is of visible quantities and some bound on it is met by all assignments of the sheet; the rule carries the least such bound": of the rules as written
  pub tight : TightKey (hidden_in (set_in c)) c.count (rules_of c) key
  -- it is the writer's text of that table: n and the hidden list are the sheet's, and its rules stand in place order
  pub written : text ≡ written_text c.count (set_in c) key

-- a sheet's text is fine, some integers satisfy its rules, and this is the text of its tightest key
pub record PrintedKey (s text : List ℕ) : Type 0 where
  pub contents : Contents
  pub reads : Reads Sheet s contents
  pub integers : Assignment
  pub satisfied : rules_of contents integers
  pub is : KeyText contents text

-- the text is accepted, and no integers satisfy its rules
pub record Unmet (s : List ℕ) : Type 0 where
  pub contents : Contents
  pub reads : Reads Sheet s contents
  pub none : (σ : Assignment) → rules_of contents σ → ⊥

-- ---- *mark*

-- the text is that of a verdict on two accepted texts: its name, the rule after it and the integers listed, one for each quantity of the sheet, mean what
-- demand 3 says
pub record VerdictText {sheet script : List ℕ} {lent : Lengths} (t : AcceptedPair sheet script lent) (text : List ℕ) : Type 0 where
  pub verdict : Verdict
  pub values : List ℤ
  pub size : length values ≡ t.of_sheet.count
  pub spelled : text ≡ verdict_text verdict values
  pub judged : PairJudged t (verdict_returned verdict) values
