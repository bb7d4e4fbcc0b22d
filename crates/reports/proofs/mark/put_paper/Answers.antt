-- `mark::put_paper` meets its contract: the line of the paper's name. Assumes nothing.
use mathlib.Core.Path.{◌≡◌, ap}
use native.Mathlib.Omega.{arith}
use lib.ListN.{length}
use Rattle.scripts.specs.declared.reply.Subject.{Subject}
use Rattle.reports.specs.Marks.{paper_key, word_text, paper_name}
use Rattle.reports.proofs.mark.put_paper.Goals as goal

-- the line of one paper has one length
same_line : {p q : Subject} → p ≡ q → length (word_text paper_key (paper_name p)) ≡ length (word_text paper_key (paper_name q))
same_line e = ap (λ (p : Subject). length (word_text paper_key (paper_name p))) e

pub put_word-requires : goal.put_word-requires
put_word-requires c = omega (arith, same_line c.in-Sheet.is)

pub put_word-requires-in-Script : goal.put_word-requires-in-Script
put_word-requires-in-Script c = omega (arith, same_line c.in-Script.is)

pub put_word-requires-in-Both : goal.put_word-requires-in-Both
put_word-requires-in-Both c = omega (arith, same_line c.in-Both.is)

pub returns-in-Sheet : goal.returns-in-Sheet
returns-in-Sheet c =
    rw c.in-Sheet.is c.put_word.ensures

pub returns-in-Script : goal.returns-in-Script
returns-in-Script c =
    rw c.in-Script.is c.put_word-in-Script.ensures

pub returns-in-Both : goal.returns-in-Both
returns-in-Both c =
    rw c.in-Both.is c.put_word-in-Both.ensures
