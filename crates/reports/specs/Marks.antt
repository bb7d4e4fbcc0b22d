-- What the program *mark* prints for two texts (document 01, 'Programs and host'): the verdict, with its rule and the assignment that shows it, or the refusal.
use Rattle.std.specs.Prelude.{List, [], ◌∷◌, ◌++◌, ℕ, ℤ, take, Ok, Err}
use Rattle.numerals.specs.Bytes.{bytes, newline, comma}
use Rattle.numerals.specs.Decimal.{signed_decimal}
use Rattle.rules.specs.declared.rule.Rule.{Rule}
use Rattle.rules.specs.declared.refusal.Refusal.{Refusal}
use Rattle.marking.specs.declared.verdict.Verdict.{Verdict}
use Rattle.marking.specs.declared.verdict.Verdict.TheVariants.{Equal, Loose, Tight}
use Rattle.writing.specs.Writing.{rule_line_text}
use Rattle.scripts.specs.declared.reply.Subject.{Subject}
use Rattle.scripts.specs.declared.reply.Subject.TheVariants.{Sheet, Script, Both}
use Rattle.scripts.specs.Replies.{TextMarking}
use Rattle.reports.specs.Refusals.{number_text, where_text}

-- the keys
abbrev pub verdict_key : List ℕ
verdict_key = bytes "verdict="

abbrev pub values_key : List ℕ
values_key = bytes "values="

-- a line of a key and a word
unfoldable pub word_text : List ℕ → List ℕ → List ℕ
word_text key word = key ++ (word ++ newline ∷ [])

-- integers, each after a comma
unfoldable pub further_text : List ℤ → List ℕ
further_text [] = []
further_text (v ∷ vs) = comma ∷ (signed_decimal v ++ further_text vs)

-- integers joined by commas
unfoldable pub integers_text : List ℤ → List ℕ
integers_text [] = []
integers_text (v ∷ vs) = signed_decimal v ++ further_text vs

-- the assignment's line
unfoldable pub values_text : List ℤ → List ℕ
values_text values = word_text values_key (integers_text values)

-- what follows the verdict of loose and tight: the rule, empty where there is none, and the assignment
unfoldable pub shown_text : Rule → List ℤ → List ℕ
shown_text r values = rule_line_text r ++ values_text values

-- the names of the verdicts
abbrev pub verdict_name : Verdict → List ℕ
verdict_name Equal = bytes "equal"
verdict_name (Loose r) = bytes "loose"
verdict_name (Tight r) = bytes "tight"

-- what follows the first line
abbrev pub carried_text : Verdict → List ℤ → List ℕ
carried_text Equal values = []
carried_text (Loose r) values = shown_text r values
carried_text (Tight r) values = shown_text r values

unfoldable pub verdict_text : Verdict → List ℤ → List ℕ
verdict_text v values = word_text verdict_key (verdict_name v) ++ carried_text v values

-- ---- refusals

abbrev pub paper_key : List ℕ
paper_key = bytes "paper="

-- the names of the papers
abbrev pub paper_name : Subject → List ℕ
paper_name Sheet = bytes "sheet"
paper_name Script = bytes "script"
paper_name Both = bytes "both"

-- a refusal and its paper
unfoldable pub refused_mark_text : Subject → Refusal → List ℕ
refused_mark_text p f = number_text f ++ (word_text paper_key (paper_name p) ++ where_text f)

-- ---- of a reply and the words of the assignment, of which the first n are printed
unfoldable pub mark_text : TextMarking → List ℤ → List ℕ
mark_text (Ok m) values = verdict_text m.verdict (take m.quantities values)
mark_text (Err r) values = refused_mark_text r.paper r.refusal
