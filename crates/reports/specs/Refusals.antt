-- How the programs print a refusal (document 01, 'Programs and host'): `refused=` and its number, `line=` and its line.
use Rattle.std.specs.Prelude.{List, ◌++◌, ℕ}
use Rattle.numerals.specs.Bytes.{bytes}
use Rattle.rules.specs.declared.refusal.Refusal.{Refusal}
use Rattle.rules.specs.Refusal.{refusal_number, refusal_line}
use Rattle.writing.specs.Writing.{count_text}

-- the keys
abbrev pub refused_key : List ℕ
refused_key = bytes "refused="

abbrev pub line_key : List ℕ
line_key = bytes "line="

-- the line of its number
abbrev pub number_text : Refusal → List ℕ
number_text r = count_text refused_key (refusal_number r)

-- and that of the line it names
abbrev pub where_text : Refusal → List ℕ
where_text r = count_text line_key (refusal_line r)

unfoldable pub refusal_text : Refusal → List ℕ
refusal_text r = number_text r ++ where_text r
