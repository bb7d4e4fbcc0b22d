-- The text of a sheet's key tells its rules. Assumes nothing.
use mathlib.Core.Path.{◌≡◌, refl, sym, ◌∙◌, ap, ap₂}
use mathlib.Core.List.{List, [], ◌∷◌}
use Prim.Native.Nat.{ℕ}
use native.Mathlib.Omega.{arith}
use lib.IntN.{ℤ}
use lib.ListN.{length}
use Rattle.lines.specs.Spelling.{Written, quantities, rules_key, line_text}
use Rattle.lines.specs.Spelling.{hidden as hidden-line}
use Rattle.lines.specs.Lines.{count_line, rule_line}
use Rattle.lines.proofs.Spellings.{rules_complete, rule_complete}
use Rattle.reading.specs.Texts.{Contents, rule_lines, lines_text, sheet_text}
use Rattle.reading.proofs.Ending.{sheet_lines}
use Rattle.writing.specs.Writing.{table_rules}
use Rattle.reports.specs.Promises.{KeyTextMade}
use Rattle.reports.proofs.PrintedReplies.{parsed_same, rest_same}

-- ---- the text tells its rules

-- lines of as many rules that are the same have the same rules
rules_same : (rs ws : List Written) → length rs ≡ length ws → lines_text (rule_lines rs) ≡ lines_text (rule_lines ws) → rs ≡ ws
unfolding lines_text
rules_same [] [] l e = refl
rules_same [] (w ∷ ws) l e = absurd (omega arith)
rules_same (r ∷ rs) [] l e = absurd (omega arith)
rules_same (r ∷ rs) (w ∷ ws) l e =
    let d = parsed_same (sym (rule_complete r (lines_text (rule_lines rs))) ∙ ap rule_line e ∙ rule_complete w (lines_text (rule_lines ws))) in
    ap₂ (λ (x : Written) (xs : List Written). x ∷ xs) d.0 (rules_same rs ws (omega arith) d.1)

-- so texts of one header that are the same do
pub written_same : (n : ℕ) (qs : List ℕ) (rs ws : List Written)
    → sheet_text (record { count = n; hiddens = qs; written = rs }) ≡ sheet_text (record { count = n; hiddens = qs; written = ws }) → rs ≡ ws
unfolding lines_text
written_same n qs rs ws e =
    let whole = sym (sheet_lines (record { count = n; hiddens = qs; written = rs })) ∙ e ∙ sheet_lines (record { count = n; hiddens = qs; written = ws }) in
    let after = rest_same (line_text (hidden-line qs)) _ _ (rest_same (line_text (quantities n)) _ _ whole) in
    let first = rules_complete (length rs) (lines_text (rule_lines rs)) in
    let second = rules_complete (length ws) (lines_text (rule_lines ws)) in
    let d = parsed_same (sym first ∙ ap (count_line rules_key) after ∙ second) in
    rules_same rs ws d.0 d.1

-- the rules of a key's text are those that it spells
pub key_told : {c : Contents} {key : List ℤ} {s : List ℕ} (k : KeyTextMade c key s) (ws : List Written)
    → s ≡ sheet_text (record { count = c.count; hiddens = c.hiddens; written = ws }) → table_rules c.count key ≡ ws
key_told {c} {key} k ws e = written_same c.count c.hiddens (table_rules c.count key) ws (sym k.spelled.text ∙ e)
