-- A text that passed: its counts are in their limits, and the lines of its rules begin after its header. Assumes nothing.
use mathlib.Core.Path.{◌≡◌, refl, ◌∙◌, ap}
use mathlib.Core.List.{List, [], ◌∷◌, ◌++◌}
use Prim.Native.Nat.{ℕ, suc, ◌≤◌, ◌<◌}
use lib.ListN.{length, drop}
use lib.Seq.{drop-append_seam}
use borrow.Author.Tests.{leb-true}
use Rattle.numerals.specs.Decimal.{cap}
use Rattle.rules.specs.declared.paper.Paper.{Paper}
use Rattle.rules.specs.Limits.{max_quantities, max_rules, bound_limit}
use Rattle.tables.proofs.Lists.{AllAccepted}
use Rattle.lines.specs.Spelling.{Written, rule, line_text, line_within, written_rules}
use Rattle.lines.specs.Lines.{accepted, judged, rule_judged}
use Rattle.lines.proofs.Spellings.{rule_complete}
use Rattle.reading.specs.Texts.{Contents, rule_lines, lines_text, header_text, sheet_text}
use Rattle.reading.specs.Meaning.{Fine, AllFine, contents_limit, Spells, Passes}
use Rattle.reading.specs.Reading.{onward, rules_from}
use Rattle.reading.proofs.Limits.{fine_count, contents-limit, contents_told}
use Rattle.reading.proofs.FineRules.{contents_accepted}

-- a fine rule line is accepted, and so are all
pub rule_read : (n limit line : ℕ) (w : Written) (u : List ℕ) → Fine n limit (rule w) → rule_judged n limit line (line_text (rule w) ++ u) ≡ accepted w u
unfolding rule_judged judged line_within
rule_read n limit line w u f = rw (rule_complete w u, f.within, f.uncancelled)

rules-read : (n limit line : ℕ) (ws : List Written) → AllFine n limit (rule_lines ws)
    → rules_from n limit (length ws) line (lines_text (rule_lines ws)) ≡ accepted ws []
unfolding rules_from onward lines_text
rules-read n limit line [] f = refl
rules-read n limit line (w ∷ ws) f =
    rw (rule_read n limit line w (lines_text (rule_lines ws)) f.0, rules-read n limit (suc line) ws f.1)

-- n, the limit of bounds and the number of rules are in their limits, a table accepts the rules, and their lines alone follow the header
pub record Opened (limit : ℕ) (s : List ℕ) (n count body : ℕ) (ws : List Written) : Type 0 where
  pub some : 1 ≤ n
  pub most : n ≤ max_quantities
  pub told : limit < cap
  pub lines : count ≤ max_rules
  pub rules : AllAccepted n (written_rules ws)
  pub rest : rules_from n limit count 4 (drop body s) ≡ accepted ws []

-- as the text of contents has it
spelled_opened : (paper : Paper) (s : List ℕ) (c : Contents) → Spells (contents_limit paper c) s c
    → Opened (contents_limit paper c) s c.count (length c.written) (length (header_text c)) c.written
unfolding sheet_text line_within
spelled_opened paper s c p =
    let f = p.fine in
    let limit = contents_limit paper c in
    let d : drop (length (header_text c)) s ≡ lines_text (rule_lines c.written) =
    ap (drop (length (header_text c))) p.text ∙ drop-append_seam (header_text c) (lines_text (rule_lines c.written)) in
    record {
      some = (fine_count limit c f).0;
      most = (fine_count limit c f).1;
      told = contents_told paper limit c f;
      lines = leb-true (length c.written) max_rules f.1.1.0.within;
      rules = contents_accepted paper c f;
      rest = rw d (rules-read c.count limit 4 c.written f.1.1.1);
    }

-- and so of a text that passed
pub passed_opened : (paper : Paper) (s : List ℕ) (n set count body : ℕ) (p : Passes paper s n set count body)
    → Opened (bound_limit paper n set) s n count body p.contents.written
passed_opened paper s n set count body p =
    let c = p.contents in
    let r = p.reads.spelled in
    rw (p.counts, p.hides, p.rules, p.begins, contents-limit paper (contents_limit paper c) c r.fine) (spelled_opened paper s c r)
