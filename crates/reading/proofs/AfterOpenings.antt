-- A text that begins with the lines of an opening, all fine, is answered as reading goes on after them. Assumes nothing.
use mathlib.Core.Path.{◌≡◌, refl, ◌∙◌, ap}
use mathlib.Core.Bool.{true, false}
use mathlib.Core.List.{List, [], ◌∷◌, ◌++◌, append-nil, append_assoc}
use Prim.Native.Nat.{ℕ, ◌+◌, ◌≤◌}
use native.Mathlib.Omega.{arith}
use lib.ListN.{length, length-append}
use Rattle.rules.specs.declared.paper.Paper.{Paper}
use Rattle.lines.specs.Spelling.{Written, Line, hidden, rules, line_text}
use Rattle.reading.specs.Texts.{rule_lines, lines_text}
use Rattle.reading.specs.Meaning.{Opening, start, counted, headed, ruled, lines_of, count_of, limit_at, LineKind, Fine, AllFine, AtMost, Reaches}
use Rattle.reading.specs.Reading.{lines_from}
use Rattle.reading.proofs.Readers.{Value, line_with}
use Rattle.reading.proofs.Openings.{go_on, Due, first_fine, hidden_fine, due_start, due_counted, due_headed, due_ruled}
use Rattle.reading.proofs.Steps.{spelled}

module _ (paper : Paper) where
  -- a fine line is passed
  passed : {o : Opening} {k : LineKind} {next : Value k → Opening} → Due paper o k next → (a : Value k) (ls : List Line) (u : List ℕ)
      → Fine (count_of o) (limit_at paper o) (line_with k a) → go_on paper o (lines_text (line_with k a ∷ ls) ++ u) ≡ go_on paper (next a) (lines_text ls ++ u)
  unfolding lines_text
  passed {o} {k} d a ls u f =
      ap (go_on paper o) (append_assoc (line_text (line_with k a)) (lines_text ls) u)
      ∙ spelled d a (lines_text ls ++ u) true false f.formed f.within f.uncancelled

  -- so are rules, one after the other
  rules_passed : (n : ℕ) (qs : List ℕ) (m : ℕ) (rs more : List Written) (u : List ℕ)
      → AllFine n (limit_at paper (ruled n qs m rs)) (rule_lines more) → length rs + length more ≤ m
      → go_on paper (ruled n qs m rs) (lines_text (rule_lines more) ++ u) ≡ go_on paper (ruled n qs m (rs ++ more)) u
  unfolding lines_text
  rules_passed n qs m rs [] u all h = rw (append-nil rs)
  rules_passed n qs m rs (r ∷ more) u all h =
      passed (due_ruled paper n qs m rs (omega arith)) r (rule_lines more) u all.0
      ∙ rules_passed n qs m (rs ++ r ∷ []) more u all.1 (omega (arith, length-append rs (r ∷ [])))
      ∙ ap (λ (xs : List Written). go_on paper (ruled n qs m xs) u) (append_assoc rs (r ∷ []) more)

  -- so are all lines of an opening
  opening_passed : (o : Opening) (u : List ℕ) → AllFine (count_of o) (limit_at paper o) (lines_of o) → AtMost o
      → go_on paper start (lines_text (lines_of o) ++ u) ≡ go_on paper o u
  unfolding lines_text
  opening_passed start u all h = refl
  opening_passed (counted n) u all h = passed (due_start paper) n [] u (first_fine n all.0)
  opening_passed (headed n qs) u all h =
      passed (due_start paper) n (hidden qs ∷ []) u (first_fine n all.0) ∙ passed (due_counted paper n) qs [] u (hidden_fine n qs all.1.0)
  opening_passed (ruled n qs m rs) u all h =
      passed (due_start paper) n (hidden qs ∷ rules m ∷ rule_lines rs) u (first_fine n all.0)
      ∙ passed (due_counted paper n) qs (rules m ∷ rule_lines rs) u (hidden_fine n qs all.1.0)
      ∙ passed (due_headed paper n qs) m (rule_lines rs) u all.1.1.0
      ∙ rules_passed n qs m [] rs u all.1.1.1 (omega arith)

  -- reading comes to where the opening ends
  pub reached : (s : List ℕ) (o : Opening) (line : ℕ) (u : List ℕ) → Reaches paper s o line u → lines_from paper s ≡ go_on paper o u
  unfolding go_on
  reached s o line u r = ap (lines_from paper) r.text ∙ opening_passed o u r.fine r.most
