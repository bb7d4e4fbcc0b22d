-- The end of a text: after as many rules as it has, nothing is due, and nothing may follow. Assumes nothing.
use mathlib.Core.Path.{◌≡◌}
use mathlib.Core.List.{List, [], ◌∷◌, append-nil, append_assoc}
use Prim.Native.Nat.{ℕ, ◌-◌, ◌≤◌}
use native.Mathlib.Omega.{arith}
use lib.ListN.{length}
use borrow.Author.Tests.{le-ltb}
use Rattle.rules.specs.declared.paper.Paper.{Paper}
use Rattle.rules.specs.declared.refusal.Refusal.TheVariants.{Malformed}
use Rattle.lines.specs.Spelling.{Written}
use Rattle.lines.specs.Lines.{accepted, refused}
use Rattle.reading.specs.Texts.{Contents, lines_text, header_text, sheet_text}
use Rattle.reading.specs.Meaning.{Opening, ruled, lines_of, no_line, due_kind}
use Rattle.reading.specs.Reading.{onward, rules_from}
use Rattle.reading.proofs.Openings.{line_of, go_on}

-- the opening with all lines of a text, which spell it
abbrev pub all_of : Contents → Opening
all_of c = ruled c.count c.hiddens (length c.written) c.written

pub sheet_lines : (c : Contents) → sheet_text c ≡ lines_text (lines_of (all_of c))
unfolding sheet_text header_text lines_text
sheet_lines c = simp append_assoc

module _ (paper : Paper) (n : ℕ) (qs : List ℕ) (m : ℕ) (rs : List Written) (all : m ≤ length rs) where
  -- no line is due
  pub ended_due : due_kind (ruled n qs m rs) ≡ no_line
  ended_due = rw (le-ltb (length rs) m all)

  -- nothing follows
  pub ended_alone : go_on paper (ruled n qs m rs) [] ≡ accepted (record { count = n; hiddens = qs; written = rs }) []
  unfolding go_on rules_from onward
  ended_alone = let k : m - length rs ≡ 0 = omega arith in rw (k, append-nil rs)

  -- something does
  pub ended_followed : (b : ℕ) (u : List ℕ) → go_on paper (ruled n qs m rs) (b ∷ u) ≡ refused (Malformed (line_of (ruled n qs m rs)))
  unfolding go_on rules_from onward
  ended_followed b u = let k : m - length rs ≡ 0 = omega arith in rw k
