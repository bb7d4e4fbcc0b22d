-- A refusal of a text is printed in at most 21 bytes: its number has at most two digits, its line at most four. Assumes nothing.
use mathlib.Core.Path.{◌≡◌, refl, ap}
use mathlib.Core.Logic.{inl, inr}
use mathlib.Core.List.{List, [], ◌∷◌}
use Prim.Native.Nat.{ℕ, suc, ◌+◌, ◌^◌, ◌≤◌, ◌<◌}
use native.Mathlib.Omega.{arith}
use lib.ListN.{length, length-append}
use borrow.Author.Tests.{leb-true}
use Rattle.numerals.proofs.Decimals.{decimal_width}
use Rattle.rules.specs.declared.refusal.Refusal.{Refusal}
use Rattle.rules.specs.Limits.{max_rules}
use Rattle.rules.specs.declared.paper.Paper.{Paper}
use Rattle.rules.specs.Refusal.{refusal_number, refusal_line}
use Rattle.rules.proofs.Refusals.{refusal_below}
use Rattle.lines.specs.Spelling.{Written, line_within}
use Rattle.reading.specs.Texts.{rule_lines}
use Rattle.reading.specs.Meaning.{Opening, start, counted, headed, ruled, lines_of, count_of, limit_at, AllFine, AtMost, Reaches, malformed_at, outside_at, cancels_at, FailsFor}
use Rattle.numerals.specs.Decimal.{decimal}
use Rattle.writing.specs.Writing.{count_text}
use Rattle.reports.specs.Refusals.{refused_key, line_key, number_text, where_text, refusal_text}

-- ---- the line of a refusal

-- a line for each rule
rules_length : (rs : List Written) → length (rule_lines rs) ≡ length rs
rules_length [] = refl
rules_length (r ∷ rs) = rw (rules_length rs)

-- how many lines are read before one that fails
opening_lines : (limit : ℕ) (o : Opening) → AllFine (count_of o) limit (lines_of o) → AtMost o → length (lines_of o) ≤ max_rules + 3
unfolding line_within
opening_lines limit start f a = omega arith
opening_lines limit (counted n) f a = omega arith
opening_lines limit (headed n qs) f a = omega arith
opening_lines limit (ruled n qs m rs) f a = omega (arith, rules_length rs, leb-true m max_rules f.1.1.0.within)

-- the line after them
reached_line : {paper : Paper} {s : List ℕ} {o : Opening} {line : ℕ} {u : List ℕ} → Reaches paper s o line u → line ≤ max_rules + 4
reached_line {paper} {s} {o} {line} {u} r = omega (arith, opening_lines (limit_at paper o) o r.fine r.most, r.number)

-- a text is refused at one of its lines
pub refused_line : (paper : Paper) (s : List ℕ) (f : Refusal) → FailsFor paper s f → refusal_line f ≤ max_rules + 4
refused_line paper s f (inl x) = omega (arith, ap refusal_line x.1)
refused_line paper s f (inr (l, malformed_at line m e)) = omega (arith, ap refusal_line e, reached_line m.reached)
refused_line paper s f (inr (l, outside_at line m e)) = omega (arith, ap refusal_line e, reached_line m.reached)
refused_line paper s f (inr (l, cancels_at line m e)) = omega (arith, ap refusal_line e, reached_line m.reached)

-- ---- its text

-- a line of a key and a number
count_length : (key : List ℕ) (v : ℕ) → length (count_text key v) ≡ length key + length (decimal v) + 1
unfolding count_text
count_length key v = simp length-append (omega arith)

-- the text of a refusal has the two lines
pub refusal_parts : (f : Refusal) → length (refusal_text f) ≡ length (number_text f) + length (where_text f)
unfolding refusal_text
refusal_parts f = length-append (number_text f) (where_text f)

-- the text of a refusal whose line has at most k + 1 digits
pub refusal_width : (k : ℕ) (f : Refusal) → refusal_line f < 10 ^ suc k → length (refusal_text f) ≤ 18 + k
refusal_width k f h =
    omega (
      arith,
      refusal_parts f,
      count_length refused_key (refusal_number f),
      count_length line_key (refusal_line f),
      decimal_width 1 (refusal_number f) (omega (arith, refusal_below f)),
      decimal_width k (refusal_line f) h,
    )

-- of a text's refusal
pub refusal_length : (paper : Paper) (s : List ℕ) (f : Refusal) → FailsFor paper s f → length (refusal_text f) ≤ 21
refusal_length paper s f h = refusal_width 3 f (omega (arith, refused_line paper s f h))
