-- Questions to named sheets (document 02, [3]), as one table: the answers in the list's order, and each refusal before those that come after it. Every case is computed by the definitions that the
-- contracts cite. Assumes nothing.
use mathlib.Core.Path.{◌≡◌, refl}
use mathlib.Core.List.{List, [], ◌∷◌}
use Prim.Native.Nat.{ℕ, zero, suc}
use lib.IntN.{ℤ, pos, negsuc}
use lib.ListN.{replicate}
use Rattle.rules.specs.Steps.{rule_of}
use Rattle.tables.specs.Given.{given_within}
use Rattle.tables.specs.Tables.{table_of}
use Rattle.keys.proofs.Sheets.{sheet_a, sheet_table, steps}
use Rattle.tightening.specs.Tightening.{pair_up_to, strengthening, strengthened, tightened}
use Rattle.questions.specs.Questions.{questions_within, none_cancels, answer_at, yes_up_to}
use Rattle.questions.specs.Replies.{asked_returned}
use Rattle.questions.specs.Asking.{ask_checks, ask_reply}

-- a table over n quantities, a list of questions and the words of a workspace, and what is returned: a number, and the answers or what stands beside a refusal
pub record AskCase : Type 0 where
  pub n : ℕ
  pub table : List ℤ
  pub questions : List ℤ
  pub workspace : ℕ
  pub number : ℕ
  pub values : List ℤ

abbrev pub AskPasses : AskCase → Type 0
AskPasses c = asked_returned (ask_reply c.n c.table c.questions c.workspace) ≡ record { number = c.number; values = c.values }

abbrev pub AllPass : List AskCase → Type 0
AllPass [] = Unit {0}
AllPass (c ∷ cs) = AskPasses c × AllPass cs

-- +1:3, +1:2, +1+1:7, +1+1:6, +1+1:5, +1+3:5, +3+1:5, +1+3:4, -1:1000000000, +3:1000000000 of sheet A: of doubled terms 7 and 6 halve to 3, 5 to 2; +1+3:5 is no rule of the sheet; and a term
-- without a bound follows from none
unfoldable pub ten : List ℤ
ten =
    pos 1 ∷ pos 0 ∷ pos 3 ∷ pos 1 ∷ pos 0 ∷ pos 2 ∷ pos 1 ∷ pos 1 ∷ pos 7 ∷ pos 1 ∷ pos 1 ∷ pos 6 ∷ pos 1 ∷ pos 1 ∷ pos 5
    ∷ pos 1 ∷ pos 3 ∷ pos 5 ∷ pos 3 ∷ pos 1 ∷ pos 5 ∷ pos 1 ∷ pos 3 ∷ pos 4 ∷ negsuc 0 ∷ pos 0 ∷ pos 1000000000 ∷ pos 3 ∷ pos 0 ∷ pos 1000000000 ∷ []

-- no integers satisfy +1:0, -1:-1
unfoldable pub contradicting : List ℤ
contradicting = table_of 1 (rule_of (pos 1) (pos 0) (pos 0) ∷ rule_of (negsuc 0) (pos 0) (negsuc 0) ∷ [])

-- so many times the question +1:3
unfoldable pub threes : ℕ → List ℤ
threes zero = []
threes (suc m) = pos 1 ∷ pos 0 ∷ pos 3 ∷ threes m

unfoldable pub cases : List AskCase
cases =
    record { n = 3; table = sheet_table sheet_a; questions = ten; workspace = 18; number = 0; values = pos 1 ∷ pos 0 ∷ pos 1 ∷ pos 1 ∷ pos 0 ∷ pos 1 ∷ pos 1 ∷ pos 0 ∷ pos 0 ∷ pos 0 ∷ [] }
    ∷  -- two words past the last whole question are not looked at
    record { n = 3; table = sheet_table sheet_a; questions = pos 1 ∷ pos 0 ∷ pos 3 ∷ pos 99 ∷ pos 99 ∷ []; workspace = 18; number = 0; values = pos 1 ∷ [] }
    ∷  -- 8: no whole question, also with no workspace; 65 of them; and before it 1
    record { n = 3; table = sheet_table sheet_a; questions = pos 1 ∷ pos 0 ∷ []; workspace = 0; number = 8; values = [] }
    ∷ record { n = 3; table = sheet_table sheet_a; questions = threes 65; workspace = 0; number = 8; values = [] }
    ∷ record { n = 4; table = sheet_table sheet_a; questions = []; workspace = 0; number = 1; values = [] }
    ∷  -- 64 are not too many: 6 with the length, and every answer yes
    record { n = 3; table = sheet_table sheet_a; questions = threes 64; workspace = 17; number = 6; values = pos 18 ∷ [] }
    ∷ record { n = 3; table = sheet_table sheet_a; questions = threes 64; workspace = 18; number = 0; values = replicate 64 (pos 1) }
    ∷  -- 3 in the last question before 4 in the first: a quantity past n, none first, a bound past the limit as written; and 3 of the table's words
    record { n = 3; table = sheet_table sheet_a; questions = pos 1 ∷ negsuc 0 ∷ pos 0 ∷ pos 4 ∷ pos 0 ∷ pos 0 ∷ []; workspace = 18; number = 3; values = pos 0 ∷ [] }
    ∷ record { n = 3; table = sheet_table sheet_a; questions = pos 1 ∷ negsuc 0 ∷ pos 0 ∷ pos 0 ∷ pos 1 ∷ pos 0 ∷ []; workspace = 18; number = 3; values = pos 0 ∷ [] }
    ∷ record { n = 3; table = sheet_table sheet_a; questions = pos 1 ∷ negsuc 0 ∷ pos 0 ∷ pos 1 ∷ pos 1 ∷ pos 1000000001 ∷ []; workspace = 18; number = 3; values = pos 0 ∷ [] }
    ∷ record { n = 1; table = pos 1000000001 ∷ pos 0 ∷ []; questions = pos 1 ∷ negsuc 0 ∷ pos 0 ∷ []; workspace = 2; number = 3; values = pos 0 ∷ [] }
    ∷  -- 4 before 5, and 5
    record { n = 1; table = contradicting; questions = pos 1 ∷ negsuc 0 ∷ pos 0 ∷ []; workspace = 2; number = 4; values = pos 0 ∷ [] }
    ∷ record { n = 1; table = contradicting; questions = pos 1 ∷ pos 0 ∷ pos 0 ∷ []; workspace = 2; number = 5; values = [] }
    ∷ []

pub all_pass : AllPass cases
unfolding
    steps ten contradicting threes cases given_within pair_up_to strengthening strengthened tightened
    questions_within none_cancels answer_at yes_up_to ask_checks ask_reply
all_pass = (refl, (refl, (refl, (refl, (refl, (refl, (refl, (refl, (refl, (refl, (refl, (refl, (refl, tt)))))))))))))
