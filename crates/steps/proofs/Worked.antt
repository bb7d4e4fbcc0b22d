-- Hiding steps of small sheets followed block after block, as one table, and each refusal before those that come after it. Every case is computed by the definitions that the contracts cite. Assumes
-- nothing.
use mathlib.Core.Path.{◌≡◌, refl}
use mathlib.Core.List.{List, [], ◌∷◌}
use Prim.Native.Nat.{ℕ}
use lib.IntN.{ℤ, pos, negsuc}
use Rattle.rules.specs.declared.rule.Rule.{Rule}
use Rattle.rules.specs.Hidden.{hidden_in}
use Rattle.rules.specs.Steps.{rule_of}
use Rattle.tables.specs.Replies.{reply_returned}
use Rattle.tables.specs.Tables.{table_of}
use Rattle.keys.proofs.Sheets.{sheet_a, sheet_table, steps}
use Rattle.steps.specs.Steps.{step_at, step_of, step_within, step_checks, step_reply}

-- ---- tables between

-- a table over n quantities, a set hidden before, a quantity and so many blocks, and the rules that the table then holds
pub record PointCase : Type 0 where
  pub n : ℕ
  pub table : List ℤ
  pub set : ℕ
  pub quantity : ℕ
  pub blocks : ℕ
  pub rules : List Rule

abbrev pub PointPasses : PointCase → Type 0
PointPasses c = step_of (hidden_in c.set) c.n c.quantity c.blocks c.table ≡ table_of c.n c.rules

abbrev pub AllReached : List PointCase → Type 0
AllReached [] = Unit {0}
AllReached (c ∷ cs) = PointPasses c × AllReached cs

-- rules as they are written, and in sheet A those that stay until the places are cleared
abbrev rule : ℤ → ℤ → ℤ → Rule
rule a b c = rule_of a b c

unfoldable pub own : List Rule
own = rule (pos 1) (pos 2) (pos 5) ∷ rule (pos 1) (negsuc 1) (pos 2) ∷ rule (negsuc 1) (pos 3) (pos 0) ∷ []

-- +1+2:1, -1+3:2, -2+3:0 with 1 hidden: +2+3:3 comes, which makes +3+3:3 in the step of 2
unfoldable pub chain : List ℤ
chain = table_of 3 (rule (pos 1) (pos 2) (pos 1) ∷ rule (negsuc 0) (pos 3) (pos 2) ∷ rule (negsuc 1) (pos 3) (pos 0) ∷ [])

unfoldable pub points : List PointCase
points =
    -- sheet A, 2 hidden: +1:3 comes with the first block, nothing with that of 2 itself, +1+3:5 with the third; then the places of 2 are cleared
    record { n = 3; table = sheet_table sheet_a; set = 0; quantity = 2; blocks = 0; rules = own }
    ∷ record { n = 3; table = sheet_table sheet_a; set = 0; quantity = 2; blocks = 1; rules = rule (pos 1) (pos 0) (pos 3) ∷ own }
    ∷ record { n = 3; table = sheet_table sheet_a; set = 0; quantity = 2; blocks = 2; rules = rule (pos 1) (pos 0) (pos 3) ∷ own }
    ∷ record { n = 3; table = sheet_table sheet_a; set = 0; quantity = 2; blocks = 3; rules = rule (pos 1) (pos 0) (pos 3) ∷ rule (pos 1) (pos 3) (pos 5) ∷ own }
    ∷ record { n = 3; table = sheet_table sheet_a; set = 0; quantity = 2; blocks = 4; rules = rule (pos 1) (pos 0) (pos 3) ∷ rule (pos 1) (pos 3) (pos 5) ∷ [] }
    ∷  -- 1 hidden before: the step of 2 begins with what that left, and a sum of it is halved
    record { n = 3; table = chain; set = 1; quantity = 2; blocks = 2; rules = rule (pos 2) (pos 3) (pos 3) ∷ rule (negsuc 1) (pos 3) (pos 0) ∷ [] }
    ∷ record { n = 3; table = chain; set = 1; quantity = 2; blocks = 3; rules = rule (pos 3) (pos 0) (pos 1) ∷ rule (pos 2) (pos 3) (pos 3) ∷ rule (negsuc 1) (pos 3) (pos 0) ∷ [] }
    ∷ record { n = 3; table = chain; set = 1; quantity = 2; blocks = 4; rules = rule (pos 3) (pos 0) (pos 1) ∷ [] }
    ∷  -- -1 halved is -1; a lone rule is added, and lowers a bound
    record {
      n = 2;
      table = table_of 2 (rule (pos 1) (pos 2) (negsuc 0) ∷ rule (pos 1) (negsuc 1) (pos 0) ∷ []);
      set = 0;
      quantity = 2;
      blocks = 1;
      rules = rule (pos 1) (pos 0) (negsuc 0) ∷ rule (pos 1) (pos 2) (negsuc 0) ∷ rule (pos 1) (negsuc 1) (pos 0) ∷ [];
    }
    ∷ record {
      n = 2;
      table = table_of 2 (rule (pos 1) (pos 0) (pos 5) ∷ rule (pos 1) (pos 2) (pos 3) ∷ rule (negsuc 1) (pos 0) (pos 1) ∷ []);
      set = 0;
      quantity = 2;
      blocks = 3;
      rules = rule (pos 1) (pos 0) (pos 4) ∷ [];
    }
    ∷ []

pub all_reached : AllReached points
unfolding steps own chain points step_at step_of
all_reached = (refl, (refl, (refl, (refl, (refl, (refl, (refl, (refl, (refl, (refl, tt))))))))))

-- ---- replies

-- the words of a workspace beside, and what is returned
pub record ReplyCase : Type 0 where
  pub n : ℕ
  pub table : List ℤ
  pub set : ℕ
  pub quantity : ℕ
  pub blocks : ℕ
  pub workspace : ℕ
  pub number : ℕ
  pub values : List ℤ

abbrev pub ReplyPasses : ReplyCase → Type 0
ReplyPasses c = reply_returned (step_reply c.n c.set c.quantity c.blocks c.table c.workspace) ≡ record { number = c.number; values = c.values }

abbrev pub AllReturned : List ReplyCase → Type 0
AllReturned [] = Unit {0}
AllReturned (c ∷ cs) = ReplyPasses c × AllReturned cs

-- no integers satisfy +1:0, -1:-1
unfoldable pub contradicting : List ℤ
contradicting = table_of 1 (rule (pos 1) (pos 0) (pos 0) ∷ rule (negsuc 0) (pos 0) (negsuc 0) ∷ [])

unfoldable pub replies : List ReplyCase
replies =
    -- done at the first and at the last point
    record { n = 3; table = sheet_table sheet_a; set = 0; quantity = 2; blocks = 0; workspace = 18; number = 0; values = [] }
    ∷ record { n = 3; table = sheet_table sheet_a; set = 0; quantity = 3; blocks = 4; workspace = 18; number = 0; values = [] }
    ∷  -- 1 before 6, 6 before 3
    record { n = 4; table = sheet_table sheet_a; set = 0; quantity = 2; blocks = 0; workspace = 0; number = 1; values = [] }
    ∷ record { n = 3; table = sheet_table sheet_a; set = 8; quantity = 0; blocks = 9; workspace = 17; number = 6; values = pos 18 ∷ [] }
    ∷  -- 3 for the set, the table's words, the quantity and the blocks
    record { n = 3; table = sheet_table sheet_a; set = 8; quantity = 2; blocks = 0; workspace = 18; number = 3; values = pos 0 ∷ [] }
    ∷ record { n = 1; table = pos 1000000001 ∷ pos 0 ∷ []; set = 0; quantity = 1; blocks = 0; workspace = 2; number = 3; values = pos 0 ∷ [] }
    ∷ record { n = 3; table = sheet_table sheet_a; set = 0; quantity = 0; blocks = 0; workspace = 18; number = 3; values = pos 0 ∷ [] }
    ∷ record { n = 3; table = sheet_table sheet_a; set = 0; quantity = 4; blocks = 0; workspace = 18; number = 3; values = pos 0 ∷ [] }
    ∷ record { n = 3; table = sheet_table sheet_a; set = 0; quantity = 2; blocks = 5; workspace = 18; number = 3; values = pos 0 ∷ [] }
    ∷  -- 3 before 5, and 5
    record { n = 1; table = contradicting; set = 0; quantity = 2; blocks = 0; workspace = 2; number = 3; values = pos 0 ∷ [] }
    ∷ record { n = 1; table = contradicting; set = 0; quantity = 1; blocks = 0; workspace = 2; number = 5; values = [] }
    ∷ []

pub all_returned : AllReturned replies
unfolding steps contradicting replies step_within step_checks step_reply
all_returned = (refl, (refl, (refl, (refl, (refl, (refl, (refl, (refl, (refl, (refl, (refl, tt)))))))))))
