-- When a text is accepted as a bank sheet, and when and at which line it is refused, said by how lines are spelled; nothing is read here. A line is refused as in ordinary reading (2, 3, 4), or, being
-- fine by itself, with 9; the lines before it are fine, and their rules in bank order.
use Rattle.std.specs.Prelude.{◌≡◌, ◌⊎◌, List, [], ◌++◌, ℕ, ◌≤◌, ◌<◌, length}
use Rattle.rules.specs.declared.paper.Paper.{Paper}
use Rattle.rules.specs.declared.paper.Paper.TheVariants.{Sheet}
use Rattle.rules.specs.declared.refusal.Refusal.{Refusal}
use Rattle.rules.specs.declared.refusal.Refusal.TheVariants.{Size, NotCanonical}
use Rattle.rules.specs.Limits.{max_text}
use Rattle.rules.specs.Refusing.{RefusedBy}
use Rattle.lines.specs.Spelling.{Written, rule, line_text}
use Rattle.reading.specs.Texts.{Contents}
use Rattle.reading.specs.Meaning.{Opening, start, counted, headed, ruled, limit_at, Fine, Reaches, Reads, LineFails, malformed_at, outside_at, cancels_at, Passes, room_for, AcceptedAs}
use Rattle.bank.specs.Order.{InBankOrder, OutOfOrder}

-- ---- a text that is fine

-- the text s is fine as a sheet, these are its contents, and its rules are in bank order
pub record BankReads (s : List ℕ) (c : Contents) : Type 0 where
  pub reads : Reads Sheet s c
  pub ordered : InBankOrder c.written

-- it is fine as a bank sheet
pub record BankReadable (s : List ℕ) : Type 0 where
  pub contents : Contents
  pub reads : BankReads s contents

-- ---- a text that is refused

-- the rules of an opening
abbrev pub rules_read : Opening → List Written
rules_read start = []
rules_read (counted n) = []
rules_read (headed n qs) = []
rules_read (ruled n qs m rs) = rs

-- the lines before the one that fails
abbrev pub opening_of : {paper : Paper} {s : List ℕ} {f : Refusal} → LineFails paper s f → Opening
opening_of (malformed_at line t e) = t.opening
opening_of (outside_at line t e) = t.opening
opening_of (cancels_at line t e) = t.opening

-- 9: the lines before this one are fine and their rules in bank order, and here is the line of a rule, fine by itself, that is out of order after them
pub record NotCanonicalAt (s : List ℕ) (line : ℕ) : Type 0 where
  pub count : ℕ
  pub hiddens : List ℕ
  pub rules : ℕ
  pub before : List Written
  pub found : Written
  pub rest : List ℕ
  pub reached : Reaches Sheet s (ruled count hiddens rules before) line (line_text (rule found) ++ rest)
  pub ordered : InBankOrder before
  pub due : length before < rules
  pub fine : Fine count (limit_at Sheet (ruled count hiddens rules before)) (rule found)
  pub out : OutOfOrder before found

-- f is the refusal of the first line of the text s that a bank sheet may not have
pub data BankLineFails (s : List ℕ) (f : Refusal) : Type 0 where
  line_fails : (w : LineFails Sheet s f) → InBankOrder (rules_read (opening_of w)) → BankLineFails s f
  not_canonical_at : (line : ℕ) → NotCanonicalAt s line → f ≡ NotCanonical line → BankLineFails s f

-- the text s is refused by itself with f: its size comes before its lines
abbrev pub BankFails : List ℕ → Refusal → Type 0
BankFails s f = ((max_text < length s) × (f ≡ Size)) ⊎ ((length s ≤ max_text) × BankLineFails s f)

-- ---- a bank sheet read into a table of so many words

-- bank reading is refused for the text, or the text is fine and the table too short for it
abbrev pub BankRefusedFor : List ℕ → ℕ → Refusal → Type 0
BankRefusedFor s words f = BankFails s f ⊎ ((t : BankReadable s) × RefusedBy (room_for t.contents words) f)

-- it is accepted, with n and a hidden set: ordinary reading accepts it so, and its rules are in bank order
pub record BankAcceptedAs (s : List ℕ) (words n set : ℕ) : Type 0 where
  pub accepted : AcceptedAs s words n set
  pub ordered : InBankOrder accepted.contents.written

-- the check passes, with n, the hidden set, the number of rules and the cursor at which their lines begin
pub record BankPasses (s : List ℕ) (n set m body : ℕ) : Type 0 where
  pub passes : Passes Sheet s n set m body
  pub ordered : InBankOrder passes.contents.written
