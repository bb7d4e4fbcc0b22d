-- Texts read by the bank (document 02, [5]), as one table: what is returned for each, sheet A among them, and each refusal before those that come after it. Every case is computed by the definitions
-- that the contracts cite. Assumes nothing.
use mathlib.Core.Path.{◌≡◌, refl}
use mathlib.Core.List.{List, [], ◌∷◌}
use Prim.Native.Nat.{ℕ}
use lib.IntN.{ℤ, pos}
use Rattle.numerals.specs.Bytes.{bytes}
use Rattle.reading.specs.Reading.{reading_returned}
use Rattle.reading.proofs.Frauds.{reading, putting}
use Rattle.reading.specs.Ordered.{canonical_place, from_place, ordered_from}
use Rattle.bank.specs.Banking.{bank_lines, bank_text, bank_reply}

-- a text, the words of the table that is lent, and what is returned: a number, and n and the hidden set or what stands beside a refusal
pub record BankCase : Type 0 where
  pub text : List ℕ
  pub words : ℕ
  pub number : ℕ
  pub values : List ℤ

abbrev pub BankReturns : BankCase → Type 0
BankReturns c = reading_returned (bank_reply c.text c.words) ≡ record { number = c.number; values = c.values }

abbrev pub AllReturned : List BankCase → Type 0
AllReturned [] = Unit {0}
AllReturned (c ∷ cs) = BankReturns c × AllReturned cs

unfoldable pub cases : List BankCase
cases =
    -- sheet A as given has its higher quantity first in line 6; with -2+3:0 it is accepted
    record { text = bytes "quantities=3\nhidden=2\nrules=3\nrule=+1+2:5\nrule=+1-2:2\nrule=+3-2:0\n"; words = 18; number = 9; values = pos 6 ∷ [] }
    ∷ record { text = bytes "quantities=3\nhidden=2\nrules=3\nrule=+1+2:5\nrule=+1-2:2\nrule=-2+3:0\n"; words = 18; number = 0; values = pos 3 ∷ pos 2 ∷ [] }
    ∷  -- with fewer words that is 6, and a 9 comes before it
    record { text = bytes "quantities=3\nhidden=2\nrules=3\nrule=+1+2:5\nrule=+1-2:2\nrule=-2+3:0\n"; words = 17; number = 6; values = pos 18 ∷ [] }
    ∷ record { text = bytes "quantities=3\nhidden=2\nrules=3\nrule=+1+2:5\nrule=+1-2:2\nrule=+3-2:0\n"; words = 0; number = 9; values = pos 6 ∷ [] }
    ∷  -- a place twice, also where another is between; each after the one before, and not after the first alone
    record { text = bytes "quantities=2\nhidden=\nrules=2\nrule=+1:1\nrule=+1:1\n"; words = 8; number = 9; values = pos 5 ∷ [] }
    ∷ record { text = bytes "quantities=2\nhidden=\nrules=3\nrule=+1:1\nrule=-1:1\nrule=+1:1\n"; words = 8; number = 9; values = pos 6 ∷ [] }
    ∷ record { text = bytes "quantities=3\nhidden=\nrules=3\nrule=+1:1\nrule=+3:1\nrule=+2:1\n"; words = 18; number = 9; values = pos 6 ∷ [] }
    ∷  -- a doubled term
    record { text = bytes "quantities=1\nhidden=\nrules=1\nrule=+1+1:7\n"; words = 2; number = 9; values = pos 4 ∷ [] }
    ∷ record { text = bytes "quantities=1\nhidden=\nrules=1\nrule=-1-1:7\n"; words = 2; number = 9; values = pos 4 ∷ [] }
    ∷  -- by places, and not by quantities: +2 (2), +1+2 (4), -2 after it (3) is 9; +3 (8), +1+3 (10) is accepted
    record { text = bytes "quantities=2\nhidden=\nrules=3\nrule=+2:1\nrule=+1+2:1\nrule=-2:1\n"; words = 8; number = 9; values = pos 6 ∷ [] }
    ∷ record { text = bytes "quantities=3\nhidden=\nrules=3\nrule=+2:1\nrule=+3:1\nrule=+1+3:1\n"; words = 18; number = 0; values = pos 3 ∷ pos 0 ∷ [] }
    ∷  -- on one line 2, 3 and 4 come before 9
    record { text = bytes "quantities=2\nhidden=\nrules=1\nrule=+2+1:x\n"; words = 8; number = 2; values = pos 4 ∷ [] }
    ∷ record { text = bytes "quantities=2\nhidden=\nrules=1\nrule=+2+1:1000000001\n"; words = 8; number = 3; values = pos 4 ∷ [] }
    ∷ record { text = bytes "quantities=1\nhidden=\nrules=1\nrule=+1-1:0\n"; words = 2; number = 4; values = pos 4 ∷ [] }
    ∷  -- a 9 at line 5 comes before a 2 at line 6 and before bytes after the last rule; a 3 at line 5 before a 9 at line 6
    record { text = bytes "quantities=2\nhidden=\nrules=3\nrule=+2:1\nrule=+1:1\nrule=x\n"; words = 8; number = 9; values = pos 5 ∷ [] }
    ∷ record { text = bytes "quantities=2\nhidden=\nrules=2\nrule=+2:1\nrule=+1:1\nx"; words = 8; number = 9; values = pos 5 ∷ [] }
    ∷ record { text = bytes "quantities=2\nhidden=\nrules=3\nrule=+1:1\nrule=+3:1\nrule=+2+1:1\n"; words = 8; number = 3; values = pos 5 ∷ [] }
    ∷  -- no rules
    record { text = bytes "quantities=1\nhidden=1\nrules=0\n"; words = 2; number = 0; values = pos 1 ∷ pos 1 ∷ [] }
    ∷ []

pub all_returned : AllReturned cases
unfolding cases reading putting canonical_place from_place ordered_from bank_lines bank_text bank_reply
all_returned = (refl, (refl, (refl, (refl, (refl, (refl, (refl, (refl, (refl, (refl, (refl, (refl, (refl, (refl, (refl, (refl, (refl, (refl, tt))))))))))))))))))
