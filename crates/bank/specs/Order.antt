-- The order of a bank sheet's rules (document 02, [5]: "a bank sheet has its rules in place order, lower quantity first, each place once, no doubled term"), by how rules are written.
use Rattle.std.specs.Prelude.{◌≡◌, Some, List, [], ◌∷◌, ◌++◌, ℕ, ◌<◌, ◌≤◌}
use Rattle.tables.specs.Places.{find_place}
use Rattle.lines.specs.Spelling.{Written, one, two, written_rule}

-- ---- one rule

-- its lower quantity stands first; a rule of one quantity has no other, and one with a doubled term no lower
abbrev pub LowerFirst : Written → Type 0
LowerFirst (one x c) = Unit {0}
LowerFirst (two x y c) = x.quantity < y.quantity

-- it has a doubled term, as +1+1 or -1-1
abbrev pub Doubled : Written → Type 0
Doubled (one x c) = ⊥
Doubled (two x y c) = x ≡ y

-- it has its higher quantity first
abbrev pub HigherFirst : Written → Type 0
HigherFirst (one x c) = ⊥
HigherFirst (two x y c) = y.quantity < x.quantity

-- ---- one rule after another

-- both have a place, and that of the second is after that of the first
pub record PlaceAfter (v w : Written) : Type 0 where
  pub earlier : ℕ
  pub later : ℕ
  pub first : find_place (written_rule v) ≡ Some earlier
  pub second : find_place (written_rule w) ≡ Some later
  pub after : earlier < later

-- both have a place, and that of the second is not after that of the first
pub record PlaceNotAfter (v w : Written) : Type 0 where
  pub earlier : ℕ
  pub later : ℕ
  pub first : find_place (written_rule v) ≡ Some earlier
  pub second : find_place (written_rule w) ≡ Some later
  pub not_after : later ≤ earlier

-- ---- the rules of a bank sheet

-- the next rule, where there is one, has its place after that of v
abbrev pub NextAfter : Written → List Written → Type 0
NextAfter v [] = Unit {0}
NextAfter v (w ∷ ws) = PlaceAfter v w

-- each has its lower quantity first, and its place after that of the one before, so that each place comes once
abbrev pub InBankOrder : List Written → Type 0
InBankOrder [] = Unit {0}
InBankOrder (w ∷ ws) = LowerFirst w × NextAfter w ws × InBankOrder ws

-- what a bank sheet may not have after the rules rs: a rule with a doubled term, one that has its higher quantity first, and one whose place is not after the place of the rule before it
pub data OutOfOrder (rs : List Written) (w : Written) : Type 0 where
  doubled : Doubled w → OutOfOrder rs w
  higher_first : HigherFirst w → OutOfOrder rs w
  not_after : (earlier : List Written) (v : Written) → rs ≡ earlier ++ v ∷ [] → PlaceNotAfter v w → OutOfOrder rs w
