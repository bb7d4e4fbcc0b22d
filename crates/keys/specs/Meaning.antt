-- What the key call and the assignment call need (document 01, 'Returned to the caller'); and several quantities hidden, in document 01's own words. No order
-- of work is in it but document 01's.
use Rattle.std.specs.Prelude.{Bool, true, false, ◌≡◌, List, ℕ, suc, ◌≤◌, ◌<◌, ℤ, length}
use Rattle.places.specs.Numbering.{block_start}
use Rattle.rules.specs.declared.paper.Paper.TheVariants.{Sheet}
use Rattle.rules.specs.declared.refusal.Refusal.TheVariants.{Size, OutOfLimit, NoAssignment, TooShort}
use Rattle.rules.specs.Hidden.{set_within}
use Rattle.rules.specs.Refusing.{Needs, passed, ◌or◌then◌}
use Rattle.tables.specs.Meaning.{TableSized, Satisfiable, BoundsWithin}
use Rattle.elimination.specs.ByRules.{HiddenByRules}

-- ---- what the calls need, in the order of their checks

-- the bounds of a sheet are in their limit, and the hidden set names no quantity past n
abbrev pub NumbersWithin : ℕ → ℕ → List ℤ → Type 0
NumbersWithin n set t = (set_within n set ≡ true) × BoundsWithin Sheet n set t

-- the key call on a table and a workspace of w words: 1, 6, 3, then others
abbrev pub key_needs_then : ℕ → ℕ → List ℤ → ℕ → Needs → Needs
key_needs_then n set t w rest =
    TableSized n (length t) or Size then
    (block_start n ≤ w) or TooShort (block_start n) then
    NumbersWithin n set t or OutOfLimit 0 then
    rest

-- and last 5
abbrev pub key_needs : ℕ → ℕ → List ℤ → ℕ → Needs
key_needs n set t w = key_needs_then n set t w (Satisfiable n t or NoAssignment then passed)

-- the assignment call on a table, a workspace of w words and v words for the assignment: 1, 6 for the workspace, 6 for the assignment, 3, then others
abbrev pub assignment_needs_then : ℕ → List ℤ → ℕ → ℕ → Needs → Needs
assignment_needs_then n t w v rest =
    TableSized n (length t) or Size then
    (block_start n ≤ w) or TooShort (block_start n) then
    (n ≤ v) or TooShort n then
    BoundsWithin Sheet n 0 t or OutOfLimit 0 then
    rest

-- and last 5
abbrev pub assignment_needs : ℕ → List ℤ → ℕ → ℕ → Needs
assignment_needs n t w v = assignment_needs_then n t w v (Satisfiable n t or NoAssignment then passed)

-- a sheet's table that the calls which make a key accept, with a workspace long enough
pub record SheetAccepted (n set : ℕ) (sheet : List ℤ) : Type 0 where
  pub sized : TableSized n (length sheet)
  pub within : NumbersWithin n set sheet
  pub some : Satisfiable n sheet

-- ---- several quantities hidden

-- 'Several are hidden in increasing number': the tables in between, each the one before with the next quantity hidden by sums of rules, where it is to be; none of
-- the sums is a contradiction
pub record HiddenInTurn (hidden : ℕ → Bool) (n : ℕ) (before after : List ℤ) : Type 0 where
  pub tables : ℕ → List ℤ
  pub first : tables 0 ≡ before
  pub last : tables n ≡ after
  pub hides : (j : ℕ) → j < n → hidden (suc j) ≡ true → HiddenByRules n j (tables j) false (tables (suc j))
  pub passes : (j : ℕ) → j < n → hidden (suc j) ≡ false → tables (suc j) ≡ tables j
