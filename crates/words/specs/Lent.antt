-- A lent slice: which words of it are the program's choice, and which stay.
use Rattle.std.specs.Prelude.{Bool, false, ◌≡◌, List, ℕ, ℤ, length, drop}

-- a lent slice of which the first m words are the program's choice where `free`, and stay where not; words past them always stay
pub record Lent (m : ℕ) (free : Bool) (before after : List ℤ) : Type 0 where
  pub size : length after ≡ length before
  pub rest : drop m after ≡ drop m before
  pub kept : free ≡ false → after ≡ before
