-- What is returned to a caller, and the number and values for each refusal: 1 to 7 are document 01's ('Returned to the caller'), later ones document 02's. A new refusal is one clause
-- each of `refusal_number` and `refusal_beside`.
use Rattle.std.specs.Prelude.{ℕ, List, [], ◌∷◌, ℤ, pos, Result, Ok, Err}
use Rattle.rules.specs.declared.refusal.Refusal.{Refusal}
use Rattle.rules.specs.declared.refusal.Refusal.TheVariants.{Size, Malformed, OutOfLimit, Cancelling, NoAssignment, TooShort, Mismatch, ListSize, NotCanonical}

-- the number returned
abbrev pub refusal_number : Refusal → ℕ
refusal_number Size = 1
refusal_number (Malformed line) = 2
refusal_number (OutOfLimit line) = 3
refusal_number (Cancelling line) = 4
refusal_number NoAssignment = 5
refusal_number (TooShort needed) = 6
refusal_number Mismatch = 7
refusal_number ListSize = 8
refusal_number (NotCanonical line) = 9

-- what is returned beside a refusal's number: nothing, the line it is about (0 outside texts), or the length needed
pub data Beside : Type 0 where
  nothing_beside : Beside
  line-beside : ℕ → Beside
  length_beside : ℕ → Beside

abbrev pub refusal_beside : Refusal → Beside
refusal_beside Size = nothing_beside
refusal_beside (Malformed l) = line-beside l
refusal_beside (OutOfLimit l) = line-beside l
refusal_beside (Cancelling l) = line-beside l
refusal_beside NoAssignment = nothing_beside
refusal_beside (TooShort m) = length_beside m
refusal_beside Mismatch = nothing_beside
refusal_beside ListSize = nothing_beside
refusal_beside (NotCanonical l) = line-beside l

-- the same as values
abbrev pub beside_values : Beside → List ℤ
beside_values nothing_beside = []
beside_values (line-beside l) = pos l ∷ []
beside_values (length_beside m) = pos m ∷ []

-- as one number, 0 where there is none
abbrev pub beside_value : Beside → ℕ
beside_value nothing_beside = 0
beside_value (line-beside l) = l
beside_value (length_beside m) = m

-- and the line alone, 0 where there is none
abbrev pub beside_line : Beside → ℕ
beside_line nothing_beside = 0
beside_line (line-beside l) = l
beside_line (length_beside m) = 0

abbrev pub refusal_value : Refusal → ℕ
refusal_value f = beside_value (refusal_beside f)

abbrev pub refusal_line : Refusal → ℕ
refusal_line f = beside_line (refusal_beside f)

-- what is returned by a call: a number, and the values beside it (marking two texts also names a paper with a refusal, and n with a verdict)
pub record Returned : Type 0 where
  pub number : ℕ
  pub values : List ℤ

-- a refusal as it is returned
abbrev pub refused_as : Refusal → Returned
refused_as f = record { number = refusal_number f; values = beside_values (refusal_beside f) }

-- the same of an answer that may be a refusal: 0 where there is none
abbrev pub answer_number : {A : Type 0} → Result A Refusal → ℕ
answer_number (Ok a) = 0
answer_number (Err f) = refusal_number f

abbrev pub answer_value : {A : Type 0} → Result A Refusal → ℕ
answer_value (Ok a) = 0
answer_value (Err f) = refusal_value f
