-- What the key call with marks needs (documents 01, 'Returned to the caller', and 02, [6]).
use Rattle.std.specs.Prelude.{List, ℕ, ◌≤◌, ℤ, length}
use Rattle.places.specs.Numbering.{block_start}
use Rattle.rules.specs.declared.refusal.Refusal.TheVariants.{Size, OutOfLimit, NoAssignment, TooShort}
use Rattle.rules.specs.Refusing.{Needs, passed, ◌or◌then◌}
use Rattle.tables.specs.Meaning.{TableSized, Satisfiable}
use Rattle.marks.specs.Bytes.{MarksWithin}
use Rattle.keys.specs.Meaning.{NumbersWithin}

-- on a table with marks and a workspace of w words: 1 for n and the table, 1 for the marks, 6, 3, then others
abbrev pub marked_key_needs_then : ℕ → ℕ → List ℤ → List ℕ → ℕ → Needs → Needs
marked_key_needs_then n set t marks w rest =
    TableSized n (length t) or Size then
    (block_start n ≤ length marks) or Size then
    (block_start n ≤ w) or TooShort (block_start n) then
    (NumbersWithin n set t × MarksWithin (block_start n) marks) or OutOfLimit 0 then
    rest

-- and last 5
abbrev pub marked_key_needs : ℕ → ℕ → List ℤ → List ℕ → ℕ → Needs
marked_key_needs n set t marks w = marked_key_needs_then n set t marks w (Satisfiable n t or NoAssignment then passed)
