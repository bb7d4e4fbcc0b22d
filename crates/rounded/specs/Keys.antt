-- The reply of the key call with marks (document 02, [6]).
use Rattle.std.specs.Prelude.{not, ◌&&◌, List, ℕ, leb, ℤ, length, Ok}
use Rattle.places.specs.Numbering.{block_start}
use Rattle.rules.specs.declared.paper.Paper.TheVariants.{Sheet}
use Rattle.rules.specs.declared.refusal.Refusal.TheVariants.{Size, OutOfLimit, NoAssignment, TooShort}
use Rattle.rules.specs.Hidden.{set_within}
use Rattle.tables.specs.Replies.{Reply, check}
use Rattle.tables.specs.Tables.{serves}
use Rattle.marks.specs.Bytes.{marks_in}
use Rattle.keys.specs.Keys.{bounds_in_limit, refuted}

-- the checks: 1 for n, the table and the marks, 6 for the workspace, 3 for the set, the words and the marks, and what follows
unfoldable pub marked_key_checks : ℕ → ℕ → List ℤ → List ℕ → ℕ → Reply → Reply
marked_key_checks n set t marks workspace next =
    check (serves n (length t) && leb (block_start n) (length marks)) Size
    (check (leb (block_start n) workspace) (TooShort (block_start n))
    (check (set_within n set && bounds_in_limit Sheet n set t && marks_in (block_start n) marks) (OutOfLimit 0) next))

-- and 5
unfoldable pub marked_key_reply : ℕ → ℕ → List ℤ → List ℕ → ℕ → Reply
marked_key_reply n set t marks workspace = marked_key_checks n set t marks workspace (check (not (refuted n t)) NoAssignment (Ok tt))
