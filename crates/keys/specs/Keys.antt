-- The key of a sheet, 'no assignment', and the replies of the two calls (document 01, 'Hiding', 'Finding an assignment', 'Returned to the
-- caller').
use Rattle.std.specs.Prelude.{Bool, false, cond, not, ◌&&◌, ◌||◌, List, ℕ, zero, suc, leb, eqb, ℤ, pos, length, Ok}
use Rattle.places.specs.Numbering.{block_start}
use Rattle.rules.specs.declared.paper.Paper.{Paper}
use Rattle.rules.specs.declared.paper.Paper.TheVariants.{Sheet}
use Rattle.rules.specs.declared.refusal.Refusal.TheVariants.{Size, OutOfLimit, NoAssignment, TooShort}
use Rattle.rules.specs.Limits.{bound_limit}
use Rattle.rules.specs.Hidden.{set_within}
use Rattle.tables.specs.Tables.{serves, words_in_limit}
use Rattle.tables.specs.Replies.{Reply, reply_number, check}
use Rattle.elimination.specs.Hiding.{every, contradicts, eliminated}

-- of the first m quantities those that are hidden, hidden in increasing number, in a table over n quantities
unfoldable pub hide_up_to : (ℕ → Bool) → ℕ → ℕ → List ℤ → List ℤ
hide_up_to hidden n zero t = t
hide_up_to hidden n (suc j) t = cond (hidden (suc j)) (eliminated n j (hide_up_to hidden n j t)) (hide_up_to hidden n j t)

-- the key: the table with every hidden quantity hidden, in the field's terms its projection on the visible ones
unfoldable pub key_of : (ℕ → Bool) → ℕ → List ℤ → List ℤ
key_of hidden n t = hide_up_to hidden n n t

-- hiding the first m of all quantities, hidden and visible, one after the other, meets a contradiction
unfoldable pub refuted_up_to : ℕ → ℕ → List ℤ → Bool
refuted_up_to n zero t = false
refuted_up_to n (suc j) t = refuted_up_to n j t || contradicts every n j (hide_up_to every n j t)

-- 'no assignment' is decided for all quantities
unfoldable pub refuted : ℕ → List ℤ → Bool
refuted n t = refuted_up_to n n t

-- ---- the calls' replies: document 01's checks, one after the other

-- are all bounds of a table in the limit of a paper with this hidden set in its header?
abbrev pub bounds_in_limit : Paper → ℕ → ℕ → List ℤ → Bool
bounds_in_limit paper n set t = words_in_limit (block_start n) (pos (bound_limit paper n set)) t

-- for a table and a workspace of so many words: 1 for n and the table, 6 for the workspace, and what follows
unfoldable pub lent_checks : ℕ → ℕ → ℕ → Reply → Reply
lent_checks n table workspace next = check (serves n table) Size (check (leb (block_start n) workspace) (TooShort (block_start n)) next)

-- the key call's checks: 1, 6, 3, and what follows
unfoldable pub key_checks : ℕ → ℕ → List ℤ → ℕ → Reply → Reply
key_checks n set t workspace next = lent_checks n (length t) workspace (check (set_within n set && bounds_in_limit Sheet n set t) (OutOfLimit 0) next)

-- its reply: these, and 5
unfoldable pub key_reply : ℕ → ℕ → List ℤ → ℕ → Reply
key_reply n set t workspace = key_checks n set t workspace (check (not (refuted n t)) NoAssignment (Ok tt))

-- the assignment call's: 1, 6 for the workspace, 6 for the assignment, 3, 5. It is lent no hidden set
unfoldable pub assignment_reply : ℕ → List ℤ → ℕ → ℕ → Reply
assignment_reply n t workspace values =
    lent_checks n (length t) workspace
    (check (leb n values) (TooShort n)
    (check (bounds_in_limit Sheet n 0 t) (OutOfLimit 0)
    (check (not (refuted n t)) NoAssignment (Ok tt))))

-- the replies after which the workspace is free: success and 5
abbrev pub frees_workspace : Reply → Bool
frees_workspace r = eqb (reply_number r) 0 || eqb (reply_number r) 5
