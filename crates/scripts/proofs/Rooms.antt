-- What two fine texts need of what is lent and of each other: the checks are these needs in their order, and those made before the tables are filled are their first.
-- Assumes nothing.
use Rattle.std.specs.Prelude.{Ok, Err}
use mathlib.Core.Path.{◌≡◌, refl, sym, ◌∙◌}
use mathlib.Core.Bool.{Bool, true, false, not, ◌&&◌}
use mathlib.Core.Logic.{◌⊎◌, inl, inr}
use Prim.Native.Nat.{ℕ, ◌≤◌, ◌<◌}
use lib.Dec.{leb, eqb}
use borrow.Author.Tests.{le-leb, lt-leb, eqb-true, eq-eqb, ne_eqb}
use Rattle.places.specs.Numbering.{block_start}
use Rattle.rules.specs.declared.paper.Paper.TheVariants.{Sheet, Script}
use Rattle.rules.specs.declared.refusal.Refusal.{Refusal}
use Rattle.rules.specs.declared.refusal.Refusal.TheVariants.{TooShort, Mismatch}
use Rattle.rules.specs.Hidden.{hidden_in}
use Rattle.rules.specs.Refusing.{Needs, passed, ◌or◌then◌}
use Rattle.tables.specs.Replies.{Reply, check}
use Rattle.tables.specs.Tables.{table_names_hidden}
use Rattle.tables.proofs.Tests.{both_true, refused_done}
use Rattle.tables.proofs.Refusing.{Tied, tied_done, tied_more, Before, before_none, before_more}
use Rattle.keys.proofs.Checking.{length_test}
use Rattle.marking.specs.Meaning.{workspace_size}
use Rattle.reading.specs.Texts.{Contents}
use Rattle.reading.specs.Meaning.{FineLines, contents_limit}
use Rattle.scripts.specs.declared.room.Lengths.{Lengths}
use Rattle.scripts.specs.Meaning.{set_in, table_in, pair_needs, Room}
use Rattle.scripts.specs.Marking.{room_checks, same_headers, pair_checks}
use Rattle.scripts.specs.Inner.{first_checks}
use Rattle.scripts.proofs.Matching.{fits_matches}

module _ (n : ℕ) (lent : Lengths) where
  -- the needs of what is lent, and then others
  abbrev room_needs : Needs → Needs
  room_needs rest =
      (block_start n ≤ lent.sheet) or TooShort (block_start n) then
      (block_start n ≤ lent.script) or TooShort (block_start n) then
      (workspace_size n ≤ lent.workspace) or TooShort (workspace_size n) then
      (n ≤ lent.values) or TooShort n then
      rest

  room_tied : (rest : Needs) (next : Reply) → Tied rest next → Tied (room_needs rest) (room_checks n lent next)
  unfolding room_checks
  room_tied rest next t =
      tied_more _ _ _ _ _ (length_test (block_start n) lent.sheet) (λ a.
      tied_more _ _ _ _ _ (length_test (block_start n) lent.script) (λ b.
      tied_more _ _ _ _ _ (length_test (workspace_size n) lent.workspace) (λ c.
      tied_more _ _ _ _ _ (length_test n lent.values) (λ d. t))))

  -- the last of the checks, the last two and the last three
  abbrev values_check : Reply → Reply
  values_check next = check (leb n lent.values) (TooShort n) next

  abbrev workspace_check : Reply → Reply
  workspace_check next = check (leb (workspace_size n) lent.workspace) (TooShort (workspace_size n)) (values_check next)

  abbrev script_check : Reply → Reply
  script_check next = check (leb (block_start n) lent.script) (TooShort (block_start n)) (workspace_check next)

  room_before : Before (room_checks n lent)
  unfolding room_checks
  room_before =
      before_more (leb (block_start n) lent.sheet) (TooShort (block_start n)) script_check
      (before_more (leb (block_start n) lent.script) (TooShort (block_start n)) workspace_check
      (before_more (leb (workspace_size n) lent.workspace) (TooShort (workspace_size n)) values_check
      (before_more (leb n lent.values) (TooShort n) (λ next. next) before_none)))

  -- ---- each answer of the program

  pub tables_short : (lent.sheet < block_start n) ⊎ ((block_start n ≤ lent.sheet) × (lent.script < block_start n))
      → Err (TooShort (block_start n)) ≡ room_checks n lent (Ok tt)
  unfolding room_checks
  tables_short (inl h) = rw (lt-leb (block_start n) lent.sheet h)
  tables_short (inr (a, h)) = rw (le-leb (block_start n) lent.sheet a, lt-leb (block_start n) lent.script h)

  pub workspace_short : block_start n ≤ lent.sheet → block_start n ≤ lent.script → lent.workspace < workspace_size n
      → Err (TooShort (workspace_size n)) ≡ room_checks n lent (Ok tt)
  unfolding room_checks
  workspace_short a b h =
      rw (le-leb (block_start n) lent.sheet a, le-leb (block_start n) lent.script b, lt-leb (workspace_size n) lent.workspace h)

  pub values_short : block_start n ≤ lent.sheet → block_start n ≤ lent.script → workspace_size n ≤ lent.workspace → lent.values < n
      → Err (TooShort n) ≡ room_checks n lent (Ok tt)
  unfolding room_checks
  values_short a b c h =
      rw (
        le-leb (block_start n) lent.sheet a,
        le-leb (block_start n) lent.script b,
        le-leb (workspace_size n) lent.workspace c,
        lt-leb n lent.values h,
      )

  pub room_roomy : Room n lent → Ok tt ≡ room_checks n lent (Ok tt)
  unfolding room_checks
  room_roomy r =
      rw (
        le-leb (block_start n) lent.sheet r.sheet_room,
        le-leb (block_start n) lent.script r.script_room,
        le-leb (workspace_size n) lent.workspace r.workspace_room,
        le-leb n lent.values r.values_room,
      )

  -- what is lent and is enough leaves what follows to decide
  pub roomy_next : Room n lent → (next : Reply) → room_checks n lent next ≡ next
  roomy_next r next = room_before.goes_on (sym (room_roomy r)) next

  -- ---- the checks before the tables are filled

  module _ (set script_n script_set : ℕ) where
    pub room_refused : (f : Refusal) → Err f ≡ room_checks n lent (Ok tt) → Err f ≡ first_checks n set script_n script_set lent
    unfolding first_checks
    room_refused f e = sym (room_before.stands f (sym e) _)

    headers_checked : Ok tt ≡ room_checks n lent (Ok tt)
        → check (same_headers n set script_n script_set) Mismatch (Ok tt) ≡ first_checks n set script_n script_set lent
    unfolding first_checks
    headers_checked e = sym (room_before.goes_on (sym e) _)

    pub headers_same : Ok tt ≡ room_checks n lent (Ok tt) → n ≡ script_n → set ≡ script_set → Ok tt ≡ first_checks n set script_n script_set lent
    headers_same e a b = rw (← headers_checked e, eq-eqb n script_n a, eq-eqb set script_set b)

    pub headers_other : Ok tt ≡ room_checks n lent (Ok tt) → ((n ≡ script_n) × (set ≡ script_set → ⊥)) ⊎ (n ≡ script_n → ⊥)
        → Err Mismatch ≡ first_checks n set script_n script_set lent
    headers_other e (inl (a, b)) = rw (← headers_checked e, eq-eqb n script_n a, ne_eqb set script_set b)
    headers_other e (inr a) = rw (← headers_checked e, ne_eqb n script_n a)

    -- where they are done there is room, and the headers are the same
    pub first_tells : first_checks n set script_n script_set lent ≡ Ok tt → Room n lent × (n ≡ script_n) × (set ≡ script_set)
    unfolding first_checks
    first_tells e =
        let t = room_tied ((same_headers n set script_n script_set ≡ true) or Mismatch then passed) (check (same_headers n set script_n script_set) Mismatch (Ok tt))
        (tied_more _ _ _ _ _ (λ x. x, λ x. x) (λ x. tied_done)) in
        go (t.accepted.0 e)
      where
        go : (block_start n ≤ lent.sheet) × ((block_start n ≤ lent.script) × ((workspace_size n ≤ lent.workspace)
            × ((n ≤ lent.values) × ((same_headers n set script_n script_set ≡ true) × Unit {0}))))
            → Room n lent × (n ≡ script_n) × (set ≡ script_set)
        go (a, (b, (c, (d, (h, u))))) =
            let p = both_true (eqb n script_n) (eqb set script_set) h in
            (record { sheet_room = a; script_room = b; workspace_room = c; values_room = d }, eqb-true n script_n p.0, eqb-true set script_set p.1)

-- ---- two texts that are fine by themselves

-- they are refused by the first need that is not met
pub pair_tied : (c d : Contents) → FineLines (contents_limit Sheet c) c → FineLines (contents_limit Script d) d → (lent : Lengths)
    → Tied (pair_needs c d lent) (pair_checks c d lent)
unfolding pair_checks
pair_tied c d f g lent = room_tied c.count lent _ _ (tied_more _ _ _ _ _ (fits_matches c d f g) (λ m. tied_done))

-- a refusal before the tables are filled is the whole's
pub first_refused : (c d : Contents) (lent : Lengths) (f : Refusal) → first_checks c.count (set_in c) d.count (set_in d) lent ≡ Err f
    → pair_checks c d lent ≡ Err f
unfolding first_checks pair_checks
first_refused c d lent f e = go (room_checks c.count lent (Ok tt)) refl
  where
    same : Bool
    same = same_headers c.count (set_in c) d.count (set_in d)

    named : Bool
    named = not (table_names_hidden (hidden_in (set_in c)) c.count (table_in d))

    b : Before (room_checks c.count lent)
    b = room_before c.count lent

    headers : (s : Bool) → check s Mismatch (Ok tt) ≡ Err f → check (s && named) Mismatch (Ok tt) ≡ Err f
    headers true h = absurd (refused_done (sym h))
    headers false h = h

    go : (r : Reply) → room_checks c.count lent (Ok tt) ≡ r → room_checks c.count lent (check (same && named) Mismatch (Ok tt)) ≡ Err f
    go (Ok tt) h = b.goes_on h _ ∙ headers same (sym (b.goes_on h (check same Mismatch (Ok tt))) ∙ e)
    go (Err g) h = b.stands g h _ ∙ sym (b.stands g h (check same Mismatch (Ok tt))) ∙ e

-- and where they are done, the script's names decide
pub first_done : (c d : Contents) (lent : Lengths) → first_checks c.count (set_in c) d.count (set_in d) lent ≡ Ok tt
    → pair_checks c d lent ≡ check (not (table_names_hidden (hidden_in (set_in c)) c.count (table_in d))) Mismatch (Ok tt)
unfolding first_checks pair_checks
first_done c d lent e = go (room_checks c.count lent (Ok tt)) refl
  where
    same : Bool
    same = same_headers c.count (set_in c) d.count (set_in d)

    named : Bool
    named = not (table_names_hidden (hidden_in (set_in c)) c.count (table_in d))

    b : Before (room_checks c.count lent)
    b = room_before c.count lent

    headers : (s : Bool) → check s Mismatch (Ok tt) ≡ Ok tt → check (s && named) Mismatch (Ok tt) ≡ check named Mismatch (Ok tt)
    headers true h = refl
    headers false h = absurd (refused_done h)

    go : (r : Reply) → room_checks c.count lent (Ok tt) ≡ r → room_checks c.count lent (check (same && named) Mismatch (Ok tt)) ≡ check named Mismatch (Ok tt)
    go (Ok tt) h = b.goes_on h _ ∙ headers same (sym (b.goes_on h (check same Mismatch (Ok tt))) ∙ e)
    go (Err g) h = absurd (refused_done (sym (b.stands g h (check same Mismatch (Ok tt))) ∙ e))
