-- The checks of marking two tables: which refusal stands at each, and that they are document 01's, in its order. Assumes nothing.
use mathlib.Core.Path.{◌≡◌, sym}
use mathlib.Core.Bool.{Bool, true, false, ◌&&◌, and-false}
use mathlib.Core.List.{List}
use mathlib.Core.Logic.{◌↔◌}
use Prim.Native.Nat.{ℕ, ◌*◌, ◌≤◌, ◌<◌}
use native.Mathlib.Omega.{arith}
use lib.IntN.{ℤ}
use lib.ListN.{length}
use borrow.Author.Tests.{le-leb, lt-leb}
use Rattle.places.specs.Numbering.{block_start}
use Rattle.rules.specs.declared.paper.Paper.TheVariants.{Sheet, Script}
use Rattle.rules.specs.declared.refusal.Refusal.TheVariants.{Size, OutOfLimit, TooShort, Mismatch}
use Rattle.rules.specs.Hidden.{hidden_in, set_within}
use Rattle.rules.specs.Limits.{max_quantities}
use Rattle.rules.specs.Refusing.{AllMet}
use Rattle.tables.specs.Tables.{table_size, serves, table_names_hidden}
use Rattle.tables.specs.Meaning.{TableSized, BoundsWithin}
use Rattle.tables.proofs.Tests.{both_true}
use Rattle.tables.proofs.Sizes.{small_start, size_known, serves_tells, serves_sized}
use Rattle.tables.proofs.Refusing.{Tied, tied_done, tied_more}
use Rattle.tables.proofs.Naming.{names_test}
use Rattle.keys.specs.Keys.{bounds_in_limit}
use Rattle.keys.specs.Meaning.{NumbersWithin}
use Rattle.keys.proofs.Checking.{length_test, bounds}
use Rattle.marking.specs.Meaning.{workspace_size, mark_needs}
use Rattle.marking.specs.Marking.{numbers_within, mark_checks}
use Rattle.marking.specs.Inner.{TablesAccepted}
use Rattle.std.specs.Prelude.{Ok, Err}

-- ---- the tests, and what they mean

module _ (n set : ℕ) (sheet script : List ℤ) where
  -- do both tables serve?
  abbrev serving : Bool
  serving = serves n (length sheet) && serves n (length script)

  serving_sized : (serving ≡ true) ↔ (TableSized n (length sheet) × TableSized n (length script))
  serving_sized = (
    λ e. let p = both_true (serves n (length sheet)) (serves n (length script)) e in ((serves_sized n (length sheet)).0 p.0, (serves_sized n (length script)).0 p.1),
    λ s. rw ((serves_sized n (length sheet)).1 s.0, (serves_sized n (length script)).1 s.1),
  )

  within_limits : (numbers_within n set sheet script ≡ true) ↔ (NumbersWithin n set sheet × BoundsWithin Script n set script)
  unfolding numbers_within
  within_limits = (to, λ l. rw (l.0.0, (bounds Sheet n set sheet).1 l.0.1, (bounds Script n set script).1 l.1))
    where
      to : (set_within n set && (bounds_in_limit Sheet n set sheet && bounds_in_limit Script n set script)) ≡ true
          → NumbersWithin n set sheet × BoundsWithin Script n set script
      to e =
          let p = both_true (set_within n set) (bounds_in_limit Sheet n set sheet && bounds_in_limit Script n set script) e in
          let q = both_true (bounds_in_limit Sheet n set sheet) (bounds_in_limit Script n set script) p.1 in
          ((p.0, (bounds Sheet n set sheet).0 q.0), (bounds Script n set script).0 q.1)

-- marking is refused by the first need that is not met
pub mark_tied : (n set : ℕ) (sheet script : List ℤ) (w v : ℕ) → Tied (mark_needs n set sheet script w v) (mark_checks n set sheet script w v)
unfolding mark_checks
mark_tied n set sheet script w v =
    tied_more _ _ _ _ _ (serving_sized n set sheet script) (λ s.
    tied_more _ _ _ _ _ (length_test (workspace_size n) w) (λ l.
    tied_more _ _ _ _ _ (length_test n v) (λ k.
    tied_more _ _ _ _ _ (within_limits n set sheet script) (λ m.
    tied_more _ _ _ _ _ (names_test (hidden_in set) n script s.1.room) (λ x. tied_done)))))

-- where all are met, that is what a verdict asks
pub met_accepted : (n set : ℕ) (sheet script : List ℤ) (w v : ℕ) → AllMet (mark_needs n set sheet script w v) → TablesAccepted n set sheet script w v
met_accepted n set sheet script w v (s, (l, (k, (m, (x, u))))) = record {
  sized = record { some = s.0.some; most = s.0.most; sheet_room = s.0.room; script_room = s.1.room };
  workspace_room = l;
  values_room = k;
  limits = record { set-within = m.0.0; sheet_within = m.0.1; script_within = m.1 };
  visible = x;
}

-- ---- each answer of the program

module _ (n set : ℕ) (sheet script : List ℤ) where
  -- a set past n
  pub set_outside : set_within n set ≡ false → false ≡ numbers_within n set sheet script
  unfolding numbers_within
  set_outside e = rw e

  -- a bound of the sheet past its limit
  pub sheet_outside : bounds_in_limit Sheet n set sheet ≡ false → false ≡ numbers_within n set sheet script
  unfolding numbers_within
  sheet_outside e = rw (e, and-false (set_within n set))

  -- else the script's bounds decide
  pub script_decides : (r : Bool) → set_within n set ≡ true → bounds_in_limit Sheet n set sheet ≡ true → bounds_in_limit Script n set script ≡ r
      → r ≡ numbers_within n set sheet script
  unfolding numbers_within
  script_decides r d e f = rw (d, e, f)

module _ (n set : ℕ) (sheet script : List ℤ) (w v : ℕ) where
  -- a sheet that does not serve
  pub sheet_refused : serves n (length sheet) ≡ false → Err Size ≡ mark_checks n set sheet script w v
  unfolding mark_checks
  sheet_refused e = rw e

  -- a script that does not
  pub script_refused : serves n (length script) ≡ false → Err Size ≡ mark_checks n set sheet script w v
  unfolding mark_checks
  script_refused e = rw (e, and-false (serves n (length sheet)))

-- both serve, and m is the size of a table
pub record BothServe (n m : ℕ) (sheet script : List ℤ) : Type 0 where
  pub sheet_serves : serves n (length sheet) ≡ true
  pub script_serves : serves n (length script) ≡ true
  pub size : m ≡ block_start n

pub both_serve : (n m : ℕ) (sheet script : List ℤ) → true ≡ serves n (length sheet) → true ≡ serves n (length script) → m ≡ table_size n → BothServe n m sheet script
both_serve n m sheet script d e s = record {
  sheet_serves = sym d;
  script_serves = sym e;
  size = size_known n m (serves_tells n (length sheet) (sym d)).most s;
}

-- that size is small
pub both_small : (n m : ℕ) (sheet script : List ℤ) → BothServe n m sheet script → m ≤ 2 * (max_quantities * max_quantities)
both_small n m sheet script b =
    omega (arith, b.size, small_start n (serves_tells n (length sheet) b.sheet_serves).most)

module _ (n set m : ℕ) (sheet script : List ℤ) (w v : ℕ) (b : BothServe n m sheet script) where
  -- a workspace that is too short
  pub workspace_refused : w < 2 * m → Err (TooShort (2 * m)) ≡ mark_checks n set sheet script w v
  unfolding mark_checks
  workspace_refused h = rw (b.sheet_serves, b.script_serves, lt-leb (workspace_size n) w (omega (arith, b.size)), b.size)

  module _ (l : 2 * m ≤ w) where
    -- an assignment that is
    pub values_refused : v < n → Err (TooShort n) ≡ mark_checks n set sheet script w v
    unfolding mark_checks
    values_refused g = rw (b.sheet_serves, b.script_serves, le-leb (workspace_size n) w (omega (arith, b.size)), lt-leb n v g)

    module _ (k : n ≤ v) where
      -- a number outside its limit
      pub numbers_refused : numbers_within n set sheet script ≡ false → Err (OutOfLimit 0) ≡ mark_checks n set sheet script w v
      unfolding mark_checks
      numbers_refused e = rw (b.sheet_serves, b.script_serves, le-leb (workspace_size n) w (omega (arith, b.size)), le-leb n v k, e)

      -- all limits kept, the names decide
      module _ (e : numbers_within n set sheet script ≡ true) where
        pub names_refused : true ≡ table_names_hidden (hidden_in set) n script → Err Mismatch ≡ mark_checks n set sheet script w v
        unfolding mark_checks
        names_refused d = rw (b.sheet_serves, b.script_serves, le-leb (workspace_size n) w (omega (arith, b.size)), le-leb n v k, e, ← d)

        pub names_passed : false ≡ table_names_hidden (hidden_in set) n script → Ok tt ≡ mark_checks n set sheet script w v
        unfolding mark_checks
        names_passed d = rw (b.sheet_serves, b.script_serves, le-leb (workspace_size n) w (omega (arith, b.size)), le-leb n v k, e, ← d)
