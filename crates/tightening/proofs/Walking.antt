-- The walk over the live quantities: it pairs all, since rules name live ones alone and the step on any other changes nothing. Assumes nothing.
use mathlib.Core.Path.{◌≡◌, refl, ◌∙◌, sym}
use mathlib.Core.Bool.{Bool, true, false}
use mathlib.Core.List.{List}
use Prim.Native.Nat.{ℕ, suc, ◌≤◌, ◌<◌}
use native.Mathlib.Omega.{arith}
use lib.Dec.{ltb}
use lib.IntN.{ℤ}
use lib.ListN.{length, get_or, get_or-eq_default}
use borrow.Author.Tests.{ltb-true, ltb-false}
use Rattle.tables.proofs.Tests.{clash}
use Rattle.elimination.specs.Hiding.{every}
use Rattle.elimination.specs.Inner.{among, Ready, NamesAlone}
use Rattle.elimination.specs.Promises.{Paired}
use Rattle.elimination.proofs.Lists.{listed_place, none_before, none_between, none_after}
use Rattle.elimination.proofs.Blocks.{inside_same}
use Rattle.elimination.proofs.Promised.{paired_alone}
use Rattle.keys.specs.Inner.{Fits, LiveAlone}
use Rattle.tightening.specs.Tightening.{pair_up_to, clash_up_to}
use Rattle.tightening.specs.Inner.{AllPaired}
use Rattle.tightening.proofs.Pairing.{pair_up_to_length, pair_rest, pair_none, pair_more, clash_more, clash_stays, pair_unnamed, pair_over}
use Rattle.tightening.proofs.Growing.{pair_ready}

-- a table with all quantities below j paired, and no contradiction met
pub record PairedTo (n j : ℕ) (t u : List ℤ) : Type 0 where
  pub table : u ≡ pair_up_to n j t
  pub clear : clash_up_to n j t ≡ false

module _ (n : ℕ) (live : List ℕ) (t : List ℤ) (f : Fits n t) (a : LiveAlone n live t) where
  -- those that are not listed are passed over
  over : (j c : ℕ) (u : List ℤ) → j ≤ c → c ≤ n → ((i : ℕ) → j ≤ i → i < c → among live i ≡ false) → PairedTo n j t u → PairedTo n c t u
  over j c u h g none p =
      let o = pair_over n j c t f.sums.room h g (λ i x y. a.rest i (omega arith) (none i x y)) in
      record { table = p.table ∙ o.0; clear = o.1 p.clear }

  -- an empty list has none
  none_listed : (i : ℕ) → length live ≤ 0 → (b : Bool) → among live i ≡ b → b ≡ false
  none_listed i h true e = let inside = (listed_place live i e).inside in let z : ⊥ = omega arith in absurd z
  none_listed i h false e = refl

  -- the first is reached, or the end of an empty list
  pub walk_first : PairedTo n (get_or live 0 n) t t
  walk_first = go (ltb 0 (length live)) refl
    where
      start : PairedTo n 0 t t
      start = let e = pair_none n t in record { table = e.0; clear = e.1 }

      go : (b : Bool) → ltb 0 (length live) ≡ b → PairedTo n (get_or live 0 n) t t
      go true e =
          let h = ltb-true 0 (length live) e in
          rw (inside_same live 0 n 0 h)
          (over 0 (get_or live 0 0) t (omega arith) (omega (arith, a.listed.below 0 h)) (λ i x y. none_before live a.listed.rising i h y) start)
      go false e =
          let g = ltb-false 0 (length live) e in
          rw (get_or-eq_default live n {n = 0} g) (over 0 n t (omega arith) (omega arith) (λ i x y. none_listed i g (among live i) refl) start)

  -- and from one the next, or the end of the list
  walk_next : (i : ℕ) (u : List ℤ) → i < length live → PairedTo n (suc (get_or live i 0)) t u → PairedTo n (get_or live (suc i) n) t u
  walk_next i u h p = go (ltb (suc i) (length live)) refl
    where
      below : get_or live i 0 < n
      below = a.listed.below i h

      go : (b : Bool) → ltb (suc i) (length live) ≡ b → PairedTo n (get_or live (suc i) n) t u
      go true e =
          let g = ltb-true (suc i) (length live) e in
          rw (inside_same live (suc i) n 0 g)
          (over (suc (get_or live i 0)) (get_or live (suc i) 0) u (a.listed.rising.rises i g) (omega (arith, a.listed.below (suc i) g))
          (λ j x y. none_between live a.listed.rising i j g (omega arith) y) p)
      go false e =
          let g = ltb-false (suc i) (length live) e in
          rw (get_or-eq_default live n {n = suc i} g)
          (over (suc (get_or live i 0)) n u below (omega arith) (λ j x y. none_after live a.listed.rising i j (omega arith) (omega arith)) p)

  -- ---- one step of the walk

  -- at a place of the list the table is paired up to the quantity that stands there
  at_place : (i : ℕ) (u : List ℤ) → i < length live → PairedTo n (get_or live i n) t u → PairedTo n (get_or live i 0) t u
  at_place i u h p = rw (inside_same live i n 0 h) at p

  -- the table is ready for it
  pub walk_ready : (i : ℕ) (u : List ℤ) → i < length live → PairedTo n (get_or live i n) t u → Ready n (get_or live i 0) u
  walk_ready i u h p = rw (at_place i u h p).table (pair_ready n (get_or live i 0) t f (a.listed.below i h))

  -- live quantities alone take part, which is as if all did
  step_all : (i : ℕ) (u v : List ℤ) (r : Bool) → i < length live → PairedTo n (get_or live i n) t u → Paired (among live) n (get_or live i 0) u r v
      → Paired every n (get_or live i 0) (pair_up_to n (get_or live i 0) t) r v
  step_all i u v r h p s =
      rw (at_place i u h p).table at (paired_alone n (get_or live i 0) live u v r (walk_ready i u h p) alone s)
    where
      alone : NamesAlone n (get_or live i 0) live u
      alone k g d e =
          rw (at_place i u h p).table
          (pair_unnamed n (get_or live i 0) k t (omega (arith, a.listed.below i h)) f.sums.room (a.rest k g e))

  -- without a contradiction the walk goes on,
  pub walk_on : (i : ℕ) (u v : List ℤ) (r : Bool) → i < length live → PairedTo n (get_or live i n) t u → Paired (among live) n (get_or live i 0) u r v
      → r ≡ false → PairedTo n (get_or live (suc i) n) t v
  walk_on i u v r h p s e =
      let q = step_all i u v r h p s in
      walk_next i v h (record {
        table = q.table ∙ pair_more n (get_or live i 0) t;
        clear = clash_more n (get_or live i 0) t (at_place i u h p).clear ∙ sym q.reply ∙ e;
      })

  -- with one it stops,
  pub walk_clash : (i : ℕ) (u v : List ℤ) (r : Bool) → i < length live → PairedTo n (get_or live i n) t u → Paired (among live) n (get_or live i 0) u r v
      → r ≡ true → AllPaired n t true v
  walk_clash i u v r h p s e = record {
    reply = sym (clash_stays n (suc j) n t (a.listed.below i h) (clash_more n j t (at_place i u h p).clear ∙ sym q.reply ∙ e));
    table = λ d. clash refl d;
    lent = record { size = rw made (pair_up_to_length n (suc j) t); rest = rw made (pair_rest n (suc j) t); kept = λ d. clash refl d };
  }
    where
      j : ℕ
      j = get_or live i 0

      q : Paired every n j (pair_up_to n j t) r v
      q = step_all i u v r h p s

      made : v ≡ pair_up_to n (suc j) t
      made = q.table ∙ pair_more n j t

  -- and at the end of the list all quantities are paired
  pub walk_end : (i : ℕ) (u : List ℤ) → length live ≤ i → PairedTo n (get_or live i n) t u → AllPaired n t false u
  walk_end i u h p = record {
    reply = sym q.clear;
    table = λ d. q.table;
    lent = record { size = rw q.table (pair_up_to_length n n t); rest = rw q.table (pair_rest n n t); kept = λ d. clash refl d };
  }
    where
      q : PairedTo n n t u
      q = rw (get_or-eq_default live n {n = i} h) at p
