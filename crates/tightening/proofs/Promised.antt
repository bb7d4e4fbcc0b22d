-- The contract of `tighten`, from plain facts. Assumes nothing.
use mathlib.Core.Path.{◌≡◌, refl, sym, ◌∙◌}
use mathlib.Core.Bool.{Bool, true, false}
use mathlib.Core.List.{List}
use mathlib.Core.Logic.{◌↔◌}
use Prim.Native.Nat.{ℕ, ◌<◌}
use native.Mathlib.Omega.{arith}
use lib.IntN.{ℤ}
use Rattle.words.specs.Change.{word_at}
use Rattle.places.specs.Numbering.{block_start}
use Rattle.tables.specs.Meaning.{Unsatisfiable}
use Rattle.tables.proofs.Tests.{clash}
use Rattle.keys.specs.Keys.{refuted}
use Rattle.keys.specs.Inner.{Fits, LiveAlone}
use Rattle.keys.proofs.Deciding.{refuted_exactly}
use Rattle.tightening.specs.Tightening.{pair_up_to, strengthened, tightened}
use Rattle.tightening.specs.Promises.{LeastBound, Tightened}
use Rattle.tightening.specs.Inner.{AllPaired, Adding}
use Rattle.tightening.proofs.Pairing.{pair_unnamed}
use Rattle.tightening.proofs.Growing.{pair_ample}
use Rattle.tightening.proofs.Keeping.{strengthen_length, strengthen_rest}
use Rattle.tightening.proofs.Least.{clash_refuted, tightened_least}

-- the words of a table paired without a contradiction add
pub clear_adding : (n : ℕ) (t u : List ℤ) → Fits n t → AllPaired n t false u → Adding n u
clear_adding n t u f p =
    let a = pair_ample n n t f (omega arith) in rw (p.table refl) (record { most = f.sums.most; room = a.room; words = a.words })

-- and its rules name live quantities alone, as before
pub clear_alone : (n : ℕ) (live : List ℕ) (t u : List ℤ) → Fits n t → LiveAlone n live t → AllPaired n t false u → LiveAlone n live u
clear_alone n live t u f a p =
    rw (p.table refl) (record { listed = a.listed; rest = λ i h e. pair_unnamed n n i t (omega arith) f.sums.room (a.rest i h e) })

-- the answer tells whether no integers satisfy the table
answer_tells : (n : ℕ) (t : List ℤ) (r : Bool) → Fits n t → r ≡ refuted n t → (r ≡ true) ↔ Unsatisfiable n t
answer_tells n t r f e = rw e (refuted_exactly n t f)

-- with a contradiction met, no integers satisfy the table
pub tightened_none : (n : ℕ) (t u : List ℤ) → Fits n t → AllPaired n t true u → Tightened n t true u
tightened_none n t u f p = record {
  reply = same;
  none = answer_tells n t true f same;
  table = λ e. clash refl e;
  lent = p.lent;
  bounds = λ e. clash refl e;
}
  where
    same : true ≡ refuted n t
    same = p.reply ∙ clash_refuted n t f

-- with none, the strengthened table is the tightest
pub tightened_some : (n : ℕ) (t u v : List ℤ) → Fits n t → AllPaired n t false u → v ≡ strengthened n u → Tightened n t false v
unfolding tightened
tightened_some n t u v f p e = record {
  reply = same;
  none = answer_tells n t false f same;
  table = λ d. made;
  lent = record {
    size = rw e (strengthen_length n u ∙ p.lent.size);
    rest = rw e (strengthen_rest n u ∙ p.lent.rest);
    kept = λ h. clash refl h;
  };
  bounds = λ d. bounds;
}
  where
    same : false ≡ refuted n t
    same = p.reply ∙ clash_refuted n t f

    made : v ≡ strengthened n (pair_up_to n n t)
    made = e ∙ rw (p.table refl)

    bounds : (k : ℕ) → k < block_start n → LeastBound n t k (word_at v k)
    bounds = rw made (tightened_least n t f (sym p.reply))
