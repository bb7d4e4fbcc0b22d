-- The quantities of a set hidden in increasing number, each paired with the live ones alone: none of the set before it is named any more. Assumes nothing.
use mathlib.Core.Path.{◌≡◌, refl, sym, ◌∙◌}
use mathlib.Core.Bool.{Bool, true, false, ◌&&◌}
use mathlib.Core.List.{List}
use Prim.Native.Nat.{ℕ, suc, ◌+◌, ◌≤◌, ◌<◌}
use native.Mathlib.Numerals.{add-one}
use native.Mathlib.Omega.{arith}
use lib.Dec.{ltb}
use lib.IntN.{ℤ}
use lib.ListN.{length}
use borrow.Author.Tests.{le-leb, ltb-true, ltb-false}
use Rattle.places.specs.Numbering.{block_start}
use Rattle.rules.specs.Hidden.{hidden_in}
use Rattle.tables.specs.Meaning.{Satisfiable}
use Rattle.tables.proofs.Tests.{clash}
use Rattle.elimination.specs.Hiding.{every, contradicts}
use Rattle.elimination.specs.Promises.{QuantityHidden}
use Rattle.elimination.specs.Magnitude.{Unnamed}
use Rattle.elimination.specs.Inner.{Ready}
use Rattle.keys.specs.Keys.{hide_up_to}
use Rattle.keys.specs.Inner.{Fits, ContradictionMet, MemberHidden, SetHidden}
use Rattle.keys.proofs.Several.{hide_up_to_length, hide_up_to_unnamed, rest_hidden, hide_more, hide_all}
use Rattle.keys.proofs.Fitting.{hide_ample}
use Rattle.keys.proofs.AtTurns.{met_none}
use Rattle.keys.proofs.Deciding.{NoneMet, turns_some}

-- at each turn the table is ready to have the next one hidden
pub hide_ready : (n set j : ℕ) (t : List ℤ) → Fits n t → j < n → Ready n j (hide_up_to (hidden_in set) n j t)
hide_ready n set j t f h = let a = hide_ample (hidden_in set) n t f j h in record { most = f.sums.most; one = h; room = a.room; words = a.words }

pub hide_gone : (n set j : ℕ) (t : List ℤ) → block_start n ≤ length t → j ≤ n → (i : ℕ) → i < j → hidden_in set (suc i) ≡ true
    → Unnamed n i (hide_up_to (hidden_in set) n j t)
hide_gone n set j t l h i g e = hide_up_to_unnamed (hidden_in set) n j i t h l (rw (le-leb (suc i) j g, e))

-- ---- one quantity

-- a quantity of the set is hidden
pub member_hidden : (n set j : ℕ) (t u : List ℤ) (r : Bool) → hidden_in set (j + 1) ≡ true → QuantityHidden n j t r u → MemberHidden n set j t r u
member_hidden n set j t u r e q =
    let f : hidden_in set (suc j) ≡ true = rw (add-one j) at e in record { reply = rw f q.reply; table = rw f q.table }

-- ---- all of them

module _ (n set : ℕ) (t : List ℤ) (f : Fits n t) where
  abbrev up_to : ℕ → List ℤ
  up_to j = hide_up_to (hidden_in set) n j t

  module _ (j : ℕ) (u v : List ℤ) (r : Bool) (h : j < n) (e : u ≡ up_to j) (q : MemberHidden n set j u r v) where
    -- the table after a turn
    pub member_next : v ≡ hide_up_to (hidden_in set) n (suc j) t
    member_next = q.table ∙ rw e (hide_more (hidden_in set) n j t)

    met : (b : Bool) → r ≡ b → b ≡ (hidden_in set (suc j) && contradicts every n j (up_to j))
    met b d = sym d ∙ q.reply ∙ rw e

    -- no contradiction is met where there was none before,
    pub member_clear : r ≡ false → NoneMet (hidden_in set) n j t → NoneMet (hidden_in set) n (suc j) t
    member_clear d c i g o = go (ltb i j) refl
      where
        go : (b : Bool) → ltb i j ≡ b → contradicts every n i (up_to i) ≡ false
        go true a = c i (ltb-true i j a) o
        go false a =
            let s : i ≡ j = omega (arith, ltb-false i j a) in
            let own : hidden_in set (suc j) ≡ true = rw s at o in
            rw s (sym (met false d ∙ rw own))

    -- and where one is, the turns end
    member_met : r ≡ true → ContradictionMet (hidden_in set) n t
    member_met d = go (hidden_in set (suc j)) refl (met true d)
      where
        go : (b : Bool) → hidden_in set (suc j) ≡ b → true ≡ (b && contradicts every n j (up_to j)) → ContradictionMet (hidden_in set) n t
        go true o a = record { turn = j; inside = h; member = o; met = sym a }
        go false o a = clash (sym a) refl

    pub set_clash : r ≡ true → SetHidden n set t true v
    set_clash d = record {
      met = (λ c. member_met d, λ c. refl);
      none = λ c. met_none (hidden_in set) n t (hide_ample (hidden_in set) n t f) (member_met d);
      key = λ c. clash refl c;
      some = λ c. clash refl c;
      lent = record {
        size = rw member_next (hide_up_to_length (hidden_in set) n (suc j) t);
        rest = rw member_next (rest_hidden (hidden_in set) n (suc j) t);
        kept = λ c. clash refl c;
      };
    }

  -- with none met to the end, what is left has an assignment only where the table has
  pub set_hidden : (u : List ℤ) → u ≡ hide_up_to (hidden_in set) n n t → NoneMet (hidden_in set) n n t → SetHidden n set t false u
  set_hidden u e c = record {
    met = (λ d. clash d refl, λ m. clash m.met (c m.turn m.inside m.member));
    none = λ d. clash d refl;
    key = λ d. e ∙ hide_all (hidden_in set) n t;
    some = λ d s. left (rw e at s);
    lent = record {
      size = rw e (hide_up_to_length (hidden_in set) n n t);
      rest = rw e (rest_hidden (hidden_in set) n n t);
      kept = λ d. clash refl d;
    };
  }
    where
      left : Satisfiable n (up_to n) → Satisfiable n t
      left s = turns_some (hidden_in set) n n t s.assignment (omega arith) (hide_ample (hidden_in set) n t f) c s.satisfies
