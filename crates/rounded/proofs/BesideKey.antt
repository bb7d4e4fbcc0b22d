-- A table that stands beside marked places, with the quantities of a set hidden in both: it stays beside them, meets no contradiction where the rules meet none, and tells the marks of the key. Assumes nothing.
use mathlib.Core.Path.{◌≡◌}
use mathlib.Core.Bool.{Bool, false}
use mathlib.Core.List.{List}
use Prim.Native.Nat.{ℕ, ◌+◌, ◌*◌, ◌≤◌, ◌<◌}
use native.Mathlib.Omega.{arith}
use lib.IntN.{ℤ}
use lib.ListN.{length}
use Rattle.integers.proofs.Parts.{linear, positive_part, negative_part, parts_add}
use Rattle.places.specs.Numbering.{block_start}
use Rattle.rules.specs.Literal.{negated}
use Rattle.tables.specs.Meaning.{WordsWithin}
use Rattle.tables.proofs.Tests.{neither}
use Rattle.elimination.specs.Hiding.{every, bare_below, pair_word, lone_word, any_bare, contradicts, eliminated}
use Rattle.elimination.specs.Magnitude.{add_limit}
use Rattle.elimination.proofs.Step.{bare_clear, any_bare_clear}
use Rattle.marks.specs.Marks.{Marked}
use Rattle.keys.specs.Keys.{hide_up_to}
use Rattle.keys.specs.Inner.{SetFits}
use Rattle.keys.proofs.Fitting.{set_ample}
use Rattle.rounded.specs.Hiding.{pair_marked, lone_marked, hide_marked, marked_up_to}
use Rattle.rounded.proofs.Bounds.{Agrees, turns_keep, pair_bound, lone_bound, keeps_agrees}
use Rattle.rounded.proofs.Masking.{Beside, beside_held}
use Rattle.rounded.proofs.BesideStep.{AllBeside, AllAdd, pair_beside, lone_beside, step_beside}

-- the bounds of marked places add where those of the table do
pub agreed_add : (n : ℕ) (places : ℕ → Marked) (t : List ℤ) → block_start n ≤ length t → WordsWithin (block_start n) add_limit t → Agrees n places t → AllAdd n places
agreed_add n places t l w e k h = rw (e k h) (λ r. w.each k h (omega arith) r)

-- ---- contradictions

-- where two rules are no contradiction, the words beside them are none
bare_beside : (g h : ℕ) (x y : ℤ) (a b : Marked) → Beside g x a → Beside h y b → bare_below a.bound b.bound ≡ false → bare_below x y ≡ false
unfolding positive_part negative_part
bare_beside g h x y a b c d e =
    (bare_clear x y).1
    (λ r q. let k = (bare_clear a.bound b.bound).0 e (beside_held c r) (beside_held d q) in
    let u = c.twice r in let v = d.twice q in
    omega (linear, parts_add x y, parts_add a.bound b.bound, parts_add a.bound a.bound, parts_add b.bound b.bound))

module _ (n j : ℕ) (t v : List ℤ) (places : ℕ → Marked) (inside : j < n) (same : Agrees n places t) (b : AllBeside n v places) where
  -- where the rules of a quantity meet no contradiction, the words beside them meet none
  pub clear_beside : contradicts every n j t ≡ false → contradicts every n j v ≡ false
  unfolding contradicts
  clear_beside e =
      let p = (neither (bare_below (lone_word t (2 * j)) (lone_word t (2 * j + 1))) (any_bare every (pair_word t (2 * j)) (pair_word t (2 * j + 1)) (2 * n))).0 e in
      (neither (bare_below (lone_word v (2 * j)) (lone_word v (2 * j + 1))) (any_bare every (pair_word v (2 * j)) (pair_word v (2 * j + 1)) (2 * n))).1 (
        bare_beside 1 1 (lone_word v (2 * j)) (lone_word v (2 * j + 1)) (lone_marked places (2 * j)) (lone_marked places (2 * j + 1)) (lone_beside n v places b (2 * j) (omega arith)) (lone_beside n v places b (2 * j + 1) (omega arith))
            (rw (lone_bound n places t (2 * j) same (omega arith), lone_bound n places t (2 * j + 1) same (omega arith)) p.0),
        (any_bare_clear every (pair_word v (2 * j)) (pair_word v (2 * j + 1)) (2 * n)).1
            (λ x f l. bare_beside 2 2 (pair_word v (2 * j) x) (pair_word v (2 * j + 1) (negated x)) (pair_marked places (2 * j) x) (pair_marked places (2 * j + 1) (negated x))
            (pair_beside n v places b (2 * j) x (omega arith) l) (pair_beside n v places b (2 * j + 1) (negated x) (omega arith) (omega arith))
            (rw (pair_bound n places t (2 * j) x same (omega arith) l, pair_bound n places t (2 * j + 1) (negated x) same (omega arith) (omega arith))
            ((any_bare_clear every (pair_word t (2 * j)) (pair_word t (2 * j + 1)) (2 * n)).0 p.1 x f l))),
      )

-- ---- several hidden

-- the set's members among the first m hidden, in a table of rules, in one beside it and with marks
module _ (hidden : ℕ → Bool) (n : ℕ) (t v : List ℤ) (places : ℕ → Marked) (fits : SetFits hidden n t) (beside : SetFits hidden n v) (same : Agrees n places t) (b : AllBeside n v places) where
  pub hidden_adds : (j : ℕ) → j < n → AllAdd n (marked_up_to hidden j places)
  hidden_adds j h =
      let a = set_ample hidden n t fits j h in
      agreed_add n (marked_up_to hidden j places) (hide_up_to hidden n j t) a.room a.words (keeps_agrees hidden n j places t fits.room (omega arith) same)

  pub hidden_beside : (m : ℕ) → m ≤ n → AllBeside n (hide_up_to hidden n m v) (marked_up_to hidden m places)
  hidden_beside m h = turns_keep (λ (p : ℕ → Marked) (u : List ℤ). AllBeside n u p) hidden n m places v b step
    where
      step : (j : ℕ) → j < m → AllBeside n (hide_up_to hidden n j v) (marked_up_to hidden j places) → AllBeside n (eliminated n j (hide_up_to hidden n j v)) (hide_marked j (marked_up_to hidden j places))
      step j l d =
          let a = set_ample hidden n v beside j (omega arith) in
          step_beside n j (hide_up_to hidden n j v) (marked_up_to hidden j places) a.room (omega arith) a.words (hidden_adds j (omega arith)) d

  -- where the rules meet no contradiction, the words beside them meet none
  pub hidden_clear : (j : ℕ) → j < n → contradicts every n j (hide_up_to hidden n j t) ≡ false → contradicts every n j (hide_up_to hidden n j v) ≡ false
  hidden_clear j h =
      clear_beside n j (hide_up_to hidden n j t) (hide_up_to hidden n j v) (marked_up_to hidden j places) h
      (keeps_agrees hidden n j places t fits.room (omega arith) same) (hidden_beside j (omega arith))
