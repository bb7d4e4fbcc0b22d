-- The set hidden in a table of doubled words, turn after turn: its words stay those of the marked places, and contradictions are those of the table of the bounds, where two marked rules of one quantity are asked for beside.
-- Assumes nothing.
use mathlib.Core.Path.{◌≡◌, refl, sym, ◌∙◌, ap₂}
use mathlib.Core.Bool.{Bool, true, false, ◌||◌, or-true}
use mathlib.Core.Logic.{inl}
use mathlib.Core.List.{List}
use Prim.Native.Nat.{ℕ, zero, suc, ◌+◌, ◌*◌, ◌≤◌, ◌<◌}
use native.Mathlib.Omega.{arith}
use lib.IntN.{ℤ, pos}
use lib.ListN.{length}
use Rattle.integers.proofs.Within.{within_mono}
use Rattle.places.specs.Numbering.{block_start, place_of_one}
use Rattle.places.proofs.Numbering.{one_below}
use Rattle.rules.specs.Literal.{negated}
use Rattle.tables.specs.Meaning.{WordsWithin}
use Rattle.tables.proofs.Tests.{neither}
use Rattle.elimination.specs.Hiding.{every, bare_below, pair_word, lone_word, any_bare, contradicts}
use Rattle.marks.specs.Marks.{Marked}
use Rattle.marks.specs.Doubled.{Doubles}
use Rattle.marks.proofs.WordOrder.{Tame}
use Rattle.keys.specs.Keys.{hide_up_to}
use Rattle.keys.proofs.Several.{hide_up_to_length}
use Rattle.keys.proofs.Fitting.{hidden_within, limit_rises, member_limit}
use Rattle.rounded.specs.Hiding.{pair_marked, lone_marked, marked_up_to}
use Rattle.rounded.specs.Inner.{halves_below}
use Rattle.rounded.proofs.Bounds.{Agrees, turns_keep, marks_keep, pair_bound, lone_bound, keeps_agrees}
use Rattle.rounded.proofs.DoubledWords.{small, bare_doubled, bare_only, bare_halves}
use Rattle.rounded.proofs.Doubling.{PairsClear, AllTame, pair_clear, pair_tame, pair_doubled, lone_doubled, step_clear, step_doubles}

-- ---- the contradictions of one step

-- bare sums that are alike are contradictions alike
any_alike : (n : ℕ) (plus minus plus' minus' : ℕ → ℤ) → ((x : ℕ) → x < 2 * n → bare_below (plus x) (minus (negated x)) ≡ bare_below (plus' x) (minus' (negated x)))
    → (x : ℕ) → x ≤ 2 * n → any_bare every plus minus x ≡ any_bare every plus' minus' x
unfolding any_bare
any_alike n plus minus plus' minus' e zero h = refl
any_alike n plus minus plus' minus' e (suc x) h = ap₂ ◌||◌ (e x (omega arith)) (any_alike n plus minus plus' minus' e x (omega arith))

module _ (n j : ℕ) (places : ℕ → Marked) (t u : List ℤ) (inside : j < n)
    (agrees : Agrees n places t) (clear : PairsClear n places) (tame : AllTame n places) (d : Doubles (block_start n) places u) where
  lone_tame : (z : ℕ) → z < 2 * n → Tame small (lone_marked places z)
  lone_tame z h = tame (place_of_one z) (one_below n z h)

  -- two rules of two quantities each
  pairs_alike : any_bare every (pair_word u (2 * j)) (pair_word u (2 * j + 1)) (2 * n) ≡ any_bare every (pair_word t (2 * j)) (pair_word t (2 * j + 1)) (2 * n)
  pairs_alike = any_alike n (pair_word u (2 * j)) (pair_word u (2 * j + 1)) (pair_word t (2 * j)) (pair_word t (2 * j + 1)) each (2 * n) (omega arith)
    where
      each : (x : ℕ) → x < 2 * n → bare_below (pair_word u (2 * j) x) (pair_word u (2 * j + 1) (negated x)) ≡ bare_below (pair_word t (2 * j) x) (pair_word t (2 * j + 1) (negated x))
      each x g =
          let h : negated x < 2 * n = omega arith in
          ap₂ bare_below (pair_doubled n places u d (2 * j) x (omega arith) g) (pair_doubled n places u d (2 * j + 1) (negated x) (omega arith) h)
          ∙ bare_doubled (pair_marked places (2 * j) x) (pair_marked places (2 * j + 1) (negated x))
          (pair_tame n places (2 * j) x (omega arith) g tame) (pair_tame n places (2 * j + 1) (negated x) (omega arith) h tame)
          (pair_clear n places (2 * j) x (omega arith) g clear) (pair_clear n places (2 * j + 1) (negated x) (omega arith) h clear)
          ∙ ap₂ bare_below (pair_bound n places t (2 * j) x agrees (omega arith) g) (pair_bound n places t (2 * j + 1) (negated x) agrees (omega arith) h)

  -- two of the quantity alone: below 0 only where the bounds' sum is,
  lone_only : bare_below (lone_word u (2 * j)) (lone_word u (2 * j + 1)) ≡ true → bare_below (lone_word t (2 * j)) (lone_word t (2 * j + 1)) ≡ true
  lone_only =
      rw (lone_doubled n places u d (2 * j) (omega arith), lone_doubled n places u d (2 * j + 1) (omega arith), ← lone_bound n places t (2 * j) agrees (omega arith), ← lone_bound n places t (2 * j + 1) agrees (omega arith))
      (bare_only (lone_marked places (2 * j)) (lone_marked places (2 * j + 1)) (lone_tame (2 * j) (omega arith)) (lone_tame (2 * j + 1) (omega arith)))

  -- and their halves exactly where it is
  lone_halves : halves_below (lone_word u (2 * j)) (lone_word u (2 * j + 1)) ≡ bare_below (lone_word t (2 * j)) (lone_word t (2 * j + 1))
  lone_halves =
      rw (lone_doubled n places u d (2 * j) (omega arith), lone_doubled n places u d (2 * j + 1) (omega arith), ← lone_bound n places t (2 * j) agrees (omega arith), ← lone_bound n places t (2 * j + 1) agrees (omega arith))
      (bare_halves (lone_marked places (2 * j)) (lone_marked places (2 * j + 1)) (lone_tame (2 * j) (omega arith)) (lone_tame (2 * j + 1) (omega arith)))

  -- so a contradiction of doubled words is one of the bounds,
  pub doubled_met : contradicts every n j u ≡ true → contradicts every n j t ≡ true
  unfolding contradicts
  doubled_met = rw pairs_alike (go (bare_below (lone_word u (2 * j)) (lone_word u (2 * j + 1))) refl)
    where
      go : (b : Bool) → bare_below (lone_word u (2 * j)) (lone_word u (2 * j + 1)) ≡ b
          → (b || any_bare every (pair_word t (2 * j)) (pair_word t (2 * j + 1)) (2 * n)) ≡ true
          → (bare_below (lone_word t (2 * j)) (lone_word t (2 * j + 1)) || any_bare every (pair_word t (2 * j)) (pair_word t (2 * j + 1)) (2 * n)) ≡ true
      go true e f = rw (lone_only e)
      go false e f = rw f (or-true (bare_below (lone_word t (2 * j)) (lone_word t (2 * j + 1))))

  -- halves below 0 are one,
  pub halves_met : halves_below (lone_word u (2 * j)) (lone_word u (2 * j + 1)) ≡ true → contradicts every n j t ≡ true
  unfolding contradicts
  halves_met e = rw (sym lone_halves ∙ e)

  -- and with neither there is none
  pub doubled_clear : contradicts every n j u ≡ false → halves_below (lone_word u (2 * j)) (lone_word u (2 * j + 1)) ≡ false → contradicts every n j t ≡ false
  unfolding contradicts
  doubled_clear e f =
      rw (sym lone_halves ∙ f)
      (sym pairs_alike ∙ ((neither (bare_below (lone_word u (2 * j)) (lone_word u (2 * j + 1))) (any_bare every (pair_word u (2 * j)) (pair_word u (2 * j + 1)) (2 * n))).0 e).1)

-- ---- the turns

module _ (hidden : ℕ → Bool) (n : ℕ) (places : ℕ → Marked) (t u : List ℤ) (room : block_start n ≤ length t) (room' : block_start n ≤ length u)
    (agrees : Agrees n places t) (clear : PairsClear n places) (d : Doubles (block_start n) places u)
    (L : ℕ) (within : WordsWithin (block_start n) (pos L) t) (last : member_limit hidden L n ≤ small) where
  -- at each turn the bounds doubled add,
  pub turn_tame : (m : ℕ) → m ≤ n → AllTame n (marked_up_to hidden m places)
  turn_tame m h k g e =
      let a = keeps_agrees hidden n m places t room h agrees k g in
      let w = hidden_within hidden hidden n m L t h room within (λ j b f. inl f) in
      rw a (within_mono (omega (arith, limit_rises hidden L m n h)) (w.each k g (omega (arith, hide_up_to_length hidden n m t)) (rw a at e)))

  -- no pair is marked,
  pub turn_clear : (m : ℕ) → m ≤ n → PairsClear n (marked_up_to hidden m places)
  turn_clear m h = marks_keep (PairsClear n) hidden m places clear (λ j l c. step_clear n j (marked_up_to hidden j places) (omega arith) c)

  -- and the words are those of the marked places
  pub turn_doubles : (m : ℕ) → m ≤ n → Doubles (block_start n) (marked_up_to hidden m places) (hide_up_to hidden n m u)
  turn_doubles m h =
      turns_keep (Doubles (block_start n)) hidden n m places u d
      (λ j l e. step_doubles n j (marked_up_to hidden j places) (omega arith) (turn_clear j (omega arith)) (hide_up_to hidden n j u) (omega (arith, hide_up_to_length hidden n j u)) (turn_tame j (omega arith)) e)
