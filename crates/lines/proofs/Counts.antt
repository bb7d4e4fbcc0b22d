-- A line of a key and a number, step by step, and its number's limits as its value is told. Assumes nothing.
use mathlib.Core.Path.{◌≡◌, refl, sym, ◌∙◌, ap}
use mathlib.Core.Logic.{◌⊎◌, ⊎_elim}
use mathlib.Core.Bool.{true, false}
use mathlib.Core.List.{List}
use Prim.Native.Nat.{ℕ, ◌+◌, ◌≤◌, ◌<◌}
use native.Mathlib.Omega.{arith}
use lib.ListN.{length, drop}
use lib.Seq.{drop-drop}
use borrow.Author.Tests.{le-leb, lt-leb}
use Rattle.std.specs.Prelude.{Option, None, Some, Ok, Err}
use Rattle.numerals.specs.declared.read.Found.{Found}
use Rattle.numerals.specs.Decimal.{cap, capped}
use Rattle.numerals.specs.Parsing.{and_then, starts_with, numeral_of, numeral_answer}
use Rattle.numerals.proofs.Keys.{expect_key, expect_not}
use Rattle.numerals.proofs.Numerals.{numeral_found, numeral_none}
use Rattle.numerals.proofs.Values.{capped_most, capped_least, capped_exact}
use Rattle.rules.specs.declared.refusal.Refusal.{Refusal}
use Rattle.rules.specs.declared.refusal.Refusal.TheVariants.{OutOfLimit}
use Rattle.lines.specs.Lines.{ended, count_line, between, never, count_judged}
use Rattle.lines.specs.Answers.{count_answer, number_values, LineAnswered}
use Rattle.lines.specs.Inner.{well_formed, found_answer, ended_answer}
use Rattle.lines.proofs.Answered.{count_answered}
use Rattle.lines.proofs.Judging.{line_malformed, line_outside, line_accepted}
use Rattle.lines.proofs.AtCursors.{ended_told}

-- ---- the form

-- a line without its key is malformed
pub count_unkeyed : (s key : List ℕ) (at : ℕ) → starts_with key (drop at s) ≡ false → None ≡ found_answer capped s (count_line key (drop at s))
unfolding count_line
count_unkeyed s key at e = rw (expect_not key (drop at s) (λ (v : List ℕ). and_then (numeral_of v) ended) e)

module _ (s key : List ℕ) (at : ℕ) (here : starts_with key (drop at s) ≡ true) where
  -- after its key a number and the line's end are read
  keyed : count_line key (drop at s) ≡ and_then (numeral_of (drop (at + length key) s)) ended
  unfolding count_line
  keyed = expect_key key (drop at s) (λ (v : List ℕ). and_then (numeral_of v) ended) here
      ∙ ap (λ (v : List ℕ). and_then (numeral_of v) ended) (drop-drop (length key) at s)

  -- without a number it is malformed
  pub count_bare : numeral_answer s (numeral_of (drop (at + length key) s)) ≡ None → None ≡ found_answer capped s (count_line key (drop at s))
  unfolding and_then
  count_bare e = rw (keyed, numeral_none s (numeral_of (drop (at + length key) s)) e)

  -- with one it is as it ends
  pub count_ended : (it : Found ℕ) → numeral_answer s (numeral_of (drop (at + length key) s)) ≡ Some it
      → ended_answer s it ≡ found_answer capped s (count_line key (drop at s))
  unfolding and_then
  count_ended it e = let f = numeral_found s (at + length key) it e in rw (keyed, f.is) (ended_told capped s f.value it (sym f.told))

-- ---- the limits

module _ (least most v : ℕ) (low : least ≤ cap) (high : most < cap) where
  -- a number that is told below the least one, or above the largest, is outside its limits
  pub count_below : capped v < least → between least most v ≡ false
  count_below l = rw (sym (capped_least v least low), lt-leb least (capped v) l)

  pub count_above : least ≤ capped v → most < capped v → between least most v ≡ false
  count_above g l = rw (sym (capped_least v least low), le-leb least (capped v) g, sym (capped_most v most high), lt-leb (capped v) most l)

  -- any other is inside, and is the number
  pub count_inside : least ≤ capped v → capped v ≤ most → (between least most v ≡ true) × (v ≡ capped v)
  count_inside g l = (
    rw (sym (capped_least v least low), le-leb least (capped v) g, sym (capped_most v most high), le-leb (capped v) most l),
    sym (capped_exact v (omega arith)),
  )

-- ---- the answer

module _ (s key : List ℕ) (at least most line : ℕ) (o : Option (Found ℕ)) (form : o ≡ found_answer capped s (count_line key (drop at s))) where
  -- of a line that is malformed
  pub count_malformed : (f : Refusal) → Err f ≡ well_formed line o
      → LineAnswered number_values (count_answer s) (count_judged key least most line (drop at s)) (Err f)
  unfolding count_answer count_judged
  count_malformed f e = count_answered s (count_judged key least most line (drop at s)) (Err f)
      (line_malformed capped (λ v. v) (between least most) never s line (count_line key (drop at s)) o f form e)

  module _ (it : Found ℕ) (found : Ok it ≡ well_formed line o) (low : least ≤ cap) (high : most < cap) where
    -- of one whose number is outside its limits
    pub count_outside : (it.value < least) ⊎ ((least ≤ it.value) × (most < it.value))
        → LineAnswered number_values (count_answer s) (count_judged key least most line (drop at s)) (Err (OutOfLimit line))
    unfolding count_answer count_judged
    count_outside h = count_answered s (count_judged key least most line (drop at s)) (Err (OutOfLimit line))
        (line_outside capped (λ v. v) (between least most) never s line (count_line key (drop at s)) o it form found (λ v e. ⊎_elim
        (λ l. count_below least most v low high (omega (arith, e)))
        (λ l. count_above least most v low high (omega (arith, e)) (omega (arith, e))) h))

    -- of any other
    pub count_accepted : least ≤ it.value → it.value ≤ most
        → LineAnswered number_values (count_answer s) (count_judged key least most line (drop at s)) (Ok (record { value = it.value; next = it.next }))
    unfolding count_answer count_judged
    count_accepted g l = count_answered s (count_judged key least most line (drop at s)) (Ok (record { value = it.value; next = it.next }))
        (line_accepted capped (λ v. v) (between least most) never s line (count_line key (drop at s)) o it form found it.value (λ v e.
        let r = count_inside least most v low high (omega (arith, e)) (omega (arith, e)) in (r.0, refl, r.1 ∙ e)))
