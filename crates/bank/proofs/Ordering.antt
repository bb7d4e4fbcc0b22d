-- The place that the next rule of a bank sheet may not be before, after rules in bank order: with a rule of such a place they stay in order, and a rule without one is
-- out of order. Assumes nothing.
use mathlib.Core.Path.{◌≡◌, refl, sym, ◌∙◌, ap}
use mathlib.Core.Bool.{Bool, true, false}
use mathlib.Core.List.{List, [], ◌∷◌, ◌++◌}
use mathlib.Core.Logic.{◌⊎◌, inl, inr}
use Rattle.std.specs.Prelude.{Some, None}
use Prim.Native.Nat.{ℕ, suc, ◌<◌, ◌≤◌}
use native.Mathlib.Omega.{arith}
use lib.Dec.{ltb}
use borrow.Author.Tests.{ltb-true, ltb-false}
use Rattle.numerals.specs.Decimal.{cap}
use Rattle.rules.specs.declared.refusal.Refusal.TheVariants.{NotCanonical}
use Rattle.tables.specs.Places.{find_place}
use Rattle.lines.specs.Spelling.{Written, one, two, rule, written_rule}
use Rattle.lines.specs.Lines.{Judged, refused}
use Rattle.reading.specs.Texts.{rule_lines}
use Rattle.reading.specs.Meaning.{Fine, AllFine}
use Rattle.reading.specs.Ordered.{canonical_place, from_place}
use Rattle.reading.specs.Inner.{least_of}
use Rattle.reading.proofs.OrderedLines.{nowhere_refused, early_refused}
use Rattle.bank.specs.Order.{LowerFirst, Doubled, HigherFirst, PlaceNotAfter, InBankOrder, OutOfOrder, doubled, higher_first, not_after}
use Rattle.bank.proofs.CanonicalRules.{canonical_rule, doubled_nowhere, higher_nowhere, not_lower}

-- ---- the least place

-- one after that of the last rule, and 0 where there is none
unfoldable pub least_after : List Written → ℕ
least_after [] = 0
least_after (v ∷ []) = least_of (find_place (written_rule v))
least_after (v ∷ w ∷ ws) = least_after (w ∷ ws)

-- of rules with one more behind them
pub least_last : (rs : List Written) (v : Written) (k : ℕ) → find_place (written_rule v) ≡ Some k → least_after (rs ++ v ∷ []) ≡ suc k
unfolding least_after
least_last [] v k e = rw e
least_last (u ∷ []) v k e = rw e
least_last (u ∷ w ∷ rs) v k e = least_last (w ∷ rs) v k e

-- ---- rules in order, and one more

module _ (n limit : ℕ) (below : limit < cap) where
  -- with a rule behind them that has its lower quantity first, and a place from the least one on, they stay in order
  pub ordered_more : (rs : List Written) (w : Written) (k : ℕ) → AllFine n limit (rule_lines rs) → InBankOrder rs → LowerFirst w
      → find_place (written_rule w) ≡ Some k → least_after rs ≤ k → InBankOrder (rs ++ w ∷ [])
  unfolding least_after
  ordered_more [] w k fine ordered low found h = (low, tt, tt)
  ordered_more (v ∷ []) w k fine ordered low found h =
      let c = canonical_rule n limit v below fine.0 ordered.0 in
      let l : suc c.0 ≤ k = rw c.1.found at h in
      (ordered.0, record { earlier = c.0; later = k; first = c.1.found; second = found; after = l }, (low, tt, tt))
  ordered_more (v ∷ u ∷ rs) w k fine ordered low found h =
      (ordered.0, ordered.1, ordered_more (u ∷ rs) w k fine.1 ordered.2 low found h)

  -- ---- a rule that is out of order

  -- a rule has its lower quantity first, or not
  lower_or_not : (w : Written) → LowerFirst w ⊎ (LowerFirst w → ⊥)
  lower_or_not (one x c) = inl tt
  lower_or_not (two x y c) = go (ltb x.quantity y.quantity) refl
    where
      go : (b : Bool) → ltb x.quantity y.quantity ≡ b → (x.quantity < y.quantity) ⊎ ((x.quantity < y.quantity) → ⊥)
      go true e = inl (ltb-true x.quantity y.quantity e)
      go false e = let h = ltb-false x.quantity y.quantity e in inr (λ l. omega arith)

  -- one that has no canonical place
  pub nowhere_out : (rs : List Written) (w : Written) → Fine n limit (rule w) → canonical_place (written_rule w) ≡ None → OutOfOrder rs w
  nowhere_out rs w f e = go (lower_or_not w)
    where
      either : Doubled w ⊎ HigherFirst w → OutOfOrder rs w
      either (inl d) = doubled d
      either (inr h) = higher_first h

      go : LowerFirst w ⊎ (LowerFirst w → ⊥) → OutOfOrder rs w
      go (inl l) =
          let c = canonical_rule n limit w below f l in
          let d : Some c.0 ≡ None = sym c.1.canonical ∙ e in
          let z : ⊥ = cc in absurd z
      go (inr h) = either (not_lower n limit w f h).1

  -- one that has is found there, with its lower quantity first
  pub at_lower : (w : Written) (k : ℕ) → Fine n limit (rule w) → canonical_place (written_rule w) ≡ Some k → LowerFirst w × (find_place (written_rule w) ≡ Some k)
  at_lower w k f e = go (lower_or_not w)
    where
      go : LowerFirst w ⊎ (LowerFirst w → ⊥) → LowerFirst w × (find_place (written_rule w) ≡ Some k)
      go (inl l) =
          let c = canonical_rule n limit w below f l in
          let d : Some c.0 ≡ Some k = sym c.1.canonical ∙ e in
          (l, c.1.found ∙ d)
      go (inr h) =
          let d : None ≡ Some k = sym (not_lower n limit w f h).0 ∙ e in
          let z : ⊥ = cc in absurd z

  -- one whose place is before the least one: the last of the rules before has a place that is not before it
  pub early_out : (rs : List Written) (w : Written) (k : ℕ) → AllFine n limit (rule_lines rs) → InBankOrder rs → find_place (written_rule w) ≡ Some k
      → k < least_after rs → OutOfOrder rs w
  unfolding least_after
  early_out rs w k fine ordered found h = let p = last rs fine ordered h in not_after p.0 p.1 p.2 p.3
    where
      last : (rs : List Written) → AllFine n limit (rule_lines rs) → InBankOrder rs → k < least_after rs
          → (earlier : List Written) × (v : Written) × (rs ≡ earlier ++ v ∷ []) × PlaceNotAfter v w
      last [] fine ordered h = let z : ⊥ = omega arith in absurd z
      last (v ∷ []) fine ordered h =
          let c = canonical_rule n limit v below fine.0 ordered.0 in
          let l : k < suc c.0 = rw c.1.found at h in
          ([], v, refl, record { earlier = c.0; later = k; first = c.1.found; second = found; not_after = omega arith })
      last (v ∷ u ∷ rs) fine ordered h =
          let p = last (u ∷ rs) fine.1 ordered.2 h in (v ∷ p.0, p.1, ap (λ (l : List Written). v ∷ l) p.2, p.3)

  -- ---- the answer to it

  pub out_refused : {A : Type 0} (rs : List Written) (w : Written) (line : ℕ) (next : ℕ → Judged A) → Fine n limit (rule w) → OutOfOrder rs w
      → from_place (least_after rs) line (canonical_place (written_rule w)) next ≡ refused (NotCanonical line)
  out_refused rs w line next f (doubled d) = nowhere_refused (least_after rs) line _ next (doubled_nowhere n limit w f d)
  out_refused rs w line next f (higher_first h) = nowhere_refused (least_after rs) line _ next (higher_nowhere n limit w f h)
  out_refused rs w line next f (not_after earlier v e p) = go (lower_or_not w)
    where
      least : least_after rs ≡ suc p.earlier
      least = ap least_after e ∙ least_last earlier v p.earlier p.first

      go : LowerFirst w ⊎ (LowerFirst w → ⊥) → from_place (least_after rs) line (canonical_place (written_rule w)) next ≡ refused (NotCanonical line)
      go (inl l) =
          let c = canonical_rule n limit w below f l in
          let d : Some c.0 ≡ Some p.later = sym c.1.found ∙ p.second in
          let same : c.0 ≡ p.later = cc in
          early_refused (least_after rs) line _ c.0 next c.1.canonical (omega (arith, least, p.not_after))
      go (inr h) = nowhere_refused (least_after rs) line _ next (not_lower n limit w f h).0
