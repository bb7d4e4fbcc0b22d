-- What rule lines read in bank order tell, by spellings: all are read, or a line fails as in any order, or one is fine and out of order; in each case the rules before
-- are in order. And back: lines that are spelled so are answered so. Assumes nothing.
use mathlib.Core.Path.{◌≡◌, refl, sym, ◌∙◌, ap, subst}
use mathlib.Core.Bool.{Bool, true, false}
use mathlib.Core.List.{List, [], ◌∷◌, ◌++◌, append-nil, append_assoc}
use mathlib.Core.Logic.{◌⊎◌, inl, inr}
use Rattle.std.specs.Prelude.{Option, Some, None}
use Prim.Native.Nat.{ℕ, zero, suc, ◌+◌, ◌<◌, ◌≤◌}
use native.Mathlib.Nat.{zero-add}
use native.Mathlib.Omega.{arith}
use lib.Dec.{leb}
use lib.ListN.{length}
use borrow.Author.Tests.{leb-true, leb-false}
use Rattle.numerals.specs.Decimal.{cap}
use Rattle.rules.specs.declared.refusal.Refusal.{Refusal}
use Rattle.rules.specs.declared.refusal.Refusal.TheVariants.{Malformed, NotCanonical}
use Rattle.rules.specs.Refusal.{refusal_line}
use Rattle.tables.specs.Places.{find_place}
use Rattle.lines.specs.Spelling.{Written, rule, line_text, written_rule}
use Rattle.lines.specs.Lines.{Judged, accepted, refused, rule_judged}
use Rattle.reading.specs.Texts.{rule_lines, lines_text}
use Rattle.reading.specs.Meaning.{Fine, AllFine}
use Rattle.reading.specs.Reading.{onward, rules_from}
use Rattle.reading.proofs.LineAnswers.{onward_onward, onward_same}
use Rattle.reading.proofs.Headers.{rule_read}
use Rattle.reading.specs.Ordered.{canonical_place, ordered_from}
use Rattle.reading.proofs.OrderedLines.{ordered_ends, ordered_goes, ordered_stops}
use Rattle.bank.specs.Order.{LowerFirst, InBankOrder, OutOfOrder}
use Rattle.bank.proofs.CanonicalRules.{Canonical, canonical_rule}
use Rattle.bank.proofs.Ordering.{least_after, least_last, ordered_more, nowhere_out, at_lower, early_out, out_refused}
use Rattle.bank.proofs.Agreeing.{RuleHere, rule_here, rule-line, any_ends, any_goes, any_line, rule_refused}

-- one rule more is fine
pub fine_more : (n limit : ℕ) (rs : List Written) (w : Written) → AllFine n limit (rule_lines rs) → Fine n limit (rule w) → AllFine n limit (rule_lines (rs ++ w ∷ []))
fine_more n limit [] w all f = (f, tt)
fine_more n limit (r ∷ rs) w all f = (all.0, fine_more n limit rs w all.1 f)

-- lists of fine rules, one after the other
pub fine_front : (n limit : ℕ) (rs ws : List Written) → AllFine n limit (rule_lines (rs ++ ws)) → AllFine n limit (rule_lines rs) × AllFine n limit (rule_lines ws)
fine_front n limit [] ws all = (tt, all)
fine_front n limit (r ∷ rs) ws all = let p = fine_front n limit rs ws all.1 in ((all.0, p.0), p.1)

-- the first rules of a list in order are in order
pub ordered_front : (rs ws : List Written) → InBankOrder (rs ++ ws) → InBankOrder rs
ordered_front [] ws o = tt
ordered_front (r ∷ []) ws o = (o.0, tt, tt)
ordered_front (r ∷ v ∷ rs) ws o = (o.0, o.1, ordered_front (v ∷ rs) ws o.2)

-- ---- what is told

-- after the rules rs, k lines from the line of this number on, and the answer j: all are read
pub record AllRead (n limit : ℕ) (rs : List Written) (k line : ℕ) (u : List ℕ) (j : Judged (List Written)) : Type 0 where
  pub found : List Written
  pub is : j ≡ accepted found []
  pub ordinary : rules_from n limit k line u ≡ accepted found []
  pub ordered : InBankOrder (rs ++ found)

-- a line fails as in any order
pub record LineFailed (n limit : ℕ) (rs : List Written) (k line : ℕ) (u : List ℕ) (j : Judged (List Written)) : Type 0 where
  pub refusal : Refusal
  pub found : List Written
  pub rest : List ℕ
  pub is : j ≡ refused refusal
  pub ordinary : rules_from n limit k line u ≡ refused refusal
  pub text : u ≡ lines_text (rule_lines found) ++ rest
  pub ordered : InBankOrder (rs ++ found)
  pub number : refusal_line refusal ≡ line + length found

-- one is fine by itself, and out of order
pub record OrderFailed (n limit : ℕ) (rs : List Written) (k line : ℕ) (u : List ℕ) (j : Judged (List Written)) : Type 0 where
  pub found : List Written
  pub next : Written
  pub rest : List ℕ
  pub is : j ≡ refused (NotCanonical (line + length found))
  pub text : u ≡ lines_text (rule_lines found) ++ (line_text (rule next) ++ rest)
  pub fine : AllFine n limit (rule_lines found)
  pub next_fine : Fine n limit (rule next)
  pub ordered : InBankOrder (rs ++ found)
  pub out : OutOfOrder (rs ++ found) next
  pub due : length found < k

abbrev pub Told : ℕ → ℕ → List Written → ℕ → ℕ → List ℕ → Judged (List Written) → Type 0
Told n limit rs k line u j = AllRead n limit rs k line u j ⊎ (LineFailed n limit rs k line u j ⊎ OrderFailed n limit rs k line u j)

module _ (n limit : ℕ) (below : limit < cap) where
  -- ---- one line before the others

  -- what is told of the others is told with the line of w before them
  module _ (rs : List Written) (k line : ℕ) (u : List ℕ) (w : Written) (v : List ℕ) (e : rule_judged n limit line u ≡ accepted w v) where
    longer : (found : List Written) → (rs ++ w ∷ []) ++ found ≡ rs ++ w ∷ found
    longer found = append_assoc rs (w ∷ []) found

    spelled : (found : List Written) (x : List ℕ) → v ≡ lines_text (rule_lines found) ++ x → u ≡ lines_text (rule_lines (w ∷ found)) ++ x
    unfolding lines_text
    spelled found x t = (rule_here n limit line u w v e).text ∙ ap (λ (y : List ℕ). line_text (rule w) ++ y) t
        ∙ sym (append_assoc (line_text (rule w)) (lines_text (rule_lines found)) x)

    lifted : (j : Judged (List Written)) → Told n limit (rs ++ w ∷ []) k (suc line) v j → Told n limit rs (suc k) line u (onward j (λ ws. accepted (w ∷ ws)))
    unfolding onward
    lifted j (inl t) = inl (record {
      found = w ∷ t.found;
      is = rw t.is;
      ordinary = any_goes n limit k line u w v e ∙ rw t.ordinary;
      ordered = subst InBankOrder (longer t.found) t.ordered;
    })
    lifted j (inr (inl t)) = inr (inl (record {
      refusal = t.refusal;
      found = w ∷ t.found;
      rest = t.rest;
      is = rw t.is;
      ordinary = any_goes n limit k line u w v e ∙ rw t.ordinary;
      text = spelled t.found t.rest t.text;
      ordered = subst InBankOrder (longer t.found) t.ordered;
      number = omega (arith, t.number);
    }))
    lifted j (inr (inr t)) =
        let more : suc line + length t.found ≡ line + suc (length t.found) = omega arith in
        inr (inr (record {
          found = w ∷ t.found;
          next = t.next;
          rest = t.rest;
          is = rw (t.is, more);
          text = spelled t.found (line_text (rule t.next) ++ t.rest) t.text;
          fine = ((rule_here n limit line u w v e).fine, t.fine);
          next_fine = t.next_fine;
          ordered = subst InBankOrder (longer t.found) t.ordered;
          out = subst (λ (l : List Written). OutOfOrder l t.next) (longer t.found) t.out;
          due = omega (arith, t.due);
        }))

    -- the line of w is fine, and out of order after rs
    stopped : InBankOrder rs → OutOfOrder rs w → Told n limit rs (suc k) line u (refused (NotCanonical line))
    unfolding lines_text
    stopped ordered out =
        let h = rule_here n limit line u w v e in
        inr (inr (record {
          found = [];
          next = w;
          rest = v;
          is = ap (λ (i : ℕ). refused (NotCanonical i)) (omega arith);
          text = h.text;
          fine = tt;
          next_fine = h.fine;
          ordered = rw (append-nil rs) ordered;
          out = subst (λ (l : List Written). OutOfOrder l w) (sym (append-nil rs)) out;
          due = omega arith;
        }))

  -- ---- all lines

  -- a line that is refused by itself
  failed : (rs : List Written) (k line : ℕ) (u : List ℕ) (f : Refusal) → InBankOrder rs → refusal_line f ≡ line → rules_from n limit k line u ≡ refused f
      → Told n limit rs k line u (refused f)
  unfolding lines_text
  failed rs k line u f ordered l e = inr (inl (record {
    refusal = f;
    found = [];
    rest = u;
    is = refl;
    ordinary = e;
    text = refl;
    ordered = rw (append-nil rs) ordered;
    number = omega (arith, l);
  }))

  pub lines_told : (k line : ℕ) (rs : List Written) (u : List ℕ) → AllFine n limit (rule_lines rs) → InBankOrder rs
      → Told n limit rs k line u (ordered_from n limit (least_after rs) k line u)
  unfolding ordered_from rules_from
  lines_told zero line rs [] fine ordered = inl (record { found = []; is = refl; ordinary = refl; ordered = rw (append-nil rs) ordered })
  lines_told zero line rs (b ∷ u) fine ordered = failed rs zero line (b ∷ u) (Malformed line) ordered refl refl
  lines_told (suc k) line rs u fine ordered = go (lines_told k (suc line)) (rule_judged n limit line u) refl
    where
      Later : Type 0
      Later = (ws : List Written) (v : List ℕ) → AllFine n limit (rule_lines ws) → InBankOrder ws
          → Told n limit ws k (suc line) v (ordered_from n limit (least_after ws) k (suc line) v)

      Here : Judged (List Written) → Type 0
      Here j = Told n limit rs (suc k) line u j

      placed : Later → (w : Written) (v : List ℕ) → rule_judged n limit line u ≡ accepted w v → (x : Option ℕ) → canonical_place (written_rule w) ≡ x
          → Here (ordered_from n limit (least_after rs) (suc k) line u)
      placed ih w v e None d =
          let h = rule_here n limit line u w v e in
          let out = nowhere_out n limit below rs w h.fine d in
          subst Here (sym (ordered_stops n limit (least_after rs) k line u w v e (λ next. out_refused n limit below rs w line next h.fine out)))
          (stopped rs k line u w v e ordered out)
      placed ih w v e (Some p) d = tested (leb (least_after rs) p) refl
        where
          h : RuleHere n limit u w v
          h = rule_here n limit line u w v e

          found : find_place (written_rule w) ≡ Some p
          found = (at_lower n limit below w p h.fine d).1

          tested : (b : Bool) → leb (least_after rs) p ≡ b → Here (ordered_from n limit (least_after rs) (suc k) line u)
          tested true t =
              let l = leb-true (least_after rs) p t in
              let more = ordered_more n limit below rs w p fine ordered (at_lower n limit below w p h.fine d).0 found l in
              let next = ih (rs ++ w ∷ []) v (fine_more n limit rs w fine h.fine) more in
              subst Here (sym (ordered_goes n limit (least_after rs) k line u w v p e d l))
              (subst (λ (i : ℕ). Here (onward (ordered_from n limit i k (suc line) v) (λ ws. accepted (w ∷ ws)))) (least_last rs w p found)
              (lifted rs k line u w v e _ next))
          tested false t =
              let out = early_out n limit below rs w p fine ordered found (leb-false (least_after rs) p t) in
              subst Here (sym (ordered_stops n limit (least_after rs) k line u w v e (λ next. out_refused n limit below rs w line next h.fine out)))
              (stopped rs k line u w v e ordered out)

      go : Later → (j : Judged Written) → rule_judged n limit line u ≡ j → Here (ordered_from n limit (least_after rs) (suc k) line u)
      go ih (refused f) e =
          subst Here (sym (ordered_ends n limit (least_after rs) k line u f e))
          (failed rs (suc k) line u f ordered (rule-line n limit line u f e) (any_ends n limit k line u f e))
      go ih (accepted w v) e = placed ih w v e (canonical_place (written_rule w)) refl

  -- ---- and back

  -- the next rule of a list in order has its lower quantity first, and its place is not before the least one
  ordered_here : (rs : List Written) (w : Written) (ws : List Written) (p : ℕ) → InBankOrder (rs ++ w ∷ ws) → find_place (written_rule w) ≡ Some p → least_after rs ≤ p
  unfolding least_after
  ordered_here [] w ws p o e = omega arith
  ordered_here (v ∷ []) w ws p o e =
      let a : Some p ≡ Some o.1.later = sym e ∙ o.1.second in
      let same : p ≡ o.1.later = cc in
      rw o.1.first (omega (arith, o.1.after))
  ordered_here (v ∷ u ∷ rs) w ws p o e = ordered_here (u ∷ rs) w ws p o.2 e

  lower_here : (rs : List Written) (w : Written) (ws : List Written) → InBankOrder (rs ++ w ∷ ws) → LowerFirst w
  lower_here [] w ws o = o.0
  lower_here (v ∷ rs) w ws o = lower_here rs w ws o.2

  -- nothing put before rules
  onward_none : (j : Judged (List Written)) → j ≡ onward j (λ ws. accepted ([] ++ ws))
  unfolding onward
  onward_none (accepted ws v) = refl
  onward_none (refused f) = refl

  -- one rule put before accepted rules
  with_first_lem : (more : List Written) (w : Written) (ws : List Written) (v : List ℕ)
      → onward (accepted (more ++ ws) v) (λ xs. accepted (w ∷ xs)) ≡ accepted (w ∷ more ++ ws) v
  unfolding onward
  with_first_lem more w ws v = refl

  -- fine rules in order are passed, and then the others decide
  pub lines_passed : (more rs : List Written) (k line : ℕ) (u : List ℕ) → AllFine n limit (rule_lines more) → InBankOrder (rs ++ more)
      → ordered_from n limit (least_after rs) (length more + k) line (lines_text (rule_lines more) ++ u)
      ≡ onward (ordered_from n limit (least_after (rs ++ more)) k (line + length more) u) (λ ws. accepted (more ++ ws))
  unfolding lines_text
  lines_passed [] rs k line u fine ordered =
      let here : line + 0 ≡ line = omega arith in
      rw (append-nil rs, here, zero-add k) (onward_none (ordered_from n limit (least_after rs) k line u))
  lines_passed (w ∷ more) rs k line u fine ordered =
      let count : suc (length more) + k ≡ suc (length more + k) = omega arith in
      rw count (go (canonical_rule n limit w below fine.0 (lower_here rs w more ordered)) (lines_passed more (rs ++ w ∷ []) k (suc line) u))
    where
      rest : List ℕ
      rest = lines_text (rule_lines more) ++ u

      same : (rs ++ w ∷ []) ++ more ≡ rs ++ w ∷ more
      same = append_assoc rs (w ∷ []) more

      further : suc line + length more ≡ line + suc (length more)
      further = omega arith

      go : (p : ℕ) × Canonical n w p
          → (AllFine n limit (rule_lines more) → InBankOrder ((rs ++ w ∷ []) ++ more)
          → ordered_from n limit (least_after (rs ++ w ∷ [])) (length more + k) (suc line) rest
          ≡ onward (ordered_from n limit (least_after ((rs ++ w ∷ []) ++ more)) k (suc line + length more) u) (λ ws. accepted (more ++ ws)))
          → ordered_from n limit (least_after rs) (suc (length more + k)) line (lines_text (rule_lines (w ∷ more)) ++ u)
          ≡ onward (ordered_from n limit (least_after (rs ++ w ∷ more)) k (line + suc (length more)) u) (λ ws. accepted (w ∷ more ++ ws))
      go (p, c) ih =
          ap (ordered_from n limit (least_after rs) (suc (length more + k)) line) (append_assoc (line_text (rule w)) (lines_text (rule_lines more)) u)
          ∙ ordered_goes n limit (least_after rs) (length more + k) line (line_text (rule w) ++ rest) w rest p (rule_read n limit line w rest fine.0)
          c.canonical (ordered_here rs w more p ordered c.found)
          ∙ ap (λ (j : Judged (List Written)). onward j (λ ws. accepted (w ∷ ws)))
          (ap (λ (i : ℕ). ordered_from n limit i (length more + k) (suc line) rest) (sym (least_last rs w p c.found))
          ∙ ih fine.1 (subst InBankOrder (sym same) ordered)
          ∙ ap (λ (l : List Written). onward (ordered_from n limit (least_after l) k (suc line + length more) u) (λ ws. accepted (more ++ ws))) same
          ∙ ap (λ (i : ℕ). onward (ordered_from n limit (least_after (rs ++ w ∷ more)) k i u) (λ ws. accepted (more ++ ws))) further)
          ∙ onward_onward (ordered_from n limit (least_after (rs ++ w ∷ more)) k (line + suc (length more)) u) _ _
          ∙ onward_same (ordered_from n limit (least_after (rs ++ w ∷ more)) k (line + suc (length more)) u) _ _ (λ ws v. with_first_lem more w ws v)

  -- lines that fail at the first in any order fail so in bank order
  pub lines_stop : (least k line : ℕ) (u : List ℕ) (f : Refusal) → rules_from n limit k line u ≡ refused f → refusal_line f ≡ line
      → ordered_from n limit least k line u ≡ refused f
  unfolding rules_from ordered_from
  lines_stop least zero line [] f e l = e
  lines_stop least zero line (b ∷ u) f e l = e
  lines_stop least (suc k) line u f e l = go (rule_judged n limit line u) refl
    where
      go : (j : Judged Written) → rule_judged n limit line u ≡ j → ordered_from n limit least (suc k) line u ≡ refused f
      go (refused g) d =
          let z : refused g ≡ refused f = sym (any_ends n limit k line u g d) ∙ e in
          ordered_ends n limit least k line u g d ∙ z
      go (accepted w v) d =
          let q = any_line n limit k (suc line) v f (rule_refused (rules_from n limit k (suc line) v) w f (sym (any_goes n limit k line u w v d) ∙ e)) in
          let z : ⊥ = omega arith in absurd z
