-- The loop over the rule lines: what holds between two lines, and what each way of a line makes of it. Assumes nothing.
use mathlib.Core.Path.{◌≡◌, refl, sym, ◌∙◌, ap}
use mathlib.Core.Bool.{Bool, true, false}
use mathlib.Core.List.{List}
use Rattle.std.specs.Prelude.{Option, None, Ok, Err}
use Prim.Native.Nat.{ℕ, ◌+◌, ◌-◌, ◌≤◌, ◌<◌}
use native.Mathlib.Nat.{sub-zero}
use native.Mathlib.Omega.{arith}
use lib.Dec.{leb}
use lib.IntN.{ℤ}
use lib.ListN.{length, drop}
use borrow.Author.Tests.{le-leb, leb-true}
use Rattle.places.specs.Numbering.{block_start}
use Rattle.numerals.specs.declared.read.Found.{Found}
use Rattle.numerals.specs.Decimal.{cap}
use Rattle.rules.specs.declared.refusal.Refusal.{Refusal}
use Rattle.rules.specs.declared.refusal.Refusal.TheVariants.{Malformed, NotCanonical}
use Rattle.rules.specs.declared.rule.Rule.{Rule}
use Rattle.rules.specs.Limits.{max_quantities}
use Rattle.rules.specs.RuleWords.{rule_values}
use Rattle.tables.specs.Replies.{Reply}
use Rattle.tables.specs.Tables.{table_size}
use Rattle.tables.specs.Promises.{Emptied, Put}
use Rattle.tables.proofs.Sizes.{size_known, long_serves}
use Rattle.lines.specs.Spelling.{written_rule}
use Rattle.lines.specs.Lines.{rule_judged}
use Rattle.lines.specs.Answers.{Line as LineAnswer}
use Rattle.lines.specs.Answers.{rule_answer, LineAnswered}
use Rattle.lines.proofs.Found.{RuleFound, rule_found, line_refused}
use Rattle.reading.specs.declared.check.Passed.{Passed}
use Rattle.reading.specs.Reading.{checked_rules}
use Rattle.reading.specs.Ordered.{lines_by}
use Rattle.reading.specs.Inner.{least_of, place_after}
use Rattle.reading.specs.Promises.{judged_rules, RulesFilled}
use Rattle.std.specs.Option.{ok_or}
use Rattle.reading.proofs.Answered.{same_failed}
use Rattle.reading.proofs.OrderedLines.{Placed, by_ends, by_stops, by_goes, by_over, by_done, refused-passes}
use Rattle.reading.proofs.Filling.{never_stuck}
use Rattle.reading.proofs.FillingOnce.{Begun, begun_emptied, begun_same, FillingOnce, once_begins, once_puts, once_passes, once_filled}

-- i of the lines are read, up to the cursor: the answer is that of the lines that are left, the table is filled so far where all lines are fine, and it was emptied before where it is to be filled
pub record Running (ordered : Bool) (header : Passed) (limit : ℕ) (s : List ℕ) (fills : Bool) (before table₀ table : List ℤ) (at : ℕ) (last : Option ℕ) (i : ℕ) : Type 0 where
  pub answered : checked_rules header (lines_by ordered header.quantities limit (least_of last) (header.rules - i) (i + 4) (drop at s))
      ≡ checked_rules header (judged_rules ordered header limit s)
  pub filling : FillingOnce limit s header fills table₀ table at i
  pub begun : Begun header.quantities fills before table₀
  pub test : fills ≡ leb (block_start header.quantities) (length before)

-- what a rule line is answered with
abbrev pub RuleTold : List ℕ → ℕ → ℕ → ℕ → ℕ → LineAnswer Rule → Type 0
RuleTold s n limit line at = LineAnswered rule_values (rule_answer s) (rule_judged n limit line (drop at s))

-- ---- at the start

-- the table is long enough by its size
sized : (n size : ℕ) (t : List ℤ) → n ≤ max_quantities → size ≡ table_size n → leb size (length t) ≡ leb (block_start n) (length t)
sized n size t h e = ap (λ (k : ℕ). leb k (length t)) (size_known n size h e)

module _ (ordered : Bool) (header : Passed) (limit : ℕ) (s : List ℕ) (size : ℕ) (t : List ℤ) (h : header.quantities ≤ max_quantities)
    (e : size ≡ table_size header.quantities) where
  begins : (u : List ℤ) → Begun header.quantities (leb size (length t)) t u
      → Running ordered header limit s (leb size (length t)) t u u header.body None 0
  begins u b = record {
    answered = rw (sub-zero header.rules) refl;
    filling = once_begins limit s header (leb size (length t)) u;
    begun = b;
    test = sized header.quantities size t h e;
  }

  -- it is emptied
  pub begins_emptied : (r : Reply) (u : List ℤ) → 1 ≤ header.quantities → size ≤ length t → Emptied header.quantities t r u → length u ≡ length t
      → Running ordered header limit s (leb size (length t)) t u u header.body None 0
  begins_emptied r u some l p k =
      let n = header.quantities in
      let long : block_start n ≤ length t = omega (arith, size_known n size h e) in
      begins u (begun_emptied n (leb size (length t)) t r u (le-leb size (length t) l) (long_serves n (length t) some h long) p k)

  -- it stays
  pub begins_same : leb size (length t) ≡ false → Running ordered header limit s (leb size (length t)) t t t header.body None 0
  begins_same l = begins t (begun_same header.quantities (leb size (length t)) t l)

-- ---- a line more

module _ {ordered : Bool} {header : Passed} {limit : ℕ} {s : List ℕ} {fills : Bool} {before t₀ t : List ℤ} {at : ℕ} {last : Option ℕ} {i : ℕ}
    (r : Running ordered header limit s fills before t₀ t at last i) where
  abbrev n : ℕ
  n = header.quantities

  -- it is refused
  pub line_ends : (f : Refusal) → i < header.rules → RuleTold s n limit (i + 4) at (Err f) → RulesFilled ordered header limit s before (Err f) t
  line_ends f h a =
      let stuck = line_refused f a in
      once_filled limit s header fills t₀ t at i r.filling ordered before (Err f) r.test r.begun
      (sym (by_ends ordered header n limit header.rules i last (drop at s) f h stuck) ∙ r.answered)
      (λ rs q w. absurd (never_stuck limit s header t₀ t at i w f h stuck))

  module _ {it : Found Rule} (h : i < header.rules) (a : RuleTold s n limit (i + 4) at (Ok it)) where
    found : RuleFound s n limit (i + 4) at it.value it.next
    found = rule_found s n limit (i + 4) at it (sym a.reply)

    -- its rule is not in order
    pub order_ends : (f : Refusal) {place : Option ℕ} → ordered ≡ true → place ≡ place_after last it.value → Err f ≡ ok_or place (NotCanonical (i + 4))
        → place ≡ None → RulesFilled ordered header limit s before (Err f) t
    order_ends f o e v p =
        let told : place_after last (written_rule found.written) ≡ None = rw found.told at (sym e ∙ p) in
        let same : f ≡ NotCanonical (i + 4) = same_failed (rw p at v) in
        let x = by_stops ordered header n limit header.rules i last (drop at s) found.written _ h found.is o told in
        rw same
        (once_filled limit s header fills t₀ t at i r.filling ordered before _ r.test r.begun (sym x ∙ r.answered)
        (λ rs q w. refused-passes header _ _ (sym x ∙ r.answered) rs q))

    -- it is found
    goes : (u : List ℤ) (next : Option ℕ) → (ordered ≡ true → Placed last next it.value)
        → FillingOnce limit s header fills t₀ u it.next (i + 1) → Running ordered header limit s fills before t₀ u it.next next (i + 1)
    goes u next p f = record {
      answered = sym (by_goes ordered header n limit header.rules i last next (drop at s) found.written (drop it.next s) h found.is placed) ∙ r.answered;
      filling = f;
      begun = r.begun;
      test = r.test;
    }
      where
        placed : ordered ≡ true → Placed last next (written_rule found.written)
        placed o = rw found.told at (p o)

    -- and put in
    pub goes_put : (u : List ℤ) (next : Option ℕ) (reply : Reply) → (ordered ≡ true → Placed last next it.value)
        → limit < cap → 1 ≤ n → n ≤ max_quantities → fills ≡ true → length t ≡ length before → Put n it.value t reply u → length u ≡ length t
        → Running ordered header limit s fills before t₀ u it.next next (i + 1)
    goes_put u next reply p below some most y l put kept =
        let room : block_start n ≤ length t = rw l (leb-true (block_start n) (length before) (sym r.test ∙ y)) in
        goes u next p (once_puts limit s header fills t₀ t at i r.filling y it.value it.next reply u below h room (long_serves n (length t) some most room) found put kept)

    -- and no table is filled
    pub goes_on : (next : Option ℕ) → (ordered ≡ true → Placed last next it.value)
        → fills ≡ false → Running ordered header limit s fills before t₀ t it.next next (i + 1)
    goes_on next p y = goes t next p (once_passes limit s header fills t₀ t at i r.filling y it.next)

  -- ---- at the end

  -- something follows the lines
  pub bytes_follow : i ≤ header.rules → header.rules ≤ i → at < length s → RulesFilled ordered header limit s before (Err (Malformed (header.rules + 4))) t
  bytes_follow l g h = once_filled limit s header fills t₀ t at i r.filling ordered before _ r.test r.begun
      (sym (by_over ordered header n limit header.rules i (least_of last) s at l g h) ∙ r.answered) (λ rs q w. g)

  -- nothing does
  pub all_read : header.rules ≤ i → length s ≤ at → RulesFilled ordered header limit s before (Ok header) t
  all_read g h = once_filled limit s header fills t₀ t at i r.filling ordered before _ r.test r.begun
      (sym (by_done ordered header n limit header.rules i (least_of last) s at g h) ∙ r.answered) (λ rs q w. g)
