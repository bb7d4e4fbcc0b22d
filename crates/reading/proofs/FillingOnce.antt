-- A table filled while the rule lines are checked, before it is known whether they are fine. Assumes nothing.
use mathlib.Core.Path.{◌≡◌, refl, sym, ◌∙◌, ap}
use mathlib.Core.Bool.{Bool, true, false}
use mathlib.Core.List.{List, [], ◌++◌}
use Rattle.std.specs.Prelude.{Ok, Err}
use Prim.Native.Nat.{ℕ, ◌+◌, ◌-◌, ◌≤◌, ◌<◌}
use native.Mathlib.Omega.{arith}
use lib.Dec.{leb}
use lib.IntN.{ℤ}
use lib.ListN.{length, drop, length-replicate}
use lib.Seq.{drop_at, drop-drop}
use borrow.Author.Tests.{le-leb, lt-leb}
use Rattle.places.specs.Numbering.{block_start}
use Rattle.numerals.specs.Decimal.{cap}
use Rattle.rules.specs.declared.paper.Paper.{Paper}
use Rattle.rules.specs.declared.rule.Rule.{Rule}
use Rattle.rules.specs.declared.refusal.Refusal.{Refusal}
use Rattle.rules.specs.Limits.{max_quantities, bound_limit, no_rule}
use Rattle.rules.specs.Steps.{halved_of}
use Rattle.tables.specs.Replies.{Reply}
use Rattle.tables.specs.Tables.{serves, empty_table, rule_reply, put_all}
use Rattle.tables.specs.Promises.{Emptied, Put}
use Rattle.tables.proofs.Sizes.{small_start}
use Rattle.tables.proofs.Tests.{clash}
use Rattle.lines.specs.Spelling.{Written, written_rules}
use Rattle.lines.specs.Lines.{Judged, accepted, refused}
use Rattle.lines.proofs.Found.{RuleFound}
use Rattle.reading.specs.declared.check.Passed.{Passed}
use Rattle.reading.specs.Meaning.{Passes}
use Rattle.reading.specs.Reading.{Checked, rules_from, check_text, check_header, header_of, checked_of, checked_rules, filled}
use Rattle.reading.specs.Promises.{judged_rules, RulesFilled, TextFilled}
use Rattle.reading.proofs.Means.{reads_check}
use Rattle.reading.proofs.CheckedTexts.{checked_passes, check_promised}
use Rattle.reading.proofs.Answered.{not-failed, same_told}
use Rattle.reading.proofs.CheckedHeaders.{header_failed}
use Rattle.reading.proofs.Checking.{header_checked}
use Rattle.reading.proofs.Headers.{Opened, passed_opened}
use Rattle.reading.proofs.OrderedLines.{by_any}
use Rattle.reading.proofs.Fronts.{put_past, filled_from}
use Rattle.reading.proofs.Filling.{Filling, emptied_table, put_table, found_accepted, filling_begins, filling_again, filling_over}

-- ---- before the loop

-- the table is emptied where it is to be filled, else it stays
pub record Begun (n : ℕ) (fills : Bool) (before table : List ℤ) : Type 0 where
  pub emptied : fills ≡ true → table ≡ empty_table n ++ drop (block_start n) before
  pub same : fills ≡ false → table ≡ before
  pub rest : drop (block_start n) table ≡ drop (block_start n) before
  pub kept : length table ≡ length before

-- by emptying it
pub begun_emptied : (n : ℕ) (fills : Bool) (t : List ℤ) (r : Reply) (u : List ℤ) → fills ≡ true → serves n (length t) ≡ true → Emptied n t r u
    → length u ≡ length t → Begun n fills t u
begun_emptied n fills t r u f e p l = record {
  emptied = λ _. is;
  same = λ g. clash f g;
  rest = ap (drop (block_start n)) is ∙ drop_at (empty_table n) (drop (block_start n) t) (block_start n) (length-replicate (block_start n) no_rule);
  kept = l;
}
  where
    is : u ≡ empty_table n ++ drop (block_start n) t
    is = emptied_table n t r u e p

-- by doing nothing
pub begun_same : (n : ℕ) (fills : Bool) (t : List ℤ) → fills ≡ false → Begun n fills t t
begun_same n fills t f = record { emptied = λ g. clash g f; same = λ _. refl; rest = refl; kept = refl }

-- ---- the loop

-- i of the lines are read: where all are fine and the table is to be filled, it is filled so far; its words past the first 2n² stay
pub record FillingOnce (limit : ℕ) (s : List ℕ) (header : Passed) (fills : Bool) (table₀ table : List ℤ) (at i : ℕ) : Type 0 where
  pub filling : fills ≡ true → (ws : List Written) → rules_from header.quantities limit header.rules 4 (drop header.body s) ≡ accepted ws []
      → Filling limit s header table₀ table at i
  pub same : fills ≡ false → table ≡ table₀
  pub rest : drop (block_start header.quantities) table ≡ drop (block_start header.quantities) table₀
  pub kept : length table ≡ length table₀

-- at the start it is filled with nothing
pub once_begins : (limit : ℕ) (s : List ℕ) (header : Passed) (fills : Bool) (t : List ℤ) → FillingOnce limit s header fills t t header.body 0
once_begins limit s header fills t = record {
  filling = λ _ ws e. filling_begins limit s header ws t e;
  same = λ _. refl;
  rest = refl;
  kept = refl;
}

module _ (limit : ℕ) (s : List ℕ) (header : Passed) (fills : Bool) (t₀ t : List ℤ) (at i : ℕ)
    (f : FillingOnce limit s header fills t₀ t at i) where
  abbrev n : ℕ
  n = header.quantities

  abbrev count : ℕ
  count = header.rules

  -- the next rule is put in
  pub once_puts : fills ≡ true → (q : Rule) (next : ℕ) (r : Reply) (u : List ℤ) → limit < cap → i < count → block_start n ≤ length t
      → serves n (length t) ≡ true → RuleFound s n limit (i + 4) at q next → Put n q t r u → length u ≡ length t
      → FillingOnce limit s header fills t₀ u next (i + 1)
  once_puts y q next r u below h room e k p l = record {
    filling = λ z ws b. filling_again limit s header t₀ t at i (f.filling z ws b) q next r u below h e k p l;
    same = λ z. clash y z;
    rest = ap (drop (block_start n)) (put_table n q t r u e done p) ∙ put_past n t q room done ∙ f.rest;
    kept = l ∙ f.kept;
  }
    where
      done : rule_reply n (halved_of q) ≡ Ok tt
      done = found_accepted s n limit (i + 4) at q next below k

  -- no table is filled
  pub once_passes : fills ≡ false → (next : ℕ) → FillingOnce limit s header fills t₀ t next (i + 1)
  once_passes y next = record { filling = λ z. clash z y; same = f.same; rest = f.rest; kept = f.kept }

  -- ---- after the loop

  -- what was asked for, where lines that are all accepted are all read
  pub once_filled : (ordered : Bool) (before : List ℤ) (r : Checked) → fills ≡ leb (block_start n) (length before) → Begun n fills before t₀
      → r ≡ checked_rules header (judged_rules ordered header limit s)
      → ((rs : List Written) → judged_rules ordered header limit s ≡ accepted rs [] → Filling limit s header t₀ t at i → count ≤ i)
      → RulesFilled ordered header limit s before r t
  once_filled ordered before r test b e all = record {
    reply = e;
    filled = λ l rs q. go (test ∙ le-leb (block_start n) (length before) l) rs q (by_any ordered n limit count 4 (drop header.body s) rs [] q);
    short = λ l. let y = test ∙ lt-leb (block_start n) (length before) l in f.same y ∙ b.same y;
    rest = f.rest ∙ b.rest;
  }
    where
      go : fills ≡ true → (rs : List Written) → judged_rules ordered header limit s ≡ accepted rs []
          → rules_from n limit count 4 (drop header.body s) ≡ accepted rs [] → t ≡ put_all (empty_table n ++ drop (block_start n) before) (written_rules rs)
      go y rs p q =
          let g : Filling limit s header t₀ t at i = f.filling y rs q in
          let z : g.all ≡ rs = cc (g.begun, q) in
          filling_over limit s header t₀ t at i g (all rs p g) ∙ rw (b.emptied y, z)

-- ---- a text

-- no table is longer than the largest, so the words past that one stay
smaller_table : (n : ℕ) → n ≤ max_quantities → block_start n ≤ block_start max_quantities
unfolding block_start
smaller_table n h = small_start n h

past_largest : (n : ℕ) (t u : List ℤ) → n ≤ max_quantities → drop (block_start n) u ≡ drop (block_start n) t
    → drop (block_start max_quantities) u ≡ drop (block_start max_quantities) t
past_largest n t u h e =
    let k : block_start n + (block_start max_quantities - block_start n) ≡ block_start max_quantities = omega (arith, smaller_table n h) in
    rw k at (sym (drop-drop (block_start max_quantities - block_start n) (block_start n) u) ∙ ap (drop (block_start max_quantities - block_start n)) e
    ∙ drop-drop (block_start max_quantities - block_start n) (block_start n) t)

-- where the header is refused, the table stays
pub header_refused : (paper : Paper) (s : List ℕ) (t : List ℤ) (r : Checked) (g : Refusal) → r ≡ header_of s (check_header s) → r ≡ Err g
    → TextFilled paper s t r t
header_refused paper s t r g e q = record {
  checked = check_promised paper s r (q ∙ header_checked paper s g (header_failed s r g e q));
  filled = λ p d. not-failed (sym d ∙ q);
  short = λ p d l. refl;
  rest = refl;
}

-- the rule lines of a text that passed fill the table that it asks for
pub rules_fill : (paper : Paper) (s : List ℕ) (p : Passed) (before : List ℤ) (r : Checked) (after : List ℤ)
    → Passes paper s p.quantities p.hidden p.rules p.body → block_start p.quantities ≤ length before
    → RulesFilled false p (bound_limit paper p.quantities p.hidden) s before r after → after ≡ filled (check_text paper s) before
rules_fill paper s p before r after w l f =
    let o : Opened (bound_limit paper p.quantities p.hidden) s p.quantities p.rules p.body w.contents.written =
    passed_opened paper s p.quantities p.hidden p.rules p.body w in
    f.filled l w.contents.written o.rest
    ∙ rw (reads_check paper s w.contents w.reads) (filled_from p.quantities w.contents [] before w.counts o.rules)

-- so do those of a text that is checked
pub text_filled : (paper : Paper) (s : List ℕ) (header : Passed) (before : List ℤ) (r : Checked) (after : List ℤ) → header.quantities ≤ max_quantities
    → r ≡ checked_of (check_text paper s) → RulesFilled false header (bound_limit paper header.quantities header.hidden) s before r after
    → TextFilled paper s before r after
unfolding checked_rules
text_filled paper s header before r after most e f = record {
  checked = check_promised paper s r e;
  filled = λ p q l. let z = same p q in
      rules_fill paper s header before r after (checked_passes paper s r e header (rw z at q)) (rw z at l) f;
  short = λ p q l. f.short (rw (same p q) at l);
  rest = past_largest header.quantities before after most f.rest;
}
  where
    -- where it passed, it answers the header
    same : (p : Passed) → r ≡ Ok p → p ≡ header
    same p q = go (judged_rules false header (bound_limit paper header.quantities header.hidden) s) f.reply
      where
        go : (j : Judged (List Written)) → r ≡ checked_rules header j → p ≡ header
        go (accepted rs u) d = same_told (sym q ∙ d)
        go (refused g) d = not-failed (sym q ∙ d)
