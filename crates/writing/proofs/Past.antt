-- A written text with a bound outside a paper's limit: as that paper it is refused with 3, at the line of the first such rule. Assumes nothing.
use mathlib.Core.Path.{◌≡◌, refl, sym, ◌∙◌, ap, subst}
use mathlib.Core.Bool.{Bool, true, false}
use mathlib.Core.List.{List, [], ◌∷◌, ◌++◌, append_assoc}
use mathlib.Core.Logic.{◌⊎◌, inl, inr}
use Rattle.std.specs.Prelude.{Err}
use Prim.Native.Nat.{ℕ, zero, suc, ◌+◌, ◌≤◌, ◌<◌}
use native.Mathlib.Nat.{zero-add}
use native.Mathlib.Omega.{arith}
use lib.Dec.{leb, eqb}
use lib.IntN.{ℤ, pos, negsuc, nat_abs}
use lib.ListN.{length, take, drop, length-append, length-take}
use lib.Seq.{split_at, take-take, length-take-le}
use borrow.Author.Tests.{leb-true, leb-false, lt-leb, lt-ltb, eqb-true, eqb-false}
use Rattle.integers.specs.Bound.{Within}
use Rattle.integers.proofs.Within.{within_of}
use Rattle.integers.proofs.Parts.{positive_part, negative_part}
use Rattle.words.specs.Change.{word_at}
use Rattle.places.specs.Numbering.{block_start}
use Rattle.rules.specs.declared.rule.Rule.{Rule}
use Rattle.rules.specs.declared.rule.Rule.TheVariants.{One, Two, Nothing}
use Rattle.rules.specs.declared.refusal.Refusal.TheVariants.{OutOfLimit}
use Rattle.rules.specs.declared.paper.Paper.{Paper}
use Rattle.rules.specs.declared.paper.Paper.TheVariants.{Sheet}
use Rattle.rules.specs.Hidden.{set_within}
use Rattle.rules.specs.Limits.{bound_limit, max_quantities, max_text}
use Rattle.rules.specs.Meaning.{bound_of}
use Rattle.tables.specs.Places.{rule_at, HasPlace}
use Rattle.tables.specs.Tables.{has_rule, in_limit}
use Rattle.tables.specs.Meaning.{HoldsRule, WordsWithin}
use Rattle.tables.proofs.Limits.{Bounded, in_limit_bounded}
use Rattle.tables.proofs.Places.{rule_at_bound, rule_at_has_place}
use Rattle.tables.proofs.Tests.{clash}
use Rattle.lines.specs.Spelling.{Written, rule, line_within}
use Rattle.lines.specs.Lines.{refused}
use Rattle.reading.specs.Texts.{rule_lines, lines_text}
use Rattle.reading.specs.Meaning.{Opening, ruled, lines_of, AllFine, OutsideAt, outside_at}
use Rattle.reading.specs.Reading.{read_reply, reading_returned}
use Rattle.reading.proofs.Ending.{sheet_lines}
use Rattle.reading.proofs.Means.{text_means}
use Rattle.reading.proofs.Replies.{reply_refused}
use Rattle.reading.proofs.Promised.{reading_kept}
use Rattle.writing.specs.Writing.{written_of, rules_at, table_rules, hidden_list, contents_of, written_text}
use Rattle.writing.specs.Promises.{PastLimit, FirstPast, line_at, RefusedPast, ReadPast}
use Rattle.writing.proofs.Meanings.{front_word}
use Rattle.writing.proofs.Back.{literal_within, rules_fine, AtMostIn, bound_magnitude, opening_fine}
use Rattle.writing.proofs.Members.{hidden_limit}
use Rattle.writing.proofs.Texts.{rules_append, lines_append}

-- ---- a bound outside a limit

-- a magnitude that is at most a limit is within it
magnitude_within : (limit : ℕ) (c : ℤ) → nat_abs c ≤ limit → Within (pos limit) c
unfolding positive_part negative_part
magnitude_within limit (pos v) h = within_of (omega arith) (omega arith)
magnitude_within limit (negsuc v) h = within_of (omega arith) (omega arith)

-- so a bound that is not within it is above it in magnitude
outside_magnitude : (limit : ℕ) (c : ℤ) → (Within (pos limit) c → ⊥) → limit < nat_abs c
outside_magnitude limit c h = go (leb (nat_abs c) limit) refl
  where
    go : (b : Bool) → leb (nat_abs c) limit ≡ b → limit < nat_abs c
    go true e = absurd (h (magnitude_within limit c (leb-true (nat_abs c) limit e)))
    go false e = leb-false (nat_abs c) limit e

-- and the line of a rule with it has a number outside its limit
rule_outside : (n limit : ℕ) (r : Rule) → HasPlace n r → limit < nat_abs (bound_of r) → line_within n limit (rule (written_of r)) ≡ false
unfolding written_of line_within
rule_outside n limit (One x c) u w = rw (literal_within n x u, lt-leb (nat_abs c) limit w)
rule_outside n limit (Two x y c) u w = rw (literal_within n x u.0, literal_within n y u.1, lt-leb (nat_abs c) limit w)
rule_outside n limit (Nothing c) u w = absurd u

-- ---- the first of them

-- one word more within a limit
within_more : (j : ℕ) (B : ℤ) (t : List ℤ) → WordsWithin j B t → Bounded B (word_at t j) → WordsWithin (suc j) B t
within_more j B t w b = record { each = λ k h l. go k h l (eqb k j) refl }
  where
    go : (k : ℕ) → k < suc j → k < length t → (d : Bool) → eqb k j ≡ d → Bounded B (word_at t k)
    go k h l true e = subst (λ (i : ℕ). Bounded B (word_at t i)) (sym (eqb-true k j e)) b
    go k h l false e = w.each k (omega (arith, eqb-false k j e)) l

-- a word that is not in a limit holds a rule, whose bound is not within it
not_in_limit : (B w : ℤ) → in_limit B w ≡ false → (has_rule w ≡ true) × (Within B w → ⊥)
not_in_limit B w e = (go (has_rule w) refl, λ h. clash ((in_limit_bounded B w).1 (λ q. h)) e)
  where
    go : (b : Bool) → has_rule w ≡ b → b ≡ true
    go true h = refl
    go false h = clash ((in_limit_bounded B w).1 (λ q. clash q h)) e

-- the first j places are all within a paper's limit, or one of them is the first that is not
pub within_or_past : (paper : Paper) (n set : ℕ) (t : List ℤ) (j : ℕ) → j ≤ block_start n → j ≤ length t
    → WordsWithin j (pos (bound_limit paper n set)) t ⊎ ((k : ℕ) × FirstPast paper n set t k)
within_or_past paper n set t zero h l = inl (record { each = λ k b. let z : ⊥ = omega arith in absurd z })
within_or_past paper n set t (suc j) h l = go (within_or_past paper n set t j (omega arith) (omega arith)) (in_limit limit (word_at t j)) refl
  where
    limit : ℤ
    limit = pos (bound_limit paper n set)

    go : WordsWithin j limit t ⊎ ((k : ℕ) × FirstPast paper n set t k) → (b : Bool) → in_limit limit (word_at t j) ≡ b
        → WordsWithin (suc j) limit t ⊎ ((k : ℕ) × FirstPast paper n set t k)
    go (inr f) b e = inr f
    go (inl w) true e = inl (within_more j limit t w ((in_limit_bounded limit (word_at t j)).0 e))
    go (inl w) false e =
        let p = not_in_limit limit (word_at t j) e in
        let holds : HoldsRule n t j = record { inside = omega arith; there = omega arith; rule = p.0 } in
        inr (j, record { past = record { holds = holds; outside = p.1 }; before = w })

-- where a place is not, there is a first one
first_past : (paper : Paper) (n set : ℕ) (t : List ℤ) (k : ℕ) → PastLimit paper n set t k → (j : ℕ) × FirstPast paper n set t j
first_past paper n set t k p = go (within_or_past paper n set t k (omega (arith, p.holds.inside)) (omega (arith, p.holds.there)))
  where
    go : WordsWithin k (pos (bound_limit paper n set)) t ⊎ ((j : ℕ) × FirstPast paper n set t j) → (j : ℕ) × FirstPast paper n set t j
    go (inl w) = (k, record { past = p; before = w })
    go (inr f) = f

-- ---- its line

-- the rules of words are those before a place, that of the place, and those after it
rules_apart : (t : List ℤ) (k : ℕ) → k < length t → has_rule (word_at t k) ≡ true
    → rules_at 0 t ≡ rules_at 0 (take k t) ++ written_of (rule_at k (word_at t k)) ∷ rules_at (suc k) (drop (suc k) t)
unfolding rules_at
rules_apart t k h e =
    let place : 0 + length (take k t) ≡ k = zero-add (length (take k t)) ∙ length-take-le k t (omega arith) in
    ap (rules_at 0) (split_at t k (pos 0) h) ∙ rw (place, e) at (rules_append 0 (take k t) (word_at t k ∷ drop (suc k) t))

-- the lines of a text with more rules
lines_more : (n : ℕ) (qs : List ℕ) (m : ℕ) (rs more : List Written)
    → lines_text (lines_of (ruled n qs m (rs ++ more))) ≡ lines_text (lines_of (ruled n qs m rs)) ++ lines_text (rule_lines more)
unfolding lines_text
lines_more n qs m rs more = rw (lines_append rs more) (simp append_assoc)

-- a line for each rule
pub lines_count : (rs : List Written) → length (rule_lines rs) ≡ length rs
lines_count [] = refl
lines_count (r ∷ rs) = ap suc (lines_count rs)

-- n and a set in their ranges, and a table whose first place past a paper's limit is k
module _ (paper : Paper) (n set : ℕ) (t : List ℤ) (some : 1 ≤ n) (most : n ≤ max_quantities) (within : set_within n set ≡ true) (k : ℕ) (f : FirstPast paper n set t k) where
  abbrev limit : ℕ
  limit = bound_limit paper n set

  abbrev front : List ℤ
  front = take (block_start n) t

  abbrev before : List Written
  before = rules_at 0 (take k t)

  abbrev here : Written
  here = written_of (rule_at k (word_at t k))

  abbrev after : List Written
  after = rules_at (suc k) (drop (suc k) front)

  -- the rules written
  table_apart : table_rules n t ≡ before ++ here ∷ after
  table_apart = rw (take-take k (block_start n) t (omega (arith, f.past.holds.inside)), w.2) at
      (rules_apart front k there (rw w.2 f.past.holds.rule))
    where
      there : k < length front
      there = omega (arith, length-take (block_start n) t, f.past.holds.inside, f.past.holds.there)

      w : (k < block_start n) × (k < length t) × (word_at front k ≡ word_at t k)
      w = front_word (block_start n) t k there

  -- the lines above its line
  abbrev opening : Opening
  opening = ruled n (hidden_list n set) (length (table_rules n t)) before

  -- its line is where the reader stops
  written_outside : OutsideAt paper (written_text n set t) (line_at t k)
  unfolding written_text lines_text
  written_outside = record {
    opening = opening;
    found = rule here;
    rest = lines_text (rule_lines after);
    reached = record {
      text = sheet_lines (contents_of n set t)
          ∙ ap (λ (rs : List Written). lines_text (lines_of (ruled n (hidden_list n set) (length (table_rules n t)) rs))) table_apart
          ∙ lines_more n (hidden_list n set) (length (table_rules n t)) before (here ∷ after);
      fine = subst (λ (b : ℕ). AllFine n b (lines_of (ruled n (hidden_list n set) (length (table_rules n t)) before))) (hidden_limit paper n set within)
          (opening_fine n set t some most limit before (rules_fine n limit 0 (take k t) short inside));
      most = omega (arith, count);
      number = omega (arith, lines_count before);
    };
    due = rw (lt-ltb (length before) (length (table_rules n t)) (omega (arith, count)));
    formed = tt;
    outside = rw (← hidden_limit paper n set within)
        (rule_outside n limit (rule_at k (word_at t k)) (rule_at_has_place n k (word_at t k) f.past.holds.inside) large);
  }
    where
      short : 0 + length (take k t) ≤ block_start n
      short = omega (arith, length-take k t, f.past.holds.inside)

      inside : AtMostIn (length (take k t)) limit (take k t)
      inside j b c e =
          let w = front_word k t j b in
          rw w.2 (bound_magnitude limit (word_at t j) (f.before.each j w.0 w.1 (rw w.2 at e)))

      count : length (table_rules n t) ≡ length before + suc (length after)
      count = ap length table_apart ∙ length-append before (here ∷ after)

      large : limit < nat_abs (bound_of (rule_at k (word_at t k)))
      large = rw (rule_at_bound k (word_at t k)) (outside_magnitude limit (word_at t k) f.past.outside)

  -- so the text is refused
  refused_past : length (written_text n set t) ≤ max_text → RefusedPast paper n set t (written_text n set t)
  refused_past small = record { place = k; first = f; fails = inr (small, outside_at (line_at t k) written_outside refl) }

-- a text with a bound outside a paper's limit is refused with 3, at the line of the first
pub written_past : (n set : ℕ) (t : List ℤ) → 1 ≤ n → n ≤ max_quantities → set_within n set ≡ true → (paper : Paper) → length (written_text n set t) ≤ max_text
    → (k : ℕ) → PastLimit paper n set t k → RefusedPast paper n set t (written_text n set t)
written_past n set t some most within paper small k p =
    let f = first_past paper n set t k p in refused_past paper n set t some most within f.0 f.1 small

-- so is its reading, whatever table it is read into
pub past_read : (n set : ℕ) (t : List ℤ) (s : List ℕ) → RefusedPast Sheet n set t s → (u : List ℤ) → ReadPast n set t s u
past_read n set t s p u = record { refused = p; reply = ap reading_returned reply; kept = reading_kept s u (OutOfLimit (line_at t p.place)) reply }
  where
    reply : read_reply s (length u) ≡ Err (OutOfLimit (line_at t p.place))
    reply = reply_refused s (length u) (OutOfLimit (line_at t p.place)) ((text_means Sheet s (refused (OutOfLimit (line_at t p.place)))).1 p.fails)
