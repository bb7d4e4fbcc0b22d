-- The rules' lines by one place more, the header by its three lines, and the text of both. Assumes nothing.
use mathlib.Core.Path.{◌≡◌, refl, sym, ◌∙◌, ap}
use mathlib.Core.Bool.{Bool, true, false, cond}
use mathlib.Core.List.{List, [], ◌∷◌, ◌++◌, append_assoc, append-nil}
use Prim.Native.Nat.{ℕ, zero, suc, ◌+◌, ◌*◌, ◌^◌, ◌≤◌, ◌<◌}
use native.Mathlib.Nat.{add-zero, zero-add}
use native.Mathlib.Omega.{arith}
use lib.Dec.{eqb}
use lib.IntN.{ℤ, pos}
use lib.ListN.{length, take, length-append}
use lib.Seq.{take-suc, take-length, get_or-take, length-take-le}
use lib.Signed.{mag}
use borrow.Author.Tests.{eqb-true, eqb-false}
use mir.Syntax.{w64}
use mir.Val.{SFits}
use Rattle.places.specs.Numbering.{block_start}
use Rattle.numerals.specs.Bytes.{newline}
use Rattle.numerals.specs.Decimal.{decimal}
use Rattle.rules.specs.declared.rule.Rule.{Rule}
use Rattle.rules.specs.Limits.{max_quantities, max_rules}
use Rattle.tables.specs.Places.{rule_at}
use Rattle.tables.specs.Tables.{has_rule, table_size, serves}
use Rattle.tables.proofs.Sizes.{small_square, small_start, serves_tells}
use Rattle.tables.proofs.Places.{rule_at_bound, rule_at_has_place}
use Rattle.words.specs.Change.{word_at}
use Rattle.lines.specs.Spelling.{Written, rule, quantities_key, hidden_key, rules_key, list_text, value_text, line_text}
use Rattle.reading.specs.Texts.{rule_lines, lines_text, header_text, sheet_text}
use Rattle.writing.specs.declared.write.Measure.{Measure}
use Rattle.writing.specs.Writing.{written_of, rule_line_text, rules_at, hidden_list, count_text, table_rules, written_text}
use Rattle.writing.specs.Promises.{max_line}
use Rattle.writing.specs.Inner.{Measured, MeasuredMore, place_text, rules_text, head_text}
use Rattle.writing.proofs.Lines.{count_length, word_width, place_line, word_short, line_short}
use Rattle.writing.proofs.Meanings.{AreWords}

-- ---- rules by place

-- the rules of words and of more words after them
pub rules_append : (k : ℕ) (s t : List ℤ) → rules_at k (s ++ t) ≡ rules_at k s ++ rules_at (k + length s) t
unfolding rules_at
rules_append k [] t = rw (add-zero k)
rules_append k (w ∷ s) t =
    let e : suc k + length s ≡ k + suc (length s) = omega arith in
    go (has_rule w) (rw e at (rules_append (suc k) s t))
  where
    go : (b : Bool) → rules_at (suc k) (s ++ t) ≡ rules_at (suc k) s ++ rules_at (k + suc (length s)) t
        → cond b (written_of (rule_at k w) ∷ rules_at (suc k) (s ++ t)) (rules_at (suc k) (s ++ t))
        ≡ cond b (written_of (rule_at k w) ∷ rules_at (suc k) s) (rules_at (suc k) s) ++ rules_at (k + suc (length s)) t
    go true e = ap (λ (l : List Written). written_of (rule_at k w) ∷ l) e
    go false e = e

-- the rules of the first k + 1 words of a table
pub rules_more : (k : ℕ) (t : List ℤ) → k < length t → rules_at 0 (take (suc k) t) ≡ rules_at 0 (take k t) ++ rules_at k (word_at t k ∷ [])
rules_more k t h =
    let e : 0 + length (take k t) ≡ k = zero-add (length (take k t)) ∙ length-take-le k t (omega arith) in
    ap (rules_at 0) (take-suc t k (pos 0) h) ∙ rw e at (rules_append 0 (take k t) (word_at t k ∷ []))

-- the lines of rules and of more rules after them
pub lines_append : (rs qs : List Written) → lines_text (rule_lines (rs ++ qs)) ≡ lines_text (rule_lines rs) ++ lines_text (rule_lines qs)
unfolding lines_text
lines_append [] qs = refl
lines_append (r ∷ rs) qs =
    rw (lines_append rs qs) (sym (append_assoc (line_text (rule r)) (lines_text (rule_lines rs)) (lines_text (rule_lines qs))))

-- the line of one word's rule
lines_place : (k : ℕ) (w : ℤ) → lines_text (rule_lines (rules_at k (w ∷ []))) ≡ place_text k w
unfolding rules_at lines_text place_text
lines_place k w = go (has_rule w)
  where
    go : (b : Bool) → lines_text (rule_lines (cond b (written_of (rule_at k w) ∷ []) [])) ≡ cond b (rule_line_text (rule_at k w)) []
    go true = append-nil (line_text (rule (written_of (rule_at k w)))) ∙ sym (place_line k w)
    go false = refl

-- a place that holds a rule has that rule's line
pub place_rule : (k : ℕ) {w d : ℤ} {r : Rule} → has_rule w ≡ true → d ≡ w → r ≡ rule_at k d → place_text k w ≡ rule_line_text r
unfolding place_text
place_rule k h e f = rw (h, f, e)

-- another has none
pub place_none : (k : ℕ) (w : ℤ) → has_rule w ≡ false → place_text k w ≡ []
unfolding place_text
place_none k w h = rw h

-- the lines of the first k + 1 words
pub text_more : (k : ℕ) (t : List ℤ) → k < length t → rules_text (take (suc k) t) ≡ rules_text (take k t) ++ place_text k (word_at t k)
unfolding rules_text
text_more k t h =
    ap (λ (rs : List Written). lines_text (rule_lines rs)) (rules_more k t h)
    ∙ lines_append (rules_at 0 (take k t)) (rules_at k (word_at t k ∷ []))
    ∙ ap (λ (l : List ℕ). lines_text (rule_lines (rules_at 0 (take k t))) ++ l) (lines_place k (word_at t k))

-- no words, no lines
pub text_none : (t : List ℤ) → rules_text (take 0 t) ≡ []
unfolding rules_text rules_at lines_text
text_none t = refl

-- they are longer by those of one place
pub text_more_length : (k : ℕ) (t : List ℤ) → k < length t
    → length (rules_text (take (suc k) t)) ≡ length (rules_text (take k t)) + length (place_text k (word_at t k))
text_more_length k t h = ap length (text_more k t h) ∙ length-append (rules_text (take k t)) (place_text k (word_at t k))

-- how many rules one word holds
place_count : (k : ℕ) (w : ℤ) → length (rules_at k (w ∷ [])) ≡ cond (has_rule w) 1 0
unfolding rules_at
place_count k w = go (has_rule w)
  where
    go : (b : Bool) → length (cond b (written_of (rule_at k w) ∷ []) []) ≡ cond b 1 0
    go true = refl
    go false = refl

-- how many rules the first k + 1 words hold
pub count_more : (k : ℕ) (t : List ℤ) → k < length t
    → length (rules_at 0 (take (suc k) t)) ≡ length (rules_at 0 (take k t)) + cond (has_rule (word_at t k)) 1 0
count_more k t h =
    ap length (rules_more k t h)
    ∙ length-append (rules_at 0 (take k t)) (rules_at k (word_at t k ∷ []))
    ∙ ap (λ (n : ℕ). length (rules_at 0 (take k t)) + n) (place_count k (word_at t k))

-- no words, no rules
pub count_none : (t : List ℤ) → length (rules_at 0 (take 0 t)) ≡ 0
unfolding rules_at
count_none t = refl

-- the lines of fewer places are no longer
pub text_longer : (k m : ℕ) (t : List ℤ) → k ≤ m → m ≤ length t → length (rules_text (take k t)) ≤ length (rules_text (take m t))
text_longer k zero t h l = let e : k ≡ 0 = omega arith in rw e (omega arith)
text_longer k (suc m) t h l = go (eqb k (suc m)) refl (λ g. text_longer k m t g (omega arith))
  where
    go : (b : Bool) → eqb k (suc m) ≡ b → (k ≤ m → length (rules_text (take k t)) ≤ length (rules_text (take m t)))
        → length (rules_text (take k t)) ≤ length (rules_text (take (suc m) t))
    go true e g = rw (eqb-true k (suc m) e) (omega arith)
    go false e g = omega (arith, eqb-false k (suc m) e, text_more_length m t l, g (omega (arith, eqb-false k (suc m) e)))

-- nor are those of fewer than all
pub text_front : (k : ℕ) (t : List ℤ) → k ≤ length t → length (rules_text (take k t)) ≤ length (rules_text t)
text_front k t h = rw (take-length t) at (text_longer k (length t) t h (omega arith))

-- a place's line is short
pub place_short : (k : ℕ) (w : ℤ) → k < block_start max_quantities → SFits w64 w → length (place_text k w) ≤ max_line
unfolding place_text
place_short k w h f = go (has_rule w)
  where
    go : (b : Bool) → length (cond b (rule_line_text (rule_at k w)) []) ≤ max_line
    go true =
        line_short max_quantities word_width (rule_at k w) (omega arith) (rule_at_has_place max_quantities k w h) (rw (rule_at_bound k w) (word_short w f))
    go false = omega arith

-- and so are those of the first k words
pub text_short : (k : ℕ) (t : List ℤ) → k ≤ length t → k ≤ block_start max_quantities → AreWords k t → length (rules_text (take k t)) ≤ max_line * k
text_short zero t h l f = omega (arith, ap length (text_none t))
text_short (suc k) t h l f =
    let short = place_short k (word_at t k) l (record { sfits = f k (omega arith) }) in
    omega (arith, text_more_length k t h, text_short k t (omega arith) (omega arith) (λ j b. f j (omega arith)))

-- ---- rules measured

-- words hold no more rules than there are words
pub count_short : (k : ℕ) (t : List ℤ) → k ≤ length t → length (rules_at 0 (take k t)) ≤ k
count_short zero t h = omega (arith, count_none t)
count_short (suc k) t h = omega (arith, count_more k t h, one_at_most (has_rule (word_at t k)), count_short k t (omega arith))
  where
    one_at_most : (b : Bool) → cond b 1 0 ≤ 1
    one_at_most true = omega arith
    one_at_most false = omega arith

-- what was measured are words of the table
pub measure_words : (k : ℕ) (t : List ℤ) {a : Measure} → Measured (take k t) a → k ≤ length t → AreWords k t
measure_words k t m h j b = rw (get_or-take k t j (pos 0) b) at (m.words j (rw (length-take-le k t h) b))

-- and small
pub measure_small : (k : ℕ) (t : List ℤ) {a : Measure} → Measured (take k t) a → k ≤ length t → k ≤ block_start max_quantities
    → (a.rules ≤ k) × (a.bytes ≤ max_line * k)
measure_small k t m h l =
    (omega (arith, m.counted, count_short k t h), omega (arith, m.measured, text_short k t h l (measure_words k t m h)))

-- no words measured
pub measure_none : (t : List ℤ) → Measured (take 0 t) (record { rules = 0; bytes = 0 })
measure_none t = record {
  words = λ j b. let z : ⊥ = omega arith in absurd z;
  counted = sym (count_none t);
  measured = sym (ap length (text_none t));
}

-- the next word measured too
pub measure_more : (k : ℕ) (t : List ℤ) {w : ℤ} {a b : Measure} → Measured (take k t) a → k < length t → mag (word_at t k) < 2 ^ 63
    → w ≡ word_at t k → MeasuredMore k w a b → Measured (take (suc k) t) b
measure_more k t {w} {a} {b} m h v e n = record {
  words = rw (length-take-le (suc k) t h) (λ j l. rw (get_or-take (suc k) t j (pos 0) l) (go j (eqb j k) refl l));
  counted = f.counted ∙ rw m.counted (sym (count_more k t h));
  measured = f.measured ∙ rw m.measured (sym (text_more_length k t h));
}
  where
    f : MeasuredMore k (word_at t k) a b
    f = rw e at n

    go : (j : ℕ) (c : Bool) → eqb j k ≡ c → j < suc k → mag (word_at t j) < 2 ^ 63
    go j true q l = rw (eqb-true j k q) v
    go j false q l = measure_words k t m (omega arith) j (omega (arith, eqb-false j k q))

-- ---- the header

-- three lines' keys and values, each line by itself and then one after the other
regroup : (j v k w l x e : List ℕ)
    → (j ++ (v ++ e)) ++ ((k ++ (w ++ e)) ++ ((l ++ (x ++ e)) ++ [])) ≡ (j ++ (v ++ e)) ++ k ++ w ++ e ++ (l ++ (x ++ e))
regroup j v k w l x e = simp (append_assoc, append-nil)

-- its three lines, as they are written
pub head-text : (n set m : ℕ)
    → head_text n set m ≡ count_text quantities_key n ++ hidden_key ++ list_text (hidden_list n set) ++ newline ∷ [] ++ count_text rules_key m
unfolding head_text lines_text line_text value_text count_text
head-text n set m = regroup quantities_key (decimal n) hidden_key (list_text (hidden_list n set)) rules_key (decimal m) (newline ∷ [])

-- the keys and line ends of a header have 27 bytes
pub head_length : (n set m : ℕ)
    → length (head_text n set m) ≡ 27 + length (decimal n) + length (list_text (hidden_list n set)) + length (decimal m)
head_length n set m = rw (head-text n set m) (simp (length-append, count_length) (omega arith))

-- ---- the whole text

-- the header and the rules' lines
pub written-text : (n set : ℕ) (t : List ℤ) → written_text n set t ≡ head_text n set (length (table_rules n t)) ++ rules_text (take (block_start n) t)
unfolding written_text sheet_text header_text head_text rules_text
written-text n set t = refl

-- the places of a table that serves n quantities: they are in front, as many as n has, and no more than there can be
pub record Front (n : ℕ) (t places : List ℤ) : Type 0 where
  pub served : serves n (length t) ≡ true
  pub most : n ≤ max_quantities
  pub is : places ≡ take (block_start n) t
  pub size : table_size n ≡ length places
  pub inside : block_start n ≤ length t
  pub few : length places ≤ block_start max_quantities
  pub rules : length places ≤ max_rules

pub front_of : (n m : ℕ) (t : List ℤ) → serves n (length t) ≡ true → m ≡ table_size n → Front n t (take m t)
unfolding block_start
front_of n m t e f =
    let s = serves_tells n (length t) e in
    let g : m ≡ block_start n = f ∙ s.size in
    let l : length (take m t) ≡ block_start n = length-take-le m t (omega (arith, g, s.room)) ∙ g in
    record {
      served = e;
      most = s.most;
      is = rw g;
      size = s.size ∙ sym l;
      inside = s.room;
      few = omega (arith, l, small_square n s.most);
      rules = omega (arith, l, small_start n s.most);
    }

module _ {n : ℕ} {t places : List ℤ} {a : Measure} (set : ℕ) (p : Front n t places) (m : Measured places a) where
  -- what is measured of them is small
  pub front_small : (a.rules ≤ length places) × (a.bytes ≤ max_line * length places)
  front_small = measure_small (length places) places (rw (take-length places) m) (omega arith) p.few

  -- they are words
  pub front_words : AreWords (block_start n) t
  front_words = measure_words (block_start n) t {a = a} (rw (← p.is) m) p.inside

  -- the header with their count and their lines are the text
  pub front_text : written_text n set t ≡ head_text n set a.rules ++ rules_text places
  front_text =
      let count : a.rules ≡ length (table_rules n t) = rw p.is at m.counted in
      rw (p.is, count) (written-text n set t)

  -- the length measured is the text's
  pub front_length : {h : ℕ} → h ≡ length (head_text n set a.rules) → h + a.bytes ≡ length (written_text n set t)
  front_length g = omega (arith, g, ap length front_text, length-append (head_text n set a.rules) (rules_text places), m.measured)
