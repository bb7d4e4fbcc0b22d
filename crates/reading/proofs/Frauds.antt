-- Frauds of readers: on a named text each breaks what checking it or reading it into a table promises; `sheet_a_passed`, `sheet_a_read` and `sheet_a_short`
-- are answers that keep it. Assumes nothing.
use mathlib.Core.Path.{◌≡◌, refl, sym, ◌∙◌, ap, subst}
use mathlib.Core.Bool.{true, false}
use mathlib.Core.List.{List, [], ◌∷◌, ◌++◌}
use mathlib.Core.Logic.{inl, inr}
use Rattle.std.specs.Prelude.{Ok, Err}
use Prim.Native.Nat.{ℕ, ◌≤◌}
use native.Mathlib.Omega.{arith}
use lib.Dec.{lit≤}
use lib.IntN.{ℤ, pos, negsuc, nat_abs}
use lib.ListN.{length, get_or, drop, take, replicate}
use lib.Signed.{lt_z}
use borrow.Author.Tests.{eqb-false}
use Rattle.integers.specs.Bound.{half, smaller}
use Rattle.integers.proofs.Parts.{linear}
use Rattle.words.specs.Change.{word_at, lowered}
use Rattle.places.specs.Numbering.{block_start, place_of_one, place_of_pair, place_of_two, find_two}
use Rattle.rules.specs.declared.paper.Paper.{Paper}
use Rattle.rules.specs.declared.paper.Paper.TheVariants.{Sheet, Script}
use Rattle.rules.specs.declared.refusal.Refusal.{Refusal}
use Rattle.rules.specs.declared.refusal.Refusal.TheVariants.{Malformed, OutOfLimit, Cancelling, TooShort}
use Rattle.rules.specs.Hidden.{set_of}
use Rattle.rules.specs.Limits.{no_rule}
use Rattle.rules.specs.Refusal.{Returned}
use Rattle.rules.specs.Steps.{rule_of, halved_of}
use Rattle.tables.specs.Places.{find_place}
use Rattle.tables.specs.Tables.{has_rule, put_at, put_halved, put_rule, put_all}
use Rattle.tables.proofs.Tests.{clash}
use Rattle.numerals.specs.Bytes.{bytes}
use Rattle.numerals.specs.Decimal.{decimal_up_to, decimal, signed_decimal}
use Rattle.numerals.specs.Parsing.{and_then, expect, digits_from, numeral_of}
use Rattle.lines.specs.Spelling.{Line, WellFormed, line_cancels, two, term_text, rule_text, joined_text, list_text, value_text, line_text, line_within, cancelling, written_rule}
use Rattle.lines.specs.Lines.{ended, count_line, members_after, members_from, list_of, hidden_line, term_of, bound_at, bound_line, after_term, rule_line, refused, judged, count_judged, hidden_judged, rule_judged}
use Rattle.reading.specs.declared.check.Passed.{Passed}
use Rattle.reading.specs.Texts.{Contents, lines_text, header_text, sheet_text}
use Rattle.reading.specs.Meaning.{Fine, contents_limit, FineLines, Reads, OutsideAt, CancelsAt, outside_at, cancels_at, FailsFor, AcceptedAs}
use Rattle.reading.specs.Reading.{Checked, Reading, sheet_of, onward, rules_from, lines_from, check_text, checked_of, reply_to, read_reply, filled, read_table, reading_number, reading_value}
use Rattle.reading.specs.Promises.{TextChecked, ReadInto}
use Rattle.reading.proofs.Means.{text_means, reads_check, reads_same}
use Rattle.reading.proofs.Answered.{not-failed, same_told}
use Rattle.reading.proofs.Replies.{reply_short, reply_accepted, reading_refused, reading_accepted}
use Rattle.reading.proofs.CheckedTexts.{check_promised}
use Rattle.reading.proofs.Numbers.{zero_accepted}
use Rattle.reading.proofs.Promised.{reading_kept, read_promised}

-- ---- what lets texts compute

-- `unfolding spelling` lets a text be spelled, `unfolding putting` rules be put in, `unfolding reading` a text be read
unfoldable pub spelling : Unit {0}
unfolding decimal_up_to decimal signed_decimal term_text rule_text joined_text list_text value_text line_text lines_text header_text sheet_text
spelling = tt

unfoldable pub putting : Unit {0}
unfolding
    half smaller lowered block_start place_of_one place_of_pair place_of_two find_two
    rule_of halved_of find_place put_at put_halved put_rule put_all written_rule
putting = tt

unfoldable pub reading : Unit {0}
unfolding
    and_then expect digits_from numeral_of cancelling set_of
    ended count_line members_after members_from list_of hidden_line term_of bound_at bound_line after_term rule_line judged count_judged hidden_judged rule_judged
    onward rules_from lines_from check_text reply_to read_reply filled read_table
reading = tt

-- ---- sheet A

abbrev pub text_a : List ℕ
text_a = bytes "quantities=3\nhidden=2\nrules=3\nrule=+1+2:5\nrule=+1-2:2\nrule=+3-2:0\n"

-- what it writes
abbrev pub contents_a : Contents
contents_a = record {
  count = 3;
  hiddens = 2 ∷ [];
  written =
      two (record { negative = false; quantity = 1 }) (record { negative = false; quantity = 2 }) (pos 5)
      ∷ two (record { negative = false; quantity = 1 }) (record { negative = true; quantity = 2 }) (pos 2)
      ∷ two (record { negative = false; quantity = 3 }) (record { negative = true; quantity = 2 }) (pos 0)
      ∷ [];
}

-- its table: +1+2 has place 4, +1-2 place 5, -2+3 place 16
abbrev pub table_a : List ℤ
table_a = replicate 4 no_rule ++ (pos 5 ∷ pos 2 ∷ replicate 10 no_rule) ++ (pos 0 ∷ no_rule ∷ [])

-- a line whose tests compute is fine
meets : {n limit : ℕ} {l : Line} → WellFormed l → line_within n limit l ≡ true → line_cancels l ≡ false → Fine n limit l
meets f w u = record { formed = f; within = w; uncancelled = u }

-- it is spelled so, and every line is fine, on either paper
pub sheet_a_reads : (paper : Paper) → Reads paper text_a contents_a
unfolding spelling line_within cancelling set_of
sheet_a_reads paper = record { small = lit≤ tt; spelled = record { text = refl; fine = fine paper } }
  where
    fine : (paper : Paper) → FineLines (contents_limit paper contents_a) contents_a
    fine Sheet = (meets tt refl refl, (meets (lit≤ tt, tt) refl refl, (meets tt refl refl, (meets tt refl refl, (meets tt refl refl, (meets tt refl refl, tt))))))
    fine Script = (meets tt refl refl, (meets (lit≤ tt, tt) refl refl, (meets tt refl refl, (meets tt refl refl, (meets tt refl refl, (meets tt refl refl, tt))))))

-- 3 quantities, hidden 2, 3 rules whose lines begin at this byte
abbrev passed_a : ℕ → Passed
passed_a body = record { quantities = 3; hidden = 2; rules = 3; body = body }

-- so it passes: 3 quantities, hidden 2, 3 rules whose lines begin at byte 30
pub sheet_a_passed : (paper : Paper) → TextChecked paper text_a (Ok (passed_a 30))
unfolding checked_of set_of spelling
sheet_a_passed paper = check_promised paper text_a (Ok (passed_a 30)) (ap checked_of (sym (reads_check paper text_a contents_a (sheet_a_reads paper))))

-- and is accepted where the table has its 18 words
pub sheet_a_reply : (t : List ℤ) → 18 ≤ length t → read_reply text_a (length t) ≡ Ok (sheet_of 3 2)
unfolding block_start set_of
sheet_a_reply t h = reply_accepted text_a (length t) contents_a (sheet_a_reads Sheet) h

pub sheet_a_accepted : (t : List ℤ) → 18 ≤ length t → AcceptedAs text_a (length t) 3 2
sheet_a_accepted t h = (reading_accepted text_a (length t) 3 2).0 (sheet_a_reply t h)

-- and read into any such table: words past the first 18 stay
sheet_a_filled : (t t' : List ℤ) (r : Reading) → 18 ≤ length t → ReadInto text_a t r t' → t' ≡ table_a ++ drop 18 t
unfolding putting
sheet_a_filled t t' r h p = (p.read contents_a (sheet_a_reads Sheet) h).filled

pub sheet_a_read : (t : List ℤ) → 18 ≤ length t → ReadInto text_a t (Ok (sheet_of 3 2)) (table_a ++ drop 18 t)
sheet_a_read t h =
    let p = read_promised text_a t (Ok (sheet_of 3 2)) (read_table text_a t) (sym (sheet_a_reply t h)) refl in
    subst (ReadInto text_a t (Ok (sheet_of 3 2))) (sheet_a_filled t (read_table text_a t) (Ok (sheet_of 3 2)) h p) p

-- into 17 words it is refused
pub sheet_a_short : (t : List ℤ) → length t ≡ 17 → ReadInto text_a t (Err (TooShort 18)) t
unfolding block_start
sheet_a_short t e =
    let r = reply_short text_a (length t) contents_a (sheet_a_reads Sheet) (omega arith) in
    read_promised text_a t (Err (TooShort 18)) t (sym r) (sym (reading_kept text_a t (TooShort 18) r))

-- ---- texts with two faults on one line

-- 9 is past n, and the bound is malformed
abbrev pub text_two : List ℕ
text_two = bytes "quantities=1\nhidden=\nrules=1\nrule=+9:x\n"

-- the bound is outside its limit, and the terms cancel
abbrev pub text_three : List ℕ
text_three = bytes "quantities=1\nhidden=\nrules=1\nrule=+1-1:1000000001\n"

-- by spellings, the first is malformed at line 4, and at no line outside a limit
pub two_spelled : FailsFor Sheet text_two (Malformed 4) × ((line : ℕ) → OutsideAt Sheet text_two line → ⊥)
unfolding reading
two_spelled = (
  (text_means Sheet text_two (refused (Malformed 4))).0 refl,
  λ line o. eqb-false 2 3 refl (ap reading_number ((reading_refused text_two 0 (OutOfLimit line)).1 (inl (inr (lit≤ tt, outside_at line o refl))))),
)

-- the second is outside a limit at line 4, and cancels at no line
pub three_spelled : FailsFor Sheet text_three (OutOfLimit 4) × ((line : ℕ) → CancelsAt Sheet text_three line → ⊥)
unfolding reading
three_spelled = (
  (text_means Sheet text_three (refused (OutOfLimit 4))).0 refl,
  λ line o. eqb-false 3 4 refl (ap reading_number ((reading_refused text_three 0 (Cancelling line)).1 (inl (inr (lit≤ tt, cancels_at line o refl))))),
)

-- ---- frauds: the text by itself

-- there is one answer
one_answer_lem : (paper : Paper) (r : Checked) → TextChecked paper text_a r → r ≡ Ok (passed_a 30)
one_answer_lem paper r p = p.reply ∙ sym (sheet_a_passed paper).reply

-- a check that refuses everything
pub check_refuses_all : (paper : Paper) (f : Refusal) → TextChecked paper text_a (Err f) → ⊥
check_refuses_all paper f p = not-failed (sym (one_answer_lem paper (Err f) p))

-- the rules' lines taken to begin where the text does
pub body_wrong : (paper : Paper) → TextChecked paper text_a (Ok (passed_a 0)) → ⊥
body_wrong paper p = eqb-false 0 30 refl (ap (λ (x : Passed). x.body) (same_told (one_answer_lem paper (Ok (passed_a 0)) p)))

-- ---- frauds: the reply

module _ (t t' : List ℤ) where
  -- a reader that refuses everything
  pub refuses_all : (f : Refusal) → 18 ≤ length t → ReadInto text_a t (Err f) t' → ⊥
  refuses_all f h p = not-failed (sym (p.reply ∙ sheet_a_reply t h))

  -- a reader that accepts everything: the empty text
  pub accepts_all : (n set : ℕ) → ReadInto (bytes "") t (Ok (sheet_of n set)) t' → ⊥
  unfolding reading
  accepts_all n set p = not-failed p.reply

  -- a reader that loses the hidden list
  pub hidden_lost : 18 ≤ length t → ReadInto text_a t (Ok (sheet_of 3 0)) t' → ⊥
  hidden_lost h p = eqb-false 0 2 refl (ap (λ (x : Returned). nat_abs (get_or x.values 1 (pos 0))) ((p.accepted 3 2).1 (sheet_a_accepted t h)))

  -- 3 given before 2 on one line
  pub three_before_two : (line : ℕ) → ReadInto text_two t (Err (OutOfLimit line)) t' → ⊥
  unfolding reading
  three_before_two line p = eqb-false 3 2 refl (ap reading_number p.reply)

  -- 4 given before 3 on one line
  pub four_before_three : (line : ℕ) → ReadInto text_three t (Err (Cancelling line)) t' → ⊥
  unfolding reading
  four_before_three line p = eqb-false 4 3 refl (ap reading_number p.reply)

  -- 6 given before the lines are read
  pub six_before_lines : (needed : ℕ) → ReadInto text_two t (Err (TooShort needed)) t' → ⊥
  unfolding reading
  six_before_lines needed p = eqb-false 6 2 refl (ap reading_number p.reply)

  -- a wrong line: lines counted from 0
  pub line_before : ReadInto text_two t (Err (Malformed 3)) t' → ⊥
  unfolding reading
  line_before p = eqb-false 3 4 refl (ap reading_value p.reply)

  -- or the rules alone counted
  pub rule_counted : ReadInto text_two t (Err (Malformed 1)) t' → ⊥
  unfolding reading
  rule_counted p = eqb-false 1 4 refl (ap reading_value p.reply)

  -- 2 for a numeral that is only long
  pub long_malformed : (line : ℕ)
      → ReadInto (bytes "quantities=1\nhidden=\nrules=1\nrule=+1:100000000000000000000000000000\n") t (Err (Malformed line)) t' → ⊥
  unfolding reading
  long_malformed line p = eqb-false 2 3 refl (ap reading_number p.reply)

  -- 3 for a hidden list that does not increase
  pub falling_outside : (line : ℕ) → ReadInto (bytes "quantities=32\nhidden=40,39\nrules=0\n") t (Err (OutOfLimit line)) t' → ⊥
  unfolding reading
  falling_outside line p = eqb-false 3 2 refl (ap reading_number p.reply)

  -- 2 for one that increases past n
  pub rising_malformed : (line : ℕ) → ReadInto (bytes "quantities=32\nhidden=39,40\nrules=0\n") t (Err (Malformed line)) t' → ⊥
  unfolding reading
  rising_malformed line p = eqb-false 2 3 refl (ap reading_number p.reply)

-- ---- frauds: the table

-- tables that differ at a place are not the same
differ : (s t : List ℤ) (k : ℕ) → lt_z (word_at s k) (word_at t k) ≡ true → s ≡ t → ⊥
differ s t k h e = let z : word_at s k ≡ word_at t k = cc in omega linear

-- a refusal that has already changed the table, whatever the text
pub refusal_changed : (s : List ℕ) (t : List ℤ) (f : Refusal) (t' : List ℤ) → (t' ≡ t → ⊥) → ReadInto s t (Err f) t' → ⊥
refusal_changed s t f t' h p = h (p.kept (λ z. not-failed (sym (zero_accepted (Err f) z).is)))

-- A put in as far as 17 words go, and 6 answered then
pub changed_short : ReadInto text_a (replicate 17 no_rule) (Err (TooShort 18)) (take 17 table_a) → ⊥
changed_short = refusal_changed text_a (replicate 17 no_rule) (TooShort 18) (take 17 table_a) (differ (take 17 table_a) (replicate 17 no_rule) 4 refl)

-- the first rule put in, and 3 answered for the second
abbrev pub text_later : List ℕ
text_later = bytes "quantities=1\nhidden=\nrules=2\nrule=+1:5\nrule=+0:5\n"

pub changed_before : ReadInto text_later (no_rule ∷ no_rule ∷ []) (Err (OutOfLimit 5)) (pos 5 ∷ no_rule ∷ []) → ⊥
changed_before =
    refusal_changed text_later (no_rule ∷ no_rule ∷ []) (OutOfLimit 5) (pos 5 ∷ no_rule ∷ []) (differ (pos 5 ∷ no_rule ∷ []) (no_rule ∷ no_rule ∷ []) 0 refl)

module _ (t t' : List ℤ) (n set : ℕ) (p : ReadInto text_a t (Ok (sheet_of n set)) t') where
  -- it has words enough
  enough : 18 ≤ length t
  unfolding block_start
  enough =
      let a = (p.accepted n set).0 refl in
      let e = reads_same Sheet text_a a.contents contents_a a.reads (sheet_a_reads Sheet) in
      subst (λ (c : Contents). block_start c.count ≤ length t) e a.enough

  -- the table where A is accepted
  held : t' ≡ table_a ++ drop 18 t
  held = sheet_a_filled t t' (Ok (sheet_of n set)) enough p

  -- a table that holds more than the rules of A: the +1:3 that they imply, or what stood at its place before
  pub more_held : has_rule (word_at t' 0) ≡ true → ⊥
  more_held h = clash h (ap (λ (u : List ℤ). has_rule (word_at u 0)) held)

  -- a rule of A left out
  pub left_out : has_rule (word_at t' 4) ≡ false → ⊥
  left_out h = clash (ap (λ (u : List ℤ). has_rule (word_at u 4)) held) h

  -- +3-2:0 taken for +2-3:0
  pub signs_swapped : word_at t' 15 ≡ pos 0 → ⊥
  signs_swapped e = clash (ap has_rule e) (ap (λ (u : List ℤ). has_rule (word_at u 15)) held)

  -- words past 2n² changed
  pub past_changed : (drop 18 t' ≡ drop 18 t → ⊥) → ⊥
  past_changed h = h (ap (λ (u : List ℤ). drop 18 u) held)

-- a doubled term with -1 rounded to 0
pub rounded_up :
    ReadInto (bytes "quantities=1\nhidden=\nrules=1\nrule=+1+1:-1\n") (no_rule ∷ no_rule ∷ []) (Ok (sheet_of 1 0)) (pos 0 ∷ no_rule ∷ []) → ⊥
unfolding reading putting
rounded_up p = differ (negsuc 0 ∷ no_rule ∷ []) (pos 0 ∷ no_rule ∷ []) 0 refl (sym p.words)

-- the last bound of a place kept, not the smallest
pub last_kept :
    ReadInto (bytes "quantities=1\nhidden=\nrules=2\nrule=+1:3\nrule=+1:5\n") (no_rule ∷ no_rule ∷ []) (Ok (sheet_of 1 0)) (pos 5 ∷ no_rule ∷ []) → ⊥
unfolding reading putting
last_kept p = differ (pos 3 ∷ no_rule ∷ []) (pos 5 ∷ no_rule ∷ []) 0 refl (sym p.words)
