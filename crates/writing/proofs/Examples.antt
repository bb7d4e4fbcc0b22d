-- Document 01's key with a bound too large for a sheet, +1-3:2000000000 over 3 quantities with 2 hidden: it is written, and its text is refused with 3 at
-- line 4 as a sheet and accepted as a script. Assumes nothing.
use mathlib.Core.Path.{◌≡◌, refl, ◌∙◌, ap}
use mathlib.Core.Bool.{Bool, false, true, ◌||◌}
use mathlib.Core.List.{List, [], ◌∷◌, ◌++◌}
use Rattle.std.specs.Prelude.{Ok}
use Prim.Native.Nat.{ℕ, zero, suc, ◌+◌, ◌<◌}
use native.Mathlib.Omega.{arith}
use lib.IntN.{ℤ, pos}
use lib.ListN.{length, take, replicate, get_or-replicate}
use lib.Dec.{eqb}
use borrow.Author.Tests.{eqb-true}
use Rattle.integers.proofs.Within.{within_to}
use Rattle.integers.proofs.Parts.{positive_part, negative_part}
use Rattle.words.specs.Change.{word_at}
use Rattle.places.specs.Numbering.{block_start}
use Rattle.rules.specs.declared.paper.Paper.TheVariants.{Sheet, Script}
use Rattle.rules.specs.declared.refusal.Refusal.TheVariants.{OutOfLimit}
use Rattle.rules.specs.Refusal.{refused_as}
use Rattle.rules.specs.Hidden.{hidden_in, member_count}
use Rattle.rules.specs.Limits.{bound_limit, max_bound, no_rule}
use Rattle.rules.specs.Meaning.{names}
use Rattle.tables.specs.Tables.{has_rule, in_limit, words_in_limit}
use Rattle.tables.specs.Meaning.{HoldsRule, rule_in, KeyLike}
use Rattle.tables.proofs.Tests.{clash}
use Rattle.tables.proofs.Limits.{words_in_limit_within}
use Rattle.numerals.specs.Bytes.{bytes}
use Rattle.numerals.specs.Decimal.{decimal_up_to, signed_decimal}
use Rattle.numerals.proofs.Decimals.{up_to_enough}
use Rattle.lines.specs.Spelling.{two, term_text, rule_text, joined_text, list_text, value_text, line_text}
use Rattle.lines.specs.Lines.{accepted}
use Rattle.reading.specs.Texts.{Contents, lines_text, header_text, sheet_text}
use Rattle.reading.specs.Reading.{check_text, read_reply, read_table, reading_returned}
use Rattle.reading.proofs.Frauds.{reading}
use Rattle.writing.specs.Writing.{written_text}
use Rattle.writing.specs.Promises.{FirstPast, line_at, ReadAs, TextWritten}
use Rattle.writing.proofs.Frauds.{writing}

-- the key's table: +1-3 has place 11
abbrev pub large_key : List ℤ
large_key = replicate 11 no_rule ++ (pos 2000000000 ∷ replicate 6 no_rule)

-- its text
abbrev pub large_text : List ℕ
large_text = bytes "quantities=3\nhidden=2\nrules=1\nrule=+1-3:2000000000\n"

-- what it writes
abbrev large_contents : Contents
large_contents = record {
  count = 3;
  hiddens = 2 ∷ [];
  written = two (record { negative = false; quantity = 1 }) (record { negative = true; quantity = 3 }) (pos 2000000000) ∷ [];
}

large_found : written_text 3 2 large_key ≡ sheet_text large_contents
unfolding writing
large_found = refl

-- ten digits are enough for the bound, and one for the other numbers
large_spelled : sheet_text large_contents ≡ large_text
unfolding decimal_up_to signed_decimal term_text rule_text joined_text list_text value_text line_text lines_text header_text sheet_text
large_spelled = rw (
  ← up_to_enough 9 2000000000 (omega arith),
  ← up_to_enough 0 1 (omega arith),
  ← up_to_enough 0 2 (omega arith),
  ← up_to_enough 0 3 (omega arith),
)

-- the writer prints it
pub large_written : written_text 3 2 large_key ≡ large_text
large_written = large_found ∙ large_spelled

-- as a sheet the reader refuses it with 3 at line 4, whatever the table's length
pub large_refused : (words : ℕ) → reading_returned (read_reply large_text words) ≡ refused_as (OutOfLimit 4)
unfolding reading
large_refused words = refl

-- as a script it is accepted
pub large_accepted : check_text Script large_text ≡ accepted large_contents []
unfolding reading
large_accepted = refl

-- line 4 is that of the first place that is outside the sheet's limit
pub large_first : FirstPast Sheet 3 2 large_key 11
unfolding block_start bound_limit in_limit words_in_limit positive_part negative_part
large_first = record {
  past = record {
    holds = record { inside = omega arith; there = omega arith; rule = refl };
    outside = λ h. omega (arith, within_to h);
  };
  before = (words_in_limit_within 11 (pos max_bound) large_key).0 refl;
}

pub large_line : line_at large_key 11 ≡ 4
unfolding writing
large_line = refl

-- ---- by what is promised

-- among empty places one alone holds a rule
lone_rule : (a b : ℕ) (w : ℤ) (k : ℕ) → k < a + suc b → has_rule (word_at (replicate a no_rule ++ (w ∷ replicate b no_rule)) k) ≡ true → k ≡ a
lone_rule zero b w zero h e = refl
lone_rule zero b w (suc k) h e = clash {b = has_rule no_rule} (rw (get_or-replicate b k no_rule (pos 0) (omega arith)) at e) refl
lone_rule (suc a) b w zero h e = clash e refl
lone_rule (suc a) b w (suc k) h e = ap suc (lone_rule a b w k (omega arith) e)

-- it is that of place 11
large_place : (k : ℕ) → HoldsRule 3 large_key k → k ≡ 11
unfolding block_start
large_place k h = lone_rule 11 6 (pos 2000000000) k h.inside h.rule

-- whose rule names 1 and 3, which are visible
large_named : (q : ℕ) → names q (rule_in large_key 11) ≡ true → hidden_in 2 q ≡ false
unfolding writing names
large_named q e = go (eqb 1 q) refl e
  where
    go : (b : Bool) → eqb 1 q ≡ b → (b || eqb 3 q) ≡ true → hidden_in 2 q ≡ false
    go true d e = rw (← eqb-true 1 q d)
    go false d e = rw (← eqb-true 3 q e)

-- so the table is like a key: one hidden quantity doubles bounds
pub large_like : KeyLike 3 2 large_key
unfolding block_start bound_limit member_count in_limit words_in_limit
large_like = record {
  visible = record { each = λ k h q e. large_named q (rw (large_place k h) at e) };
  within = (words_in_limit_within 18 (pos 2000000000) large_key).0 refl;
}

-- so whatever bytes are written for it are refused as a sheet with 3 at line 4, and leave the table that they are read into
pub large_past : (out : List ℕ) (m : ℕ) (out' : List ℕ) → TextWritten 3 2 large_key out (Ok m) out' → (t : List ℤ)
    → (reading_returned (read_reply (take m out') (length t)) ≡ refused_as (OutOfLimit 4)) × (read_table (take m out') t ≡ t)
large_past out m out' w t =
    let p = (w.made refl).read_past ((w.made refl).key_short large_like) 11 large_first.past t in
    let k = p.refused.place in
    let line : line_at large_key k ≡ 4 = rw (large_place k p.refused.first.past.holds) large_line in
    (rw line at p.reply, p.kept)

-- and are accepted as a script, whose rule makes the key's table again
pub large_script : (out : List ℕ) (m : ℕ) (out' : List ℕ) → TextWritten 3 2 large_key out (Ok m) out' → ReadAs Script 3 2 large_key (take m out')
large_script out m out' w = (w.made refl).read_as Script large_like.within ((w.made refl).key_short large_like)
