-- Frauds of writers: for a named table each breaks what writing promises, by its reply and its bytes alone. `key_a_text` and `smallest_written` are texts
-- written, and `key_a_back` is what reading one again gives. Assumes nothing.
use mathlib.Core.Path.{◌≡◌, refl, sym, ◌∙◌, ap}
use mathlib.Core.Bool.{false}
use mathlib.Core.Logic.{inl, inr}
use mathlib.Core.List.{List, [], ◌∷◌, ◌++◌, append-nil}
use Rattle.std.specs.Prelude.{Ok, Err}
use Prim.Native.Nat.{ℕ, ◌≤◌, ◌<◌}
use native.Mathlib.Omega.{arith}
use lib.Dec.{eqb}
use lib.IntN.{ℤ, pos, negsuc}
use lib.ListN.{length, get_or, take, drop, replicate}
use lib.Seq.{drop-length}
use borrow.Author.Tests.{eqb-false}
use Rattle.places.specs.Numbering.{block_start, block_up_to, block_of, offset_of, is_one, higher_at, lower_at}
use Rattle.rules.specs.declared.refusal.Refusal.{Refusal}
use Rattle.rules.specs.declared.refusal.Refusal.TheVariants.{TooShort}
use Rattle.rules.specs.Refusal.{refused_as}
use Rattle.rules.specs.Limits.{bound_limit, max_bound, no_rule}
use Rattle.tables.specs.Places.{rule_at}
use Rattle.tables.specs.Tables.{table_size, serves, in_limit, words_in_limit}
use Rattle.tables.specs.Meaning.{TableSized}
use Rattle.tables.proofs.Limits.{words_in_limit_within}
use Rattle.numerals.specs.Bytes.{bytes}
use Rattle.numerals.specs.Decimal.{decimal_up_to, signed_decimal}
use Rattle.numerals.proofs.Decimals.{up_to_enough}
use Rattle.lines.specs.Spelling.{one, term_text, rule_text, list_text, value_text, line_text}
use Rattle.reading.specs.Reading.{sheet_of, read_reply, read_table}
use Rattle.reading.specs.Texts.{Contents, lines_text, header_text, sheet_text}
use Rattle.reading.proofs.Frauds.{spelling}
use Rattle.tables.proofs.Tests.{refused_done}
use Rattle.writing.specs.Writing.{Writing, written_of, rules_at, hidden_from, written_text, writing_returned, writing_number}
use Rattle.writing.specs.Promises.{TextWritten}
use Rattle.writing.proofs.Promised.{reply_text, number_output, text_tells, refused_kept}

-- ---- the key of sheet A

-- its table: +1 has place 0, +1+3 place 10
abbrev pub key_a : List ℤ
key_a = (pos 3 ∷ replicate 9 no_rule) ++ (pos 5 ∷ replicate 7 no_rule)

-- `unfolding writing` lets its text be found
unfoldable pub writing : Unit {0}
unfolding block_start block_up_to block_of offset_of is_one higher_at lower_at rule_at table_size serves written_of rules_at hidden_from written_text
writing = tt

-- which has these 52 bytes
abbrev pub key_text_a : List ℕ
key_text_a = bytes "quantities=3\nhidden=2\nrules=2\nrule=+1:3\nrule=+1+3:5\n"

pub key_a_text : written_text 3 2 key_a ≡ key_text_a
unfolding writing spelling
key_a_text = refl

-- ---- the smallest word

-- what is written of +1:-2⁶³ over one quantity
abbrev smallest_contents : Contents
smallest_contents = record { count = 1; hiddens = []; written = one (record { negative = false; quantity = 1 }) (negsuc 9223372036854775807) ∷ [] }

smallest_found : written_text 1 0 (negsuc 9223372036854775807 ∷ no_rule ∷ []) ≡ sheet_text smallest_contents
unfolding writing
smallest_found = refl

-- its bound is computed by its digits, of which nineteen are enough
smallest_spelled : sheet_text smallest_contents ≡ bytes "quantities=1\nhidden=\nrules=1\nrule=+1:-9223372036854775808\n"
unfolding decimal_up_to signed_decimal term_text rule_text list_text value_text line_text lines_text header_text sheet_text
smallest_spelled = rw (← up_to_enough 18 9223372036854775808 (omega arith), ← up_to_enough 0 1 (omega arith))

-- -2⁶³ is written
pub smallest_written :
    written_text 1 0 (negsuc 9223372036854775807 ∷ no_rule ∷ []) ≡ bytes "quantities=1\nhidden=\nrules=1\nrule=+1:-9223372036854775808\n"
smallest_written = smallest_found ∙ smallest_spelled

-- ---- frauds: the text

module _ (out : List ℕ) (m : ℕ) (out' : List ℕ) (w : TextWritten 3 2 key_a out (Ok m) out') where
  -- what is written, so many bytes as the reply says, is no list that differs from that text at some byte
  unlike : {s : List ℕ} (k : ℕ) → take m out' ≡ s → eqb (get_or s k 0) (get_or key_text_a k 0) ≡ false → ⊥
  unlike {s} k e h =
      let f : take m out' ≡ key_text_a = ap (take m) w.bytes ∙ (text_tells 3 2 key_a out m w.reply).1 ∙ key_a_text in
      eqb-false (get_or s k 0) (get_or key_text_a k 0) h (ap (λ (l : List ℕ). get_or l k 0) (sym e ∙ f))

  -- an invented N
  pub count_invented : take m out' ≡ bytes "quantities=3\nhidden=2\nrules=3\nrule=+1:3\nrule=+1+3:5\n" → ⊥
  count_invented e = unlike 28 e refl

  -- rules not in place order
  pub out_of_order : take m out' ≡ bytes "quantities=3\nhidden=2\nrules=2\nrule=+1+3:5\nrule=+1:3\n" → ⊥
  out_of_order e = unlike 37 e refl

  -- the higher quantity first
  pub higher_first : take m out' ≡ bytes "quantities=3\nhidden=2\nrules=2\nrule=+1:3\nrule=+3+1:5\n" → ⊥
  higher_first e = unlike 46 e refl

  -- a place skipped that holds a rule
  pub place_skipped : take m out' ≡ bytes "quantities=3\nhidden=2\nrules=1\nrule=+1:3\n" → ⊥
  place_skipped e = unlike 28 e refl

  -- the no-rule word of an absent place printed
  pub absent_printed : take m out' ≡ bytes "quantities=3\nhidden=2\nrules=3\nrule=+1:3\nrule=-1:9223372036854775807\nrule=+1+3:5\n" → ⊥
  absent_printed e = unlike 28 e refl

  -- the hidden list lost
  pub hidden_lost : take m out' ≡ bytes "quantities=3\nhidden=\nrules=2\nrule=+1:3\nrule=+1+3:5\n" → ⊥
  hidden_lost e = unlike 20 e refl

  -- ---- frauds: the length, and what is past the text

  -- a length that is not the text's
  pub miscounted : (m ≡ 52 → ⊥) → ⊥
  unfolding writing spelling
  miscounted h = h (text_tells 3 2 key_a out m w.reply).0

  -- bytes past the text changed
  pub past_changed : (drop 52 out' ≡ drop 52 out → ⊥) → ⊥
  unfolding writing spelling
  past_changed h = h (rw (w.bytes, number_output 3 2 key_a out (ap writing_number (sym w.reply))))

  -- ---- the text read again

  -- into a table of 18 words, whatever these are, it gives the very table, its n and its hidden set
  pub key_a_back : (t : List ℤ) → length t ≡ 18 → (read_reply (take m out') (length t) ≡ Ok (sheet_of 3 2)) × (read_table (take m out') t ≡ key_a)
  unfolding block_start bound_limit in_limit words_in_limit
  key_a_back t e =
      let b = (w.made refl).back ((words_in_limit_within 18 (pos max_bound) key_a).0 refl) t (omega arith) in
      let none : drop 18 t ≡ [] = rw (← e) (drop-length t) in
      (b.reply, b.words ∙ rw none (append-nil key_a))

-- ---- frauds: refusals

-- a writer that refuses everything
pub refuses_all : (out : List ℕ) (f : Refusal) (out' : List ℕ) → 52 ≤ length out → TextWritten 3 2 key_a out (Err f) out' → ⊥
unfolding writing spelling
refuses_all out f out' h w = refused_done (w.reply ∙ sym (reply_text 3 2 key_a (length out) 52 refl refl refl h))

-- another refusal where the output is too short
pub short_told : (out : List ℕ) (r : Writing) (out' : List ℕ) → length out < 52 → TextWritten 3 2 key_a out r out'
    → writing_returned r ≡ refused_as (TooShort 52)
unfolding writing spelling
short_told out r out' h w =
    let sized : TableSized 3 18 = record { some = omega arith; most = omega arith; room = omega arith } in
    (w.decided.refused (TooShort 52)).1 (inr (sized, inr (refl, inl (λ l. omega arith, refl))))

-- a refusal that has already changed the output, whatever the table
pub refusal_changed : (n set : ℕ) (t : List ℤ) (out : List ℕ) (f : Refusal) (out' : List ℕ) → (out' ≡ out → ⊥)
    → TextWritten n set t out (Err f) out' → ⊥
refusal_changed n set t out f out' h w = h (w.bytes ∙ sym (refused_kept n set t out f w.reply))
