-- The reply of writing by its tests, and what is promised from it. Assumes nothing.
use mathlib.Core.Path.{◌≡◌, refl, sym, ◌∙◌, ap}
use mathlib.Core.Bool.{Bool, true, cond}
use mathlib.Core.Logic.Iff
use mathlib.Core.List.{List, ◌++◌}
use Rattle.std.specs.Prelude.{Ok, Err}
use Prim.Native.Nat.{ℕ, ◌≤◌, ◌<◌, ◌^◌}
use native.Mathlib.Omega.{arith}
use lib.Dec.{leb}
use lib.IntN.{ℤ, pos}
use lib.ListN.{length, take, drop}
use lib.Seq.{take-append_seam}
use lib.Signed.{mag}
use borrow.Author.Tests.{leb-true, le-leb, lt-leb}
use Rattle.integers.specs.Bound.{Within}
use Rattle.integers.proofs.Parts.{positive_part, negative_part, word_to}
use Rattle.integers.proofs.Within.{within_of}
use Rattle.words.specs.Change.{word_at}
use Rattle.places.specs.Numbering.{block_start}
use Rattle.numerals.specs.Writing.{Spliced}
use Rattle.numerals.proofs.Splices.{splice_start}
use Rattle.rules.specs.declared.paper.Paper.TheVariants.{Sheet}
use Rattle.rules.specs.declared.refusal.Refusal.{Refusal}
use Rattle.rules.specs.declared.refusal.Refusal.TheVariants.{Size, OutOfLimit, TooShort}
use Rattle.rules.specs.Refusal.{refused_as}
use Rattle.rules.specs.Refusing.{DecidedBy}
use Rattle.rules.specs.Hidden.{set_within}
use Rattle.rules.specs.Limits.{max_text}
use Rattle.rules.proofs.Refusals.{refusal-number}
use Rattle.tables.specs.Tables.{serves}
use Rattle.tables.specs.Meaning.{TableSized, KeyLike}
use Rattle.tables.specs.Replies.{Reply, is_done, check}
use Rattle.tables.proofs.Sizes.{serves_sized}
use Rattle.tables.proofs.Tests.{refused_done}
use Rattle.tables.proofs.Refusing.{Tied, tied_done, tied_more, tied_decided, decided_as, number_done}
use Rattle.writing.specs.Writing.{Writing, written_text, write_checks, text_or, write_reply, written, writing_returned, writing_number, writing_value}
use Rattle.writing.specs.Promises.{write_needs, TextMade, TextWritten}
use Rattle.writing.proofs.Meanings.{AreWords, words_clean, table_meaning}
use Rattle.writing.proofs.Lengths.{longest_any}
use Rattle.writing.proofs.KeyLengths.{key_short}
use Rattle.writing.proofs.TightLengths.{satisfied_short}
use Rattle.writing.proofs.Back.{spells_words, written_back, sheet_short, written_as}
use Rattle.writing.proofs.Past.{written_past, past_read}
use Rattle.writing.proofs.Numbers.{text-number, text-returned}

-- ---- the reply

-- by what its three tests say
pub reply_tested : (n set : ℕ) (t : List ℤ) (room : ℕ) {a b c : Bool}
    → serves n (length t) ≡ a → set_within n set ≡ b → leb (length (written_text n set t)) room ≡ c
    → text_or (check a Size (check b (OutOfLimit 0) (check c (TooShort (length (written_text n set t))) (Ok tt)))) (length (written_text n set t))
    ≡ write_reply n set t room
unfolding write_reply write_checks
reply_tested n set t room e f g = rw (e, f, g)

-- 6, where the output has no room for the text
pub reply_short : (n set : ℕ) (t : List ℤ) (room needed : ℕ) → serves n (length t) ≡ true → set_within n set ≡ true
    → needed ≡ length (written_text n set t) → room < needed → Err (TooShort needed) ≡ write_reply n set t room
reply_short n set t room needed s w e l = rw e (reply_tested n set t room s w (lt-leb (length (written_text n set t)) room (rw e at l)))

-- the text's length, where it has
pub reply_text : (n set : ℕ) (t : List ℤ) (room end : ℕ) → serves n (length t) ≡ true → set_within n set ≡ true
    → end ≡ length (written_text n set t) → end ≤ room → Ok end ≡ write_reply n set t room
reply_text n set t room end s w e l = rw e (reply_tested n set t room s w (le-leb (length (written_text n set t)) room (rw e at l)))

-- ---- what it needs

-- the checks refuse by the first need that is not met
checks_tied : (n set : ℕ) (t : List ℤ) (room : ℕ) → Tied (write_needs n set t room) (write_checks n set t room)
unfolding write_checks
checks_tied n set t room =
    tied_more _ _ _ _ _ (serves_sized n (length t)) (λ sized.
    tied_more _ _ _ _ _ (λ e. e, λ e. e) (λ within.
    tied_more _ _ _ _ _ (leb-true (length (written_text n set t)) room, le-leb (length (written_text n set t)) room) (λ enough. tied_done)))

-- and so does the reply
pub reply_decided : (n set : ℕ) (t : List ℤ) (room : ℕ)
    → DecidedBy (write_needs n set t room) (λ f. writing_returned (write_reply n set t room) ≡ refused_as f) (writing_number (write_reply n set t room) ≡ 0)
unfolding write_reply
reply_decided n set t room =
    let checks = write_checks n set t room in
    let m = length (written_text n set t) in
    decided_as (tied_decided _ _ _ refl (checks_tied n set t room)) (text-returned checks m) (rw (text-number checks m) Iff.rfl)

-- ---- a reply that is no refusal

-- passes the checks
number_passed : (n set : ℕ) (t : List ℤ) (room : ℕ) → writing_number (write_reply n set t room) ≡ 0 → write_checks n set t room ≡ Ok tt
unfolding write_reply
number_passed n set t room e =
    (number_done (write_checks n set t room)).0 (sym (text-number (write_checks n set t room) (length (written_text n set t))) ∙ e)

-- tells the text's length
passed_text : (n set : ℕ) (t : List ℤ) (room : ℕ) → write_checks n set t room ≡ Ok tt → write_reply n set t room ≡ Ok (length (written_text n set t))
unfolding write_reply
passed_text n set t room d = rw d

pub number-text : (n set : ℕ) (t : List ℤ) (room : ℕ) → writing_number (write_reply n set t room) ≡ 0
    → write_reply n set t room ≡ Ok (length (written_text n set t))
number-text n set t room e = passed_text n set t room (number_passed n set t room e)

-- and the text stands in front, before bytes that stay
pub number_output : (n set : ℕ) (t : List ℤ) (out : List ℕ) → writing_number (write_reply n set t (length out)) ≡ 0
    → written n set t out ≡ written_text n set t ++ drop (length (written_text n set t)) out
unfolding written
number_output n set t out e = rw (number_passed n set t (length out) e)

-- the same of a text of this length
pub text_tells : (n set : ℕ) (t : List ℤ) (out : List ℕ) (m : ℕ) → Ok m ≡ write_reply n set t (length out)
    → (m ≡ length (written_text n set t)) × (take m (written n set t out) ≡ written_text n set t)
text_tells n set t out m e = (size, front)
  where
    zero : writing_number (write_reply n set t (length out)) ≡ 0
    zero = ap writing_number (sym e)

    size : m ≡ length (written_text n set t)
    size = ap writing_value (e ∙ number-text n set t (length out) zero)

    front : take m (written n set t out) ≡ written_text n set t
    front = rw (size, number_output n set t out zero) (take-append_seam (written_text n set t) (drop (length (written_text n set t)) out))

-- ---- the text

-- a word of 64 bits is at most 2 ^ 63 in magnitude
word_within : (w : ℤ) → mag w < 2 ^ 63 → Within (pos (2 ^ 63)) w
unfolding positive_part negative_part
word_within w h = let p = word_to {z = w} (record { sfits = h }) in within_of (omega (arith, p.0)) (omega (arith, p.1))

-- what holds of it, the table's words being of 64 bits
text_made : (n set : ℕ) (t : List ℤ) → TableSized n (length t) → set_within n set ≡ true → AreWords (block_start n) t
    → TextMade n set t (Ok (length (written_text n set t))) (written_text n set t)
text_made n set t s w words = record {
  returned = refl;
  spelled = spells_words n set t s.some s.most words;
  meaning = table_meaning n t s.room;
  longest = longest_any n set t s.most words;
  sheet_short = sheet_short n set t s.some s.most;
  key_short = short;
  met_short = λ a. satisfied_short n t a.assignment s.most s.room (record { each = λ k h l e. word_within (word_at t k) (words k h) }) a.satisfies set;
  back = λ b. written_back n set t s.some s.most w b s.room (words_clean (block_start n) t words);
  read_as = λ paper b l. written_as n set t s.some s.most w paper b l s.room (words_clean (block_start n) t words);
  past = written_past n set t s.some s.most w;
  read_past = λ l k p. past_read n set t (written_text n set t) (written_past n set t s.some s.most w Sheet l k p);
}
  where
    short : KeyLike n set t → length (written_text n set t) ≤ max_text
    short = key_short n set t s.most s.room

-- ---- what is promised

-- all of it from the reply and the bytes; of a table whose text is written it is known besides that its words are of 64 bits
written_promised : (n set : ℕ) (t : List ℤ) (out : List ℕ) (r : Writing) (out' : List ℕ) → r ≡ write_reply n set t (length out)
    → out' ≡ written n set t out → (writing_number r ≡ 0 → AreWords (block_start n) t) → ((writing_number r ≡ 0 → ⊥) → out' ≡ out)
    → TextWritten n set t out r out'
written_promised n set t out r out' e f words kept = record {
  reply = e;
  bytes = f;
  decided = decided;
  kept = kept;
  made = λ z.
      let met = decided.accepted.0 z in
      let text = number-text n set t (length out) (rw e at z) in
      let front : take (writing_value r) out' ≡ written_text n set t = rw (f, e, text) (text_tells n set t out _ (sym text)).1 in
      rw (front, e, text) (text_made n set t met.0 met.1.0 (words z));
}
  where
    decided : DecidedBy (write_needs n set t (length out)) (λ f. writing_returned r ≡ refused_as f) (writing_number r ≡ 0)
    decided = rw e (reply_decided n set t (length out))

-- a refusal leaves the output as it was
pub refused_kept : (n set : ℕ) (t : List ℤ) (out : List ℕ) (f : Refusal) → Err f ≡ write_reply n set t (length out) → out ≡ written n set t out
unfolding write_reply written
refused_kept n set t out f e = go (write_checks n set t (length out)) e
  where
    go : (c : Reply) → Err f ≡ text_or c (length (written_text n set t))
        → out ≡ cond (is_done c) (written_text n set t ++ drop (length (written_text n set t)) out) out
    go (Ok done) e = absurd (refused_done e)
    go (Err g) e = refl

pub promised_refused : (n set : ℕ) (t : List ℤ) (out : List ℕ) (f : Refusal) → Err f ≡ write_reply n set t (length out)
    → TextWritten n set t out (Err f) out
promised_refused n set t out f e =
    written_promised n set t out (Err f) out e (refused_kept n set t out f e) (λ z. absurd (refusal-number f z)) (λ z. refl)

-- a text
text_put : (n set : ℕ) (t : List ℤ) (out : List ℕ) (end : ℕ) (out' : List ℕ) → Ok end ≡ write_reply n set t (length out)
    → Spliced out 0 (written_text n set t) end out' → out' ≡ written n set t out
text_put n set t out end out' e s =
    s.buffer ∙ splice_start out (written_text n set t) ∙ sym (number_output n set t out (ap writing_number (sym e)))

pub promised_text : (n set : ℕ) (t : List ℤ) (out : List ℕ) (end : ℕ) (out' : List ℕ) → Ok end ≡ write_reply n set t (length out)
    → Spliced out 0 (written_text n set t) end out' → AreWords (block_start n) t → TextWritten n set t out (Ok end) out'
promised_text n set t out end out' e s words =
    written_promised n set t out (Ok end) out' e (text_put n set t out end out' e s) (λ z. words) (λ z. absurd (z refl))
