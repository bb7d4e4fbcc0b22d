-- What *mark* prints for two texts is what its contract promises: the text of the reply, which tells the refusal and its paper, or the verdict and what it
-- means. Assumes nothing.
use Rattle.std.specs.Prelude.{Ok, Err}
use mathlib.Core.Path.{◌≡◌, refl, sym, ◌∙◌, ap}
use mathlib.Core.List.{List, [], ◌++◌}
use mathlib.Core.Logic.{◌↔◌}
use Prim.Native.Nat.{ℕ, ◌≤◌}
use native.Mathlib.Omega.{arith}
use lib.IntN.{ℤ}
use lib.ListN.{length, take, drop, length-append}
use lib.Seq.{length-take-le, take_at}
use Rattle.rules.specs.declared.paper.Paper.TheVariants.{Sheet}
use Rattle.rules.specs.declared.refusal.Refusal.{Refusal}
use Rattle.rules.specs.Limits.{max_quantities}
use Rattle.rules.specs.Refusal.{refusal_number}
use Rattle.tables.proofs.Tests.{clash}
use Rattle.numerals.specs.Writing.{Spliced}
use Rattle.numerals.proofs.Splices.{splice_start}
use Rattle.marking.specs.declared.verdict.Verdict.TheVariants.{Equal}
use Rattle.scripts.specs.declared.room.Lengths.{Lengths}
use Rattle.scripts.specs.declared.reply.Subject.{Subject}
use Rattle.scripts.specs.declared.reply.Marked.{Marked}
use Rattle.scripts.specs.declared.reply.PaperRefusal.{PaperRefusal}
use Rattle.scripts.specs.Replies.{TextMarking, text_number, is_text_marked, text_counts}
use Rattle.scripts.specs.Meaning.{AcceptedPair, RefusedPair, OwnKeyText, own_lengths}
use Rattle.scripts.specs.Promises.{TextsJudged, MarkedInOwnRoom}
use Rattle.scripts.proofs.Sheets.{fine_table}
use Rattle.scripts.proofs.OwnKeys.{own_in_room}
use Rattle.scripts.proofs.Judging.{returned_refused}
use Rattle.reports.specs.Marks.{verdict_text, refused_mark_text, mark_text}
use Rattle.reports.specs.Meaning.{VerdictText}
use Rattle.reports.specs.Promises.{MarkPrinted}
use Rattle.reports.proofs.PrintedReplies.{refusal_told, verdict_told}
use Rattle.reports.proofs.PrintedIntegers.{judged_firsts}
use Rattle.reports.proofs.MarkRoom.{accepted_room}

-- ---- the text of a reply

-- of a verdict
pub reply_marked : {m : Marked} {r : TextMarking} (values : List ℤ) → r ≡ Ok m → mark_text r values ≡ verdict_text m.verdict (take m.quantities values)
unfolding mark_text
reply_marked values e = rw e

-- of a refusal
pub reply_refused : {x : PaperRefusal} {r : TextMarking} (values : List ℤ) → r ≡ Err x → mark_text r values ≡ refused_mark_text x.paper x.refusal
unfolding mark_text
reply_refused values e = rw e

-- ---- what it tells

module _ {sheet script : List ℕ} {lent : Lengths} {r : TextMarking} {values : List ℤ} (j : TextsJudged sheet script lent r values) where
  -- the refusal with its paper, exactly for its reasons, where 6 does not come
  refused_exactly : (text_number r ≡ 6 → ⊥) → (p : Subject) (f : Refusal) → (mark_text r values ≡ refused_mark_text p f) ↔ RefusedPair sheet script lent p f
  refused_exactly six p f = (
    λ e. (j.refused p f).0 ((returned_refused r p f).1 (refusal_told r values p f six e)),
    λ x. reply_refused values ((returned_refused r p f).0 ((j.refused p f).1 x)),
  )

  -- and never 5
  never_printed : (text_number r ≡ 6 → ⊥) → (p : Subject) (f : Refusal) → mark_text r values ≡ refused_mark_text p f
      → ((refusal_number f ≡ 5) → ⊥) × ((refusal_number f ≡ 6) → ⊥)
  never_printed six p f e =
      let n = ap text_number (refusal_told r values p f six e) in
      (λ d. j.never (n ∙ d), λ d. six (n ∙ d))

  -- a verdict, and what it means
  verdict_printed : (t : AcceptedPair sheet script lent) → t.of_sheet.count ≤ length values → VerdictText t (mark_text r values)
  verdict_printed t enough = go r refl
    where
      go : (s : TextMarking) → r ≡ s → VerdictText t (mark_text r values)
      go (Ok m) e =
          let c = j.counts t in
          let d = ap text_counts e in
          let size : m.quantities ≡ t.of_sheet.count = cc in
          record {
            verdict = m.verdict;
            values = take t.of_sheet.count values;
            size = length-take-le t.of_sheet.count values enough;
            spelled = rw (← size) (reply_marked values e);
            judged = judged_firsts t _ values enough (rw e at (j.judged t));
          }
      go (Err x) e = clash (j.accepted.1 t) (ap is_text_marked e)

-- a sheet's own key is equal, with nothing after it
own_printed : {sheet script : List ℕ} {r : TextMarking} {values : List ℤ} → TextsJudged sheet script (own_lengths max_quantities) r values → OwnKeyText sheet script
    → mark_text r values ≡ verdict_text Equal []
unfolding verdict_text
own_printed {sheet} {script} {r} {values} j k =
    let most = (fine_table Sheet k.contents k.reads.spelled.fine).most in
    reply_marked values (j.reply ∙ own_in_room sheet script max_quantities k most)

-- ---- the contract

module _ {sheet script : List ℕ} {before : List ℤ} {r : TextMarking} {values : List ℤ} (m : MarkedInOwnRoom sheet script before r values)
    (s : length before ≡ max_quantities) where
  -- there is room for every sheet
  never_six : text_number r ≡ 6 → ⊥
  never_six e = let x = m.short.0 e in omega (arith, s, m.most, x.1)

  -- the record of the contract, where the text printed is that of the reply
  pub mark_printed : {out text : List ℕ} {end : ℕ} {out' : List ℕ} → mark_text r values ≡ text → Spliced out 0 text end out'
      → MarkPrinted sheet script out end out'
  mark_printed {out} {text} {end} {out'} e w =
      let told = mark_text r values in
      let judged : TextsJudged sheet script (own_lengths max_quantities) r values = rw s at m.judged in
      let count : end ≡ length told = omega (arith, w.cursor, ap length e) in
      let bytes : out' ≡ told ++ drop (length told) out = rw e (w.buffer ∙ splice_start out text) in
      let room : end ≤ length out' = omega (arith, ap length bytes, length-append told (drop (length told) out)) in
      let printed : take end out' ≡ told = rw bytes (take_at told (drop (length told) out) end (sym count)) in
      record {
        reply = r;
        values = values;
        judged = judged;
        count = count;
        bytes = bytes;
        room = room;
        front = sym (length-take-le end out' room);
        refused = rw printed (refused_exactly judged never_six);
        never = rw printed (never_printed judged never_six);
        accepted = λ v integers d. judged.accepted.0 (verdict_told r values v integers (sym printed ∙ d));
        verdict = λ t. rw printed (verdict_printed judged t (omega (arith, s, m.written.size, accepted_room t)));
        own_key = λ k. printed ∙ own_printed judged k;
      }
