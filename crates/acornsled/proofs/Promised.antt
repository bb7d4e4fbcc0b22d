-- The exported functions' contracts, from those of the calls. Assumes nothing.
use Rattle.std.specs.Prelude.{Ok, Err}
use mathlib.Core.Path.{◌≡◌, refl, sym, ap, ◌∙◌}
use mathlib.Core.Bool.{Bool, true, false}
use mathlib.Core.Logic.Iff
use mathlib.Core.Logic.{◌↔◌}
use mathlib.Core.List.{List, [], ◌∷◌}
use Prim.Native.Nat.{ℕ, zero, suc, ◌<◌, ◌≤◌}
use native.Mathlib.Omega.{arith}
use lib.IntN.{ℤ, pos}
use lib.Dec.{leb}
use lib.ListN.{length, take}
use borrow.Author.Tests.{leb-true, leb-false}
use Rattle.keys.specs.Promises.{Keyed, Assigned}
use Rattle.steps.specs.Promises.{StepFollowed}
use Rattle.tightening.specs.Promises.{TightKeyed}
use Rattle.rules.specs.declared.refusal.Refusal.{Refusal}
use Rattle.rules.specs.Hidden.{hidden_in}
use Rattle.rules.specs.Limits.{max_quantities}
use Rattle.rules.specs.declared.paper.Paper.TheVariants.{Sheet as OfSheet, Script as OfScript}
use Rattle.rules.specs.declared.sheet.Sheet.{Sheet as Header}
use Rattle.rules.specs.Refusal.{refusal_number, refusal_value, Returned, refused_as, answer_number, answer_value}
use Rattle.rules.proofs.Refusals.{same_refusal_value, same_refusal, refusal-number, refusal_below}
use Rattle.rules.specs.RuleWords.{rule_values, no_rule_words, rule_of_words}
use Rattle.tables.specs.Replies.{Reply, reply_returned, reply_number, reply_value}
use Rattle.tables.specs.Meaning.{Unsatisfiable, Solutions}
use Rattle.tables.proofs.Tests.{clash}
use Rattle.tables.proofs.Refusing.{decided_as}
use Rattle.marking.specs.declared.verdict.Verdict.{Verdict}
use Rattle.marking.specs.declared.verdict.Verdict.TheVariants.{Equal, Loose, Tight}
use Rattle.marking.specs.Verdicts.{verdict_number, verdict_returned, carried_words}
use Rattle.marking.specs.Meaning.{VerdictMeans}
use Rattle.marking.proofs.Carried.{verdict_from, words_values, loose_words}
use Rattle.scripts.specs.declared.reply.Subject.{Subject}
use Rattle.scripts.specs.declared.reply.Subject.TheVariants.{Sheet, Script, Both}
use Rattle.scripts.specs.declared.room.Lengths.{Lengths}
use Rattle.scripts.specs.declared.reply.Marked.{Marked}
use Rattle.scripts.specs.declared.reply.PaperRefusal.{PaperRefusal}
use Rattle.scripts.specs.Replies.{TextMarking, refused_for, texts_returned, text_number, text_value, paper_number, text_paper}
use Rattle.scripts.specs.Marking.{texts_reply, count_in}
use Rattle.scripts.specs.Meaning.{set_in, table_in, AcceptedPair, RefusedPair, own_lengths}
use Rattle.scripts.specs.Promises.{PairJudged, TextsJudged, MarkedInOwnRoom}
use Rattle.scripts.proofs.Sheets.{fine_table}
use Rattle.scripts.proofs.OwnKeys.{own_in_room}
use Rattle.scripts.proofs.Judging.{texts_refused}
use Rattle.scripts.proofs.OwnRoom.{same_reply}
use Rattle.reading.specs.Reading.{Reading, read_reply, reading_returned, reading_number, reading_value}
use Rattle.reading.specs.Meaning.{Readable, rules_of, RefusedFor, AcceptedAs}
use Rattle.reading.specs.Promises.{ReadInto}
use Rattle.reading.proofs.Told.{value_told}
use Rattle.writing.specs.Writing.{Writing, writing_returned, writing_number, writing_value}
use Rattle.writing.specs.Promises.{TextWritten}
use Rattle.writing.proofs.Told.{number_told}
use Rattle.bank.specs.Banking.{bank_reply}
use Rattle.bank.specs.Meaning.{BankRefusedFor, BankAcceptedAs}
use Rattle.bank.specs.Promises.{BankRead}
use Rattle.bank.proofs.Promised.{made_banked}
use Rattle.acornsled.specs.Promises.{TellsRefusal, KeyAnswer, TightKeyAnswer, StepAnswer, AssignmentAnswer, ReadingTold, ReadAnswerBy, ReadAnswer, BankAnswer, WriteAnswer, RefusedWith, MarkAnswer, count_read, set_read, host_reply, count_marked, rule_marked, Told, MarkTextsAnswer}

-- ---- a reply by its number and value is a reply as it is returned

abbrev pub number : Returned → ℕ
number x = x.number

reply_told_as : (x : Reply) (f : Refusal) → TellsRefusal (reply_number x) (reply_value x) f ↔ (reply_returned x ≡ refused_as f)
reply_told_as (Ok x) f = (λ e. absurd (refusal-number f (sym e.0)), λ e. absurd (refusal-number f (sym (ap number e))))
reply_told_as (Err g) f = (λ e. ap refused_as (same_refusal_value g f e.0 e.1), λ e. let d = same_refusal g f e in (rw d, rw d))

reading_told : (x : Reading) (f : Refusal) → TellsRefusal (reading_number x) (reading_value x) f ↔ (reading_returned x ≡ refused_as f)
reading_told (Ok x) f = (λ e. absurd (refusal-number f (sym e.0)), λ e. absurd (refusal-number f (sym (ap number e))))
reading_told (Err g) f = (λ e. ap refused_as (same_refusal_value g f e.0 e.1), λ e. let d = same_refusal g f e in (rw d, rw d))

writing_told : (x : Writing) (f : Refusal) → TellsRefusal (writing_number x) (writing_value x) f ↔ (writing_returned x ≡ refused_as f)
writing_told (Ok x) f = (λ e. absurd (refusal-number f (sym e.0)), λ e. absurd (refusal-number f (sym (ap number e))))
writing_told (Err g) f = (λ e. ap refused_as (same_refusal_value g f e.0 e.1), λ e. let d = same_refusal g f e in (rw d, rw d))

-- ---- the calls

pub key_answer : (n set : ℕ) (t w t' w' : List ℤ) (reply : Reply) (r v : ℕ) → Keyed n set t w reply t' w' → r ≡ reply_number reply → v ≡ reply_value reply
    → KeyAnswer n set t w r v t' w'
key_answer n set t w t' w' reply r v k e d = record {
  number = e ∙ ap reply_number k.reply;
  value = d ∙ ap reply_value k.reply;
  decided = rw (e, d) (decided_as k.decided (reply_told_as reply) Iff.rfl);
  call = rw k.reply at k;
}

pub tight_answer : (n set : ℕ) (t w t' w' : List ℤ) (reply : Reply) (r v : ℕ) → TightKeyed n set t w reply t' w' → r ≡ reply_number reply → v ≡ reply_value reply
    → TightKeyAnswer n set t w r v t' w'
tight_answer n set t w t' w' reply r v k e d = record {
  number = e ∙ ap reply_number k.keyed.reply;
  value = d ∙ ap reply_value k.keyed.reply;
  decided = rw (e, d) (decided_as k.keyed.decided (reply_told_as reply) Iff.rfl);
  call = rw k.keyed.reply at k;
}

pub step_answer : (n set q blocks : ℕ) (t w t' w' : List ℤ) (reply : Reply) (r v : ℕ) → StepFollowed n set q blocks t w reply t' w' → r ≡ reply_number reply → v ≡ reply_value reply
    → StepAnswer n set q blocks t w r v t' w'
step_answer n set q blocks t w t' w' reply r v k e d = record {
  number = e ∙ ap reply_number k.reply;
  value = d ∙ ap reply_value k.reply;
  decided = rw (e, d) (decided_as k.decided (reply_told_as reply) Iff.rfl);
  call = rw k.reply at k;
}

pub assignment_answer : (n : ℕ) (t w u w' u' : List ℤ) (reply : Reply) (r v : ℕ) → Assigned n t w u reply w' u' → r ≡ reply_number reply
    → v ≡ reply_value reply → AssignmentAnswer n t w u r v w' u'
assignment_answer n t w u w' u' reply r v k e d = record {
  number = e ∙ ap reply_number k.reply;
  value = d ∙ ap reply_value k.reply;
  decided = rw (e, d) (decided_as k.decided (reply_told_as reply) Iff.rfl);
  call = rw k.reply at k;
}

-- ---- reading

-- a text that is refused leaves n and the hidden set
pub reading_refused : {reply : Reading} {n set r v : ℕ} {f : Refusal} → reply ≡ Err f → r ≡ refusal_number f → v ≡ answer_value reply
    → ReadingTold reply n set r v n set
reading_refused {reply} {n} {set} q e d = record {
  number = e ∙ sym (ap reading_number q);
  value = d ∙ value_told reply;
  count = sym (ap (count_read n) q);
  hidden = sym (ap (set_read set) q);
}

-- one that is accepted gives them
pub reading_accepted : {reply : Reading} {n set v : ℕ} {sheet : Header} → reply ≡ Ok sheet → v ≡ answer_value reply
    → ReadingTold reply n set 0 v sheet.quantities sheet.hidden
reading_accepted {reply} {n} {set} q d = record {
  number = sym (ap reading_number q);
  value = d ∙ value_told reply;
  count = sym (ap (count_read n) q);
  hidden = sym (ap (set_read set) q);
}

-- 0 is the number of an accepted text, with n and the hidden set afterwards
read_zero : (Why : ℕ → ℕ → Type 0) (n set : ℕ) (reply : Reading) → ((m h : ℕ) → (reading_returned reply ≡ record { number = 0; values = pos m ∷ pos h ∷ [] }) ↔ Why m h)
    → (reading_number reply ≡ 0) ↔ Why (count_read n reply) (set_read set reply)
read_zero Why n set (Ok sheet) a = (λ e. (a sheet.quantities sheet.hidden).0 refl, λ x. refl)
read_zero Why n set (Err f) a = (λ e. absurd (refusal-number f e), λ x. ap number ((a n set).1 x))

-- either reading, by its reasons
read_answer_by : (reply : Reading) (RefusedWhy : Refusal → Type 0) (AcceptedWhy : ℕ → ℕ → Type 0) (Promised : Type 0) (n set r v n' set' : ℕ)
    → ((f : Refusal) → (reading_returned reply ≡ refused_as f) ↔ RefusedWhy f)
    → ((m h : ℕ) → (reading_returned reply ≡ record { number = 0; values = pos m ∷ pos h ∷ [] }) ↔ AcceptedWhy m h)
    → ReadingTold reply n set r v n' set' → Promised → ReadAnswerBy reply RefusedWhy AcceptedWhy Promised n set r v n' set'
read_answer_by reply RefusedWhy AcceptedWhy Promised n set r v n' set' why fine t p = record {
  told = t;
  refused = λ f. rw (t.number, t.value) (Iff.trans (reading_told reply f) (why f));
  accepted = rw (t.number, t.count, t.hidden) (read_zero AcceptedWhy n set reply fine);
  call = p;
}

pub read_answer : (s : List ℕ) (t t' : List ℤ) (n set n' set' : ℕ) (reply : Reading) (r v : ℕ) → ReadInto s t reply t' → ReadingTold reply n set r v n' set'
    → ReadAnswer s t n set r v n' set' t'
read_answer s t t' n set n' set' reply r v k e =
    let p = rw k.reply at k in
    read_answer_by (read_reply s (length t)) (RefusedFor s (length t)) (AcceptedAs s (length t)) (ReadInto s t (read_reply s (length t)) t') n set r v n' set'
    p.refused p.accepted (rw k.reply at e) p

pub bank_answer : (s : List ℕ) (t t' : List ℤ) (n set n' set' : ℕ) (reply : Reading) (r v : ℕ) → BankRead s t reply t' → ReadingTold reply n set r v n' set'
    → BankAnswer s t n set r v n' set' t'
bank_answer s t t' n set n' set' reply r v k e =
    let p = rw k.reply at k in
    let a = read_answer_by (bank_reply s (length t)) (BankRefusedFor s (length t)) (BankAcceptedAs s (length t)) (BankRead s t (bank_reply s (length t)) t')
    n set r v n' set' p.refused p.accepted (rw k.reply at e) p in
    record { answer = a; canonical = λ z. p.canonical n' set' ((p.accepted n' set').1 (a.accepted.0 z)) }

-- ---- writing

pub write_answer : (n set : ℕ) (t : List ℤ) (out out' : List ℕ) (reply : Writing) (r v : ℕ) → TextWritten n set t out reply out'
    → r ≡ answer_number reply → v ≡ writing_value reply → WriteAnswer n set t out r v out'
write_answer n set t out out' reply r v k c d = let e : r ≡ writing_number reply = c ∙ number_told reply in record {
  number = e ∙ ap writing_number k.reply;
  value = d ∙ ap writing_value k.reply;
  decided = rw (e, d) (decided_as k.decided (writing_told reply) Iff.rfl);
  call = rw k.reply at k;
  banked = λ z words u l. let m = k.made (sym e ∙ z) in
      rw d (made_banked (take (writing_value reply) out') u n set t (m.read_as OfSheet words (m.sheet_short words)).reads (m.back words u l));
}

-- ---- marking

-- a reply's number below 100 is a refusal's
refused_number : (sheet script : List ℕ) (r : TextMarking) → r ≡ texts_reply sheet script (own_lengths max_quantities)
    → (k : ℕ) → k < 100 → (text_number r ≡ k) ↔ RefusedWith sheet script k
refused_number sheet script r j k h = (
  told r j,
  λ w. ap text_number (j ∙ (texts_refused sheet script (own_lengths max_quantities) w.paper w.refusal).1 w.reason) ∙ sym w.number,
)
  where
    told : (x : TextMarking) → x ≡ texts_reply sheet script (own_lengths max_quantities) → text_number x ≡ k → RefusedWith sheet script k
    told (Ok m) i e = absurd (omega (arith, verdict_from m.verdict))
    told (Err x) i e = record {
      paper = x.paper;
      refusal = x.refusal;
      reason = (texts_refused sheet script (own_lengths max_quantities) x.paper x.refusal).0 (sym i);
      number = sym e;
    }

-- a number from 100 on is a verdict's, exactly where both texts are accepted
reply_accepted : {sheet script : List ℕ} {lent : Lengths} {values : List ℤ} (r : TextMarking) → TextsJudged sheet script lent r values
    → (100 ≤ text_number r) ↔ AcceptedPair sheet script lent
reply_accepted (Ok m) j = (λ h. j.accepted.0 refl, λ t. verdict_from m.verdict)
reply_accepted (Err x) j = (λ h. absurd (omega (arith, refusal_below x.refusal)), λ t. clash (j.accepted.1 t) refl)

-- the number of a reply
pub mark_answer : (sheet script : List ℕ) (values values' : List ℤ) (reply : TextMarking) (r : ℕ) → MarkedInOwnRoom sheet script values reply values'
    → length values ≡ max_quantities → r ≡ text_number reply → MarkAnswer sheet script r
mark_answer sheet script values values' reply r m h e =
    let j : TextsJudged sheet script (own_lengths max_quantities) reply values' = rw h at m.judged in
    record {
      number = e ∙ ap text_number j.reply;
      refused = rw e (refused_number sheet script reply j.reply);
      accepted = rw e (reply_accepted reply j);
      never = rw e (j.never, λ six. let s = m.short.0 six in omega (arith, h, s.1, m.most));
      values = values';
      call = rw j.reply at j;
      judged = λ t. rw (e, ← j.reply) (j.judged t);
      own_key = λ k. e ∙ ap text_number (j.reply ∙ own_in_room sheet script max_quantities k (fine_table OfSheet k.contents k.reads.spelled.fine).most);
    }

-- ---- marking with the reasons

-- the paper of a number
unfoldable paper_for : ℕ → Subject
paper_for zero = Sheet
paper_for (suc zero) = Sheet
paper_for (suc (suc zero)) = Script
paper_for (suc (suc (suc k))) = Both

paper-for : (w : Subject) → paper_for (paper_number w) ≡ w
unfolding paper_for
paper-for Sheet = refl
paper-for Script = refl
paper-for Both = refl

same_paper : (w u : Subject) → paper_number w ≡ paper_number u → w ≡ u
same_paper w u e = sym (paper-for w) ∙ ap paper_for e ∙ paper-for u

-- a reply is told by number, paper and value as this refusal of this paper
abbrev ToldAs : TextMarking → Subject → Refusal → Type 0
ToldAs r w f = (text_number r ≡ refusal_number f) × (text_paper r ≡ paper_number w) × (text_value r ≡ refusal_value f)

-- exactly where it is
told_refused : (sheet script : List ℕ) (lent : Lengths) (r : TextMarking) → r ≡ texts_reply sheet script lent → (w : Subject) (f : Refusal)
    → ToldAs r w f ↔ RefusedPair sheet script lent w f
told_refused sheet script lent r j w f = (λ e. (texts_refused sheet script lent w f).0 (sym j ∙ there r e), λ a. back (j ∙ (texts_refused sheet script lent w f).1 a))
  where
    there : (x : TextMarking) → ToldAs x w f → x ≡ refused_for w f
    there (Ok m) e = absurd (omega (arith, e.0, verdict_from m.verdict, refusal_below f))
    there (Err x) e = rw (← same_paper x.paper w e.1, ← same_refusal_value x.refusal f e.0 e.2)

    back : r ≡ refused_for w f → ToldAs r w f
    back e = (ap text_number e, ap text_paper e, ap text_value e)

-- a verdict is told with the sheet's n
told_count : {sheet script : List ℕ} {lent : Lengths} {values : List ℤ} (before : ℕ) (r : TextMarking) → TextsJudged sheet script lent r values
    → (t : AcceptedPair sheet script lent) → count_marked before r ≡ t.of_sheet.count
told_count before (Ok m) j t = let e = j.counts t in cc
told_count before (Err x) j t = clash (j.accepted.1 t) refl

-- the words that come with a loose or tight verdict are of the rule that it carries
told_same : (before : List ℤ) (x : TextMarking) → 100 < text_number x
    → ◌≡◌ {A = Returned} (record { number = text_number x; values = rule_values (rule_of_words (rule_marked before x)) }) (texts_returned x)
told_same before (Ok m) h = go m.verdict h
  where
    go : (v : Verdict) → 100 < verdict_number v
        → ◌≡◌ {A = Returned} (record { number = verdict_number v; values = rule_values (rule_of_words (carried_words before v)) }) (verdict_returned v)
    go Equal h = absurd (omega arith)
    go (Loose rule) h = rw (words_values rule)
    go (Tight rule) h = rw (words_values rule)
told_same before (Err x) h = absurd (omega (arith, refusal_below x.refusal))

-- what is told of a verdict means what the verdict does, where of loose and tight the same is told
pub means_told : {n set : ℕ} {sheet script : Solutions} {t s : List ℤ} {values : List ℤ} (told returned : Returned) → told.number ≡ returned.number
    → (100 < told.number → told ≡ returned) → VerdictMeans n set sheet script t s returned values → VerdictMeans n set sheet script t s told values
means_told told returned e same m = record {
  demand = rw e m.demand;
  visibles = m.visibles;
  key = m.key;
  loose = λ rule d. m.loose rule (sym (same (omega (arith, ap number d))) ∙ d);
  tight = λ rule d. m.tight rule (sym (same (omega (arith, ap number d))) ∙ d);
}

-- so it does of two texts
judged_told : {sheet script : List ℕ} {lent : Lengths} (t : AcceptedPair sheet script lent) (before : List ℤ) (x : TextMarking) (values : List ℤ)
    → PairJudged t (texts_returned x) values → PairJudged t (record { number = text_number x; values = rule_values (rule_of_words (rule_marked before x)) }) values
judged_told t before x values j = record {
  members = j.members;
  sheet-table = j.sheet-table;
  script_table = j.script_table;
  means = means_told _ (texts_returned x) refl (told_same before x) j.means;
}

-- the words of a loose verdict are all 0 where no integers satisfy the sheet, and only there
told_none : {sheet script : List ℕ} {lent : Lengths} (t : AcceptedPair sheet script lent) (before : List ℤ) (x : TextMarking) (values : List ℤ)
    → PairJudged t (texts_returned x) values → (text_number x ≡ 101)
    → Unsatisfiable t.of_sheet.count (table_in t.of_sheet) ↔ (rule_marked before x ≡ no_rule_words)
told_none t before (Ok m) values j e = go m.verdict j e
  where
    go : (v : Verdict) → PairJudged t (verdict_returned v) values → (verdict_number v ≡ 101)
        → Unsatisfiable t.of_sheet.count (table_in t.of_sheet) ↔ (carried_words before v ≡ no_rule_words)
    go Equal j e = absurd (omega arith)
    go (Loose rule) j e =
        loose_words (hidden_in (set_in t.of_sheet)) t.of_sheet.count (table_in t.of_sheet) (rules_of t.of_script) rule (j.means.loose rule refl).0
    go (Tight rule) j e = absurd (omega arith)
told_none t before (Err x) values j e = absurd (omega (arith, refusal_below x.refusal))

-- what a host is told of a reply
reply_told : (sheet script : List ℕ) (lent : Lengths) (reply : TextMarking) (n : ℕ) (rule values : List ℤ) → TextsJudged sheet script lent reply values
    → Told sheet script lent (text_number reply) (text_paper reply) (text_value reply) (count_marked n reply) (rule_marked rule reply) values
reply_told sheet script lent reply n rule values j = record {
  refused = told_refused sheet script lent reply j.reply;
  accepted = reply_accepted reply j;
  count = told_count n reply j;
  judged = λ t. judged_told t rule reply values (j.judged t);
  none = λ e t. told_none t rule reply values (j.judged t) e;
}

-- marking without the reasons gives the same number, where the assignment is not too short
agreeing : (sheet script : List ℕ) (values values' : List ℤ) (reply : TextMarking) → MarkedInOwnRoom sheet script values reply values'
    → ((text_number reply ≡ 6) → ⊥) → text_number reply ≡ text_number (host_reply sheet script max_quantities)
agreeing sheet script values values' reply m six =
    ap text_number (m.judged.reply ∙ same_reply sheet script (length values) max_quantities (λ d. long d (leb (count_in sheet) (length values)) refl) (λ d. m.most))
  where
    long : Readable OfScript script → (b : Bool) → leb (count_in sheet) (length values) ≡ b → count_in sheet ≤ length values
    long d true e = leb-true (count_in sheet) (length values) e
    long d false e = absurd (six (m.short.1 (d, leb-false (count_in sheet) (length values) e)))

-- a reply's numbers and words
mark_texts_answer : (sheet script : List ℕ) (n n' : ℕ) (rule rule' values values' : List ℤ) (reply : TextMarking) (r p v : ℕ)
    → MarkedInOwnRoom sheet script values reply values' → r ≡ text_number reply → p ≡ text_paper reply → v ≡ text_value reply
    → n' ≡ count_marked n reply → rule' ≡ rule_marked rule reply → MarkTextsAnswer sheet script n rule values r p v n' rule' values'
mark_texts_answer sheet script n n' rule rule' values values' reply r p v m e w d c u =
    let j = m.judged in
    record {
      number = e ∙ ap text_number j.reply;
      paper = w ∙ ap text_paper j.reply;
      value = d ∙ ap text_value j.reply;
      count = c ∙ ap (count_marked n) j.reply;
      words = u ∙ ap (rule_marked rule) j.reply;
      written = rw j.reply at m.written;
      counted = j.count;
      told = rw (e, w, d, c, u) (reply_told sheet script (own_lengths (length values)) reply n rule values' j);
      never = rw e j.never;
      short = rw e m.short;
      needed = rw (e, d) m.needed;
      own_key = λ k h. e ∙ ap text_number (j.reply ∙ own_in_room sheet script (length values) k (omega (arith, j.count k.contents k.reads)));
      agrees = λ h. e ∙ agreeing sheet script values values' reply m (rw e at h);
    }

-- a refusal leaves n and the rule's words
pub mark_texts_refused : {sheet script : List ℕ} {n : ℕ} {rule values values' : List ℤ} {reply : TextMarking} {x : PaperRefusal} {r p v : ℕ}
    → MarkedInOwnRoom sheet script values reply values' → reply ≡ Err x → r ≡ refusal_number x.refusal → p ≡ text_paper reply → v ≡ text_value reply
    → MarkTextsAnswer sheet script n rule values r p v n rule values'
mark_texts_refused {sheet} {script} {n} {rule} {values} {values'} {reply} {x} {r} {p} {v} m q e u d =
    mark_texts_answer sheet script n n rule rule values values' reply r p v m (e ∙ sym (ap text_number q)) u d (sym (ap (count_marked n) q))
    (sym (ap (rule_marked rule) q))

-- a verdict gives n, and the words of the rule that it carries
pub mark_texts_marked : {sheet script : List ℕ} {n : ℕ} {rule rule' values values' : List ℤ} {reply : TextMarking} {x : Marked} {r p v : ℕ}
    → MarkedInOwnRoom sheet script values reply values' → reply ≡ Ok x → r ≡ verdict_number x.verdict → p ≡ text_paper reply
    → v ≡ text_value reply → rule' ≡ carried_words rule x.verdict → MarkTextsAnswer sheet script n rule values r p v x.quantities rule' values'
mark_texts_marked {sheet} {script} {n} {rule} {rule'} {values} {values'} {reply} {x} {r} {p} {v} m q e u d c =
    mark_texts_answer sheet script n x.quantities rule rule' values values' reply r p v m (e ∙ sym (ap text_number q)) u d (sym (ap (count_marked n) q))
    (c ∙ sym (ap (rule_marked rule) q))
