-- Two texts are refused exactly for document 01's reasons, which name one paper, and marked exactly where they are accepted. Assumes nothing.
use Rattle.std.specs.Prelude.{Ok, Err}
use mathlib.Core.Path.{◌≡◌, refl, sym, ◌∙◌, ap}
use mathlib.Core.Bool.{true, false}
use mathlib.Core.List.{List, [], ◌∷◌}
use mathlib.Core.Logic.{◌↔◌, inl, inr}
use Prim.Native.Nat.{ℕ}
use native.Mathlib.Omega.{arith}
use lib.IntN.{ℤ}
use Rattle.rules.specs.declared.paper.Paper.{Paper}
use Rattle.rules.specs.declared.paper.Paper.TheVariants.{Sheet, Script}
use Rattle.rules.specs.declared.refusal.Refusal.{Refusal}
use Rattle.rules.specs.Refusal.{refusal_number, refused_as}
use Rattle.rules.specs.Refusing.{RefusedBy, AllMet}
use Rattle.rules.proofs.Refusals.{same_refusal}
use Rattle.tables.specs.Replies.{Reply}
use Rattle.tables.proofs.Tests.{clash, refused_done}
use Rattle.marking.specs.declared.verdict.Verdict.{Verdict}
use Rattle.marking.proofs.Carried.{verdict_from}
use Rattle.lines.specs.Lines.{Judged, accepted, refused}
use Rattle.reading.specs.Texts.{Contents}
use Rattle.reading.specs.Meaning.{Reads, malformed_at, outside_at, cancels_at, FailsFor}
use Rattle.reading.specs.Reading.{check_text}
use Rattle.reading.proofs.Means.{text_means, reads_check, reads_same}
use Rattle.reading.proofs.RuleLines.{not-accepted}
use Rattle.scripts.specs.declared.room.Lengths.{Lengths}
use Rattle.scripts.specs.declared.reply.Subject.{Subject}
use Rattle.scripts.specs.declared.reply.Subject.TheVariants.{Both}
use Rattle.scripts.specs.declared.reply.Subject.TheVariants.{Sheet as OfSheet}
use Rattle.scripts.specs.declared.reply.Subject.TheVariants.{Script as OfScript}
use Rattle.scripts.specs.declared.reply.Marked.{Marked}
use Rattle.scripts.specs.Replies.{TextMarking, refused_for, texts_returned, text_number, text_counts, text_subjects, is_text_marked}
use Rattle.scripts.specs.Meaning.{pair_needs, AcceptedPair, PairFails, RefusedPair}
use Rattle.scripts.specs.Marking.{pair_checks, marked_or, pair_reply, texts_reply, count_in}
use Rattle.scripts.specs.Promises.{PairJudged, TextsJudged}
use Rattle.scripts.proofs.Rooms.{pair_tied}
use Rattle.scripts.proofs.OwnKeys.{own_reply}

-- ---- one text

-- its n
pub reads_count : (s : List ℕ) (c : Contents) → Reads Sheet s c → count_in s ≡ c.count
reads_count s c p = rw (reads_check Sheet s c p)

-- a text whose lines are accepted reads so
pub accepted_reads : (paper : Paper) {s : List ℕ} {c : Contents} {u : List ℕ} → check_text paper s ≡ accepted c u → Reads paper s c
accepted_reads paper {s} {c} {u} e = ((text_means paper s (accepted c u)).0 e).0

-- a text that is refused fails so, for no other reason, and is not fine
module _ (paper : Paper) (s : List ℕ) (g : Refusal) (e : check_text paper s ≡ refused g) where
  refused_fails : FailsFor paper s g
  refused_fails = (text_means paper s (refused g)).0 e

  fails_one : (f : Refusal) → FailsFor paper s f → f ≡ g
  fails_one f h = let d = sym ((text_means paper s (refused f)).1 h) ∙ e in cc

  refused-reads {ℓ} : {X : Type ℓ} (c : Contents) → Reads paper s c → X
  refused-reads c p = not-accepted (sym e ∙ reads_check paper s c p)

-- one that is accepted does not fail
accepted-fails {ℓ} : {X : Type ℓ} (paper : Paper) (s : List ℕ) (c : Contents) (u : List ℕ) (f : Refusal) → check_text paper s ≡ accepted c u → FailsFor paper s f → X
accepted-fails paper s c u f e h = not-accepted (sym ((text_means paper s (refused f)).1 h) ∙ e)

-- ---- replies

-- a refusal as it is returned, with its paper
pub returned_refused : (r : TextMarking) (p : Subject) (f : Refusal) → ((texts_returned r ≡ refused_as f) × (text_subjects r ≡ p ∷ [])) ↔ (r ≡ refused_for p f)
returned_refused r p f = (go r, λ e. (ap texts_returned e, ap text_subjects e))
  where
    go : (r : TextMarking) → (texts_returned r ≡ refused_as f) × (text_subjects r ≡ p ∷ []) → r ≡ refused_for p f
    go (Ok m) e = let z : ◌≡◌ {A = ℕ} 0 1 = let y = e.1 in cc in absurd (omega arith)
    go (Err x) e = let a = same_refusal x.refusal f e.0 in let b : x.paper ≡ p = let y = e.1 in cc in rw (← a, ← b)

-- a refusal tells its paper and what it is
refusal_or : Refusal → TextMarking → Refusal
refusal_or f (Ok m) = f
refusal_or f (Err r) = r.refusal

same_refused : {p q : Subject} {f g : Refusal} → refused_for {A = Marked} p f ≡ refused_for q g → (q ≡ p) × (g ≡ f)
unfolding refusal_or
same_refused {f = f} e = (let x = ap text_subjects e in cc, sym (ap (refusal_or f) e))

-- the reply of two fine texts is refused as their checks are, both papers being named
marked_refused : (a : Reply) (n : ℕ) (v : Verdict) (p : Subject) (f : Refusal) → marked_or a n v ≡ refused_for p f → (p ≡ Both) × (a ≡ Err f)
marked_refused (Ok done) n v p f e = let z : ◌≡◌ {A = ℕ} 0 1 = cc in absurd (omega arith)
marked_refused (Err g) n v p f e = let x = same_refused e in (x.0, rw x.1)

marked_done : (a : Reply) (n : ℕ) (v : Verdict) → (is_text_marked (marked_or a n v) ≡ true) ↔ (a ≡ Ok tt)
marked_done (Ok done) n v = (λ e. refl, λ e. refl)
marked_done (Err f) n v = (λ e. clash e refl, λ e. absurd (refused_done e))

-- ---- two texts

module _ (sheet script : List ℕ) (lent : Lengths) where
  -- two texts that are fine have no other contents
  module _ (c d : Contents) (u w : List ℕ) (e : check_text Sheet sheet ≡ accepted c u) (h : check_text Script script ≡ accepted d w) where
    sheet_reads : Reads Sheet sheet c
    sheet_reads = accepted_reads Sheet e

    script_reads : Reads Script script d
    script_reads = accepted_reads Script h

    fails_same : (f : Refusal) → PairFails sheet script lent f ↔ RefusedBy (pair_needs c d lent) f
    fails_same f = (
      λ x. rw (reads_same Sheet sheet x.of_sheet c x.sheet_reads sheet_reads, reads_same Script script x.of_script d x.script_reads script_reads)
          at x.fails,
      λ x. record { of_sheet = c; of_script = d; sheet_reads = sheet_reads; script_reads = script_reads; fails = x },
    )

    met_same : AcceptedPair sheet script lent ↔ AllMet (pair_needs c d lent)
    met_same = (
      λ x. rw (reads_same Sheet sheet x.of_sheet c x.sheet_reads sheet_reads, reads_same Script script x.of_script d x.script_reads script_reads)
          at x.met,
      λ x. record { of_sheet = c; of_script = d; sheet_reads = sheet_reads; script_reads = script_reads; met = x },
    )

  refused_reason : (j : Judged Contents) → check_text Sheet sheet ≡ j → (k : Judged Contents) → check_text Script script ≡ k
      → (p : Subject) (f : Refusal) → pair_reply j k lent ≡ refused_for p f → RefusedPair sheet script lent p f
  unfolding pair_reply
  refused_reason (refused g) e k h p f d = let x = same_refused d in rw (x.0, x.1) (refused_fails Sheet sheet g e)
  refused_reason (accepted c u) e (refused g) h p f d =
      let x = same_refused d in
      rw (x.0, x.1) (record { contents = c; reads = accepted_reads Sheet e }, refused_fails Script script g h)
  refused_reason (accepted c u) e (accepted i w) h p f d =
      let m = marked_refused (pair_checks c i lent) c.count _ p f d in
      let t = pair_tied c i (accepted_reads Sheet e).spelled.fine (accepted_reads Script h).spelled.fine lent in
      rw m.0 ((fails_same c i u w e h f).1 ((t.refused f).0 m.1))

  reason_refused : (j : Judged Contents) → check_text Sheet sheet ≡ j → (k : Judged Contents) → check_text Script script ≡ k
      → (p : Subject) (f : Refusal) → RefusedPair sheet script lent p f → pair_reply j k lent ≡ refused_for p f
  unfolding pair_reply
  reason_refused (refused g) e k h OfSheet f x = rw (fails_one Sheet sheet g e f x)
  reason_refused (refused g) e k h OfScript f x = refused-reads Sheet sheet g e x.0.contents x.0.reads
  reason_refused (refused g) e k h Both f x = refused-reads Sheet sheet g e x.of_sheet x.sheet_reads
  reason_refused (accepted c u) e (refused g) h OfSheet f x = accepted-fails Sheet sheet c u f e x
  reason_refused (accepted c u) e (refused g) h OfScript f x = rw (fails_one Script script g h f x.1)
  reason_refused (accepted c u) e (refused g) h Both f x = refused-reads Script script g h x.of_script x.script_reads
  reason_refused (accepted c u) e (accepted i w) h OfSheet f x = accepted-fails Sheet sheet c u f e x
  reason_refused (accepted c u) e (accepted i w) h OfScript f x = accepted-fails Script script i w f h x.1
  reason_refused (accepted c u) e (accepted i w) h Both f x =
      let t = pair_tied c i (accepted_reads Sheet e).spelled.fine (accepted_reads Script h).spelled.fine lent in
      rw ((t.refused f).1 ((fails_same c i u w e h f).0 x))

  accepted_met : (j : Judged Contents) → check_text Sheet sheet ≡ j → (k : Judged Contents) → check_text Script script ≡ k
      → (is_text_marked (pair_reply j k lent) ≡ true) ↔ AcceptedPair sheet script lent
  unfolding pair_reply
  accepted_met (refused g) e k h = (λ d. clash d refl, λ x. refused-reads Sheet sheet g e x.of_sheet x.sheet_reads)
  accepted_met (accepted c u) e (refused g) h = (λ d. clash d refl, λ x. refused-reads Script script g h x.of_script x.script_reads)
  accepted_met (accepted c u) e (accepted i w) h =
      let t = pair_tied c i (accepted_reads Sheet e).spelled.fine (accepted_reads Script h).spelled.fine lent in
      let d = marked_done (pair_checks c i lent) c.count _ in
      let s = met_same c i u w e h in
      (λ x. s.1 (t.accepted.0 (d.0 x)), λ x. d.1 (t.accepted.1 (s.0 x)))

  -- the n beside a verdict
  counts_met : (j : Judged Contents) → check_text Sheet sheet ≡ j → (k : Judged Contents) → check_text Script script ≡ k
      → (t : AcceptedPair sheet script lent) → text_counts (pair_reply j k lent) ≡ t.of_sheet.count ∷ []
  unfolding pair_reply
  counts_met (refused g) e k h x = refused-reads Sheet sheet g e x.of_sheet x.sheet_reads
  counts_met (accepted c u) e (refused g) h x = refused-reads Script script g h x.of_script x.script_reads
  counts_met (accepted c u) e (accepted i w) h x =
      let t = pair_tied c i (accepted_reads Sheet e).spelled.fine (accepted_reads Script h).spelled.fine lent in
      rw (t.accepted.1 ((met_same c i u w e h).0 x), reads_same Sheet sheet x.of_sheet c x.sheet_reads (accepted_reads Sheet e)) refl

  -- ---- what the reply tells

  pub texts_refused : (p : Subject) (f : Refusal) → (texts_reply sheet script lent ≡ refused_for p f) ↔ RefusedPair sheet script lent p f
  unfolding texts_reply
  texts_refused p f =
      (refused_reason (check_text Sheet sheet) refl (check_text Script script) refl p f, reason_refused (check_text Sheet sheet) refl (check_text Script script) refl p f)

  pub texts_accepted : (is_text_marked (texts_reply sheet script lent) ≡ true) ↔ AcceptedPair sheet script lent
  unfolding texts_reply
  texts_accepted = accepted_met (check_text Sheet sheet) refl (check_text Script script) refl

  texts_counts : (t : AcceptedPair sheet script lent) → text_counts (texts_reply sheet script lent) ≡ t.of_sheet.count ∷ []
  unfolding texts_reply
  texts_counts = counts_met (check_text Sheet sheet) refl (check_text Script script) refl

  -- the reply to accepted texts is no refusal
  pub refused-accepted {ℓ} : {X : Type ℓ} (p : Subject) (f : Refusal) → texts_reply sheet script lent ≡ refused_for p f → AcceptedPair sheet script lent → X
  refused-accepted p f e t = let z : false ≡ true = rw e at (texts_accepted.1 t) in clash z refl

  -- no text is refused with 5
  line_never : (paper : Paper) (s : List ℕ) (f : Refusal) → FailsFor paper s f → (refusal_number f ≡ 5) → ⊥
  line_never paper s f (inl x) e = omega (arith, rw x.1 at e)
  line_never paper s f (inr (l, malformed_at line m d)) e = omega (arith, rw d at e)
  line_never paper s f (inr (l, outside_at line m d)) e = omega (arith, rw d at e)
  line_never paper s f (inr (l, cancels_at line m d)) e = omega (arith, rw d at e)

  -- nor are two
  pair_never : (c d : Contents) (f : Refusal) → RefusedBy (pair_needs c d lent) f → (refusal_number f ≡ 5) → ⊥
  pair_never c d f (inl x) e = omega (arith, rw x.1 at e)
  pair_never c d f (inr (a, inl x)) e = omega (arith, rw x.1 at e)
  pair_never c d f (inr (a, inr (b, inl x))) e = omega (arith, rw x.1 at e)
  pair_never c d f (inr (a, inr (b, inr (g, inl x)))) e = omega (arith, rw x.1 at e)
  pair_never c d f (inr (a, inr (b, inr (g, inr (h, inl x))))) e = omega (arith, rw x.1 at e)
  pair_never c d f (inr (a, inr (b, inr (g, inr (h, inr x))))) e = x.1

  refused_never : (p : Subject) (f : Refusal) → RefusedPair sheet script lent p f → (refusal_number f ≡ 5) → ⊥
  refused_never OfSheet f x e = line_never Sheet sheet f x e
  refused_never OfScript f x e = line_never Script script f x.1 e
  refused_never Both f x e = pair_never x.of_sheet x.of_script f x.fails e

  texts_never : (r : TextMarking) → r ≡ texts_reply sheet script lent → (text_number r ≡ 5) → ⊥
  texts_never (Ok m) d e = omega (arith, verdict_from m.verdict)
  texts_never (Err x) d e = refused_never x.paper x.refusal ((texts_refused x.paper x.refusal).0 (sym d)) e

  -- a reply with what a verdict means is judged as promised
  pub texts_judged : (r : TextMarking) (values : List ℤ) → r ≡ texts_reply sheet script lent
      → ((t : AcceptedPair sheet script lent) → PairJudged t (texts_returned r) values) → TextsJudged sheet script lent r values
  texts_judged r values e j = record {
    reply = e;
    refused = λ p f. let w = returned_refused r p f in let t = texts_refused p f in
        (λ x. t.0 (sym e ∙ w.0 x), λ x. w.1 (e ∙ t.1 x));
    accepted = rw e texts_accepted;
    never = texts_never r e;
    count = reads_count sheet;
    counts = λ t. rw e (texts_counts t);
    judged = j;
    own_key = λ k room. ap texts_returned (e ∙ own_reply sheet script lent k room);
  }
