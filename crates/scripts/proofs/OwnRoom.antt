-- With tables and a workspace for every sheet, marking two texts is refused with 6 exactly for the assignment. Assumes nothing.
use Rattle.std.specs.Prelude.{Ok, Err}
use mathlib.Core.Path.{◌≡◌, refl, sym, ◌∙◌, ap}
use mathlib.Core.Bool.{Bool, true, false, cond}
use mathlib.Core.Logic.{inl, inr}
use mathlib.Core.List.{List}
use Prim.Native.Nat.{ℕ, ◌≤◌, ◌<◌}
use native.Mathlib.Omega.{arith}
use lib.IntN.{ℤ}
use lib.Dec.{ltb}
use lib.ListN.{length}
use borrow.Author.Tests.{ltb-true, ltb-false, le-leb}
use Rattle.words.specs.Lent.{Lent}
use Rattle.places.specs.Numbering.{block_start}
use Rattle.places.proofs.Numbering.{block_start_mono}
use Rattle.rules.specs.declared.paper.Paper.{Paper}
use Rattle.rules.specs.declared.paper.Paper.TheVariants.{Sheet, Script}
use Rattle.rules.specs.declared.refusal.Refusal.{Refusal}
use Rattle.rules.specs.declared.refusal.Refusal.TheVariants.{Size, TooShort}
use Rattle.rules.specs.Limits.{max_quantities, bound_range, max_rules, max_text}
use Rattle.rules.specs.Refusal.{refusal_number, refusal_value}
use Rattle.rules.specs.Refusing.{RefusedBy}
use Rattle.tables.proofs.Sizes.{small_start}
use Rattle.keys.proofs.Promised.{untouched}
use Rattle.marking.specs.Meaning.{workspace_size}
use Rattle.marking.proofs.Carried.{verdict_from}
use Rattle.lines.specs.Spelling.{quantities_key, rules_key}
use Rattle.std.specs.Result.{MatchResult}
use Rattle.lines.specs.Answers.{Line, count_answer}
use Rattle.lines.specs.Lines.{Judged, accepted, refused, count_judged, hidden_judged}
use Rattle.reading.specs.Reading.{onward, rules_from, lines_from, check_text}
use Rattle.reading.specs.Texts.{Contents}
use Rattle.reading.specs.Meaning.{Readable, malformed_at, outside_at, cancels_at, FailsFor}
use Rattle.scripts.specs.declared.room.Lengths.{Lengths}
use Rattle.scripts.specs.declared.pair.Pair.{Pair}
use Rattle.scripts.specs.declared.reply.Subject.{Subject}
use Rattle.scripts.specs.declared.reply.Subject.TheVariants.{Both}
use Rattle.scripts.specs.declared.reply.Subject.TheVariants.{Sheet as OfSheet}
use Rattle.scripts.specs.declared.reply.Subject.TheVariants.{Script as OfScript}
use Rattle.scripts.specs.Replies.{TextMarking, refused_for, text_number, text_value, is_text_shown}
use Rattle.scripts.specs.Meaning.{lengths_of, own_lengths, pair_needs, AcceptedPair, RefusedPair, Room}
use Rattle.scripts.specs.Marking.{room_checks, pair_checks, pair_reply, texts_reply, sheet_count, count_in}
use Rattle.scripts.specs.Inner.{PassedPair, TablesRoom}
use Rattle.scripts.specs.Promises.{TextsJudged, TextsMarked, MarkedInOwnRoom}
use Rattle.scripts.proofs.Sheets.{fine_table}
use Rattle.scripts.proofs.Rooms.{roomy_next}
use Rattle.scripts.proofs.Judging.{reads_count, accepted_reads, texts_refused, refused-accepted, texts_judged}
use Rattle.scripts.proofs.Promised.{PairTells}

-- ---- the sheet's n

-- a text with an n is fine
counted_reads : (s : List ℕ) → 0 < count_in s → Readable Sheet s
counted_reads s h = go (check_text Sheet s) refl
  where
    go : (j : Judged Contents) → check_text Sheet s ≡ j → Readable Sheet s
    go (accepted c u) e = record { contents = c; reads = accepted_reads Sheet e }
    go (refused f) e = let z : count_in s ≡ 0 = rw e refl in absurd (omega arith)

-- n is at most 32
pub sheet_most : (s : List ℕ) → count_in s ≤ max_quantities
sheet_most s = go (ltb 0 (count_in s)) refl
  where
    go : (b : Bool) → ltb 0 (count_in s) ≡ b → count_in s ≤ max_quantities
    go true e =
        let t = counted_reads s (ltb-true 0 (count_in s) e) in
        rw (reads_count s t.contents t.reads) (fine_table Sheet t.contents t.reads.spelled.fine).most
    go false e = omega (arith, ltb-false 0 (count_in s) e)

-- and at most what the first line says alone, or 0 where that is refused
abbrev pub count_told : Judged ℕ → ℕ
count_told (accepted n u) = n
count_told (refused f) = 0

-- whatever reading goes on with
onward_most : {A : Type 0} (n : ℕ) (j : Judged A) (next : A → List ℕ → Judged Contents) → ((a : A) (u : List ℕ) → sheet_count (next a u) ≤ n)
    → sheet_count (onward j next) ≤ n
unfolding onward
onward_most n (accepted a u) next h = h a u
onward_most n (refused f) next h = omega arith

lines_most : (s : List ℕ) → sheet_count (lines_from Sheet s) ≤ count_told (count_judged quantities_key 1 max_quantities 1 s)
unfolding lines_from onward
lines_most s = go (count_judged quantities_key 1 max_quantities 1 s)
  where
    go : (j : Judged ℕ)
        → sheet_count (onward j (λ n u. onward (hidden_judged n 2 u) (λ qs v. onward (count_judged rules_key 0 max_rules 3 v) (λ m w.
        onward (rules_from n (bound_range Sheet n (length qs)) m 4 w) (λ rs. accepted (record { count = n; hiddens = qs; written = rs })))))) ≤ count_told j
    go (accepted n u) =
        onward_most n (hidden_judged n 2 u) _ (λ qs v. onward_most n (count_judged rules_key 0 max_rules 3 v) _ (λ m w.
        onward_most n (rules_from n (bound_range Sheet n (length qs)) m 4 w) _ (λ rs z. omega arith)))
    go (refused f) = omega arith

first_most : (s : List ℕ) → count_in s ≤ count_told (count_judged quantities_key 1 max_quantities 1 s)
unfolding check_text
first_most s = go (ltb max_text (length s))
  where
    go : (b : Bool) → sheet_count (cond b (refused Size) (lines_from Sheet s)) ≤ count_told (count_judged quantities_key 1 max_quantities 1 s)
    go true = omega arith
    go false = lines_most s

-- the answer of that line, 0 for a refusal
pub answer_most : (s : List ℕ) (r : Line ℕ) (m : ℕ) → r ≡ count_answer s (count_judged quantities_key 1 max_quantities 1 s)
    → MatchResult r (λ x. m ≡ x.value) (λ f. m ≡ 0) → count_in s ≤ m
unfolding count_answer
answer_most s r m e h = omega (arith, first_most s, go (count_judged quantities_key 1 max_quantities 1 s) (rw e at h))
  where
    go : (j : Judged ℕ) → MatchResult (count_answer s j) (λ x. m ≡ x.value) (λ f. m ≡ 0) → m ≡ count_told j
    go (accepted n u) h = h
    go (refused f) h = h

-- ---- 6

-- what is lent for the largest n is long enough for every sheet, so 6 is for the assignment
short_values : (c d : Contents) (k : ℕ) (f : Refusal) → c.count ≤ max_quantities → RefusedBy (pair_needs c d (own_lengths k)) f → refusal_number f ≡ 6
    → (k < c.count) × (f ≡ TooShort c.count)
unfolding block_start
short_values c d k f h (inl x) e = absurd (x.0 (omega (arith, small_start c.count h)))
short_values c d k f h (inr (a, inl x)) e = absurd (x.0 (omega (arith, small_start c.count h)))
short_values c d k f h (inr (a, inr (b, inl x))) e = absurd (x.0 (omega (arith, small_start c.count h)))
short_values c d k f h (inr (a, inr (b, inr (g, inl x)))) e = (go (ltb k c.count) refl, x.1)
  where
    go : (b : Bool) → ltb k c.count ≡ b → k < c.count
    go true z = ltb-true k c.count z
    go false z = absurd (x.0 (ltb-false k c.count z))
short_values c d k f h (inr (a, inr (b, inr (g, inr (i, inl x))))) e = absurd (omega (arith, rw x.1 at e))
short_values c d k f h (inr (a, inr (b, inr (g, inr (i, inr x))))) e = absurd x.1

-- an assignment that is too short is the first
values_short : (c d : Contents) (k : ℕ) → c.count ≤ max_quantities → k < c.count → RefusedBy (pair_needs c d (own_lengths k)) (TooShort c.count)
unfolding block_start
values_short c d k h l =
    let s = small_start c.count h in
    inr (omega (arith, s), inr (omega (arith, s), inr (omega (arith, s), inl (λ g. omega arith, refl))))

-- no text is refused by itself with 6
line_long : (paper : Paper) (s : List ℕ) (f : Refusal) → FailsFor paper s f → (refusal_number f ≡ 6) → ⊥
line_long paper s f (inl x) e = omega (arith, rw x.1 at e)
line_long paper s f (inr (l, malformed_at line m d)) e = omega (arith, rw d at e)
line_long paper s f (inr (l, outside_at line m d)) e = omega (arith, rw d at e)
line_long paper s f (inr (l, cancels_at line m d)) e = omega (arith, rw d at e)

module _ (sheet script : List ℕ) (k : ℕ) where
  refused_six : (p : Subject) (f : Refusal) → RefusedPair sheet script (own_lengths k) p f → refusal_number f ≡ 6
      → Readable Script script × (k < count_in sheet) × (refusal_value f ≡ count_in sheet)
  refused_six OfSheet f x e = absurd (line_long Sheet sheet f x e)
  refused_six OfScript f x e = absurd (line_long Script script f x.1 e)
  refused_six Both f x e =
      let c = x.of_sheet in
      let s = short_values c x.of_script k f (fine_table Sheet c x.sheet_reads.spelled.fine).most x.fails e in
      let n : count_in sheet ≡ c.count = reads_count sheet c x.sheet_reads in
      (record { contents = x.of_script; reads = x.script_reads }, rw n s.0, ap refusal_value s.1 ∙ sym n)

  six_short : (r : TextMarking) → r ≡ texts_reply sheet script (own_lengths k) → text_number r ≡ 6
      → Readable Script script × (k < count_in sheet) × (text_value r ≡ count_in sheet)
  six_short (Ok m) d e = absurd (omega (arith, verdict_from m.verdict))
  six_short (Err x) d e = refused_six x.paper x.refusal ((texts_refused sheet script (own_lengths k) x.paper x.refusal).0 (sym d)) e

  short_six : (r : TextMarking) → r ≡ texts_reply sheet script (own_lengths k) → Readable Script script → k < count_in sheet → text_number r ≡ 6
  short_six r e d h =
      let c = counted_reads sheet (omega arith) in
      let n : count_in sheet ≡ c.contents.count = reads_count sheet c.contents c.reads in
      let most = (fine_table Sheet c.contents c.reads.spelled.fine).most in
      ap text_number (e ∙ (texts_refused sheet script (own_lengths k) Both (TooShort c.contents.count)).1 record {
        of_sheet = c.contents;
        of_script = d.contents;
        sheet_reads = c.reads;
        script_reads = d.reads;
        fails = values_short c.contents d.contents k most (omega (arith, n));
      })

-- how many words of an assignment are lent does not matter where they are enough, or where the script is not fine
pub same_reply : (sheet script : List ℕ) (k m : ℕ) → (Readable Script script → count_in sheet ≤ k) → (Readable Script script → count_in sheet ≤ m)
    → texts_reply sheet script (own_lengths k) ≡ texts_reply sheet script (own_lengths m)
unfolding texts_reply pair_reply pair_checks room_checks
same_reply sheet script k m h g = go (check_text Sheet sheet) refl (check_text Script script) refl
  where
    go : (x : Judged Contents) → check_text Sheet sheet ≡ x → (y : Judged Contents) → check_text Script script ≡ y
        → pair_reply x y (own_lengths k) ≡ pair_reply x y (own_lengths m)
    go (refused f) e y d = refl
    go (accepted c u) e (refused f) d = refl
    go (accepted c u) e (accepted i w) d =
        let r : Readable Script script = record { contents = i; reads = accepted_reads Script d } in
        let n : count_in sheet ≡ c.count = reads_count sheet c (accepted_reads Sheet e) in
        rw (le-leb c.count k (rw n at (h r)), le-leb c.count m (rw n at (g r)))

-- nor does it matter how many words are lent in all where they are enough
module _ (sheet script : List ℕ) (k m : Lengths) (h : Room (count_in sheet) k) (g : Room (count_in sheet) m) where
  roomy_reply : texts_reply sheet script k ≡ texts_reply sheet script m
  unfolding texts_reply pair_reply pair_checks
  roomy_reply = go (check_text Sheet sheet) refl (check_text Script script) refl
    where
      go : (x : Judged Contents) → check_text Sheet sheet ≡ x → (y : Judged Contents) → check_text Script script ≡ y → pair_reply x y k ≡ pair_reply x y m
      go (refused f) e y d = refl
      go (accepted c u) e (refused f) d = refl
      go (accepted c u) e (accepted i w) d =
          let n : count_in sheet ≡ c.count = reads_count sheet c (accepted_reads Sheet e) in
          rw (roomy_next c.count k (rw n at h) _, roomy_next c.count m (rw n at g) _)

  roomy_accepted : AcceptedPair sheet script m → AcceptedPair sheet script k
  roomy_accepted t =
      let r : Room t.of_sheet.count k = rw (reads_count sheet t.of_sheet t.sheet_reads) at h in
      record {
        of_sheet = t.of_sheet;
        of_script = t.of_script;
        sheet_reads = t.sheet_reads;
        script_reads = t.script_reads;
        met = (r.sheet_room, (r.script_room, (r.workspace_room, (r.values_room, t.met.1.1.1.1))));
      }

  roomy_judged : (r : TextMarking) (values : List ℤ) → TextsJudged sheet script k r values → TextsJudged sheet script m r values
  unfolding roomy_accepted
  roomy_judged r values j = texts_judged sheet script m r values (j.reply ∙ roomy_reply) (λ t.
      let x = j.judged (roomy_accepted t) in
      record { members = x.members; sheet-table = x.sheet-table; script_table = x.script_table; means = x.means })

-- ---- rooms

-- tables and a workspace for so many quantities are long enough for a sheet's n that is not above
pub own_room : (s : List ℕ) (most : ℕ) {a b w : ℕ} → count_in s ≤ most → a ≡ block_start most → b ≡ block_start most → w ≡ workspace_size most
    → TablesRoom (count_in s) a b w
own_room s most l e f g = let m = block_start_mono l in record { sheet_room = omega arith; script_room = omega arith; workspace_room = omega arith }

-- a reply so judged promises this
own_judged : (sheet script : List ℕ) (v : List ℤ) (r : TextMarking) (v' : List ℤ) → TextsJudged sheet script (own_lengths (length v)) r v'
    → Lent (count_in sheet) (is_text_shown r) v v' → MarkedInOwnRoom sheet script v r v'
own_judged sheet script v r v' j l =
    let six = six_short sheet script (length v) r j.reply in
    record {
      judged = j;
      written = l;
      short = (λ x. let s = six x in (s.0, s.1), λ s. short_six sheet script (length v) r j.reply s.0 s.1);
      needed = λ x. (six x).2;
      most = sheet_most sheet;
    }

-- the n of texts that passed
passed_count : {sheet script : List ℕ} {lent : Lengths} {p : Pair} → PassedPair sheet script lent p → count_in sheet ≡ p.sheet.quantities
passed_count {sheet} x = reads_count sheet x.of_sheet.contents x.of_sheet.reads ∙ sym x.of_sheet.counts

-- so does marking them, in such a room
module _ {sheet script : List ℕ} {p : Pair} (a b w v : List ℤ) (x : PassedPair sheet script (own_lengths (length v)) p)
    (room : TablesRoom (count_in sheet) (length a) (length b) (length w)) where
  pub own_passed : PassedPair sheet script (lengths_of a b w v) p
  own_passed =
      let t : TablesRoom p.sheet.quantities (length a) (length b) (length w) = rw (passed_count x) at room in
      record {
        of_sheet = x.of_sheet;
        of_script = x.of_script;
        counts = x.counts;
        sets = x.sets;
        room = record {
          sheet_room = t.sheet_room;
          script_room = t.script_room;
          workspace_room = t.workspace_room;
          values_room = x.room.values_room;
        };
      }

  pub own_marked : {r : TextMarking} {a' b' w' v' : List ℤ} → TextsMarked sheet script a b w v r a' b' w' v' → MarkedInOwnRoom sheet script v r v'
  own_marked {r} {v' = v'} m =
      let n = passed_count x in
      own_judged sheet script v r v'
      (roomy_judged sheet script (lengths_of a b w v) (own_lengths (length v)) (rw n own_passed.room) (rw n x.room) r v' m.judged)
      m.written

-- and a refusal, which changes no word
pub own_refused : {sheet script : List ℕ} {v : List ℤ} {p : Subject} {f : Refusal} → PairTells sheet script (own_lengths (length v)) (refused_for p f)
    → MarkedInOwnRoom sheet script v (refused_for p f) v
own_refused {sheet} {script} {v} {p} {f} t =
    own_judged sheet script v (refused_for p f) v (texts_judged sheet script _ (refused_for p f) v (sym t) (λ x. refused-accepted sheet script _ p f t x)) (untouched _ _ v)
