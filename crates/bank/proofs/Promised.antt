-- What the contracts promise, from the definitions: a text checked as a bank sheet, and read into a table; that the writer's texts are bank sheets, and bank sheets the
-- writer's texts. Assumes nothing.
use mathlib.Core.Path.{◌≡◌, refl, sym, ◌∙◌, ap, subst, subst₂}
use mathlib.Core.Bool.{cond}
use mathlib.Core.List.{List, []}
use mathlib.Core.Logic.{◌↔◌, ◌⊎◌, inl, inr}
use Rattle.std.specs.Prelude.{Ok, Err}
use Prim.Native.Nat.{ℕ, ◌≤◌}
use native.Mathlib.Omega.{arith}
use lib.IntN.{ℤ}
use lib.ListN.{length, drop}
use Rattle.integers.proofs.Parts.{linear, lt_z_false}
use Rattle.words.specs.Change.{word_at}
use Rattle.places.specs.Numbering.{block_start}
use Rattle.rules.specs.declared.paper.Paper.TheVariants.{Sheet}
use Rattle.rules.specs.declared.refusal.Refusal.{Refusal}
use Rattle.rules.specs.Limits.{max_bound, no_rule}
use Rattle.lines.specs.Lines.{Judged, accepted, refused}
use Rattle.reading.specs.declared.check.Passed.{Passed}
use Rattle.reading.specs.Texts.{Contents}
use Rattle.reading.specs.Meaning.{Reads}
use Rattle.reading.specs.Reading.{Checked, Reading, sheet_of, check_text, checked_of, reply_to, read_reply, filled, is_accepted, read_table, reply_after, table_after, text_accepted, reading_returned, reading_number}
use Rattle.reading.specs.Promises.{Vouched, CheckedRead, TableRead}
use Rattle.reading.proofs.Answered.{PassedWith, ShortWith, AcceptedWith, failed_judged, passed_judged, refused_judged, accepted_judged}
use Rattle.reading.proofs.Numbers.{returned_failed, returned_passed, returned_refused, returned_accepted}
use Rattle.reading.proofs.Promised.{read_promised}
use Rattle.reading.proofs.ReadTexts.{reply_told}
use Rattle.reading.proofs.Replies.{reads_members}
use Rattle.writing.specs.Writing.{contents_of, written_text}
use Rattle.writing.specs.Promises.{ReadBack}
use Rattle.writing.proofs.Meanings.{Clean}
use Rattle.writing.proofs.Back.{sheet_reads, written_back}
use Rattle.bank.specs.Banking.{bank_text, bank_reply, bank_table}
use Rattle.bank.specs.Meaning.{BankReads, BankPasses, BankRefusedFor, BankAcceptedAs}
use Rattle.bank.specs.Promises.{BankChecked, SheetTable, BankBack, BankRead}
use Rattle.bank.proofs.TableOrder.{table_ordered}
use Rattle.bank.proofs.Canonical.{ordered_rules}
use Rattle.bank.proofs.SheetTables.{read_sheet}
use Rattle.bank.proofs.WrittenTexts.{read_written}
use Rattle.bank.proofs.Means.{bank_text_means, bank_reads, bank_ordinary}

-- ---- a text checked

module _ (s : List ℕ) where
  -- the contents of a text that is accepted are in bank order
  accepted_reads : (c : Contents) (u : List ℕ) → bank_text s ≡ accepted c u → BankReads s c
  accepted_reads c u e = ((bank_text_means s (accepted c u)).0 e).0

  passes_why : (p : Passed) → PassedWith (bank_text s) p → BankPasses s p.quantities p.hidden p.rules p.body
  passes_why c w =
      let p = accepted_reads w.contents w.rest w.is in
      record {
        passes = record { contents = w.contents; reads = p.reads; counts = w.counts; hides = w.hides; rules = w.rules; begins = w.begins };
        ordered = p.ordered;
      }

  passes_back : (p : Passed) → BankPasses s p.quantities p.hidden p.rules p.body → PassedWith (bank_text s) p
  passes_back c p =
      let q = p.passes in
      record {
        contents = q.contents;
        rest = [];
        is = bank_reads s q.contents (record { reads = q.reads; ordered = p.ordered });
        counts = q.counts;
        hides = q.hides;
        rules = q.rules;
        begins = q.begins;
      }

  -- all that checking a bank sheet promises
  pub bank_checked : (r : Checked) → r ≡ checked_of (bank_text s) → BankChecked s r
  bank_checked r e = record {
    reply = e;
    refused = λ f. let w = returned_failed r f in let v = failed_judged (bank_text s) f in let m = bank_text_means s (refused f) in
        (λ q. m.0 (v.0 (sym e ∙ w.0 q)), λ h. w.1 (e ∙ v.1 (m.1 h)));
    passed = λ n set m body.
        let c : Passed = record { quantities = n; hidden = set; rules = m; body = body } in
        let w = returned_passed r c in
        let v = passed_judged (bank_text s) c in
        (λ q. passes_why c (v.0 (sym e ∙ w.0 q)), λ p. w.1 (e ∙ v.1 (passes_back c p)));
  }

  -- such a check may be relied on
  pub bank_vouched : (r : Checked) → r ≡ checked_of (bank_text s) → Vouched s r
  bank_vouched (Ok p) e = (passes_why p ((passed_judged (bank_text s) p).0 (sym e))).passes
  bank_vouched (Err f) e = tt

-- ---- a text read

module _ (s : List ℕ) (t : List ℤ) where
  -- a bank sheet is read as in any order
  same_reply : (c : Contents) → BankReads s c → bank_reply s (length t) ≡ read_reply s (length t)
  unfolding bank_reply read_reply
  same_reply c p = ap (reply_to (length t)) (sym (bank_ordinary s c p))

  same_table : (c : Contents) → BankReads s c → bank_table s t ≡ read_table s t
  unfolding bank_table read_table
  same_table c p = rw (same_reply c p, ← bank_ordinary s c p)

  -- what a check that answers so was read into
  pub reading_whole : (c : Checked) (r : Reading) (u : List ℤ) → c ≡ checked_of (bank_text s) → CheckedRead s c t r u
      → (r ≡ bank_reply s (length t)) × (u ≡ bank_table s t)
  unfolding bank_reply bank_table table_after reply_to
  reading_whole c r u e p = (p.reply ∙ same, p.words ∙ ap (λ (x : Reading). cond (is_accepted x) (filled (check_text Sheet s) t) t) same ∙ go (bank_text s) refl)
    where
      same : reply_after (length t) c ≡ reply_to (length t) (bank_text s)
      same = ap (reply_after (length t)) e ∙ reply_told (length t) (bank_text s)

      go : (j : Judged Contents) → bank_text s ≡ j
          → cond (is_accepted (reply_to (length t) j)) (filled (check_text Sheet s) t) t ≡ cond (is_accepted (reply_to (length t) j)) (filled j t) t
      go (accepted c u) d = rw (bank_ordinary s c (accepted_reads s c u d) ∙ d)
      go (refused f) d = refl

  -- refused
  bank_refused : (f : Refusal) → (bank_reply s (length t) ≡ Err f) ↔ BankRefusedFor s (length t) f
  unfolding bank_reply
  bank_refused f = (λ e. why (told.0 e), λ h. told.1 (back h))
    where
      told : (reply_to (length t) (bank_text s) ≡ Err f) ↔ ((bank_text s ≡ refused f) ⊎ ShortWith (bank_text s) (length t) f)
      told = refused_judged (length t) (bank_text s) f

      why : (bank_text s ≡ refused f) ⊎ ShortWith (bank_text s) (length t) f → BankRefusedFor s (length t) f
      why (inl e) = inl ((bank_text_means s (refused f)).0 e)
      why (inr w) = inr (record { contents = w.contents; reads = accepted_reads s w.contents w.rest w.is }, w.short)

      back : BankRefusedFor s (length t) f → (bank_text s ≡ refused f) ⊎ ShortWith (bank_text s) (length t) f
      back (inl h) = inl ((bank_text_means s (refused f)).1 h)
      back (inr (p, h)) = inr (record { contents = p.contents; rest = []; is = bank_reads s p.contents p.reads; short = h })

  -- accepted
  bank_accepted : (n set : ℕ) → (bank_reply s (length t) ≡ Ok (sheet_of n set)) ↔ BankAcceptedAs s (length t) n set
  unfolding bank_reply
  bank_accepted n set = (λ e. why (told.0 e), λ h. told.1 (back h))
    where
      told : (reply_to (length t) (bank_text s) ≡ Ok (sheet_of n set)) ↔ AcceptedWith (bank_text s) (length t) n set
      told = accepted_judged (length t) (bank_text s) n set

      why : AcceptedWith (bank_text s) (length t) n set → BankAcceptedAs s (length t) n set
      why w =
          let p = accepted_reads s w.contents w.rest w.is in
          let z = w.hides in
          record {
            accepted = record {
              contents = w.contents;
              reads = p.reads;
              counts = w.counts;
              hides = z;
              members = λ q. rw z (reads_members Sheet s w.contents p.reads q);
              enough = w.enough;
            };
            ordered = p.ordered;
          }

      back : BankAcceptedAs s (length t) n set → AcceptedWith (bank_text s) (length t) n set
      back h =
          let a = h.accepted in
          record {
            contents = a.contents;
            rest = [];
            is = bank_reads s a.contents (record { reads = a.reads; ordered = h.ordered });
            counts = a.counts;
            hides = a.hides;
            enough = a.enough;
          }

  -- the table stays where the number is not 0
  bank_kept : (reading_number (bank_reply s (length t)) ≡ 0 → ⊥) → bank_table s t ≡ t
  unfolding bank_table
  bank_kept h = go (bank_reply s (length t)) h
    where
      go : (r : Reading) → (reading_number r ≡ 0 → ⊥) → cond (is_accepted r) (filled (bank_text s) t) t ≡ t
      go (Ok sheet) h = absurd (h refl)
      go (Err f) h = refl

  -- a text that is fine is read
  bank_table_read : (c : Contents) → BankReads s c → block_start c.count ≤ length t → TableRead c t (bank_table s t)
  bank_table_read c p l = subst (TableRead c t) (sym (same_table c p)) ((read_promised s t (read_reply s (length t)) (read_table s t) refl refl).read c p.reads l)

  -- ---- both ways round

  -- a text that is in bank order gives back by the bank what it gives back in any order
  pub made_banked : (n set : ℕ) (table : List ℤ) → Reads Sheet s (contents_of n set table) → ReadBack n set table s t → BankBack n set table s t
  made_banked n set table p b =
      let q : BankReads s (contents_of n set table) = record { reads = p; ordered = table_ordered n table } in
      record { reply = ap reading_returned (same_reply (contents_of n set table) q ∙ b.reply); words = same_table (contents_of n set table) q ∙ b.words }

  -- the text of a table whose bounds lie in the sheet's limits
  module _ (n set : ℕ) (table : List ℤ) (w : SheetTable n set table) (e : s ≡ written_text n set table) (l : block_start n ≤ length t) where
    -- its words that hold no rule are the no-rule word
    clean : Clean (block_start n) table
    clean k h f = omega (linear, w.words k h, lt_z_false (word_at table k) no_rule f)

    -- it gives the table back
    written_banked : BankBack n set table s t
    written_banked = made_banked n set table
        (subst (λ (x : List ℕ). Reads Sheet x (contents_of n set table)) (sym e) (sheet_reads n set table w.sized.some w.sized.most w.hides w.bounds))
        (subst (λ (x : List ℕ). ReadBack n set table x t) (sym e)
        (written_back n set table w.sized.some w.sized.most w.hides w.bounds w.sized.room clean t l))

  -- and a bank sheet is the text of what was read
  bank_canonical : (n set : ℕ) → BankAcceptedAs s (length t) n set → SheetTable n set (bank_table s t) × (s ≡ written_text n set (bank_table s t))
  bank_canonical n set h =
      let a = h.accepted in
      let c = a.contents in
      let v = drop (block_start c.count) t in
      let r = bank_table_read c (record { reads = a.reads; ordered = h.ordered }) a.enough in
      rw (a.counts, a.hides, r.filled) (
        read_sheet s c v a.reads,
        read_written s c v a.reads (ordered_rules c.count max_bound c.written (omega arith) a.reads.spelled.fine.1.1.1 h.ordered v),
      )

  -- all that bank reading promises
  bank_promised : BankRead s t (bank_reply s (length t)) (bank_table s t)
  bank_promised = record {
    reply = refl;
    words = refl;
    refused = λ f. let w = bank_refused f in let v = returned_refused (bank_reply s (length t)) f in (λ z. w.0 (v.0 z), λ z. v.1 (w.1 z));
    accepted = λ n set. let w = bank_accepted n set in let v = returned_accepted (bank_reply s (length t)) n set in (λ z. w.0 (v.0 z), λ z. v.1 (w.1 z));
    read = bank_table_read;
    kept = bank_kept;
    ordinary = λ n set z. let p = reads_of n set z in (same_reply p.0 p.1, same_table p.0 p.1);
    written = λ n set table w e l. let b = written_banked n set table w e l in (b.reply, b.words);
    canonical = λ n set z. bank_canonical n set ((bank_accepted n set).0 ((returned_accepted (bank_reply s (length t)) n set).0 z));
  }
    where
      reads_of : (n set : ℕ) → reading_returned (bank_reply s (length t)) ≡ text_accepted n set → (c : Contents) × BankReads s c
      reads_of n set z =
          let h = (bank_accepted n set).0 ((returned_accepted (bank_reply s (length t)) n set).0 z) in
          (h.accepted.contents, record { reads = h.accepted.reads; ordered = h.ordered })

-- so of a text that was checked and read
pub bank_read : (s : List ℕ) (t : List ℤ) (c : Checked) (r : Reading) (u : List ℤ) → c ≡ checked_of (bank_text s) → CheckedRead s c t r u → BankRead s t r u
bank_read s t c r u e p = let w = reading_whole s t c r u e p in subst₂ (BankRead s t) (sym w.0) (sym w.1) (bank_promised s t)
