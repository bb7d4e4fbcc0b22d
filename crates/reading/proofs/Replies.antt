-- The reply of reading into a table is what the spellings say: refused exactly for its reasons, accepted exactly as the text writes. Assumes
-- nothing.
use mathlib.Core.Path.{◌≡◌, ◌∙◌, ap}
use mathlib.Core.List.{List, []}
use mathlib.Core.Logic.{◌↔◌, ◌⊎◌, inl, inr}
use Rattle.std.specs.Prelude.{Ok, Err}
use Prim.Native.Nat.{ℕ, ◌<◌, ◌≤◌}
use borrow.Author.Tests.{lt-ltb, le-ltb}
use Rattle.places.specs.Numbering.{block_start}
use Rattle.rules.specs.declared.paper.Paper.{Paper}
use Rattle.rules.specs.declared.paper.Paper.TheVariants.{Sheet}
use Rattle.rules.specs.declared.refusal.Refusal.{Refusal}
use Rattle.rules.specs.declared.refusal.Refusal.TheVariants.{TooShort}
use Rattle.rules.specs.Hidden.{hidden_in, set_of, is_listed}
use Rattle.lines.specs.Lines.{Judged, accepted, refused}
use Rattle.lines.specs.Spelling.{line_within}
use Rattle.lines.proofs.SetMembers.{list_members}
use Rattle.reading.specs.Texts.{Contents}
use Rattle.reading.specs.Meaning.{Reads, RefusedFor, AcceptedAs}
use Rattle.reading.specs.Reading.{sheet_of, check_text, reply_to, read_reply}
use Rattle.reading.proofs.Means.{text_means, reads_check}
use Rattle.reading.proofs.Answered.{ShortWith, AcceptedWith, refused_judged, accepted_judged}

-- ---- the reply to a text that was checked

-- the hidden set of a text that is fine has the members of its list
pub reads_members : (paper : Paper) (s : List ℕ) (c : Contents) → Reads paper s c → (q : ℕ) → hidden_in (set_of c.hiddens) q ≡ is_listed q c.hiddens
unfolding line_within
reads_members paper s c p = let f = p.spelled.fine.1.0 in list_members c.count c.hiddens f.formed f.within

module _ (s : List ℕ) (words : ℕ) where
  pub reply_checked : (j : Judged Contents) → check_text Sheet s ≡ j → read_reply s words ≡ reply_to words j
  unfolding read_reply
  reply_checked j e = ap (reply_to words) e

  pub reply_refused : (f : Refusal) → check_text Sheet s ≡ refused f → read_reply s words ≡ Err f
  unfolding reply_to
  reply_refused f e = reply_checked (refused f) e

  module _ (c : Contents) (p : Reads Sheet s c) where
    pub reply_short : words < block_start c.count → read_reply s words ≡ Err (TooShort (block_start c.count))
    unfolding reply_to
    reply_short h = reply_checked (accepted c []) (reads_check Sheet s c p) ∙ rw (lt-ltb words (block_start c.count) h)

    pub reply_accepted : block_start c.count ≤ words → read_reply s words ≡ Ok (sheet_of c.count (set_of c.hiddens))
    unfolding reply_to
    reply_accepted h = reply_checked (accepted c []) (reads_check Sheet s c p) ∙ rw (le-ltb words (block_start c.count) h)

-- ---- by spellings

module _ (s : List ℕ) (words : ℕ) where
  -- refused
  pub reading_refused : (f : Refusal) → (read_reply s words ≡ Err f) ↔ RefusedFor s words f
  unfolding read_reply
  reading_refused f = (λ e. why (told.0 e), λ h. told.1 (back h))
    where
      told : (reply_to words (check_text Sheet s) ≡ Err f) ↔ ((check_text Sheet s ≡ refused f) ⊎ ShortWith (check_text Sheet s) words f)
      told = refused_judged words (check_text Sheet s) f

      why : (check_text Sheet s ≡ refused f) ⊎ ShortWith (check_text Sheet s) words f → RefusedFor s words f
      why (inl e) = inl ((text_means Sheet s (refused f)).0 e)
      why (inr w) = inr (record { contents = w.contents; reads = ((text_means Sheet s (accepted w.contents w.rest)).0 w.is).0 }, w.short)

      back : RefusedFor s words f → (check_text Sheet s ≡ refused f) ⊎ ShortWith (check_text Sheet s) words f
      back (inl h) = inl ((text_means Sheet s (refused f)).1 h)
      back (inr (t, h)) = inr (record { contents = t.contents; rest = []; is = reads_check Sheet s t.contents t.reads; short = h })

  -- accepted
  pub reading_accepted : (n set : ℕ) → (read_reply s words ≡ Ok (sheet_of n set)) ↔ AcceptedAs s words n set
  unfolding read_reply
  reading_accepted n set = (λ e. why (told.0 e), λ h. told.1 (back h))
    where
      told : (reply_to words (check_text Sheet s) ≡ Ok (sheet_of n set)) ↔ AcceptedWith (check_text Sheet s) words n set
      told = accepted_judged words (check_text Sheet s) n set

      why : AcceptedWith (check_text Sheet s) words n set → AcceptedAs s words n set
      why w =
          let p = ((text_means Sheet s (accepted w.contents w.rest)).0 w.is).0 in
          let z = w.hides in
          record {
            contents = w.contents;
            reads = p;
            counts = w.counts;
            hides = z;
            members = λ q. rw z (reads_members Sheet s w.contents p q);
            enough = w.enough;
          }

      back : AcceptedAs s words n set → AcceptedWith (check_text Sheet s) words n set
      back h = record {
        contents = h.contents;
        rest = [];
        is = reads_check Sheet s h.contents h.reads;
        counts = h.counts;
        hides = h.hides;
        enough = h.enough;
      }
