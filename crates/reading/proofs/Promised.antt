-- What the contracts promise, from the definitions: a text checked, and a text read into a table, which then holds what the text writes. Assumes nothing.
use mathlib.Core.Path.{◌≡◌, refl, sym, ◌∙◌, ap, subst₂}
use mathlib.Core.List.{List, ◌++◌}
use mathlib.Core.Logic.{◌↔◌}
use Rattle.std.specs.Prelude.{Ok, Err}
use Prim.Native.Nat.{ℕ, ◌<◌, ◌≤◌}
use native.Mathlib.Omega.{arith}
use lib.IntN.{ℤ, pos}
use lib.ListN.{length, drop, length-append, get_or-append}
use Rattle.words.specs.Change.{word_at}
use Rattle.places.specs.Numbering.{block_start}
use Rattle.rules.specs.declared.paper.Paper.TheVariants.{Sheet}
use Rattle.rules.specs.declared.refusal.Refusal.{Refusal}
use Rattle.rules.specs.Meaning.{Assignment}
use Rattle.tables.specs.Tables.{table_of, smallest_at}
use Rattle.tables.specs.Meaning.{Satisfies, MeetsAll}
use Rattle.tables.proofs.Lists.{table_of_length, table_of_meaning, table_of_smallest}
use Rattle.lines.specs.Spelling.{written_rules}
use Rattle.reading.specs.Texts.{Contents}
use Rattle.reading.specs.Meaning.{Reads}
use Rattle.reading.specs.Reading.{Reading, read_reply, filled, read_table, reading_number}
use Rattle.reading.specs.Promises.{TableRead, ReadInto}
use Rattle.reading.proofs.Means.{reads_check}
use Rattle.reading.proofs.FineRules.{contents_accepted}
use Rattle.reading.proofs.Replies.{reply_accepted, reading_refused, reading_accepted}
use Rattle.reading.proofs.Numbers.{returned_refused, returned_accepted}

-- a word of the front
front_word : (n : ℕ) (a v : List ℤ) → length a ≡ block_start n → (k : ℕ) → k < block_start n → word_at (a ++ v) k ≡ word_at a k
front_word n a v e k h = get_or-append a v (pos 0) k (omega arith)

-- words past the table of n quantities do not matter
front_satisfied : (n : ℕ) (a v : List ℤ) (σ : Assignment) → length a ≡ block_start n → Satisfies n (a ++ v) σ ↔ Satisfies n a σ
front_satisfied n a v σ e = (to, of)
  where
    same : (k : ℕ) → k < block_start n → word_at (a ++ v) k ≡ word_at a k
    same = front_word n a v e

    to : Satisfies n (a ++ v) σ → Satisfies n a σ
    to s = record {
      each = λ k p. rw (same k p.inside) at (s.each k (record {
        inside = p.inside;
        there = omega (arith, length-append a v, p.there);
        rule = rw (same k p.inside) p.rule;
      }));
    }

    of : Satisfies n a σ → Satisfies n (a ++ v) σ
    of s = record {
      each = λ k p. rw (same k p.inside) (s.each k (record {
        inside = p.inside;
        there = omega (arith, e, p.inside);
        rule = rw (same k p.inside) at p.rule;
      }));
    }

-- the table stays where the text is refused
pub reading_kept : (s : List ℕ) (t : List ℤ) (f : Refusal) → read_reply s (length t) ≡ Err f → read_table s t ≡ t
unfolding read_table
reading_kept s t f e = rw e

module _ (s : List ℕ) (t : List ℤ) where
  -- a text that is fine is read where the table is long enough
  module _ (c : Contents) (p : Reads Sheet s c) (enough : block_start c.count ≤ length t) where
    -- the table of its rules comes in front
    reading_filled : read_table s t ≡ table_of c.count (written_rules c.written) ++ drop (block_start c.count) t
    unfolding read_table filled
    reading_filled = rw (reply_accepted s (length t) c p enough, reads_check Sheet s c p)

    -- it holds what the text writes
    reading_meaning : (σ : Assignment) → Satisfies c.count (read_table s t) σ ↔ MeetsAll σ (written_rules c.written)
    reading_meaning σ =
        let rs = written_rules c.written in
        let f = front_satisfied c.count (table_of c.count rs) (drop (block_start c.count) t) σ (table_of_length c.count rs) in
        let m = table_of_meaning c.count rs σ (contents_accepted Sheet c p.spelled.fine) in
        rw reading_filled (λ z. m.0 (f.0 z), λ z. f.1 (m.1 z))

    reading_smallest : (k : ℕ) → k < block_start c.count → word_at (read_table s t) k ≡ smallest_at k (written_rules c.written)
    reading_smallest k l =
        let rs = written_rules c.written in
        ap (λ (u : List ℤ). word_at u k) reading_filled
        ∙ front_word c.count (table_of c.count rs) (drop (block_start c.count) t) (table_of_length c.count rs) k l
        ∙ table_of_smallest c.count rs k l

    reading_read : TableRead c t (read_table s t)
    reading_read = record { filled = reading_filled; holds = record { smallest = reading_smallest; meaning = reading_meaning } }

  -- the table stays where the number is not 0
  kept : (reading_number (read_reply s (length t)) ≡ 0 → ⊥) → read_table s t ≡ t
  kept h = go (read_reply s (length t)) refl h
    where
      go : (r : Reading) → read_reply s (length t) ≡ r → (reading_number r ≡ 0 → ⊥) → read_table s t ≡ t
      go (Ok sheet) e h = absurd (h refl)
      go (Err f) e h = reading_kept s t f e

  -- all that reading into a table promises
  pub read_promised : (r : Reading) (t' : List ℤ) → r ≡ read_reply s (length t) → t' ≡ read_table s t → ReadInto s t r t'
  read_promised r t' e f = subst₂ (ReadInto s t) (sym e) (sym f) (record {
    reply = refl;
    words = refl;
    refused = λ f. let w = reading_refused s (length t) f in let v = returned_refused (read_reply s (length t)) f in
        (λ z. w.0 (v.0 z), λ z. v.1 (w.1 z));
    accepted = λ n set. let w = reading_accepted s (length t) n set in let v = returned_accepted (read_reply s (length t)) n set in
        (λ z. w.0 (v.0 z), λ z. v.1 (w.1 z));
    read = reading_read;
    kept = kept;
  })
