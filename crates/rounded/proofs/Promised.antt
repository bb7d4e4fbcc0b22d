-- The records of the key call with marks, from plain facts. Assumes nothing.
use mathlib.Core.Path.{◌≡◌, refl, sym, ◌∙◌}
use mathlib.Core.Bool.{Bool, true, false}
use mathlib.Core.List.{List}
use Prim.Native.Nat.{ℕ, ◌≤◌, ◌<◌}
use native.Mathlib.Omega.{arith}
use lib.IntN.{ℤ}
use lib.ListN.{length}
use Rattle.integers.specs.Bound.{bit}
use Rattle.words.specs.Lent.{Lent}
use Rattle.words.specs.Change.{word_at}
use Rattle.places.specs.Numbering.{block_start}
use Rattle.rules.specs.declared.refusal.Refusal.{Refusal}
use Rattle.rules.specs.declared.refusal.Refusal.TheVariants.{NoAssignment}
use Rattle.rules.specs.Hidden.{hidden_in}
use Rattle.rules.specs.Refusing.{passed, AllMet}
use Rattle.rules.proofs.Refusals.{refusal-number}
use Rattle.std.specs.Prelude.{Ok, Err}
use Rattle.tables.specs.Replies.{Reply, reply_number}
use Rattle.tables.specs.Meaning.{Satisfiable, NoneAbove}
use Rattle.tables.specs.Tables.{has_rule}
use Rattle.tables.proofs.Refusing.{tied_decided}
use Rattle.marks.specs.Marks.{marked_of}
use Rattle.marks.specs.Bytes.{MarksAre}
use Rattle.keys.specs.Keys.{key_of, frees_workspace}
use Rattle.keys.specs.Meaning.{key_needs_then}
use Rattle.keys.specs.Inner.{Fits, KeyTried}
use Rattle.keys.specs.Promises.{KeyMade, Keyed}
use Rattle.keys.proofs.Fitting.{hide_ample}
use Rattle.keys.proofs.Promised.{key_fits, key_none, key_refused, key_five, plain_done}
use Rattle.rounded.specs.Hiding.{marked_key}
use Rattle.rounded.specs.Keys.{marked_key_reply}
use Rattle.rounded.specs.Meaning.{marked_key_needs_then}
use Rattle.rounded.specs.Inner.{MarkedKeyTried}
use Rattle.rounded.specs.Promises.{MarksMade, MarkedKeyed}
use Rattle.rounded.proofs.Bounds.{start_agrees, start_bare, start_below, keeps_agrees, keeps_bare}
use Rattle.rounded.proofs.InTurn.{bytes_in_turn}
use Rattle.rounded.proofs.Checking.{reply_unmarked, needs_unmarked, marked_tied}

bit_most : (b : Bool) → bit b ≤ 1
bit_most true = omega arith
bit_most false = omega arith

-- the marks of a key
pub marks_made : (n set : ℕ) (t : List ℤ) (marks : List ℕ) (key : List ℤ) (marks' : List ℕ) → block_start n ≤ length t → NoneAbove (block_start n) t → key ≡ key_of (hidden_in set) n t → Fits n t → Satisfiable n t
    → MarksAre (block_start n) (marked_key (hidden_in set) n (marked_of t marks)) marks marks' → MarksMade n set t marks key marks'
unfolding key_of
marks_made n set t marks key marks' room above e f s a = record {
  are = a;
  bounds = bounds;
  empty = λ k h r. a.each k h ∙ rw (bare k h r);
  within = λ k h. rw (a.each k h) (bit_most (marked_key (hidden_in set) n (marked_of t marks) k).mark);
  steps = rw e (bytes_in_turn (hidden_in set) n t marks room above s.assignment marks' (hide_ample (hidden_in set) n t f) s.satisfies a);
}
  where
    bounds : (k : ℕ) → k < block_start n → (marked_key (hidden_in set) n (marked_of t marks) k).bound ≡ word_at key k
    bounds k h = rw e (keeps_agrees (hidden_in set) n n (marked_of t marks) t room (omega arith) (start_agrees n t marks) k h)

    bare : (k : ℕ) → k < block_start n → has_rule (word_at key k) ≡ false → (marked_key (hidden_in set) n (marked_of t marks) k).mark ≡ false
    bare k h r =
        keeps_bare (hidden_in set) n n (marked_of t marks) (omega arith) (start_below n t marks above) (start_bare n t marks) k h (rw (bounds k h) r)

not_done : (r : Reply) (f : Refusal) → r ≡ Err f → reply_number r ≡ 0 → ⊥
not_done r f d e = refusal-number f (rw d at e)

module _ (n set : ℕ) (t : List ℤ) (marks : List ℕ) (w w' : List ℤ) where
  -- refused by a check, with table and marks as they were
  pub marked_refused : (r : Reply) (f : Refusal) → r ≡ marked_key_reply n set t marks (length w) → r ≡ Err f → Lent (block_start n) (frees_workspace r) w w'
      → MarkedKeyed n set t marks w r t marks w'
  marked_refused r f e d l = record {
    reply = e;
    decided = tied_decided _ r _ e (marked_tied n set t marks (length w));
    none = λ p. key_none n set t (length w) r (e ∙ reply_unmarked n set t marks (length w) p.1.0 p.1.1.1.0.1) (needs_unmarked n set t marks (length w) p);
    plain = λ h b. key_refused key_of KeyMade n set t w w' r f (e ∙ reply_unmarked n set t marks (length w) h b) d l;
    words = rw d;
    rest = refl;
    lent = l;
    made = λ c. absurd (not_done r f d c);
    marked = λ c. absurd (not_done r f d c);
    kept = λ c. refl;
  }

  module _ (t' : List ℤ) (marks' : List ℕ) (p : AllMet (marked_key_needs_then n set t marks (length w) passed)) where
    -- past the checks it is the key call, with marks beside
    beside_key : (r : Reply) → Keyed n set t w r t' w' → (reply_number r ≡ 0 → MarksMade n set t marks t' marks') → ((reply_number r ≡ 0 → ⊥) → marks' ≡ marks)
        → MarkedKeyed n set t marks w r t' marks' w'
    beside_key r k made kept = record {
      reply = reply;
      decided = tied_decided _ r _ reply (marked_tied n set t marks (length w));
      none = λ q. k.none (needs_unmarked n set t marks (length w) q);
      plain = λ h b. k;
      words = k.words;
      rest = k.rest;
      lent = k.lent;
      made = k.made;
      marked = made;
      kept = kept;
    }
      where
        reply : r ≡ marked_key_reply n set t marks (length w)
        reply = k.reply ∙ sym (reply_unmarked n set t marks (length w) p.1.0 p.1.1.1.0.1)

    met : AllMet (key_needs_then n set t (length w) passed)
    met = needs_unmarked n set t marks (length w) p

    plain : (r : Bool) → MarkedKeyTried n set t marks w r t' marks' w' → KeyTried key_of n set t w r t' w'
    plain r d = record { reply = d.reply; words = d.words; lent = d.lent }

    pub marked_five : MarkedKeyTried n set t marks w true t' marks' w' → MarkedKeyed n set t marks w (Err NoAssignment) t' marks' w'
    marked_five d =
        beside_key (Err NoAssignment) (key_five key_of KeyMade n set t w w' t' met (plain true d)) (λ c. absurd (not_done (Err NoAssignment) NoAssignment refl c))
        (λ c. d.kept refl)

    pub marked_made : NoneAbove (block_start n) t → MarkedKeyTried n set t marks w false t' marks' w' → MarkedKeyed n set t marks w (Ok tt) t' marks' w'
    marked_made a d =
        beside_key (Ok tt) done (λ c. marks_made n set t marks t' marks' p.0.room a d.words (key_fits n set t (length w) met) (done.made refl).some (d.marked refl))
        (λ c. absurd (c refl))
      where
        done : Keyed n set t w (Ok tt) t' w'
        done = plain_done n set t w t' w' met (plain false d)
