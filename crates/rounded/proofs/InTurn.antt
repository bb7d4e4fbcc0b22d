-- All hidden quantities hidden with marks in document 02's own words: one after the other, each by sums of rules. Assumes nothing.
use mathlib.Core.Path.{◌≡◌, refl, sym, ◌∙◌}
use mathlib.Core.Bool.{Bool, true, false}
use mathlib.Core.List.{List}
use Prim.Native.Nat.{ℕ, suc, ◌≤◌, ◌<◌}
use native.Mathlib.Omega.{arith}
use lib.Dec.{eqb}
use lib.IntN.{ℤ}
use lib.ListN.{length}
use Rattle.integers.specs.Bound.{bit}
use Rattle.places.specs.Numbering.{block_start}
use Rattle.rules.specs.Meaning.{Assignment}
use Rattle.tables.specs.Meaning.{NoneAbove, Satisfies}
use Rattle.marks.specs.Marks.{byte_at, marked_of}
use Rattle.marks.specs.Bytes.{MarksAre}
use Rattle.elimination.specs.Hiding.{eliminated}
use Rattle.elimination.proofs.Document.{by_rules}
use Rattle.keys.specs.Keys.{hide_up_to, key_of}
use Rattle.keys.proofs.Several.{AmpleUpTo, hide_up_to_length, never_contradicts}
use Rattle.rounded.specs.Hiding.{hide_marked, marked_up_to, marked_key}
use Rattle.rounded.specs.ByRules.{MarkedByRules, MarksInTurn, MarkedInTurn}
use Rattle.rounded.proofs.Bounds.{start_agrees, start_bare, start_below, keeps_agrees, keeps_bare, keeps_below}
use Rattle.rounded.proofs.Document.{step_by_rules}

module _ (hidden : ℕ → Bool) (n : ℕ) (t : List ℤ) (marks : List ℕ) (l : block_start n ≤ length t) (above : NoneAbove (block_start n) t) where
  -- the marks in between are those of hiding place by place: no matter whether a sum is a contradiction
  pub marks_in_turn : MarksInTurn hidden n (λ j. hide_up_to hidden n j t) (λ k. (marked_of t marks k).mark) (λ k. (marked_key hidden n (marked_of t marks) k).mark)
  unfolding hide_up_to marked_up_to
  marks_in_turn = record {
    between = λ j k. (marked_up_to hidden j (marked_of t marks) k).mark;
    first = λ k b. refl;
    last = λ k b. refl;
    hides = λ j h e. rw e (step j h);
    passes = λ j h e k b. rw e;
  }
    where
      step : (j : ℕ) → j < n
          → MarkedByRules n j (hide_up_to hidden n j t) (λ k. (marked_up_to hidden j (marked_of t marks) k).mark) (eliminated n j (hide_up_to hidden n j t))
          (λ k. (hide_marked j (marked_up_to hidden j (marked_of t marks)) k).mark)
      step j h =
          step_by_rules n j (marked_up_to hidden j (marked_of t marks)) (hide_up_to hidden n j t) (rw (hide_up_to_length hidden n j t) l) h
          (keeps_agrees hidden n j (marked_of t marks) t l (omega arith) (start_agrees n t marks))
          (keeps_below hidden n j (marked_of t marks) (start_below n t marks above) (start_bare n t marks))
          (keeps_bare hidden n j (marked_of t marks) (omega arith) (start_below n t marks above) (start_bare n t marks))

  -- so where some integers satisfy the sheet and the bounds fit, the key and its marks are document 02's
  pub marked_in_turn : (σ : Assignment) → AmpleUpTo hidden n t → Satisfies n t σ
      → MarkedInTurn hidden n t (λ k. (marked_of t marks k).mark) (key_of hidden n t) (λ k. (marked_key hidden n (marked_of t marks) k).mark)
  unfolding hide_up_to key_of
  marked_in_turn σ ample s = record {
    turns = record {
      tables = λ j. hide_up_to hidden n j t;
      first = refl;
      last = refl;
      hides = λ j h e. by_rules n j (hide_up_to hidden n j t) (rw (hide_up_to_length hidden n j t) l) h (hide_up_to hidden n (suc j) t) false
          (sym (never_contradicts hidden n j t σ h ample s)) (rw e);
      passes = λ j h e. rw e;
    };
    marked = marks_in_turn;
  }

  -- and so are bytes that tell the key's marks
  pub bytes_in_turn : (σ : Assignment) (marks' : List ℕ) → AmpleUpTo hidden n t → Satisfies n t σ → MarksAre (block_start n) (marked_key hidden n (marked_of t marks)) marks marks'
      → MarkedInTurn hidden n t (λ k. (marked_of t marks k).mark) (key_of hidden n t) (λ k. eqb (byte_at marks' k) 1)
  bytes_in_turn σ marks' ample s are =
      let r = marked_in_turn σ ample s in
      let m = r.marked in record {
        turns = r.turns;
        marked = record {
          between = m.between;
          first = m.first;
          last = λ k b. m.last k b ∙ sym (rw (are.each k b) (bit_one (marked_key hidden n (marked_of t marks) k).mark));
          hides = m.hides;
          passes = m.passes;
        };
      }
    where
      bit_one : (b : Bool) → eqb (bit b) 1 ≡ b
      bit_one true = refl
      bit_one false = refl
