-- What `beside::hide` asks of the functions that it calls, and that its answer is the key with its marks. Assumes nothing.
use mathlib.Core.Path.{◌≡◌, refl, ◌∙◌, ap}
use mathlib.Core.Bool.{Bool, true, false}
use mathlib.Core.List.{List}
use Prim.Native.Nat.{ℕ, ◌-◌, ◌≤◌, ◌<◌, ◌^◌}
use native.Mathlib.Omega.{arith}
use lib.IntN.{ℤ, pos}
use lib.ListN.{length}
use Rattle.integers.specs.Bound.{bit}
use Rattle.words.specs.Change.{word_at}
use Rattle.places.specs.Numbering.{block_start}
use Rattle.rules.specs.Hidden.{hidden_in, member_count}
use Rattle.tables.specs.Tables.{table_size}
use Rattle.tables.specs.Meaning.{WordsWithin}
use Rattle.tables.proofs.Sizes.{size_known}
use Rattle.tables.proofs.Tests.{clash}
use Rattle.elimination.specs.Hiding.{live_at}
use Rattle.marks.specs.Marks.{marked_of}
use Rattle.marks.specs.Bytes.{MarksAre}
use Rattle.keys.specs.declared.live.Part.TheVariants.{Inside}
use Rattle.keys.specs.Keys.{hide_up_to, key_of}
use Rattle.keys.specs.Inner.{PartFits, AtTurns, SetHidden, SetEliminated}
use Rattle.keys.proofs.Several.{hide_all, key_length}
use Rattle.keys.proofs.Turning.{not_yet, turn_open}
use Rattle.rounded.specs.Hiding.{marked_up_to, marked_key}
use Rattle.rounded.specs.Inner.{MarkedFits, Masked, beside_mark, ComparedBeside, MarkedHidden}
use Rattle.rounded.proofs.Bounds.{start_agrees}
use Rattle.rounded.proofs.MarkedFits.{part_inside, marked_sums, marked_words}
use Rattle.rounded.proofs.Masking.{Beside}
use Rattle.rounded.proofs.BesideStep.{gap_at}
use Rattle.rounded.proofs.BesideKey.{hidden_beside}
use Rattle.rounded.proofs.BesideMarks.{key_adds, masked_sums, masked_beside, masked_clear, told, all_shut}

module _ (n set m : ℕ) (t : List ℤ) (marks : List ℕ) (copy : List ℤ) (f : MarkedFits n t marks) (room : block_start n ≤ length copy) (d : m ≡ table_size n) where
  size : m ≡ block_start n
  size = size_known n m f.most d

  -- the bounds doubled are words
  pub mask_ready : (m ≤ length t) × (m ≤ length marks) × (m ≤ length copy) × WordsWithin m (pos (2 ^ 61)) t
  mask_ready = rw size (f.room, f.marks_room, room, marked_words n t marks f)

  module _ (v : List ℤ) (masked : Masked m t marks copy v) (r : Bool) (t' : List ℤ) (h : SetHidden n set t r t') where
    masks : Masked (block_start n) t marks copy v
    masks = rw size at masked

    -- a contradiction is met
    pub hidden_met : r ≡ true → MarkedHidden n set t marks true t' marks
    hidden_met e = record { hidden = rw e at h; marked = λ z. clash refl z; size = refl; rest = refl }

    module _ (c : r ≡ false) where
      key : t' ≡ key_of (hidden_in set) n t
      key = h.key c

      pub part_ready : member_count (hidden_in set) n < n → PartFits n set Inside v
      part_ready l = part_inside n set v (masked_sums n t marks f copy v room masks (hidden_in set) l)

      pub compare_ready : (u : List ℤ) → length u ≡ length copy → (m ≤ length t') × (m ≤ length u) × (m ≤ length marks) × WordsWithin m (pos (2 ^ 62 - 1)) t'
      compare_ready u e = rw (size, key) (
        omega (arith, f.room, key_length (hidden_in set) n t),
        omega (arith, room),
        f.marks_room,
        rw (hide_all (hidden_in set) n t) at (key_adds n t marks f (hidden_in set)),
      )

      -- the words beside the key tell its marks
      marked_by : (u : List ℤ) (marks' : List ℕ) → ComparedBeside m t' u marks marks'
          → ((k : ℕ) → k < block_start n → live_at (not_yet (hidden_in set) n) k ≡ true → Beside (gap_at k) (word_at u k) (marked_up_to (hidden_in set) n (marked_of t marks) k))
          → MarkedHidden n set t marks false t' marks'
      marked_by u marks' q b = record { hidden = rw c at h; marked = λ z. are; size = q.size; rest = rw size at q.rest }
        where
          are : MarksAre (block_start n) (marked_key (hidden_in set) n (marked_of t marks)) marks marks'
          are = record {
            size = q.size;
            each = λ k l.
                let e : beside_mark (word_at t' k) (word_at u k) ≡ (marked_key (hidden_in set) n (marked_of t marks) k).mark = rw key (told n t marks f (hidden_in set) k (word_at u k) l (b k l)) in
                q.each k (rw size l) ∙ ap bit e;
            rest = rw size at q.rest;
          }

      -- some quantity is visible
      pub marked_some : member_count (hidden_in set) n < n → (o : Bool) (u : List ℤ) (marks' : List ℕ) → SetEliminated (hidden_in set) n v o u → ComparedBeside m t' u marks marks'
          → MarkedHidden n set t marks false t' marks'
      marked_some l o u marks' e q = marked_by u marks' q (λ k a live. rw (at k a live) (beside k a))
        where
          none : (o : Bool) → SetEliminated (hidden_in set) n v o u → AtTurns (hidden_in set) n n v u
          none true e = clash (h.met.1 (masked_clear n t marks f copy v room masks set l (e.met refl))) c
          none false e = e.some refl

          at : (k : ℕ) → k < block_start n → live_at (not_yet (hidden_in set) n) k ≡ true → word_at u k ≡ word_at (hide_up_to (hidden_in set) n n v) k
          at k a live = (none o e).words k a ∙ rw (turn_open (hidden_in set) n k live)

          beside : (k : ℕ) → k < block_start n → Beside (gap_at k) (word_at (hide_up_to (hidden_in set) n n v) k) (marked_up_to (hidden_in set) n (marked_of t marks) k)
          beside =
              hidden_beside (hidden_in set) n t v (marked_of t marks) (marked_sums n t marks f (hidden_in set)) (masked_sums n t marks f copy v room masks (hidden_in set) l)
              (start_agrees n t marks) (masked_beside n t marks f copy v room masks) n (omega arith)

      -- all are hidden
      pub marked_none : n ≤ member_count (hidden_in set) n → (u : List ℤ) (marks' : List ℕ) → ComparedBeside m t' u marks marks' → MarkedHidden n set t marks false t' marks'
      marked_none l u marks' q = marked_by u marks' q (λ k a live. clash live (all_shut (hidden_in set) n k l a))
