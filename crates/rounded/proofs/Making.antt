-- The key made with its marks in copies of the sheet's table and of its marks: words and bytes are the same there, so the key and its marks are the sheet's. Assumes nothing.
use mathlib.Core.Path.{◌≡◌, refl, ◌∙◌, ap}
use mathlib.Core.Bool.{Bool, true, false}
use mathlib.Core.List.{List}
use Prim.Native.Nat.{ℕ, suc, ◌*◌, ◌≤◌, ◌<◌, ◌^◌}
use native.Mathlib.Numerals.{add-one}
use native.Mathlib.Omega.{arith}
use lib.IntN.{ℤ}
use lib.ListN.{length}
use Rattle.integers.specs.Bound.{bit}
use Rattle.words.specs.Change.{change, copying}
use Rattle.places.specs.Numbering.{block_start}
use Rattle.rules.specs.declared.paper.Paper.TheVariants.{Sheet}
use Rattle.rules.specs.Hidden.{hidden_in}
use Rattle.rules.specs.Limits.{bound_limit}
use Rattle.rules.specs.Refusing.{passed, AllMet}
use Rattle.tables.specs.Tables.{table_size}
use Rattle.tables.specs.Meaning.{NoneAbove}
use Rattle.tables.proofs.Sizes.{size_known}
use Rattle.tables.proofs.Tests.{clash}
use Rattle.marks.specs.Marks.{Marked, byte_at, marked_of}
use Rattle.marks.specs.Bytes.{MarksAre, BytesCopied}
use Rattle.keys.specs.Keys.{key_of}
use Rattle.keys.specs.Meaning.{key_needs_then}
use Rattle.keys.specs.Inner.{RestFits, Decided}
use Rattle.keys.proofs.Copying.{SameTable, copied, same_within}
use Rattle.keys.proofs.Deciding.{copy_whole}
use Rattle.keys.proofs.Fitting.{limit_doubled}
use Rattle.keys.proofs.Making.{tried_early, made_rest, tried_late, tried_done}
use Rattle.rounded.specs.Hiding.{marked_key}
use Rattle.rounded.specs.Meaning.{marked_key_needs_then}
use Rattle.rounded.specs.Inner.{MarkedFits, MarkedHidden, MarkedKeyTried}
use Rattle.rounded.proofs.Checking.{needs_unmarked}
use Rattle.rounded.proofs.Same.{SamePlaces, same_places, marked_same}

-- the sums of a sheet fit, also of bounds doubled
pub limit_last : (n set : ℕ) (t : List ℤ) (marks : List ℕ) (w : ℕ) → AllMet (marked_key_needs_then n set t marks w passed) → suc (bound_limit Sheet n set) * 2 ^ n < 2 ^ 62
limit_last n set t marks w p = rw (← add-one (bound_limit Sheet n set)) (limit_doubled n set p.0.most)

module _ (n set m : ℕ) (t : List ℤ) (marks : List ℕ) (w u : List ℤ) (kept : List ℕ) (p : AllMet (marked_key_needs_then n set t marks (length w) passed)) (d : m ≡ table_size n)
    (e : u ≡ change m (copying t) w) (room : block_start n ≤ length kept) where
  whole : m ≡ block_start n
  whole = size_known n m p.0.most d

  met : AllMet (key_needs_then n set t (length w) passed)
  met = needs_unmarked n set t marks (length w) p

  -- the bytes can be copied
  pub bytes_room : (m ≤ length kept) × (m ≤ length marks)
  bytes_room = (omega (arith, whole), omega (arith, whole, p.1.0))

  module _ (held : List ℕ) (b : BytesCopied m marks kept held) where
    same : SameTable n t u
    same = rw (copy_whole n m t w u p.0.most d e) (copied n t w p.0.room p.1.1.0)

    bytes : (k : ℕ) → k < block_start n → byte_at held k ≡ byte_at marks k
    bytes k h = b.each k (rw whole h)

    pub copies_fit : NoneAbove (block_start n) t → MarkedFits n u held
    copies_fit a = record {
      most = p.0.most;
      room = same.theirs;
      marks_room = omega (arith, b.size);
      binary = λ k h. rw (bytes k h) (p.1.1.1.0.1 k h);
      limit = bound_limit Sheet n set;
      within = same_within n (bound_limit Sheet n set) t u same p.1.1.1.0.0.1;
      none_above = λ k h. rw (same.words k h) (a k h);
      last = limit_last n set t marks (length w) p;
    }

    -- the key's places in the copies are the sheet's
    places : SamePlaces n (marked_key (hidden_in set) n (marked_of t marks)) (marked_key (hidden_in set) n (marked_of u held))
    places = marked_same (hidden_in set) n n (marked_of t marks) (marked_of u held) (omega arith) (same_places n t u marks held same.words bytes)

    module _ (v : List ℤ) (made : List ℕ) (r : Bool) (h : MarkedHidden n set u held r v made) where
      -- a contradiction at a hidden quantity
      pub marked_early : r ≡ true → MarkedKeyTried n set t marks w true t marks v
      marked_early c =
          let k = tried_early n set m t w u met d e v r h.hidden key_of c in
          record { reply = k.reply; words = k.words; lent = k.lent; marked = λ f. clash refl f; kept = λ f. refl }

      -- the marks can be copied back
      pub back_room : (m ≤ length marks) × (m ≤ length made)
      back_room = (omega (arith, whole, p.1.0), omega (arith, whole, h.size, b.size))

      module _ (c : r ≡ false) where
        pub marked_rest : RestFits n set v
        marked_rest = made_rest n set m t w u met d e v r h.hidden c

        -- or at a visible one
        pub marked_late : (x x' : List ℤ) → Decided n set v x true x' → MarkedKeyTried n set t marks w true t marks v
        marked_late x x' q =
            let k = tried_late n set m t w u met d e v r h.hidden c x x' q in
            record { reply = k.reply; words = k.words; lent = k.lent; marked = λ f. clash refl f; kept = λ f. refl }

        -- and none
        pub marked_done : (x x' t' : List ℤ) (marks' : List ℕ) → Decided n set v x false x' → t' ≡ change m (copying v) t → BytesCopied m made marks marks'
            → MarkedKeyTried n set t marks w false t' marks' v
        marked_done x x' t' marks' q o f =
            let k = tried_done n set m t w u met d e v r h.hidden c x x' t' q o in
            record { reply = k.reply; words = k.words; lent = k.lent; marked = λ g. are; kept = λ g. clash g refl }
          where
            are : MarksAre (block_start n) (marked_key (hidden_in set) n (marked_of t marks)) marks marks'
            are = record {
              size = f.size;
              each = λ k l. f.each k (rw whole l) ∙ (h.marked c).each k l ∙ ap (λ (x : Marked). bit x.mark) (places k l);
              rest = rw whole at f.rest;
            }
