-- Bounds doubled fit, where some quantity is visible. Assumes nothing.
use mathlib.Core.Path.{◌≡◌, refl}
use mathlib.Core.Bool.{Bool, true, false, and-false}
use mathlib.Core.List.{List}
use Prim.Native.Nat.{ℕ, ◌+◌, ◌≤◌, ◌^◌}
use native.Mathlib.Omega.{arith}
use lib.IntN.{ℤ, pos}
use Rattle.integers.specs.Bound.{Within}
use Rattle.integers.proofs.Within.{within_to, within_of}
use Rattle.words.specs.Change.{word_at}
use Rattle.places.specs.Numbering.{block_start}
use Rattle.rules.specs.Hidden.{hidden_in, member_count}
use Rattle.tables.specs.Tables.{has_rule}
use Rattle.tables.specs.Meaning.{WordsWithin}
use Rattle.tables.proofs.Tests.{clash}
use Rattle.marks.specs.Marks.{Marked, holds, marked_of}
use Rattle.marks.specs.Doubled.{doubled_word, Doublable, TableDoubled}
use Rattle.marks.proofs.WordOrder.{twice_least, twice_most, doubled-rule, doubled_none}
use Rattle.keys.specs.declared.live.Part.TheVariants.{Inside}
use Rattle.keys.specs.Inner.{PartFits}
use Rattle.keys.proofs.Fitting.{member_limit}
use Rattle.rounded.specs.Inner.{MarkedFits, SomeVisible, PairsUnmarked}
use Rattle.rounded.proofs.DoubledWords.{small}
use Rattle.rounded.proofs.Doubling.{PairsClear}
use Rattle.rounded.proofs.MarkedFits.{more_times, part_inside, once_more, marked_words, doubled_sums}

pub doublable : (n m : ℕ) (t : List ℤ) (marks : List ℕ) → MarkedFits n t marks → m ≡ block_start n → Doublable m t marks
doublable n m t marks f e = rw e (record { room = f.room; marks_room = f.marks_room; words = marked_words n t marks f })

module _ (n set : ℕ) (t : List ℤ) (marks : List ℕ) (f : MarkedFits n t marks) (v : SomeVisible n set) where
  abbrev L : ℕ
  L = f.limit

  -- the bounds of the key doubled add
  pub plain_small : member_limit (hidden_in set) L n ≤ small
  plain_small = let c = member_count (hidden_in set) n in omega (arith, once_more n t marks f c v, more_times L (2 ^ c))

  -- ---- the words

  word_within : (w : Marked) → (holds w ≡ true → Within (pos L) w.bound) → has_rule (doubled_word w) ≡ true → Within (pos (L + L + 1)) (doubled_word w)
  word_within w h r = go (holds w) refl
    where
      go : (b : Bool) → holds w ≡ b → Within (pos (L + L + 1)) (doubled_word w)
      go true e =
          let i = h e in
          rw (doubled-rule w e)
          (within_of (omega (arith, within_to i, twice_most w.bound w.mark)) (omega (arith, within_to i, twice_least w.bound w.mark)))
      go false e = clash r (rw (doubled_none w e))

  module _ (u : List ℤ) (d : TableDoubled (block_start n) t marks u) where
    doubled_within : WordsWithin (block_start n) (pos (L + L + 1)) u
    unfolding marked_of
    doubled_within = record {
      each = λ k a b r. let e = d.words.each k a in
          rw e (word_within (marked_of t marks k) (f.within.each k a (omega (arith, f.room))) (rw e at r));
    }

    pub doubled_fits : PartFits n set Inside u
    doubled_fits = part_inside n set u (doubled_sums n t marks f u (hidden_in set) (omega (arith, f.room, d.size)) doubled_within v)

-- ---- marks

pub pairs_clear : (n : ℕ) (t : List ℤ) (marks : List ℕ) → PairsUnmarked n marks → PairsClear n (marked_of t marks)
unfolding marked_of
pairs_clear n t marks c k h o = rw (c k h o) (and-false (has_rule (word_at t k)))
