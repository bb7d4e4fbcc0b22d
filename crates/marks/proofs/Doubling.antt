-- A bound doubled, with its mark, is a word where the bound is small enough, and is the word of the marked place. Assumes nothing.
use mathlib.Core.Bool.{Bool, true, false}
use mathlib.Core.Path.{◌≡◌}
use mathlib.Core.List.{List}
use Prim.Native.Nat.{ℕ, ◌^◌}
use native.Mathlib.Omega.{arith}
use Rattle.std.proofs.lemmas.Int.{ints}
use lib.Dec.{eqb}
use lib.IntN.{ℤ, pos, ◌+ℤ◌}
use mir.Syntax.{w64}
use mir.Val.{SFits, to_z, of_z, bool_byte}
use Rattle.integers.specs.Bound.{Within, bit}
use Rattle.words.specs.Change.{word_at}
use Rattle.rules.specs.Limits.{no_rule}
use Rattle.tables.specs.Tables.{has_rule}
use Rattle.marks.specs.Marks.{byte_at, marked_of}
use Rattle.marks.specs.Doubled.{doubled_word}

-- a word of 64 bits that is no rule is the no-rule word
pub unruled_word : (w : ℤ) → SFits w64 w → has_rule w ≡ false → w ≡ no_rule
unruled_word w h e = omega (arith, ints)

-- a word as it is read back from its bits
abbrev pub held : ℤ → ℤ
held z = to_z w64 (of_z w64 z)

-- the word of a place with a rule
pub place_doubled : (t : List ℤ) (marks : List ℕ) (k : ℕ) (v r : ℤ) → word_at t k ≡ v → SFits w64 v → has_rule v ≡ true → Within (pos (2 ^ 61)) v
    → r ≡ pos (bool_byte (eqb (byte_at marks k) 1)) → held (held (held v +ℤ held v) +ℤ held r) ≡ doubled_word (marked_of t marks k)
unfolding doubled_word marked_of
place_doubled t marks k v r p f h w e = rw (p, h) (go (eqb (byte_at marks k) 1) e)
  where
    go : (b : Bool) → r ≡ pos (bool_byte b) → held (held (held v +ℤ held v) +ℤ held r) ≡ (v +ℤ v) +ℤ pos (bit b)
    go true e = omega (arith, ints, w.above, w.below)
    go false e = omega (arith, ints, w.above, w.below)

-- and of one without
pub place_unruled : (t : List ℤ) (marks : List ℕ) (k : ℕ) → word_at t k ≡ no_rule → word_at t k ≡ doubled_word (marked_of t marks k)
unfolding doubled_word marked_of
place_unruled t marks k e = rw e
