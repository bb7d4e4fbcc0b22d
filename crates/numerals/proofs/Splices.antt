-- Bytes written into a buffer one after another: what each write leaves, and how two in a row are one. Assumes nothing.
use mathlib.Core.Path.{◌≡◌, refl, sym, ◌∙◌}
use mathlib.Core.List.{List, [], ◌∷◌, ◌++◌, append_assoc, append-nil}
use Prim.Native.Nat.{ℕ, suc, ◌+◌, ◌≤◌, ◌<◌}
use native.Mathlib.Nat.{add-zero, zero-add, add_assoc}
use native.Mathlib.Numerals.{add-one}
use native.Mathlib.Omega.{arith}
use lib.ListN.{length, set, take, drop, length-append, length-set, take-append-drop}
use lib.Seq.{length-take-le, drop-cons, append_snoc, take_at, drop_at, drop-drop, set_split, get_or-set_same, take-set-le, drop-set-lt}
use borrow.Rule.Slice.PartMut.{put_mid}
use Rattle.std.proofs.lemmas.List.Edits.{paste_all}
use Rattle.std.proofs.lemmas.Slice.{put_mid-paste}
use Rattle.numerals.specs.Writing.{splice, Spliced}

-- ---- one write

-- nothing written
pub splice_none : (out : List ℕ) (at : ℕ) → splice out at [] ≡ out
unfolding splice
splice_none out at = rw (add-zero at, append-nil (take at out)) (take-append-drop at out)

-- one byte written is a store
pub splice_byte : (out : List ℕ) (at b : ℕ) → at < length out → set out at b ≡ splice out at (b ∷ [])
unfolding splice
splice_byte out at b h = set_split out at b h ∙ sym (rw (add-one at) (append_snoc (take at out) b (drop (suc at) out)))

-- bytes copied into a part of the buffer are a write
pub splice_pasted : (out : List ℕ) (at k : ℕ) (xs ys : List ℕ) → ys ≡ xs → k ≡ length xs → put_mid at k out ys ≡ splice out at xs
unfolding splice
splice_pasted out at k xs ys e q = put_mid-paste at k out ys xs (length xs) e (sym q) refl ∙ paste_all out at xs (length xs) refl
    ∙ sym (append_assoc (take at out) xs (drop (at + length xs) out))

-- ---- a write at the start

-- the bytes stand in front of the rest of the buffer
pub splice_start : (out xs : List ℕ) → splice out 0 xs ≡ xs ++ drop (length xs) out
unfolding splice
splice_start out xs = rw (zero-add (length xs))

-- ---- two writes

-- what is written, with what is before it, has the length that it should
head_length : (out : List ℕ) (at : ℕ) (xs : List ℕ) → at ≤ length out → length (take at out ++ xs) ≡ at + length xs
head_length out at xs h = length-append (take at out) xs ∙ rw (length-take-le at out h)

-- a write right after another
pub splice_more : (out : List ℕ) (at : ℕ) (xs ys : List ℕ) → at ≤ length out
    → splice (splice out at xs) (at + length xs) ys ≡ splice out at (xs ++ ys)
unfolding splice
splice_more out at xs ys h =
    let n : ℕ = at + length xs in
    let front : List ℕ = take at out ++ xs in
    let rest : List ℕ = drop n out in
    rw (
      take_at front rest n (head_length out at xs h),
      ← drop-drop (length ys) n (front ++ rest),
      drop_at front rest n (head_length out at xs h),
      drop-drop (length ys) n out,
      append_assoc (take at out) xs ys,
      length-append xs ys,
      add_assoc at (length xs) (length ys),
    )

-- a byte stored first, and then the bytes before it
pub splice_before : (out : List ℕ) (at : ℕ) (xs : List ℕ) (b : ℕ) → at + length xs < length out
    → splice (set out (at + length xs) b) at xs ≡ splice out at (xs ++ b ∷ [])
unfolding splice
splice_before out at xs b h =
    let n : ℕ = at + length xs in
    let stored : n < length (set out n b) = rw (length-set out n b) h in
    let after : drop n (set out n b) ≡ b ∷ drop (suc n) out =
    rw (drop-cons (set out n b) n 0 stored, get_or-set_same out n b 0 h, drop-set-lt (suc n) out n b (omega arith)) in
    rw (
      take-set-le at out n b (omega arith),
      after,
      length-append xs (b ∷ []),
      ← add_assoc at (length xs) 1,
      add-one n,
      ← append_assoc (take at out) xs (b ∷ []),
    )
    (sym (append_snoc (take at out ++ xs) b (drop (suc n) out)))

-- ---- writes with their cursors

-- nothing written
pub spliced_none : (out : List ℕ) (at : ℕ) → Spliced out at [] at out
spliced_none out at = record { cursor = sym (add-zero at); buffer = sym (splice_none out at) }

-- two writes in a row are one
pub spliced_more : {a b c xs ys : List ℕ} {at m e : ℕ} → Spliced a at xs m b → Spliced b m ys e c → at ≤ length a → Spliced a at (xs ++ ys) e c
spliced_more {a} {b} {c} {xs} {ys} {at} {m} {e} s t h = record {
  cursor = rw (length-append xs ys) (omega arith);
  buffer = t.buffer ∙ rw (s.buffer, s.cursor) (splice_more a at xs ys h);
}
