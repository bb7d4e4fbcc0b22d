-- The cursor at which the last bytes of a text begin. Assumes nothing.
use mathlib.Core.Path.{◌≡◌, sym, ◌∙◌, ap}
use mathlib.Core.List.{List, ◌++◌, append_assoc}
use Prim.Native.Nat.{ℕ, ◌≤◌}
use native.Mathlib.Omega.{arith}
use lib.ListN.{length, take, drop, length-append, length-drop, take-append-drop}
use lib.Seq.{drop_at}
use Rattle.numerals.specs.Parsing.{cursor_of}

-- the bytes from a cursor on begin at it
pub cursor_here : (s : List ℕ) (at : ℕ) → at ≤ length s → cursor_of s (drop at s) ≡ at
cursor_here s at h = rw (length-drop at s) (omega arith)

-- the bytes from the cursor of some last bytes on are these
pub cursor_rest : (s : List ℕ) (at : ℕ) (xs rest : List ℕ) → drop at s ≡ xs ++ rest → drop (cursor_of s rest) s ≡ rest
cursor_rest s at xs rest e = ap (drop (cursor_of s rest)) whole ∙ drop_at before rest (cursor_of s rest) size
  where
    before : List ℕ
    before = take at s ++ xs

    whole : s ≡ before ++ rest
    whole = sym (take-append-drop at s) ∙ ap (λ (u : List ℕ). take at s ++ u) e ∙ sym (append_assoc (take at s) xs rest)

    size : length before ≡ cursor_of s rest
    size = omega (arith, ap length whole, length-append before rest)
