-- What an answer at a cursor tells, and the end of a line after it. Assumes nothing.
use mathlib.Core.Path.{◌≡◌, refl, sym, ◌∙◌, ap}
use mathlib.Core.Bool.{Bool, true, false, cond}
use mathlib.Core.List.{List, [], ◌∷◌, ◌++◌}
use Prim.Native.Nat.{ℕ, ◌+◌}
use native.Mathlib.Omega.{arith}
use lib.ListN.{drop}
use lib.Seq.{drop-drop}
use Rattle.std.specs.Prelude.{Some, None}
use Rattle.numerals.specs.declared.read.Found.{Found}
use Rattle.numerals.specs.Bytes.{newline}
use Rattle.numerals.specs.Parsing.{Parsed, parsed, malformed, starts_with, found_in, cursor_of}
use Rattle.numerals.proofs.Cursors.{cursor_here, cursor_rest}
use Rattle.numerals.proofs.Keys.{expect_tests, byte_inside}
use Rattle.lines.specs.Lines.{ended}
use Rattle.lines.specs.Inner.{found_answer, ended_answer}

-- what was read in the text s, which the program has as `it`, with the cursor after it
pub record Read {A B : Type 0} (tell : A → B) (s : List ℕ) (p : Parsed A) (it : Found B) : Type 0 where
  pub value : A
  pub is : p ≡ parsed value (drop it.next s)
  pub told : tell value ≡ it.value

-- of bytes at a cursor that were passed
pub read_rest : {A B : Type 0} (tell : A → B) (s : List ℕ) (at : ℕ) (xs : List ℕ) (a : A) (rest : List ℕ) (it : Found B) → drop at s ≡ xs ++ rest
    → Some (found_in s (tell a) rest) ≡ Some it → Read tell s (parsed a rest) it
read_rest tell s at xs a rest it e q =
    let same : found_in s (tell a) rest ≡ it = cc in
    let next : cursor_of s rest ≡ it.next = cc in record {
      value = a;
      is = ap (parsed a) (sym (cursor_rest s at xs rest e) ∙ ap (λ (i : ℕ). drop i s) next);
      told = cc;
    }

-- where nothing was found nothing was read
pub found_none : {A B : Type 0} (tell : A → B) (s : List ℕ) (p : Parsed A) → found_answer tell s p ≡ None → p ≡ malformed
found_none tell s (parsed a u) e = cc
found_none tell s malformed e = refl

-- the end of a line, after what was found
pub ended_told : {A B : Type 0} (tell : A → B) (s : List ℕ) (a : A) (it : Found B) → tell a ≡ it.value
    → ended_answer s it ≡ found_answer tell s (ended a (drop it.next s))
unfolding ended
ended_told tell s a it e = rw (expect_tests (newline ∷ []) (drop it.next s) (parsed a)) (go (starts_with (newline ∷ []) (drop it.next s)) refl)
  where
    after : starts_with (newline ∷ []) (drop it.next s) ≡ true → cursor_of s (drop 1 (drop it.next s)) ≡ it.next + 1
    after h = ap (cursor_of s) (drop-drop 1 it.next s) ∙ cursor_here s (it.next + 1) (omega (arith, byte_inside newline s it.next h))

    go : (t : Bool) → starts_with (newline ∷ []) (drop it.next s) ≡ t
        → cond t (Some (record { value = it.value; next = it.next + 1 })) None ≡ found_answer tell s (cond t (parsed a (drop 1 (drop it.next s))) malformed)
    go true h = rw (after h, e)
    go false h = refl
