-- Rules put into the first words of a longer table: the words past these stay. Assumes nothing.
use mathlib.Core.Path.{◌≡◌, refl, sym, ◌∙◌, ap}
use mathlib.Core.Bool.{Bool, true, false, cond}
use mathlib.Core.List.{List, [], ◌∷◌, ◌++◌}
use Rattle.std.specs.Prelude.{Some, None, Ok}
use Prim.Native.Nat.{ℕ, ◌/◌, ◌≤◌, ◌<◌}
use native.Mathlib.Omega.{arith}
use lib.Dec.{eqb}
use lib.IntN.{ℤ, pos}
use lib.ListN.{length, take, drop, length-replicate, take-append-drop, get_or-append}
use lib.Seq.{length-take-le, drop_at, set-append_left}
use borrow.Author.Tests.{eqb-false}
use Rattle.integers.specs.Bound.{smaller}
use Rattle.words.specs.Change.{word_at, lowered}
use Rattle.places.specs.Numbering.{block_start, find_two, place_of_two}
use Rattle.rules.specs.declared.rule.Rule.{Rule}
use Rattle.rules.specs.declared.rule.Rule.TheVariants.{One, Two, Nothing}
use Rattle.rules.specs.Limits.{no_rule}
use Rattle.rules.specs.Steps.{halved_of}
use Rattle.tables.specs.Places.{find_place}
use Rattle.tables.specs.Tables.{rule_reply, put_at, put_halved, put_rule, put_all, empty_table}
use Rattle.tables.proofs.Places.{place_of, has_place_below}
use Rattle.tables.proofs.Putting.{one_accepted, two_accepted}
use Rattle.tables.proofs.Lists.{AllAccepted, put_length}
use Rattle.lines.specs.Spelling.{written_rules}
use Rattle.lines.specs.Lines.{accepted}
use Rattle.reading.specs.Reading.{filled}
use Rattle.reading.specs.Texts.{Contents}

-- a word lowered in the first part of a list
lowered_front : (t v : List ℤ) (k : ℕ) (w : ℤ) → k < length t → lowered (t ++ v) k w ≡ lowered t k w ++ v
unfolding lowered
lowered_front t v k w h = rw (get_or-append t v (pos 0) k h) (set-append_left t v k (smaller (word_at t k) w) h)

module _ (n : ℕ) (t v : List ℤ) (l : block_start n ≤ length t) where
  -- an accepted rule has its place in the first part, or none
  halved_front : (r : Rule) → rule_reply n r ≡ Ok tt → put_halved (t ++ v) r ≡ put_halved t r ++ v
  unfolding put_halved put_at find_place place_of find_two
  halved_front (One x c) e = lowered_front t v _ c (omega (arith, has_place_below n (One x c) (one_accepted n x c e).0))
  halved_front (Two x y c) e = go (eqb (x / 2) (y / 2)) refl
    where
      go : (b : Bool) → eqb (x / 2) (y / 2) ≡ b
          → put_at (t ++ v) (cond b None (Some (place_of_two x y))) c ≡ put_at t (cond b None (Some (place_of_two x y))) c ++ v
      go true q = refl
      go false q =
          let a = two_accepted n x y c e in
          let d : x / 2 ≡ y / 2 → ⊥ = eqb-false (x / 2) (y / 2) q in
          lowered_front t v (place_of_two x y) c (omega (arith, has_place_below n (Two x y c) (a.0, a.1, (λ f. d (omega arith)))))
  halved_front (Nothing c) e = refl

-- with its doubled term halved first
put_front : (n : ℕ) (t v : List ℤ) (r : Rule) → block_start n ≤ length t → rule_reply n (halved_of r) ≡ Ok tt → put_rule (t ++ v) r ≡ put_rule t r ++ v
unfolding put_rule
put_front n t v r l e = halved_front n t v l (halved_of r) e

-- so the words past the first part stay
pub put_past : (n : ℕ) (t : List ℤ) (r : Rule) → block_start n ≤ length t → rule_reply n (halved_of r) ≡ Ok tt
    → drop (block_start n) (put_rule t r) ≡ drop (block_start n) t
put_past n t r l e =
    ap (λ (x : List ℤ). drop (block_start n) (put_rule x r)) (sym (take-append-drop (block_start n) t))
    ∙ ap (drop (block_start n)) (put_front n front (drop (block_start n) t) r (omega (arith, long)) e)
    ∙ drop_at (put_rule front r) (drop (block_start n) t) (block_start n) (put_length front r ∙ long)
  where
    front : List ℤ
    front = take (block_start n) t

    long : length front ≡ block_start n
    long = length-take-le (block_start n) t l

-- all of a list
put_all_front : (n : ℕ) (t v : List ℤ) (rs : List Rule) → block_start n ≤ length t → AllAccepted n rs → put_all (t ++ v) rs ≡ put_all t rs ++ v
unfolding put_all
put_all_front n t v [] l a = refl
put_all_front n t v (r ∷ rs) l a =
    rw (put_front n t v r l a.0) (put_all_front n (put_rule t r) v rs (omega (arith, put_length t r)) a.1)

-- the table of a text's rules, with the words past it, from the empty one
pub filled_from : (n : ℕ) (c : Contents) (u : List ℕ) (t : List ℤ) → n ≡ c.count → AllAccepted n (written_rules c.written)
    → put_all (empty_table n ++ drop (block_start n) t) (written_rules c.written) ≡ filled (accepted c u) t
unfolding filled
filled_from n c u t e a =
    rw (← e)
    (put_all_front n (empty_table n) (drop (block_start n) t) (written_rules c.written) (omega (arith, length-replicate (block_start n) no_rule)) a)
