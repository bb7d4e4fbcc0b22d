-- A slice lent from a place on and given back: the words before it stay. Assumes nothing.
use mathlib.Core.Path.{◌≡◌, sym, ◌∙◌, ap}
use mathlib.Core.List.{List, [], ◌++◌, append-nil}
use Prim.Native.Nat.{ℕ, ◌+◌, ◌-◌, ◌*◌, ◌≤◌, ◌<◌}
use native.Mathlib.Omega.{arith}
use lib.IntN.{ℤ, pos}
use lib.ListN.{length, take, drop, length-drop, drop_of_length-le}
use lib.Seq.{length-take-le, take_all, drop_at, drop-drop, get_or-take, get_or-drop}
use borrow.Rule.Slice.PartMut.{mid_of, put_mid, same_len_mid, mid_len, take_put}
use Rattle.words.specs.Change.{word_at}
use Rattle.places.specs.Numbering.{block_start}
use Rattle.rules.specs.Limits.{max_quantities}
use Rattle.tables.specs.Tables.{table_size}
use Rattle.tables.proofs.Sizes.{size_known}

-- the list before and after, with the words lent and those given back; the words before them stay
pub record PartBack (m : ℕ) (before part part' after : List ℤ) : Type 0 where
  pub size : length after ≡ length before
  pub front : take m after ≡ take m before
  pub was : part ≡ drop m before
  pub is : part' ≡ drop m after

-- a part given back with its length stands where it stood
pub part_back : (m : ℕ) (ws part : List ℤ) → m ≤ length ws → length part ≡ length (mid_of m (length ws - m) ws)
    → PartBack m ws (mid_of m (length ws - m) ws) part (put_mid m (length ws - m) ws part)
part_back m ws part h e = record {
  size = same_len_mid m (length ws - m) ws part e;
  front = take_put m (length ws - m) ws part h;
  was = take_all (length ws - m) (drop m ws) (omega (arith, length-drop m ws));
  is = sym (drop_at (take m ws) (part ++ drop (length ws - m) (drop m ws)) m (length-take-le m ws h) ∙ rw none (append-nil part));
}
  where
    none : drop (length ws - m) (drop m ws) ≡ []
    none = let h : length (drop m ws) ≤ length ws - m = omega (arith, length-drop m ws) in drop_of_length-le (drop m ws) h

-- dropping m words twice drops 2m
pub drop_twice : (m : ℕ) (t : List ℤ) → drop m (drop m t) ≡ drop (2 * m) t
drop_twice m t = let h : m + m ≡ 2 * m = omega arith in drop-drop m m t ∙ ap (λ (k : ℕ). drop k t) h

-- lists with the same first m words have the same word at each of the first m places
pub front_word : (m : ℕ) (t u : List ℤ) → take m u ≡ take m t → (k : ℕ) → k < m → word_at u k ≡ word_at t k
front_word m t u e k h = sym (get_or-take m u k (pos 0) h) ∙ ap (λ (l : List ℤ). word_at l k) e ∙ get_or-take m t k (pos 0) h

-- the word k places on from place m is that of the words from there
pub back_word : (m : ℕ) (t u : List ℤ) → u ≡ drop m t → (k : ℕ) → word_at t (m + k) ≡ word_at u k
back_word m t u e k = sym (get_or-drop m t k (pos 0)) ∙ ap (λ (l : List ℤ). word_at l k) (sym e)

-- the words from the second table on have room for it
pub second_room : (n m : ℕ) (ws u : List ℤ) → n ≤ max_quantities → m ≡ table_size n → 2 * block_start n ≤ length ws → length u ≡ length ws
    → block_start n ≤ length (mid_of m (length u - m) u)
second_room n m ws u h d l e = omega (arith, mid_len m (length u) u (omega arith), size_known n m h d)

-- the part from the second table on given back with its length stands where it stood, and the first table stays
pub second_back : (n m : ℕ) (ws part : List ℤ) → n ≤ max_quantities → m ≡ table_size n → 2 * block_start n ≤ length ws → length part ≡ length (mid_of m (length ws - m) ws)
    → PartBack (block_start n) ws (mid_of m (length ws - m) ws) part (put_mid m (length ws - m) ws part)
second_back n m ws part h d l e = let s = size_known n m h d in rw (sym s) (part_back m ws part (omega (arith, s)) e)
