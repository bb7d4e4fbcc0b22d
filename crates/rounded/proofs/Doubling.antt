-- Hiding in a table of doubled words, where no place of two quantities is marked: each word stays that of the marked place. Assumes nothing.
use mathlib.Core.Path.{◌≡◌, refl, sym, ◌∙◌, ap}
use mathlib.Core.Bool.{Bool, true, false, cond, ◌||◌}
use mathlib.Core.List.{List}
use Prim.Native.Nat.{ℕ, suc, ◌+◌, ◌*◌, ◌/◌, ◌≤◌, ◌<◌}
use native.Mathlib.Omega.{arith}
use lib.Dec.{eqb}
use lib.IntN.{ℤ}
use lib.ListN.{length}
use borrow.Author.Tests.{eqb-false, lt-ltb, le-ltb}
use Rattle.words.specs.Change.{word_at}
use Rattle.places.specs.Numbering.{block_start, place_of_one, place_of_pair, place_of_two, is_one, higher_at, lower_at}
use Rattle.places.proofs.Numbering.{one_below, pair_is_one, at_lower, at_below}
use Rattle.rules.specs.Limits.{no_rule}
use Rattle.rules.specs.Meaning.{names}
use Rattle.tables.specs.Places.{rule_at}
use Rattle.tables.proofs.Places.{names_bound}
use Rattle.tables.proofs.Tests.{clash}
use Rattle.tables.proofs.Without.{cleared_word}
use Rattle.elimination.specs.Hiding.{every, pair_word, lone_word, with_sum, with_half, on_one, on_two, live_at, pairing, paired, eliminated}
use Rattle.elimination.proofs.TermWords.{quantity_cases}
use Rattle.elimination.proofs.PairedWords.{paired_at}
use Rattle.elimination.proofs.Step.{paired_length}
use Rattle.marks.specs.Marks.{Marked, unruled, with_marked_sum}
use Rattle.marks.specs.Doubled.{doubled_word, Doubles}
use Rattle.marks.proofs.WordOrder.{Tame, large, doubled_none}
use Rattle.rounded.specs.Hiding.{pair_marked, lone_marked, on_one_marked, on_two_marked, sums_marked, hide_marked}
use Rattle.rounded.proofs.Bounds.{two_below}
use Rattle.rounded.proofs.DoubledWords.{small, tame_large, tame_with, doubled_sum, doubled_halved, unmarked_sum}

-- no place of two quantities is marked
abbrev pub PairsClear : ℕ → (ℕ → Marked) → Type 0
PairsClear n places = (k : ℕ) → k < block_start n → is_one k ≡ false → (places k).mark ≡ false

-- the bounds doubled add
abbrev pub AllTame : ℕ → (ℕ → Marked) → Type 0
AllTame n places = (k : ℕ) → k < block_start n → Tame small (places k)

-- ---- the places of one quantity

-- the place of two literals of two quantities
module _ (x y : ℕ) (apart : x / 2 ≡ y / 2 → ⊥) where
  two_is : (P : ℕ → Type 0) → (x / 2 < y / 2 → P (place_of_pair x y)) → (y / 2 < x / 2 → P (place_of_pair y x)) → P (place_of_two x y)
  unfolding place_of_two
  two_is P p q = quantity_cases (P (place_of_two x y)) x y (λ e. absurd (apart e)) (λ l. rw (lt-ltb x y (omega arith)) (p l)) (λ l. rw (le-ltb x y (omega arith)) (q l))

  pub two_is_one : is_one (place_of_two x y) ≡ false
  two_is_one = two_is (λ (k : ℕ). is_one k ≡ false) (λ l. pair_is_one x y l) (λ l. pair_is_one y x l)

-- a property of the places of two quantities is one of the places of two literals
pub pair_has : (P : Marked → Type 0) (n : ℕ) (places : ℕ → Marked) (z x : ℕ) → z < 2 * n → x < 2 * n → P unruled
    → ((k : ℕ) → k < block_start n → is_one k ≡ false → P (places k)) → P (pair_marked places z x)
unfolding pair_marked
pair_has P n places z x h g none each = go (eqb (x / 2) (z / 2)) refl
  where
    go : (b : Bool) → eqb (x / 2) (z / 2) ≡ b → P (cond b unruled (places (place_of_two x z)))
    go true e = none
    go false e = each (place_of_two x z) (two_below n x z (eqb-false (x / 2) (z / 2) e) g h) (two_is_one x z (eqb-false (x / 2) (z / 2) e))

pub pair_clear : (n : ℕ) (places : ℕ → Marked) (z x : ℕ) → z < 2 * n → x < 2 * n → PairsClear n places → (pair_marked places z x).mark ≡ false
pair_clear n places z x h g c = pair_has (λ (w : Marked). w.mark ≡ false) n places z x h g refl c

pub pair_tame : (n : ℕ) (places : ℕ → Marked) (z x : ℕ) → z < 2 * n → x < 2 * n → AllTame n places → Tame small (pair_marked places z x)
pair_tame n places z x h g t = pair_has (Tame small) n places z x h g (λ e. clash e refl) (λ k l o. t k l)

-- the words of doubled places
module _ (n : ℕ) (places : ℕ → Marked) (t : List ℤ) (d : Doubles (block_start n) places t) where
  pub pair_doubled : (z x : ℕ) → z < 2 * n → x < 2 * n → pair_word t z x ≡ doubled_word (pair_marked places z x)
  unfolding pair_word pair_marked doubled_word
  pair_doubled z x h g = go (eqb (x / 2) (z / 2)) refl
    where
      go : (b : Bool) → eqb (x / 2) (z / 2) ≡ b → cond b no_rule (word_at t (place_of_two x z)) ≡ doubled_word (cond b unruled (places (place_of_two x z)))
      go true e = refl
      go false e = d.each (place_of_two x z) (two_below n x z (eqb-false (x / 2) (z / 2) e) g h)

  pub lone_doubled : (z : ℕ) → z < 2 * n → lone_word t z ≡ doubled_word (lone_marked places z)
  lone_doubled z h = d.each (place_of_one z) (one_below n z h)

-- ---- one step

module _ (n j : ℕ) (places : ℕ → Marked) (inside : j < n) (c : PairsClear n places) where
  abbrev plus : ℕ → Marked
  plus x = pair_marked places (2 * j) x

  abbrev minus : ℕ → Marked
  minus x = pair_marked places (2 * j + 1) x

  plus_clear : (x : ℕ) → x < 2 * n → (plus x).mark ≡ false
  plus_clear x g = pair_clear n places (2 * j) x (omega arith) g c

  minus_clear : (x : ℕ) → x < 2 * n → (minus x).mark ≡ false
  minus_clear x g = pair_clear n places (2 * j + 1) x (omega arith) g c

  -- places of two quantities get sums of such places alone
  pub step_clear : PairsClear n (hide_marked j places)
  unfolding hide_marked sums_marked on_two_marked
  step_clear k h o = go (names (suc j) (rule_at k (places k).bound))
    where
      high : higher_at k < 2 * n
      high = at_below n k h

      low : lower_at k < 2 * n
      low = omega (arith, at_lower k o, high)

      two : (on_two_marked plus minus (lower_at k) (higher_at k) (places k)).mark ≡ false
      two =
          unmarked_sum (plus (lower_at k)) (minus (higher_at k)) (with_marked_sum (minus (lower_at k)) (plus (higher_at k)) (places k)) (plus_clear (lower_at k) low)
          (minus_clear (higher_at k) high)
          (unmarked_sum (minus (lower_at k)) (plus (higher_at k)) (places k) (minus_clear (lower_at k) low) (plus_clear (higher_at k) high) (c k h o))

      go : (b : Bool) → (cond b unruled (sums_marked plus minus (lone_marked places (2 * j)) (lone_marked places (2 * j + 1)) k (places k))).mark ≡ false
      go true = refl
      go false = rw o two

  module _ (t : List ℤ) (room : block_start n ≤ length t) (tame : AllTame n places) (d : Doubles (block_start n) places t) where
    abbrev p : Marked
    p = lone_marked places (2 * j)

    abbrev m : Marked
    m = lone_marked places (2 * j + 1)

    p_tame : Tame small p
    p_tame = tame (place_of_one (2 * j)) (one_below n (2 * j) (omega arith))

    m_tame : Tame small m
    m_tame = tame (place_of_one (2 * j + 1)) (one_below n (2 * j + 1) (omega arith))

    plus_tame : (x : ℕ) → x < 2 * n → Tame small (plus x)
    plus_tame x g = pair_tame n places (2 * j) x (omega arith) g tame

    minus_tame : (x : ℕ) → x < 2 * n → Tame small (minus x)
    minus_tame x g = pair_tame n places (2 * j + 1) x (omega arith) g tame

    plus_word : (x : ℕ) → x < 2 * n → pair_word t (2 * j) x ≡ doubled_word (plus x)
    plus_word x g = pair_doubled n places t d (2 * j) x (omega arith) g

    minus_word : (x : ℕ) → x < 2 * n → pair_word t (2 * j + 1) x ≡ doubled_word (minus x)
    minus_word x g = pair_doubled n places t d (2 * j + 1) x (omega arith) g

    p_word : lone_word t (2 * j) ≡ doubled_word p
    p_word = lone_doubled n places t d (2 * j) (omega arith)

    m_word : lone_word t (2 * j + 1) ≡ doubled_word m
    m_word = lone_doubled n places t d (2 * j + 1) (omega arith)

    -- what is put in at a place of one quantity
    one_doubled : (x : ℕ) → x < 2 * n → (w : Marked) → Tame small w
        → on_one (pair_word t (2 * j)) (pair_word t (2 * j + 1)) (lone_word t (2 * j)) (lone_word t (2 * j + 1)) x (doubled_word w) ≡ doubled_word (on_one_marked plus minus p m x w)
    unfolding on_one on_one_marked
    one_doubled x g w e =
        rw (plus_word x g, minus_word x g, p_word, m_word) (sym (
        doubled_halved (plus x) (minus x) second (plus_tame x g) (minus_tame x g) (tame_with (plus x) m first (plus_tame x g) m_tame first_tame) (plus_clear x g) (minus_clear x g)
        ∙ ap (with_half (doubled_word (plus x)) (doubled_word (minus x)))
        (doubled_sum (plus x) m first (plus_tame x g) m_tame first_tame (plus_clear x g)
        ∙ ap (with_sum (doubled_word (plus x)) (doubled_word m)) (doubled_sum (minus x) p w (minus_tame x g) p_tame (tame_large w e) (minus_clear x g)))
        ))
      where
        first : Marked
        first = with_marked_sum (minus x) p w

        second : Marked
        second = with_marked_sum (plus x) m first

        first_tame : Tame large first
        first_tame = tame_with (minus x) p w (minus_tame x g) p_tame (tame_large w e)

    -- and of two
    two_doubled : (x y : ℕ) → x < 2 * n → y < 2 * n → (w : Marked) → Tame small w
        → on_two (pair_word t (2 * j)) (pair_word t (2 * j + 1)) x y (doubled_word w) ≡ doubled_word (on_two_marked plus minus x y w)
    unfolding on_two on_two_marked
    two_doubled x y g f w e =
        rw (plus_word x g, minus_word x g, plus_word y f, minus_word y f) (sym (
        doubled_sum (plus x) (minus y) first (plus_tame x g) (minus_tame y f) first_tame (plus_clear x g)
        ∙ ap (with_sum (doubled_word (plus x)) (doubled_word (minus y))) (doubled_sum (minus x) (plus y) w (minus_tame x g) (plus_tame y f) (tame_large w e) (minus_clear x g))
        ))
      where
        first : Marked
        first = with_marked_sum (minus x) (plus y) w

        first_tame : Tame large first
        first_tame = tame_with (minus x) (plus y) w (minus_tame x g) (plus_tame y f) (tame_large w e)

    sums_doubled : (k : ℕ) → k < block_start n
        → pairing every (pair_word t (2 * j)) (pair_word t (2 * j + 1)) (lone_word t (2 * j)) (lone_word t (2 * j + 1)) k (doubled_word (places k))
        ≡ doubled_word (sums_marked plus minus p m k (places k))
    unfolding pairing live_at sums_marked
    sums_doubled k h = go (is_one k) refl
      where
        high : higher_at k < 2 * n
        high = at_below n k h

        go : (o : Bool) → is_one k ≡ o
            → cond (o || true)
            (cond o (on_one (pair_word t (2 * j)) (pair_word t (2 * j + 1)) (lone_word t (2 * j)) (lone_word t (2 * j + 1)) (higher_at k) (doubled_word (places k)))
            (on_two (pair_word t (2 * j)) (pair_word t (2 * j + 1)) (lower_at k) (higher_at k) (doubled_word (places k)))) (doubled_word (places k))
            ≡ doubled_word (cond o (on_one_marked plus minus p m (higher_at k) (places k)) (on_two_marked plus minus (lower_at k) (higher_at k) (places k)))
        go true o = one_doubled (higher_at k) high (places k) (tame k h)
        go false o = two_doubled (lower_at k) (higher_at k) (omega (arith, at_lower k o, high)) high (places k) (tame k h)

    paired_doubled : (k : ℕ) → k < block_start n → word_at (paired every n j t) k ≡ doubled_word (sums_marked plus minus p m k (places k))
    paired_doubled k h =
        paired_at every n j t room k h
        ∙ ap (pairing every (pair_word t (2 * j)) (pair_word t (2 * j + 1)) (lone_word t (2 * j)) (lone_word t (2 * j + 1)) k) (d.each k h)
        ∙ sums_doubled k h

    -- so the table after the step has the words of the places after it
    pub step_doubles : Doubles (block_start n) (hide_marked j places) (eliminated n j t)
    unfolding eliminated hide_marked
    step_doubles = record { each = λ k h. cleared_word n (suc j) (paired every n j t) k (omega (arith, paired_length every n j t)) h ∙ word k h }
      where
        word : (k : ℕ) → k < block_start n → cond (names (suc j) (rule_at k (word_at (paired every n j t) k))) no_rule (word_at (paired every n j t) k)
            ≡ doubled_word (cond (names (suc j) (rule_at k (places k).bound)) unruled (sums_marked plus minus p m k (places k)))
        word k h =
            rw (names_bound (suc j) k (word_at (paired every n j t) k) (places k).bound, paired_doubled k h) (go (names (suc j) (rule_at k (places k).bound)))
          where
            go : (b : Bool) → cond b no_rule (doubled_word (sums_marked plus minus p m k (places k))) ≡ doubled_word (cond b unruled (sums_marked plus minus p m k (places k)))
            go true = sym (doubled_none unruled refl)
            go false = refl
