-- Strengthening as a pairing: the bounds of the literals alone, gathered in a row, and pairing that row with itself. Assumes nothing.
use mathlib.Core.Path.{◌≡◌, refl, sym, ◌∙◌, ap}
use mathlib.Core.Bool.{Bool, true, false, cond, ◌&&◌, and-false}
use mathlib.Core.List.{List}
use Prim.Native.Nat.{ℕ, suc, ◌+◌, ◌*◌, ◌/◌, ◌≤◌, ◌<◌}
use native.Mathlib.Omega.{arith}
use lib.IntN.{ℤ, ◌+ℤ◌}
use lib.ListN.{length}
use lib.Signed.{lt_z}
use Rattle.integers.specs.Bound.{half, smaller}
use Rattle.integers.proofs.Parts.{linear, parts_add, parts_half}
use Rattle.words.specs.Change.{word_at}
use Rattle.words.proofs.Change.{change_same}
use Rattle.places.specs.Numbering.{block_start, place_of_one, place_of_pair, is_one, higher_at, lower_at}
use Rattle.places.proofs.Numbering.{block_start_suc, block_start_mono, at_one, at_lower, at_pair, at_below}
use Rattle.rules.specs.Limits.{max_quantities, no_rule}
use Rattle.tables.specs.Tables.{has_rule}
use Rattle.tables.proofs.Sizes.{small_square}
use Rattle.elimination.specs.Hiding.{with_sum, with_half, lone_word, on_one, on_two, pairing}
use Rattle.elimination.specs.Magnitude.{add_limit}
use Rattle.elimination.specs.Inner.{among, Row, BlocksPaired}
use Rattle.elimination.proofs.TermWords.{lone_within}
use Rattle.elimination.proofs.SumWords.{with_sum_left, with_sum_right}
use Rattle.elimination.proofs.PairedWords.{live_one, live_pair, pairing_one, pairing_two, pairing_dead}
use Rattle.elimination.proofs.Unnamed.{unnamed_lone}
use Rattle.elimination.proofs.Lists.{listed_place}
use Rattle.elimination.proofs.Rows.{FilledTo}
use Rattle.elimination.proofs.Blocks.{one_plus, one_minus}
use Rattle.keys.specs.Inner.{LiveAlone}
use Rattle.tightening.specs.Tightening.{strengthening, strengthened}
use Rattle.tightening.specs.Inner.{Adding, LoneGathered}

-- ---- the bounds of the literals alone

-- the places of a quantity's literals alone, written out, are the table's, and the square in them is small
pub lone_places : (n a : ℕ) → n ≤ max_quantities → a < n → (2 * (a * a) + 1 < block_start n) × (a * a ≤ max_quantities * max_quantities)
unfolding block_start
lone_places n a m h = (omega (arith, block_start_mono {a = suc a} {b = n} h, block_start_suc a), small_square a (omega arith))

-- and have their bounds
pub plus_lone : (t : List ℤ) (a : ℕ) → word_at t (2 * (a * a)) ≡ lone_word t (2 * a)
unfolding block_start
plus_lone t a = ap (word_at t) (one_plus a)

pub minus_lone : (t : List ℤ) (a : ℕ) → word_at t (2 * (a * a) + 1) ≡ lone_word t (2 * a + 1)
unfolding block_start
minus_lone t a = ap (word_at t) (one_minus a)

-- with all live quantities passed all are gathered
pub lone_all : (n : ℕ) (live : List ℕ) (t row : List ℤ) → FilledTo (length live) live (lone_word t) row → LoneGathered n live t row
lone_all n live t row f = record { bounds = λ x l e. let s = listed_place live (x / 2) e in f.each s.place x s.inside (sym s.is) }

-- and the gathered row adds
pub lone_adds : (n : ℕ) (live : List ℕ) (t row : List ℤ) → Adding n t → 2 * n ≤ length row → LoneGathered n live t row → Row n live row
lone_adds n live t row a l g = record {
  most = a.most;
  room = l;
  words = λ x h e. rw (g.bounds x h e) (lone_within n add_limit t x a.room a.words h);
}

-- ---- the row paired with itself

-- a bound put in twice by minimum is the bound put in once
smaller_again : (w c : ℤ) → smaller (smaller w c) c ≡ smaller w c
unfolding smaller
smaller_again w c = go (lt_z c w) refl
  where
    same : (b : Bool) → cond b c c ≡ c
    same true = refl
    same false = refl

    go : (b : Bool) → lt_z c w ≡ b → cond (lt_z c (cond b c w)) c (cond b c w) ≡ cond b c w
    go true e = same (lt_z c c)
    go false e = rw e

-- a sum put in twice is the sum put in once
sum_again : (a b w : ℤ) → with_sum a b (with_sum a b w) ≡ with_sum a b w
unfolding with_sum
sum_again a b w = go (has_rule a && has_rule b)
  where
    go : (c : Bool) → cond c (smaller (cond c (smaller w (a +ℤ b)) w) (a +ℤ b)) (cond c (smaller w (a +ℤ b)) w) ≡ cond c (smaller w (a +ℤ b)) w
    go true = smaller_again w (a +ℤ b)
    go false = refl

-- a bound added to itself and halved is itself
half_double : (w : ℤ) → half (w +ℤ w) ≡ w
half_double w = omega (linear, parts_add w w, parts_half (w +ℤ w))

-- and put in at itself changes nothing
half_self : (w : ℤ) → with_half w w w ≡ w
unfolding with_half smaller
half_self w = rw (half_double w) (go (has_rule w && has_rule w) (lt_z w w))
  where
    go : (c d : Bool) → cond c (cond d w w) w ≡ w
    go true true = refl
    go true false = refl
    go false d = refl

-- at the place of one literal the row paired with itself, and with no rules alone, changes nothing
one_kept : (row : ℕ → ℤ) (x : ℕ) → on_one row row no_rule no_rule x (row x) ≡ row x
unfolding on_one
one_kept row x = rw (with_sum_right (row x) no_rule (row x) refl, with_sum_right (row x) no_rule (row x) refl) (half_self (row x))

-- at the place of two it puts their sum in
two_summed : (row : ℕ → ℤ) (x y : ℕ) (w : ℤ) → on_two row row x y w ≡ with_sum (row x) (row y) w
unfolding on_two
two_summed row x y w = sum_again (row x) (row y) w

-- so it strengthens the table: literals that are not live have no bound alone
pub strengthening_paired : (n : ℕ) (live : List ℕ) (t row u : List ℤ) → block_start n ≤ length t → LiveAlone n live t → LoneGathered n live t row
    → BlocksPaired n live row row no_rule no_rule t u → u ≡ strengthened n t
unfolding strengthened strengthening
strengthening_paired n live t row u l a g p =
    p.table ∙ change_same (block_start n) (pairing (among live) f f no_rule no_rule) (strengthening t) t (λ k h. go k h (is_one k) refl)
  where
    f : ℕ → ℤ
    f = word_at row

    -- at the place of one literal
    one_at : (x : ℕ) → x < 2 * n → (b : Bool) → among live (x / 2) ≡ b
        → pairing (among live) f f no_rule no_rule (place_of_one x) (lone_word t x) ≡ lone_word t x
    one_at x h true e = pairing_one (among live) f f no_rule no_rule x (lone_word t x) e ∙ rw (← g.bounds x h e) (one_kept f x)
    one_at x h false e = pairing_dead (among live) f f no_rule no_rule (place_of_one x) (lone_word t x) (live_one (among live) x ∙ e)

    -- a literal that is not live has no bound alone
    alone : (x : ℕ) → x < 2 * n → among live (x / 2) ≡ false → has_rule (lone_word t x) ≡ false
    alone x h e = unnamed_lone n (x / 2) t l (a.rest (x / 2) (omega arith) e) x h refl

    -- at that of two
    two_at : (x y : ℕ) (w : ℤ) → x / 2 < y / 2 → y < 2 * n → (b : Bool) → among live (x / 2) ≡ b → (c : Bool) → among live (y / 2) ≡ c
        → pairing (among live) f f no_rule no_rule (place_of_pair x y) w ≡ with_sum (lone_word t x) (lone_word t y) w
    two_at x y w o h true d true e =
        pairing_two (among live) f f no_rule no_rule x y w d e o ∙ two_summed f x y w ∙ rw (g.bounds x (omega arith) d, g.bounds y h e)
    two_at x y w o h false d c e =
        pairing_dead (among live) f f no_rule no_rule (place_of_pair x y) w (live_pair (among live) x y o ∙ rw (d, and-false (among live (y / 2))))
        ∙ sym (with_sum_left (lone_word t x) (lone_word t y) w (alone x (omega arith) d))
    two_at x y w o h true d false e =
        pairing_dead (among live) f f no_rule no_rule (place_of_pair x y) w (live_pair (among live) x y o ∙ rw e)
        ∙ sym (with_sum_right (lone_word t x) (lone_word t y) w (alone y h e))

    go : (k : ℕ) → k < block_start n → (b : Bool) → is_one k ≡ b
        → pairing (among live) f f no_rule no_rule k (word_at t k)
        ≡ cond b (word_at t k) (with_sum (lone_word t (lower_at k)) (lone_word t (higher_at k)) (word_at t k))
    go k h true e = rw (at_one k e) at (one_at (higher_at k) (at_below n k h) (among live (higher_at k / 2)) refl)
    go k h false e =
        rw (at_pair k e) at
        (two_at (lower_at k) (higher_at k) (word_at t k) (at_lower k e) (at_below n k h)
        (among live (lower_at k / 2)) refl (among live (higher_at k / 2)) refl)
