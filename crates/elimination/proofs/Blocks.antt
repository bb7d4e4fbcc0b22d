-- The walk of `pairing` over the blocks of a table in the order of their places: places of quantities that are not live are passed over. Assumes nothing.
use mathlib.Core.Path.{◌≡◌, refl, sym, ◌∙◌, ap}
use mathlib.Core.Bool.{Bool, true, false, cond, and-false}
use mathlib.Core.List.{List}
use Prim.Native.Nat.{ℕ, suc, ◌+◌, ◌*◌, ◌/◌, ◌%◌, ◌≤◌, ◌<◌}
use native.Mathlib.Numerals.{add-one}
use native.Mathlib.Omega.{arith}
use lib.Dec.{ltb, eqb}
use lib.IntN.{ℤ}
use lib.ListN.{length, set, get_or, get_or-eq_default}
use borrow.Author.Tests.{ltb-true, ltb-false, le-ltb, eqb-true, eqb-false}
use Rattle.std.proofs.lemmas.List.{get_or_default}
use Rattle.words.specs.Change.{word_at, change, starting_at}
use Rattle.words.proofs.Change.{change_none, change_nothing, change_skip, change_same, starting_none, starting_more, starting_on}
use Rattle.places.specs.Numbering.{block_start, place_of_one, place_of_pair, block_of, offset_of, is_one, higher_at, lower_at}
use Rattle.places.proofs.Numbering.{block_start_suc, block_start_mono, block_order, block_ends, block_below, block_unique, offset_place, higher_half}
use Rattle.tables.specs.Tables.{has_rule}
use Rattle.tables.proofs.Tests.{both_true}
use Rattle.elimination.specs.declared.bounds.QuantityBounds.{QuantityBounds}
use Rattle.elimination.specs.Hiding.{pair_word, lone_word, on_one, on_two, live_at, pairing, paired}
use Rattle.elimination.specs.Inner.{among, Rising, Gathered, bounds_at, two_paired, four_paired, neither_held, none_held}
use Rattle.elimination.proofs.Alike.{pairing_alike}
use Rattle.elimination.proofs.Addable.{neither_tells}
use Rattle.elimination.proofs.Lists.{StandsAt, unlisted, rising_above}
use Rattle.elimination.proofs.PairedWords.{pairing_one, pairing_two, pairing_dead}
use Rattle.elimination.proofs.Fewer.{one_silent, high_silent}

-- ---- the places of a block

-- the first two are those of its literals alone
pub one_plus : (b : ℕ) → block_start b ≡ place_of_one (2 * b)
unfolding place_of_one
one_plus b = let h : (2 * b) / 2 ≡ b = omega arith in let o : (2 * b) % 2 ≡ 0 = omega arith in rw (h, o) (omega arith)

pub one_minus : (b : ℕ) → block_start b + 1 ≡ place_of_one (2 * b + 1)
unfolding place_of_one
one_minus b = let h : (2 * b + 1) / 2 ≡ b = omega arith in let o : (2 * b + 1) % 2 ≡ 1 = omega arith in rw (h, o)

-- then there are two with each lower literal
two_plus : (b x : ℕ) → block_start b + 2 + 2 * x ≡ place_of_pair x (2 * b)
unfolding place_of_pair
two_plus b x = let h : (2 * b) / 2 ≡ b = omega arith in let o : (2 * b) % 2 ≡ 0 = omega arith in rw (h, o) (omega arith)

two_minus : (b x : ℕ) → block_start b + 2 + 2 * x + 1 ≡ place_of_pair x (2 * b + 1)
unfolding place_of_pair
two_minus b x = let h : (2 * b + 1) / 2 ≡ b = omega arith in let o : (2 * b + 1) % 2 ≡ 1 = omega arith in rw (h, o)

-- and these two are of the quantity of that literal
two_lower : (b k : ℕ) → block_start b + 2 ≤ k → k < block_start (suc b) → (is_one k ≡ false) × (block_start b + 2 + 2 * lower_at k ≤ k) × (k ≤ block_start b + 3 + 2 * lower_at k)
unfolding is_one lower_at
two_lower b k l h =
    let e : block_of k ≡ b = block_unique b k (omega arith) h in
    let o : block_start b + offset_of k ≡ k = rw e at (offset_place k) in
    (le-ltb (offset_of k) 2 (omega arith), omega arith, omega arith)

module _ (live : ℕ → Bool) (plus minus : ℕ → ℤ) (p m : ℤ) where
  abbrev f : ℕ → ℤ → ℤ
  f = pairing live plus minus p m

  -- ---- places that are not live. Nothing is put in at the blocks of quantities that are not live,
  block_dead : (k : ℕ) (w : ℤ) → live (block_of k) ≡ false → pairing live plus minus p m k w ≡ w
  unfolding live_at
  block_dead k w e = pairing_dead live plus minus p m k w dead
    where
      dead : live_at live k ≡ false
      dead = rw (higher_half k, e)

  pub blocks_over : (a b : ℕ) (t : List ℤ) → a ≤ b → ((i : ℕ) → a ≤ i → i < b → live i ≡ false)
      → change (block_start a) (pairing live plus minus p m) t ≡ change (block_start b) (pairing live plus minus p m) t
  blocks_over a b t h none = change_skip (block_start a) (block_start b) f t (block_start_mono h)
      (λ k l g. block_dead k (word_at t k) (none (block_of k) (block_order a (block_of k) k l (block_ends k)) (block_below b k g)))

  pub blocks_none : (b : ℕ) (t : List ℤ) → ((i : ℕ) → i < b → live i ≡ false) → t ≡ change (block_start b) (pairing live plus minus p m) t
  unfolding block_start
  blocks_none b t none = sym (change_none f t) ∙ blocks_over 0 b t (omega arith) (λ i l h. none i h)

  -- and in a block nothing with a quantity that is not live
  lower_dead : (k : ℕ) (w : ℤ) → is_one k ≡ false → live (lower_at k / 2) ≡ false → pairing live plus minus p m k w ≡ w
  unfolding live_at
  lower_dead k w o e = pairing_dead live plus minus p m k w dead
    where
      dead : live_at live k ≡ false
      dead = rw (o, e, and-false (live (higher_at k / 2)))

  pub twos_over : (b a c : ℕ) (t : List ℤ) → a ≤ c → c ≤ b → ((i : ℕ) → a ≤ i → i < c → live i ≡ false)
      → change (block_start b + 2 + 4 * a) (starting_at (block_start b + 2) (pairing live plus minus p m)) t
      ≡ change (block_start b + 2 + 4 * c) (starting_at (block_start b + 2) (pairing live plus minus p m)) t
  twos_over b a c t h g none = change_skip (block_start b + 2 + 4 * a) (block_start b + 2 + 4 * c) (starting_at (block_start b + 2) f) t (omega arith) same
    where
      same : (k : ℕ) → block_start b + 2 + 4 * a ≤ k → k < block_start b + 2 + 4 * c → starting_at (block_start b + 2) f k (word_at t k) ≡ word_at t k
      same k l r =
          let s = two_lower b k (omega arith) (omega (arith, block_start_suc b)) in
          rw (le-ltb k (block_start b + 2) (omega arith))
          (lower_dead k (word_at t k) s.0 (none (lower_at k / 2) (omega arith) (omega arith)))

  pub twos_none : (b c : ℕ) (t : List ℤ) → c ≤ b → ((i : ℕ) → i < c → live i ≡ false)
      → t ≡ change (block_start b + 2 + 4 * c) (starting_at (block_start b + 2) (pairing live plus minus p m)) t
  twos_none b c t h none =
      starting_none (block_start b + 2) f t
      ∙ ap (λ (k : ℕ). change k (starting_at (block_start b + 2) f) t) (omega arith)
      ∙ twos_over b 0 c t (omega arith) h (λ i l g. none i g)

  -- ---- one place more
  one_more_lem : (i k x : ℕ) (t u : List ℤ) → k ≡ place_of_one x → live (x / 2) ≡ true → i ≤ k → k < length t → u ≡ change k (starting_at i f) t
      → set u k (on_one plus minus p m x (word_at u k)) ≡ change (suc k) (starting_at i f) t
  one_more_lem i k x t u e h r s q =
      ap (λ (z : ℤ). set u k z) (sym (rw (← e) at (pairing_one live plus minus p m x (word_at u k) h))) ∙ starting_more i k f t u r s q

  two_more : (i k x y : ℕ) (t u : List ℤ) → k ≡ place_of_pair x y → live (x / 2) ≡ true → live (y / 2) ≡ true → x / 2 < y / 2 → i ≤ k → k < length t
      → u ≡ change k (starting_at i f) t → set u k (on_two plus minus x y (word_at u k)) ≡ change (suc k) (starting_at i f) t
  two_more i k x y t u e h g l r s q =
      ap (λ (z : ℤ). set u k z) (sym (rw (← e) at (pairing_two live plus minus p m x y (word_at u k) h g l))) ∙ starting_more i k f t u r s q

  -- the two places of a lower literal
  literal_more : (b x k : ℕ) (t u v w : List ℤ) → live (x / 2) ≡ true → live b ≡ true → x < 2 * b → k ≡ block_start b + 2 + 2 * x → k + 1 < length t
      → u ≡ change k (starting_at (block_start b + 2) f) t
      → v ≡ set u k (on_two plus minus x (2 * b) (word_at u k))
      → w ≡ set v (k + 1) (on_two plus minus x (2 * b + 1) (word_at v (k + 1)))
      → w ≡ change (k + 2) (starting_at (block_start b + 2) f) t
  literal_more b x k t u v w h g l e s q r d =
      let even : (2 * b) / 2 ≡ b = omega arith in
      let odd : (2 * b + 1) / 2 ≡ b = omega arith in
      d ∙ two_more i (k + 1) x (2 * b + 1) t v (rw e (two_minus b x)) h (rw odd g) (omega arith) (omega arith) s
      (r ∙ rw (add-one k) (two_more i k x (2 * b) t u (rw e (two_plus b x)) h (rw even g) (omega arith) (omega arith) (omega arith) q))
      ∙ ap (λ (c : ℕ). change c (starting_at i f) t) (omega arith)
    where
      i : ℕ
      i = block_start b + 2

  -- the four of a lower quantity
  twos_more : (b a k : ℕ) (t u v w y z : List ℤ) → live a ≡ true → live b ≡ true → a < b → k ≡ block_start b + 2 + 4 * a → k + 3 < length t
      → u ≡ change k (starting_at (block_start b + 2) (pairing live plus minus p m)) t
      → v ≡ set u k (on_two plus minus (2 * a) (2 * b) (word_at u k))
      → w ≡ set v (k + 1) (on_two plus minus (2 * a) (2 * b + 1) (word_at v (k + 1)))
      → y ≡ set w (k + 2) (on_two plus minus (2 * a + 1) (2 * b) (word_at w (k + 2)))
      → z ≡ set y (k + 3) (on_two plus minus (2 * a + 1) (2 * b + 1) (word_at y (k + 3)))
      → z ≡ change (block_start b + 2 + 4 * suc a) (starting_at (block_start b + 2) (pairing live plus minus p m)) t
  twos_more b a k t u v w y z h g l e s q c d r o =
      let even : (2 * a) / 2 ≡ a = omega arith in
      let odd : (2 * a + 1) / 2 ≡ a = omega arith in
      let half = literal_more b (2 * a) k t u v w (rw even h) g (omega arith) (omega arith) (omega arith) q c d in
      let third : k + 2 + 1 ≡ k + 3 = omega arith in
      let all = literal_more b (2 * a + 1) (k + 2) t w y z (rw odd h) g (omega arith) (omega arith) (omega arith) half r (rw third o) in
      all ∙ ap (λ (c : ℕ). change c (starting_at (block_start b + 2) f) t) (omega arith)

  -- given the bounds of both quantities
  pub twos_put : (b a : ℕ) (t u z : List ℤ) → live a ≡ true → live b ≡ true → a < b → block_start b + 2 + 4 * a + 3 < length t
      → u ≡ change (block_start b + 2 + 4 * a) (starting_at (block_start b + 2) (pairing live plus minus p m)) t
      → z ≡ four_paired u (block_start b + 2 + 4 * a) (bounds_at plus minus a) (bounds_at plus minus b)
      → z ≡ change (block_start b + 2 + 4 * suc a) (starting_at (block_start b + 2) (pairing live plus minus p m)) t
  unfolding on_two
  twos_put b a t u z h g l s q e = twos_more b a at t u first second third z h g l refl s q refl refl refl e
    where
      at : ℕ
      at = block_start b + 2 + 4 * a

      x : QuantityBounds
      x = bounds_at plus minus a

      y : QuantityBounds
      y = bounds_at plus minus b

      first : List ℤ
      first = two_paired u at x.literal y.literal

      second : List ℤ
      second = two_paired first (at + 1) x.literal y.negated

      third : List ℤ
      third = two_paired second (at + 2) x.negated y.literal

  -- the places of a block's literals alone, then its others
  pub block_whole : (b : ℕ) (t u v : List ℤ) → live b ≡ true → block_start (suc b) ≤ length t
      → u ≡ set t (block_start b) (on_one plus minus p m (2 * b) (word_at t (block_start b)))
      → v ≡ set u (block_start b + 1) (on_one plus minus p m (2 * b + 1) (word_at u (block_start b + 1)))
      → change (block_start (suc b)) (starting_at (block_start b + 2) (pairing live plus minus p m)) v
      ≡ change (block_start (suc b)) (starting_at (block_start b) (pairing live plus minus p m)) t
  block_whole b t u v h l q r = rw second (starting_on i (i + 2) (block_start (suc b)) f t (omega arith) (omega (arith, block_start_suc b)))
    where
      i : ℕ
      i = block_start b

      even : (2 * b) / 2 ≡ b
      even = omega arith

      odd : (2 * b + 1) / 2 ≡ b
      odd = omega arith

      first : u ≡ change (i + 1) (starting_at i f) t
      first =
          q ∙ rw (add-one i) (one_more_lem i i (2 * b) t t (one_plus b) (rw even h) (omega arith) (omega (arith, block_start_suc b)) (starting_none i f t))

      second : v ≡ change (i + 2) (starting_at i f) t
      second =
          r ∙ one_more_lem i (i + 1) (2 * b + 1) t u (one_minus b) (rw odd h) (omega arith) (omega (arith, block_start_suc b)) first
          ∙ ap (λ (c : ℕ). change c (starting_at i f) t) (omega arith)

  -- where no rule has the block's quantity together with the one that is paired, nothing is put in
  pairing_idle : (k : ℕ) (w : ℤ) → has_rule (plus (higher_at k)) ≡ false → has_rule (minus (higher_at k)) ≡ false → pairing live plus minus p m k w ≡ w
  unfolding pairing
  pairing_idle k w a b = go (live_at live k) (is_one k)
    where
      y : ℕ
      y = higher_at k

      go : (c d : Bool) → cond c (cond d (on_one plus minus p m y w) (on_two plus minus (lower_at k) y w)) w ≡ w
      go false d = refl
      go true true = one_silent plus minus p m y w a b
      go true false = high_silent plus minus p m (lower_at k) y w a b

  block_idle : (b : ℕ) (t : List ℤ) → has_rule (plus (2 * b)) ≡ false → has_rule (minus (2 * b)) ≡ false → has_rule (plus (2 * b + 1)) ≡ false
      → has_rule (minus (2 * b + 1)) ≡ false → t ≡ change (block_start (suc b)) (starting_at (block_start b) (pairing live plus minus p m)) t
  block_idle b t a c d e = sym (change_nothing (block_start (suc b)) (starting_at (block_start b) f) t (λ k h. go k h (ltb k (block_start b)) refl))
    where
      own : (k : ℕ) → block_of k ≡ b → (o : Bool) → eqb (higher_at k) (2 * b) ≡ o → pairing live plus minus p m k (word_at t k) ≡ word_at t k
      own k g true o = let s = eqb-true (higher_at k) (2 * b) o in pairing_idle k (word_at t k) (rw s a) (rw s c)
      own k g false o =
          let s : higher_at k ≡ 2 * b + 1 = omega (arith, eqb-false (higher_at k) (2 * b) o, higher_half k) in
          pairing_idle k (word_at t k) (rw s d) (rw s e)

      go : (k : ℕ) → k < block_start (suc b) → (q : Bool) → ltb k (block_start b) ≡ q → cond q (word_at t k) (pairing live plus minus p m k (word_at t k)) ≡ word_at t k
      go k h true q = refl
      go k h false q = own k (block_unique b k (ltb-false k (block_start b) q) h) (eqb (higher_at k) (2 * b)) refl

  pub block_none : (b : ℕ) (t : List ℤ) → none_held (bounds_at plus minus b) ≡ true → t ≡ change (block_start (suc b)) (starting_at (block_start b) (pairing live plus minus p m)) t
  block_none b t e =
      let x = bounds_at plus minus b in
      let none = both_true (neither_held x.literal) (neither_held x.negated) e in
      let f = neither_tells x.literal none.0 in
      let g = neither_tells x.negated none.1 in
      block_idle b t f.0 f.1 g.0 g.1

-- ---- the walk over a list of live quantities

-- inside a list it does not matter what is read past its end
pub inside_same : (list : List ℕ) (i a b : ℕ) → i < length list → get_or list i a ≡ get_or list i b
inside_same = get_or_default

module _ (list : List ℕ) (r : Rising list) where
  -- one that stands no sooner is no lower
  rising_from : (i k : ℕ) → i ≤ k → k < length list → get_or list i 0 ≤ get_or list k 0
  rising_from i k h l = go (ltb i k) refl
    where
      go : (b : Bool) → ltb i k ≡ b → get_or list i 0 ≤ get_or list k 0
      go true e = omega (arith, rising_above list r i k (ltb-true i k e) l)
      go false e = let d : i ≡ k = omega (arith, ltb-false i k e) in rw d (omega arith)

  -- none is listed between those before a place and the one that stands there, or n where the list has ended
  none_until : (n k a : ℕ) → ((h : ℕ) → h < k → get_or list h 0 < a) → a < get_or list k n → among list a ≡ false
  none_until n k a before l = unlisted list a (λ s. nowhere s (ltb s.place k) refl)
    where
      nowhere : (s : StandsAt list a) (c : Bool) → ltb s.place k ≡ c → ⊥
      nowhere s true e = omega (arith, before s.place (ltb-true s.place k e), s.is)
      nowhere s false e =
          let g = ltb-false s.place k e in
          let inside = s.inside in
          omega (arith, rising_from k s.place g inside, s.is, inside_same list k n 0 (omega arith))

  none_first : (n a : ℕ) → a < get_or list 0 n → among list a ≡ false
  none_first n a l = none_until n 0 a (λ h g. let z : ⊥ = omega arith in absurd z) l

  none_next : (n i a : ℕ) → i < length list → get_or list i 0 < a → a < get_or list (suc i) n → among list a ≡ false
  none_next n i a h g l = none_until n (suc i) a (λ k o. omega (arith, rising_from k i (omega arith) h)) l

  -- the next one is higher, and so is n
  next_above : (n i : ℕ) → get_or list i 0 < n → i < length list → get_or list i 0 < get_or list (suc i) n
  next_above n i h l = go (ltb (suc i) (length list)) refl
    where
      go : (b : Bool) → ltb (suc i) (length list) ≡ b → get_or list i 0 < get_or list (suc i) n
      go true e = let g = ltb-true (suc i) (length list) e in omega (arith, r.rises i g, inside_same list (suc i) n 0 g)
      go false e = omega (arith, get_or-eq_default list n {n = suc i} (ltb-false (suc i) (length list) e))

  module _ (plus minus : ℕ → ℤ) (p m : ℤ) where
    -- in a block: up to the first lower one,
    pub twos_first : (i : ℕ) (t : List ℤ) → i < length list
        → t ≡ change (block_start (get_or list i 0) + 2 + 4 * get_or list 0 0) (starting_at (block_start (get_or list i 0) + 2) (pairing (among list) plus minus p m)) t
    twos_first i t h = twos_none (among list) plus minus p m (get_or list i 0) (get_or list 0 0) t (rising_from 0 i (omega arith) h) (none_first 0)

    -- and on from one to the next
    pub twos_next : (i h : ℕ) (t : List ℤ) → h < i → i < length list
        → change (block_start (get_or list i 0) + 2 + 4 * suc (get_or list h 0)) (starting_at (block_start (get_or list i 0) + 2) (pairing (among list) plus minus p m)) t
        ≡ change (block_start (get_or list i 0) + 2 + 4 * get_or list (suc h) 0) (starting_at (block_start (get_or list i 0) + 2) (pairing (among list) plus minus p m)) t
    twos_next i h t l g =
        twos_over (among list) plus minus p m (get_or list i 0) (suc (get_or list h 0)) (get_or list (suc h) 0) t
        (r.rises h (omega arith)) (rising_from (suc h) i l g) (λ a b c. none_next 0 h a (omega arith) (omega arith) c)

    -- block after block: up to the first one,
    pub blocks_first : (n : ℕ) (t : List ℤ) → t ≡ change (block_start (get_or list 0 n)) (pairing (among list) plus minus p m) t
    blocks_first n t = blocks_none (among list) plus minus p m (get_or list 0 n) t (none_first n)

    -- and on from one to the next, or to the end
    pub blocks_next : (n i : ℕ) (t : List ℤ) → i < length list → get_or list i 0 < n
        → change (block_start (suc (get_or list i 0))) (pairing (among list) plus minus p m) t ≡ change (block_start (get_or list (suc i) n)) (pairing (among list) plus minus p m) t
    blocks_next n i t h g =
        blocks_over (among list) plus minus p m (suc (get_or list i 0)) (get_or list (suc i) n) t (next_above n i g h)
        (λ a b c. none_next n i a h (omega arith) c)

-- ---- gathered rows

-- with gathered rows it is what the step puts in
pub paired_rows : (n j : ℕ) (live : List ℕ) (t plus minus : List ℤ) (p m : ℤ)
    → Gathered n j live t plus minus → p ≡ lone_word t (2 * j) → m ≡ lone_word t (2 * j + 1)
    → change (block_start n) (pairing (among live) (word_at plus) (word_at minus) p m) t ≡ paired (among live) n j t
unfolding paired
paired_rows n j live t plus minus p m g e d = rw (e, d)
    (change_same (block_start n)
    (pairing (among live) (word_at plus) (word_at minus) (lone_word t (2 * j)) (lone_word t (2 * j + 1)))
    (pairing (among live) (pair_word t (2 * j)) (pair_word t (2 * j + 1)) (lone_word t (2 * j)) (lone_word t (2 * j + 1)))
    t
    (λ k l. pairing_alike (among live) n (word_at plus) (word_at minus) (pair_word t (2 * j)) (pair_word t (2 * j + 1)) (lone_word t (2 * j)) (lone_word t (2 * j + 1)) k
    (word_at t k) g.plus_bounds g.minus_bounds l))
