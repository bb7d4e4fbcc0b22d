-- Fewer live quantities: a step changes the same words, and meets the same contradictions, where those left out are named by no rule. Assumes nothing.
use mathlib.Core.Path.{◌≡◌, refl}
use mathlib.Core.Bool.{Bool, true, false, cond, ◌&&◌, ◌||◌}
use mathlib.Core.List.{List}
use Prim.Native.Nat.{ℕ, ◌+◌, ◌*◌, ◌/◌, ◌≤◌, ◌<◌}
use native.Mathlib.Omega.{arith}
use lib.Dec.{eqb}
use lib.IntN.{ℤ}
use lib.ListN.{length}
use borrow.Author.Tests.{eqb-true, eqb-false}
use Rattle.words.specs.Change.{word_at}
use Rattle.words.proofs.Change.{change_same}
use Rattle.places.specs.Numbering.{block_start, is_one, higher_at, lower_at}
use Rattle.places.proofs.Numbering.{at_lower, at_below}
use Rattle.rules.specs.Literal.{negated}
use Rattle.tables.specs.Tables.{has_rule}
use Rattle.tables.proofs.Tests.{clash}
use Rattle.elimination.specs.Hiding.{bare_below, pair_word, lone_word, on_one, on_two, live_at, pairing, any_bare, paired, contradicts}
use Rattle.elimination.specs.Magnitude.{Unnamed}
use Rattle.elimination.proofs.TermWords.{pair_apart, pair_sym}
use Rattle.elimination.proofs.SumWords.{on_one_elim, on_two_elim}
use Rattle.elimination.proofs.Step.{bare_clear, any_bare_clear}
use Rattle.elimination.proofs.Unnamed.{unnamed_pair}

-- ---- what is put in at a place where a row has no rule

module _ (plus minus : ℕ → ℤ) (p m : ℤ) where
  -- the literal alone there,
  pub one_silent : (x : ℕ) (w : ℤ) → has_rule (plus x) ≡ false → has_rule (minus x) ≡ false → on_one plus minus p m x w ≡ w
  one_silent x w a b =
      on_one_elim plus minus p m x w (λ (u : ℤ). u ≡ w) refl (λ c d. clash c a) (λ c d. clash c b) (λ c d. clash c a)

  -- the higher of two,
  pub high_silent : (x y : ℕ) (w : ℤ) → has_rule (plus y) ≡ false → has_rule (minus y) ≡ false → on_two plus minus x y w ≡ w
  high_silent x y w a b = on_two_elim plus minus x y w (λ (u : ℤ). u ≡ w) refl (λ c d. clash d b) (λ c d. clash d a)

  -- or the lower one
  pub low_silent : (x y : ℕ) (w : ℤ) → has_rule (plus x) ≡ false → has_rule (minus x) ≡ false → on_two plus minus x y w ≡ w
  low_silent x y w a b = on_two_elim plus minus x y w (λ (u : ℤ). u ≡ w) refl (λ c d. clash c a) (λ c d. clash c b)

-- ---- one step

module _ (live fewer : ℕ → Bool) (n j : ℕ) (t : List ℤ) (l : block_start n ≤ length t) (h : j < n)
    (some : (i : ℕ) → i < n → fewer i ≡ true → live i ≡ true)
    (rest : (i : ℕ) → i < n → (i ≡ j → ⊥) → live i ≡ true → fewer i ≡ false → Unnamed n i t) where
  -- a literal left out has no rule with the quantity: none names it, or it is the quantity's own
  left_out : (z x : ℕ) → z < 2 * n → z / 2 ≡ j → x < 2 * n → live (x / 2) ≡ true → fewer (x / 2) ≡ false → has_rule (pair_word t z x) ≡ false
  left_out z x g e b a f = go (has_rule (pair_word t z x)) refl (eqb (x / 2) j) refl
    where
      go : (c : Bool) → has_rule (pair_word t z x) ≡ c → (d : Bool) → eqb (x / 2) j ≡ d → c ≡ false
      go false r d q = refl
      go true r true q = absurd (pair_apart t z x r (omega (arith, eqb-true (x / 2) j q)))
      go true r false q =
          clash r (rw (pair_sym t z x) (unnamed_pair n (x / 2) t l (rest (x / 2) (omega arith) (eqb-false (x / 2) j q) a f) x z b g refl))

  plus_out : (x : ℕ) → x < 2 * n → live (x / 2) ≡ true → fewer (x / 2) ≡ false → has_rule (pair_word t (2 * j) x) ≡ false
  plus_out x = left_out (2 * j) x (omega arith) (omega arith)

  minus_out : (x : ℕ) → x < 2 * n → live (x / 2) ≡ true → fewer (x / 2) ≡ false → has_rule (pair_word t (2 * j + 1) x) ≡ false
  minus_out x = left_out (2 * j + 1) x (omega arith) (omega arith)

  -- so the same is put in
  pub fewer_paired : paired live n j t ≡ paired fewer n j t
  unfolding paired pairing live_at
  fewer_paired = change_same (block_start n) _ _ t (λ k b. go k b (is_one k) refl (live (higher_at k / 2)) refl (fewer (higher_at k / 2)) refl)
    where
      plus : ℕ → ℤ
      plus = pair_word t (2 * j)

      minus : ℕ → ℤ
      minus = pair_word t (2 * j + 1)

      p : ℤ
      p = lone_word t (2 * j)

      m : ℤ
      m = lone_word t (2 * j + 1)

      two : (k : ℕ) → k < block_start n → is_one k ≡ false → (c : Bool) → live (lower_at k / 2) ≡ c → (d : Bool) → fewer (lower_at k / 2) ≡ d
          → cond c (on_two plus minus (lower_at k) (higher_at k) (word_at t k)) (word_at t k)
          ≡ cond d (on_two plus minus (lower_at k) (higher_at k) (word_at t k)) (word_at t k)
      two k b o true e true f = refl
      two k b o false e false f = refl
      two k b o false e true f = clash (some (lower_at k / 2) (omega (arith, at_lower k o, at_below n k b)) f) e
      two k b o true e false f =
          let low : lower_at k < 2 * n = omega (arith, at_lower k o, at_below n k b) in
          low_silent plus minus p m (lower_at k) (higher_at k) (word_at t k) (plus_out (lower_at k) low e f) (minus_out (lower_at k) low e f)

      go : (k : ℕ) → k < block_start n → (o : Bool) → is_one k ≡ o → (c : Bool) → live (higher_at k / 2) ≡ c → (d : Bool) → fewer (higher_at k / 2) ≡ d
          → cond (c && (o || live (lower_at k / 2)))
          (cond o (on_one plus minus p m (higher_at k) (word_at t k)) (on_two plus minus (lower_at k) (higher_at k) (word_at t k))) (word_at t k)
          ≡ cond (d && (o || fewer (lower_at k / 2)))
          (cond o (on_one plus minus p m (higher_at k) (word_at t k)) (on_two plus minus (lower_at k) (higher_at k) (word_at t k))) (word_at t k)
      go k b true o true e true f = refl
      go k b true o true e false f =
          one_silent plus minus p m (higher_at k) (word_at t k) (plus_out (higher_at k) (at_below n k b) e f) (minus_out (higher_at k) (at_below n k b) e f)
      go k b false o true e true f = two k b o (live (lower_at k / 2)) refl (fewer (lower_at k / 2)) refl
      go k b false o true e false f = out (live (lower_at k / 2))
        where
          out : (c : Bool) → cond c (on_two plus minus (lower_at k) (higher_at k) (word_at t k)) (word_at t k) ≡ word_at t k
          out true =
              high_silent plus minus p m (lower_at k) (higher_at k) (word_at t k) (plus_out (higher_at k) (at_below n k b) e f) (minus_out (higher_at k) (at_below n k b) e f)
          out false = refl
      go k b o q false e true f = clash (some (higher_at k / 2) (omega (arith, at_below n k b)) f) e
      go k b o q false e false f = refl

  -- and the same contradictions are met
  pub fewer_contradicts : contradicts live n j t ≡ contradicts fewer n j t
  unfolding contradicts
  fewer_contradicts = go (any_bare live plus minus (2 * n)) refl (any_bare fewer plus minus (2 * n)) refl
    where
      plus : ℕ → ℤ
      plus = pair_word t (2 * j)

      minus : ℕ → ℤ
      minus = pair_word t (2 * j + 1)

      lone : Bool
      lone = bare_below (lone_word t (2 * j)) (lone_word t (2 * j + 1))

      -- none with all is none with fewer
      down : any_bare live plus minus (2 * n) ≡ false → any_bare fewer plus minus (2 * n) ≡ false
      down e =
          (any_bare_clear fewer plus minus (2 * n)).1
          (λ x a b. (any_bare_clear live plus minus (2 * n)).0 e x (some (x / 2) (omega arith) a) b)

      -- and the other way
      each : (x : ℕ) → x < 2 * n → live (x / 2) ≡ true → any_bare fewer plus minus (2 * n) ≡ false → (c : Bool) → fewer (x / 2) ≡ c
          → bare_below (plus x) (minus (negated x)) ≡ false
      each x b a e true f = (any_bare_clear fewer plus minus (2 * n)).0 e x f b
      each x b a e false f = (bare_clear (plus x) (minus (negated x))).1 (λ c d. clash c (plus_out x b a f))

      up : any_bare fewer plus minus (2 * n) ≡ false → any_bare live plus minus (2 * n) ≡ false
      up e = (any_bare_clear live plus minus (2 * n)).1 (λ x a b. each x b a e (fewer (x / 2)) refl)

      go : (a : Bool) → any_bare live plus minus (2 * n) ≡ a → (b : Bool) → any_bare fewer plus minus (2 * n) ≡ b → (lone || a) ≡ (lone || b)
      go true e true f = refl
      go true e false f = clash e (up f)
      go false e true f = clash f (down e)
      go false e false f = refl
