-- Two tables in which a quantity's rules with live ones are the same: a step puts in the same sums and meets the same contradictions. Assumes nothing.
use mathlib.Core.Path.{◌≡◌, refl, sym, ◌∙◌}
use mathlib.Core.Bool.{Bool, true, false, cond, ◌&&◌, ◌||◌}
use mathlib.Core.List.{List}
use Prim.Native.Nat.{ℕ, zero, suc, ◌+◌, ◌*◌, ◌/◌, ◌≤◌, ◌<◌}
use native.Mathlib.Omega.{arith}
use lib.IntN.{ℤ}
use lib.ListN.{length}
use Rattle.words.specs.Change.{word_at}
use Rattle.places.specs.Numbering.{block_start, is_one, higher_at, lower_at}
use Rattle.places.proofs.Numbering.{at_lower, at_below}
use Rattle.rules.specs.Literal.{negated}
use Rattle.elimination.specs.Hiding.{bare_below, pair_word, lone_word, on_one, on_two, live_at, pairing, any_bare, paired, contradicts}
use Rattle.elimination.proofs.PairedWords.{paired_at}
use Rattle.elimination.proofs.Step.{negated_half}

-- what is put in depends on the words of live literals alone
pub pairing_alike : (live : ℕ → Bool) (n : ℕ) (plus minus plus' minus' : ℕ → ℤ) (p m : ℤ) (k : ℕ) (w : ℤ)
    → ((x : ℕ) → x < 2 * n → live (x / 2) ≡ true → plus x ≡ plus' x)
    → ((x : ℕ) → x < 2 * n → live (x / 2) ≡ true → minus x ≡ minus' x)
    → k < block_start n → pairing live plus minus p m k w ≡ pairing live plus' minus' p m k w
unfolding pairing live_at on_one on_two
pairing_alike live n plus minus plus' minus' p m k w e d h = go (is_one k) refl (live (higher_at k / 2)) refl (live (lower_at k / 2)) refl
  where
    high : higher_at k < 2 * n
    high = at_below n k h

    go : (o : Bool) → is_one k ≡ o → (a : Bool) → live (higher_at k / 2) ≡ a → (b : Bool) → live (lower_at k / 2) ≡ b
        → cond (a && (o || b)) (cond o (on_one plus minus p m (higher_at k) w) (on_two plus minus (lower_at k) (higher_at k) w)) w
        ≡ cond (a && (o || b)) (cond o (on_one plus' minus' p m (higher_at k) w) (on_two plus' minus' (lower_at k) (higher_at k) w)) w
    go o i false f b g = refl
    go true i true f b g = rw (e (higher_at k) high f, d (higher_at k) high f)
    go false i true f false g = refl
    go false i true f true g =
        let low : lower_at k < 2 * n = omega (arith, at_lower k i, high) in
        rw (e (higher_at k) high f, d (higher_at k) high f, e (lower_at k) low g, d (lower_at k) low g)

-- and so do the bare sums
pub bare_alike : (live : ℕ → Bool) (n : ℕ) (plus minus plus' minus' : ℕ → ℤ)
    → ((x : ℕ) → x < 2 * n → live (x / 2) ≡ true → plus x ≡ plus' x)
    → ((x : ℕ) → x < 2 * n → live (x / 2) ≡ true → minus x ≡ minus' x)
    → (x : ℕ) → x ≤ 2 * n → any_bare live plus minus x ≡ any_bare live plus' minus' x
unfolding any_bare
bare_alike live n plus minus plus' minus' e d zero h = refl
bare_alike live n plus minus plus' minus' e d (suc x) h = rw (bare_alike live n plus minus plus' minus' e d x (omega arith)) (go (live (x / 2)) refl)
  where
    go : (b : Bool) → live (x / 2) ≡ b
        → ((b && bare_below (plus x) (minus (negated x))) || any_bare live plus' minus' x)
        ≡ ((b && bare_below (plus' x) (minus' (negated x))) || any_bare live plus' minus' x)
    go true f = rw (e x (omega arith) f, d (negated x) (omega arith) (rw (negated_half x) f))
    go false f = refl

module _ (live : ℕ → Bool) (n j : ℕ) (t u : List ℤ) where
  -- so the paired tables have the same word where the tables have,
  pub alike_word : block_start n ≤ length t → block_start n ≤ length u → (k : ℕ) → k < block_start n → word_at u k ≡ word_at t k
      → ((x : ℕ) → x < 2 * n → live (x / 2) ≡ true → pair_word u (2 * j) x ≡ pair_word t (2 * j) x)
      → ((x : ℕ) → x < 2 * n → live (x / 2) ≡ true → pair_word u (2 * j + 1) x ≡ pair_word t (2 * j + 1) x)
      → lone_word u (2 * j) ≡ lone_word t (2 * j) → lone_word u (2 * j + 1) ≡ lone_word t (2 * j + 1)
      → word_at (paired live n j u) k ≡ word_at (paired live n j t) k
  alike_word l m k h w e d p q =
      paired_at live n j u m k h
      ∙ rw (p, q, w) (pairing_alike live n (pair_word u (2 * j)) (pair_word u (2 * j + 1)) (pair_word t (2 * j)) (pair_word t (2 * j + 1)) (lone_word t (2 * j))
      (lone_word t (2 * j + 1)) k (word_at t k) e d h)
      ∙ sym (paired_at live n j t l k h)

  -- and meet the same contradictions
  pub alike_contradicts : ((x : ℕ) → x < 2 * n → live (x / 2) ≡ true → pair_word u (2 * j) x ≡ pair_word t (2 * j) x)
      → ((x : ℕ) → x < 2 * n → live (x / 2) ≡ true → pair_word u (2 * j + 1) x ≡ pair_word t (2 * j + 1) x)
      → lone_word u (2 * j) ≡ lone_word t (2 * j) → lone_word u (2 * j + 1) ≡ lone_word t (2 * j + 1)
      → contradicts live n j u ≡ contradicts live n j t
  unfolding contradicts
  alike_contradicts e d p q =
      rw (p, q, bare_alike live n (pair_word u (2 * j)) (pair_word u (2 * j + 1)) (pair_word t (2 * j)) (pair_word t (2 * j + 1)) e d (2 * n) (omega arith))
