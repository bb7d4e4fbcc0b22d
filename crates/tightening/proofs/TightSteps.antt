-- The steps of the tightest key: they keep length and words past the table, and make words where sums fit; of two copies they make the same; and what they make is the tightest key by its
-- definition. Assumes nothing.
use mathlib.Core.Path.{◌≡◌, refl, sym, ◌∙◌}
use mathlib.Core.Bool.{Bool, true, false, cond}
use mathlib.Core.List.{List}
use mathlib.Core.Logic.{◌↔◌}
use Prim.Native.Nat.{ℕ, zero, suc, ◌*◌, ◌≤◌, ◌<◌, ◌^◌}
use native.Mathlib.Omega.{arith}
use lib.IntN.{ℤ, pos, ◌+ℤ◌}
use lib.ListN.{length, drop}
use lib.Signed.{lt_z, ◌≤ℤ◌}
use Rattle.integers.specs.Bound.{Within}
use Rattle.integers.proofs.Parts.{linear, lt_z_true, lt_z_false}
use Rattle.integers.proofs.Within.{within_mono, within_add}
use Rattle.words.specs.Change.{word_at}
use Rattle.places.specs.Numbering.{block_start, place_of_one, is_one, higher_at, lower_at}
use Rattle.places.proofs.Numbering.{one_below, at_lower, at_below}
use Rattle.rules.specs.declared.paper.Paper.TheVariants.{Sheet}
use Rattle.rules.specs.Hidden.{hidden_in}
use Rattle.rules.specs.Limits.{max_quantities}
use Rattle.rules.specs.Meaning.{Assignment}
use Rattle.tables.specs.Tables.{has_rule}
use Rattle.tables.specs.Places.{rule_at}
use Rattle.tables.specs.Meaning.{HoldsRule, Satisfies, Satisfiable, SheetAllows, WordsWithin, BoundsWithin, NoneAbove, joined, MetByAll}
use Rattle.tables.proofs.Places.{names_bound}
use Rattle.elimination.specs.Hiding.{every, with_sum, lone_word}
use Rattle.elimination.specs.Magnitude.{add_limit}
use Rattle.keys.specs.Keys.{key_of, refuted}
use Rattle.keys.specs.Inner.{Fits}
use Rattle.keys.proofs.Several.{Ample, allows_own, key_exact, key_length, key_visible, rest_key}
use Rattle.keys.proofs.Fitting.{hide_ample, sheet_fits}
use Rattle.keys.proofs.Visible.{key_rest}
use Rattle.keys.proofs.Copying.{SameTable, same_paired, same_lone}
use Rattle.keys.proofs.Deciding.{rest_fits, refuted_exactly}
use Rattle.tightening.specs.Tightening.{pair_up_to, clash_up_to, strengthening, strengthened, tightened, tight_key_of}
use Rattle.tightening.specs.Meaning.{Bounded, VisibleAt, TightKey}
use Rattle.tightening.specs.Promises.{LeastBound}
use Rattle.tightening.proofs.Least.{clash_refuted, tightened_least}
use Rattle.tightening.proofs.Growing.{pair_ample}
use Rattle.tightening.proofs.Holding.{strengthened_at, strengthened_elim}
use Rattle.tightening.proofs.Keeping.{strengthen_length, tightened_length, tightened_rest, tightened_visible}
use Rattle.tightening.proofs.Tight.{visible_meets}

-- ---- length, and words past the table

pub tight_length : (hidden : ℕ → Bool) (n : ℕ) (t : List ℤ) → length (tight_key_of hidden n t) ≡ length t
unfolding tight_key_of
tight_length hidden n t = tightened_length n (key_of hidden n t) ∙ key_length hidden n t

pub tight_rest : (hidden : ℕ → Bool) (n : ℕ) (t : List ℤ) → drop (block_start n) (tight_key_of hidden n t) ≡ drop (block_start n) t
unfolding tight_key_of
tight_rest hidden n t = tightened_rest n (key_of hidden n t) ∙ rest_key hidden n t

-- ---- magnitude

-- two bounds that add have a sum that fits a word: so the tightest table of a table whose sums fit is one of words
pub tightened_within : (n : ℕ) (t : List ℤ) → Fits n t → WordsWithin (block_start n) (pos (2 ^ 63)) (tightened n t)
unfolding tightened
tightened_within n t f = record { each = λ k h l. strengthened_elim (λ (w : ℤ). has_rule w ≡ true → Within (pos (2 ^ 63)) w) n u k a.room h (own k h) (sum k h) }
  where
    u : List ℤ
    u = pair_up_to n n t

    a : Ample n (pair_up_to n n t)
    a = pair_ample n n t f (omega arith)

    own : (k : ℕ) → k < block_start n → has_rule (word_at u k) ≡ true → Within (pos (2 ^ 63)) (word_at u k)
    own k h r = within_mono (omega arith) (a.words.each k h (omega (arith, a.room)) r)

    lone : (x : ℕ) → x < 2 * n → has_rule (lone_word u x) ≡ true → Within add_limit (lone_word u x)
    lone x h r = let p = one_below n x h in a.words.each (place_of_one x) p (omega (arith, a.room)) r

    sum : (k : ℕ) → k < block_start n → is_one k ≡ false → has_rule (lone_word u (lower_at k)) ≡ true → has_rule (lone_word u (higher_at k)) ≡ true
        → has_rule (lone_word u (lower_at k) +ℤ lone_word u (higher_at k)) ≡ true → Within (pos (2 ^ 63)) (lone_word u (lower_at k) +ℤ lone_word u (higher_at k))
    sum k h e p q r =
        let high = at_below n k h in
        within_mono (omega arith) (within_add (lone (lower_at k) (omega (arith, high, at_lower k e)) p) (lone (higher_at k) high q))

-- ---- copies

same_paired_up : (n m : ℕ) (t u : List ℤ) → m ≤ n → SameTable n t u → SameTable n (pair_up_to n m t) (pair_up_to n m u)
unfolding pair_up_to
same_paired_up n zero t u h s = s
same_paired_up n (suc j) t u h s = same_paired n (pair_up_to n j t) (pair_up_to n j u) (same_paired_up n j t u (omega arith) s) every j (omega arith)

same_strengthened : (n : ℕ) (t u : List ℤ) → SameTable n t u → SameTable n (strengthened n t) (strengthened n u)
unfolding strengthening
same_strengthened n t u s = record {
  mine = omega (arith, strengthen_length n t, s.mine);
  theirs = omega (arith, strengthen_length n u, s.theirs);
  words = λ k h. strengthened_at n u k s.theirs h ∙ each k h ∙ sym (strengthened_at n t k s.mine h);
}
  where
    each : (k : ℕ) → k < block_start n → strengthening u k (word_at u k) ≡ strengthening t k (word_at t k)
    each k h = go (is_one k) refl
      where
        high : higher_at k < 2 * n
        high = at_below n k h

        go : (b : Bool) → is_one k ≡ b
            → cond b (word_at u k) (with_sum (lone_word u (lower_at k)) (lone_word u (higher_at k)) (word_at u k))
            ≡ cond b (word_at t k) (with_sum (lone_word t (lower_at k)) (lone_word t (higher_at k)) (word_at t k))
        go true e = s.words k h
        go false e =
            let low : lower_at k < 2 * n = omega (arith, high, at_lower k e) in
            rw (s.words k h, same_lone n t u s (lower_at k) low, same_lone n t u s (higher_at k) high)

pub same_tightened : (n : ℕ) (t u : List ℤ) → SameTable n t u → SameTable n (tightened n t) (tightened n u)
unfolding tightened
same_tightened n t u s = same_strengthened n (pair_up_to n n t) (pair_up_to n n u) (same_paired_up n n t u (omega arith) s)

-- ---- the steps make what the definition says

module _ (n set : ℕ) (t : List ℤ) (most : n ≤ max_quantities) (room : block_start n ≤ length t) (within : BoundsWithin Sheet n set t) (some : Satisfiable n t) where
  abbrev key : List ℤ
  key = key_of (hidden_in set) n t

  fits : Fits n key
  fits = rest_fits n set key (key_rest n set t most room within)

  exact : (σ : Assignment) → Satisfies n key σ ↔ SheetAllows (hidden_in set) (Satisfies n t) σ
  exact σ = key_exact (hidden_in set) n t some.assignment (hide_ample (hidden_in set) n t (sheet_fits n set t most room within)) some.satisfies σ

  -- what satisfies the sheet satisfies its key
  keeps : (σ : Assignment) → Satisfies n t σ → Satisfies n key σ
  keeps σ s = (exact σ).1 (allows_own n (hidden_in set) t σ s)

  clear : clash_up_to n n key ≡ false
  clear = clash_refuted n key fits ∙ go (refuted n key) refl
    where
      go : (b : Bool) → refuted n key ≡ b → b ≡ false
      go true e = absurd ((refuted_exactly n key fits).0 e some.assignment (keeps some.assignment some.satisfies))
      go false e = refl

  bound : (k : ℕ) → k < block_start n → LeastBound n key k (word_at (tightened n key) k)
  bound = tightened_least n key fits clear

  key_room : block_start n ≤ length key
  key_room = omega (arith, key_length (hidden_in set) n t)

  -- a bound on a visible term is met by all of the sheet exactly when it is met by all of the key
  of_key : (k : ℕ) (c : ℤ) → MetByAll (Satisfies n key) (rule_at k c) → MetByAll (Satisfies n t) (rule_at k c)
  of_key k c m σ s = m σ (keeps σ s)

  of_sheet : (k : ℕ) (c : ℤ) → VisibleAt (hidden_in set) k → MetByAll (Satisfies n t) (rule_at k c) → MetByAll (Satisfies n key) (rule_at k c)
  of_sheet k c v m σ s = let a = (exact σ).0 s in visible_meets (hidden_in set) k c σ a.hiddens v (m (joined (hidden_in set) σ a.hiddens) a.complete)

  pub tight-key : NoneAbove (block_start n) (tight_key_of (hidden_in set) n t) → TightKey (hidden_in set) n (Satisfies n t) (tight_key_of (hidden_in set) n t)
  unfolding tight_key_of
  tight-key words = record {
    rule = λ k h. (λ p. (seen k p, record { bound = word_at u k; met = of_key k (word_at u k) ((bound k h).met p.rule) }), λ b. held k h b (has_rule (word_at u k)) refl);
    least = λ k p. record {
      met = of_key k (word_at u k) ((bound k p.inside).met p.rule);
      least = λ d m. below k p d m (lt_z d (word_at u k)) refl;
    };
    room = omega (arith, tightened_length n key, key_room);
    words = words;
  }
    where
      u : List ℤ
      u = tightened n key

      seen : (k : ℕ) → HoldsRule n u k → VisibleAt (hidden_in set) k
      seen k p q e = (tightened_visible (hidden_in set) n key key_room (key_visible (hidden_in set) n t room)).each k p q (names_bound q k (word_at u k) (pos 0) ∙ e)

      held : (k : ℕ) → k < block_start n → VisibleAt (hidden_in set) k × Bounded (Satisfies n t) k → (b : Bool) → has_rule (word_at u k) ≡ b → HoldsRule n u k
      held k h r true e = record { inside = h; there = omega (arith, tightened_length n key, key_room); rule = e }
      held k h r false e =
          let b = (bound k h).none e r.1.bound in
          absurd (b.broken (of_sheet k r.1.bound r.0 r.1.met b.assignment b.satisfies))

      below : (k : ℕ) → HoldsRule n u k → (d : ℤ) → MetByAll (Satisfies n t) (rule_at k d) → (b : Bool) → lt_z d (word_at u k) ≡ b → word_at u k ≤ℤ d
      below k p d m true e =
          let b = (bound k p.inside).smaller p.rule d (omega (linear, lt_z_true d (word_at u k) e)) in
          absurd (b.broken (of_sheet k d (seen k p) m b.assignment b.satisfies))
      below k p d m false e = omega (linear, lt_z_false d (word_at u k) e)
