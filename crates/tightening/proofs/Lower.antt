-- Every quantity paired and nothing cleared, against hiding: a table paired is at most the same table with any quantities hidden, place by place, and so
-- meets every contradiction that hiding meets. Assumes nothing.
use mathlib.Core.Path.{◌≡◌, refl, sym}
use mathlib.Core.Bool.{Bool, true, false, cond}
use mathlib.Core.List.{List}
use Prim.Native.Nat.{ℕ, zero, suc, ◌+◌, ◌*◌, ◌/◌, ◌≤◌, ◌<◌}
use native.Mathlib.Omega.{arith}
use lib.IntN.{ℤ, pos, ◌+ℤ◌}
use lib.ListN.{length}
use lib.Signed.{◌≤ℤ◌, ≤ℤ_refl}
use Rattle.integers.specs.Bound.{half}
use Rattle.integers.proofs.Parts.{linear, parts_add, parts_half}
use Rattle.words.specs.Change.{word_at}
use Rattle.places.specs.Numbering.{block_start, place_of_one, place_of_pair, is_one, higher_at, lower_at}
use Rattle.places.proofs.Numbering.{one_below, pair_below, at_lower, at_below}
use Rattle.rules.specs.Limits.{no_rule}
use Rattle.rules.specs.Literal.{negated}
use Rattle.rules.specs.Meaning.{names}
use Rattle.tables.specs.Tables.{has_rule, cleared}
use Rattle.tables.specs.Meaning.{rule_in}
use Rattle.tables.proofs.Tests.{clash, neither}
use Rattle.tables.proofs.Without.{cleared_word}
use Rattle.elimination.specs.Hiding.{every, pair_word, lone_word, bare_below, any_bare, paired, contradicts, eliminated}
use Rattle.elimination.proofs.TermWords.{quantity_cases, pair_apart, pair_first, pair_second, pair_sym, lone_at, pair_at}
use Rattle.elimination.proofs.SumWords.{has_rule_mono, le_trans}
use Rattle.elimination.proofs.PairedWords.{lone_elim, lone_lowered, lone_plus, lone_minus, lone_half, pair_elim, pair_lowered, pair_sum}
use Rattle.elimination.proofs.Step.{paired_length, bare_clear, any_bare_clear}
use Rattle.keys.specs.Keys.{hide_up_to, key_of, refuted_up_to}
use Rattle.keys.proofs.Several.{hide_up_to_length}
use Rattle.tightening.specs.Tightening.{pair_up_to, clash_up_to}
use Rattle.tightening.proofs.Pairing.{pair_room}

-- u is at most t: where t holds a rule, so does u, with a bound at most t's
pub record AtMost (n : ℕ) (u t : List ℤ) : Type 0 where
  pub each : (k : ℕ) → k < block_start n → has_rule (word_at t k) ≡ true → word_at u k ≤ℤ word_at t k

-- ---- by terms

-- so of the term of one literal,
pub most_lone : (n : ℕ) (u t : List ℤ) → AtMost n u t → (x : ℕ) → x < 2 * n → has_rule (lone_word t x) ≡ true → lone_word u x ≤ℤ lone_word t x
most_lone n u t a x h r = a.each (place_of_one x) (one_below n x h) r

-- and of two
pub most_pair : (n : ℕ) (u t : List ℤ) → AtMost n u t → (x y : ℕ) → x < 2 * n → y < 2 * n → has_rule (pair_word t x y) ≡ true → pair_word u x y ≤ℤ pair_word t x y
most_pair n u t a x y h k =
    quantity_cases (has_rule (pair_word t x y) ≡ true → pair_word u x y ≤ℤ pair_word t x y) x y
    (λ e r. absurd (pair_apart t x y r e))
    (λ o. rw (pair_first t x y o, pair_first u x y o) (a.each (place_of_pair x y) (pair_below n x y o k)))
    (λ o. rw (pair_second t y x o, pair_second u y x o) (a.each (place_of_pair y x) (pair_below n y x o h)))

-- and what is so of all terms is so of the tables
terms_most : (n : ℕ) (u t : List ℤ) → ((x : ℕ) → x < 2 * n → has_rule (lone_word t x) ≡ true → lone_word u x ≤ℤ lone_word t x)
    → ((x y : ℕ) → x < 2 * n → y < 2 * n → has_rule (pair_word t x y) ≡ true → pair_word u x y ≤ℤ pair_word t x y)
    → AtMost n u t
terms_most n u t one two = record { each = λ k h. go k h (is_one k) refl }
  where
    go : (k : ℕ) → k < block_start n → (b : Bool) → is_one k ≡ b → has_rule (word_at t k) ≡ true → word_at u k ≤ℤ word_at t k
    go k h true e = rw (lone_at t k e, lone_at u k e) at (one (higher_at k) (at_below n k h))
    go k h false e =
        let g = at_below n k h in
        rw (pair_at t k e, pair_at u k e) at (two (lower_at k) (higher_at k) (omega (arith, at_lower k e)) g)

-- ---- one quantity

-- a word at most a sum, or its half, is at most that of larger bounds
sum_most : (w a b c d : ℤ) → w ≤ℤ (a +ℤ b) → a ≤ℤ c → b ≤ℤ d → w ≤ℤ (c +ℤ d)
sum_most w a b c d h k l = omega (linear, parts_add a b, parts_add c d)

half_most : (w a b c d : ℤ) → w ≤ℤ half (a +ℤ b) → a ≤ℤ c → b ≤ℤ d → w ≤ℤ half (c +ℤ d)
half_most w a b c d h k l = omega (linear, parts_add a b, parts_add c d, parts_half (a +ℤ b), parts_half (c +ℤ d))

module _ (n j : ℕ) (u t : List ℤ) (l : block_start n ≤ length u) (a : AtMost n u t) where
  -- pairing a quantity in the smaller one keeps it smaller,
  lowered_most : AtMost n (paired every n j u) t
  lowered_most =
      terms_most n (paired every n j u) t
      (λ x h r. le_trans (lone_lowered every n j u l x h) (most_lone n u t a x h r))
      (λ x y h k r. le_trans (pair_lowered every n j u l x y h k) (most_pair n u t a x y h k r))

  -- in both likewise: a sum of the larger one's rules is at least that of the smaller one's,
  paired_most : block_start n ≤ length t → j < n → AtMost n (paired every n j u) (paired every n j t)
  paired_most m h = terms_most n (paired every n j u) (paired every n j t) one two
    where
      lone : (x : ℕ) → x < 2 * n → has_rule (lone_word t x) ≡ true → lone_word u x ≤ℤ lone_word t x
      lone = most_lone n u t a

      pair : (x y : ℕ) → x < 2 * n → y < 2 * n → has_rule (pair_word t x y) ≡ true → pair_word u x y ≤ℤ pair_word t x y
      pair = most_pair n u t a

      held_lone : (x : ℕ) → x < 2 * n → has_rule (lone_word t x) ≡ true → has_rule (lone_word u x) ≡ true
      held_lone x b r = has_rule_mono (lone_word u x) (lone_word t x) (lone x b r) r

      held_pair : (x y : ℕ) → x < 2 * n → y < 2 * n → has_rule (pair_word t x y) ≡ true → has_rule (pair_word u x y) ≡ true
      held_pair x y b c r = has_rule_mono (pair_word u x y) (pair_word t x y) (pair x y b c r) r

      plus : 2 * j < 2 * n
      plus = omega arith

      minus : 2 * j + 1 < 2 * n
      minus = omega arith

      one : (x : ℕ) → x < 2 * n → has_rule (lone_word (paired every n j t) x) ≡ true → lone_word (paired every n j u) x ≤ℤ lone_word (paired every n j t) x
      one x b =
          lone_elim every n j t m (λ (w : ℤ). has_rule w ≡ true → lone_word (paired every n j u) x ≤ℤ w) x b
          (λ r. le_trans (lone_lowered every n j u l x b) (lone x b r))
          (λ o d e r. sum_most _ (pair_word u (2 * j) x) (lone_word u (2 * j + 1)) (pair_word t (2 * j) x) (lone_word t (2 * j + 1))
          (lone_plus every n j u l x b o (held_pair (2 * j) x plus b d) (held_lone (2 * j + 1) minus e)) (pair (2 * j) x plus b d) (lone (2 * j + 1) minus e))
          (λ o d e r. sum_most _ (pair_word u (2 * j + 1) x) (lone_word u (2 * j)) (pair_word t (2 * j + 1) x) (lone_word t (2 * j))
          (lone_minus every n j u l x b o (held_pair (2 * j + 1) x minus b d) (held_lone (2 * j) plus e)) (pair (2 * j + 1) x minus b d) (lone (2 * j) plus e))
          (λ o d e r. half_most _ (pair_word u (2 * j) x) (pair_word u (2 * j + 1) x) (pair_word t (2 * j) x) (pair_word t (2 * j + 1) x)
          (lone_half every n j u l x b o (held_pair (2 * j) x plus b d) (held_pair (2 * j + 1) x minus b e)) (pair (2 * j) x plus b d) (pair (2 * j + 1) x minus b e))

      crossed : (x y : ℕ) → x < 2 * n → y < 2 * n → (x / 2 ≡ y / 2 → ⊥) → has_rule (pair_word t (2 * j) x) ≡ true → has_rule (pair_word t (2 * j + 1) y) ≡ true
          → pair_word (paired every n j u) x y ≤ℤ (pair_word t (2 * j) x +ℤ pair_word t (2 * j + 1) y)
      crossed x y b c apart d e =
          sum_most _ (pair_word u (2 * j) x) (pair_word u (2 * j + 1) y) (pair_word t (2 * j) x) (pair_word t (2 * j + 1) y)
          (pair_sum every n j u l x y b c apart refl refl (held_pair (2 * j) x plus b d) (held_pair (2 * j + 1) y minus c e))
          (pair (2 * j) x plus b d) (pair (2 * j + 1) y minus c e)

      two : (x y : ℕ) → x < 2 * n → y < 2 * n → has_rule (pair_word (paired every n j t) x y) ≡ true
          → pair_word (paired every n j u) x y ≤ℤ pair_word (paired every n j t) x y
      two x y b c r =
          let apart = pair_apart (paired every n j t) x y r in
          pair_elim every n j t m (λ (w : ℤ). has_rule w ≡ true → pair_word (paired every n j u) x y ≤ℤ w) x y b c
          (λ s. le_trans (pair_lowered every n j u l x y b c) (pair x y b c s))
          (λ f g d e s. crossed x y b c apart d e)
          (λ f g d e s. rw (pair_sym (paired every n j u) x y) (crossed y x c b (λ q. apart (sym q)) d e))
          r

  -- and it meets every contradiction of the larger one
  contradicts_most : j < n → contradicts every n j u ≡ false → contradicts every n j t ≡ false
  unfolding contradicts
  contradicts_most h c =
      (neither (bare_below (lone_word t (2 * j)) (lone_word t (2 * j + 1))) (any_bare every (pair_word t (2 * j)) (pair_word t (2 * j + 1)) (2 * n))).1 (
        bare (lone_word u (2 * j)) (lone_word u (2 * j + 1)) (lone_word t (2 * j)) (lone_word t (2 * j + 1))
            (most_lone n u t a (2 * j) (omega arith)) (most_lone n u t a (2 * j + 1) (omega arith)) clear.0,
        (any_bare_clear every (pair_word t (2 * j)) (pair_word t (2 * j + 1)) (2 * n)).1
            (λ x f b. bare (pair_word u (2 * j) x) (pair_word u (2 * j + 1) (negated x)) (pair_word t (2 * j) x) (pair_word t (2 * j + 1) (negated x))
            (most_pair n u t a (2 * j) x (omega arith) b) (most_pair n u t a (2 * j + 1) (negated x) (omega arith) (omega arith))
            ((any_bare_clear every (pair_word u (2 * j)) (pair_word u (2 * j + 1)) (2 * n)).0 clear.1 x f b)),
      )
    where
      clear : (bare_below (lone_word u (2 * j)) (lone_word u (2 * j + 1)) ≡ false) × (any_bare every (pair_word u (2 * j)) (pair_word u (2 * j + 1)) (2 * n) ≡ false)
      clear = (neither (bare_below (lone_word u (2 * j)) (lone_word u (2 * j + 1))) (any_bare every (pair_word u (2 * j)) (pair_word u (2 * j + 1)) (2 * n))).0 c

      bare : (p q v w : ℤ) → (has_rule v ≡ true → p ≤ℤ v) → (has_rule w ≡ true → q ≤ℤ w) → bare_below p q ≡ false → bare_below v w ≡ false
      bare p q v w f g e =
          (bare_clear v w).1 (λ r s.
          sum_most (pos 0) p q v w ((bare_clear p q).0 e (has_rule_mono p v (f r) r) (has_rule_mono q w (g s) s)) (f r) (g s))

-- clearing places of the larger one keeps it larger
cleared_most : (n q : ℕ) (u t : List ℤ) → block_start n ≤ length t → AtMost n u t → AtMost n u (cleared n q t)
cleared_most n q u t l a = record { each = λ k h. rw (cleared_word n q t k l h) (go k h (names q (rule_in t k))) }
  where
    go : (k : ℕ) → k < block_start n → (b : Bool) → has_rule (cond b no_rule (word_at t k)) ≡ true → word_at u k ≤ℤ cond b no_rule (word_at t k)
    go k h true r = clash r refl
    go k h false r = a.each k h r

-- ---- one after the other

-- a table paired is at most the table with any quantities hidden
hide_most : (hidden : ℕ → Bool) (n m : ℕ) (t : List ℤ) → m ≤ n → block_start n ≤ length t → AtMost n (pair_up_to n m t) (hide_up_to hidden n m t)
unfolding pair_up_to hide_up_to eliminated
hide_most hidden n zero t h l = record { each = λ k b r. ≤ℤ_refl (word_at t k) }
hide_most hidden n (suc j) t h l = go (hide_most hidden n j t (omega arith) l) (hidden (suc j))
  where
    u : List ℤ
    u = pair_up_to n j t

    v : List ℤ
    v = hide_up_to hidden n j t

    room : block_start n ≤ length u
    room = pair_room n j t l

    go : AtMost n u v → (b : Bool) → AtMost n (paired every n j u) (cond b (cleared n (suc j) (paired every n j v)) v)
    go a true =
        let wide : block_start n ≤ length v = omega (arith, hide_up_to_length hidden n j t) in
        cleared_most n (suc j) (paired every n j u) (paired every n j v) (omega (arith, paired_length every n j v)) (paired_most n j u v room a wide (omega arith))
    go a false = lowered_most n j u v room a

-- and so at most every key
pub key_most : (hidden : ℕ → Bool) (n : ℕ) (t : List ℤ) → block_start n ≤ length t → AtMost n (pair_up_to n n t) (key_of hidden n t)
unfolding key_of
key_most hidden n t l = hide_most hidden n n t (omega arith) l

-- where pairing meets no contradiction, hiding every quantity meets none
pub clear_refuted : (n m : ℕ) (t : List ℤ) → m ≤ n → block_start n ≤ length t → clash_up_to n m t ≡ false → refuted_up_to n m t ≡ false
unfolding clash_up_to refuted_up_to
clear_refuted n zero t h l e = refl
clear_refuted n (suc j) t h l e =
    let p = (neither (clash_up_to n j t) (contradicts every n j (pair_up_to n j t))).0 e in
    (neither (refuted_up_to n j t) (contradicts every n j (hide_up_to every n j t))).1 (
      clear_refuted n j t (omega arith) l p.0,
      contradicts_most n j (pair_up_to n j t) (hide_up_to every n j t) (pair_room n j t l) (hide_most every n j t (omega arith) l) (omega arith) p.1,
    )
