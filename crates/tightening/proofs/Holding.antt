-- Words that never rise: pairing and strengthening put sums in by minimum, so each word of the tightest table is at most the one that stood there; hiding puts in
-- no other word than the no-rule word besides. So words that are at most the no-rule word stay so, whatever the bounds. Assumes nothing.
use mathlib.Core.Path.{◌≡◌, refl}
use mathlib.Core.Bool.{Bool, true, false, cond}
use mathlib.Core.List.{List}
use Prim.Native.Nat.{ℕ, zero, suc, ◌≤◌, ◌<◌}
use native.Mathlib.Omega.{arith}
use lib.IntN.{ℤ, ◌+ℤ◌}
use lib.ListN.{length}
use lib.Signed.{◌≤ℤ◌, ≤ℤ_refl}
use Rattle.words.specs.Change.{word_at}
use Rattle.words.proofs.Change.{change_below}
use Rattle.places.specs.Numbering.{block_start, is_one, higher_at, lower_at}
use Rattle.rules.specs.Limits.{no_rule}
use Rattle.rules.specs.Meaning.{names}
use Rattle.tables.specs.Tables.{has_rule, cleared}
use Rattle.tables.specs.Meaning.{rule_in, NoneAbove}
use Rattle.tables.proofs.Without.{cleared_word}
use Rattle.elimination.specs.Hiding.{every, with_sum, lone_word, on_one, on_two, live_at, pairing, paired, eliminated}
use Rattle.elimination.proofs.SumWords.{le_trans, with_sum_word, with_sum_elim, on_one_word, on_two_word}
use Rattle.elimination.proofs.PairedWords.{paired_at}
use Rattle.elimination.proofs.Step.{paired_length}
use Rattle.keys.specs.Keys.{hide_up_to, key_of}
use Rattle.keys.proofs.Several.{hide_up_to_length}
use Rattle.tightening.specs.Tightening.{pair_up_to, strengthening, strengthened, tightened}
use Rattle.tightening.proofs.Pairing.{pair_room}

-- ---- pairing

-- sums are put in by minimum,
pairing_lowered : (live : ℕ → Bool) (plus minus : ℕ → ℤ) (p m : ℤ) (k : ℕ) (w : ℤ) → pairing live plus minus p m k w ≤ℤ w
unfolding pairing
pairing_lowered live plus minus p m k w = go (live_at live k) (is_one k)
  where
    go : (a b : Bool) → cond a (cond b (on_one plus minus p m (higher_at k) w) (on_two plus minus (lower_at k) (higher_at k) w)) w ≤ℤ w
    go true true = on_one_word plus minus p m (higher_at k) w
    go true false = on_two_word plus minus (lower_at k) (higher_at k) w
    go false b = ≤ℤ_refl w

-- so a step lowers words alone,
paired_lowered : (live : ℕ → Bool) (n j : ℕ) (t : List ℤ) → block_start n ≤ length t → (k : ℕ) → k < block_start n
    → word_at (paired live n j t) k ≤ℤ word_at t k
paired_lowered live n j t l k h = rw (paired_at live n j t l k h) (pairing_lowered live _ _ _ _ k (word_at t k))

-- and so do several
pair_lowered_all : (n m : ℕ) (t : List ℤ) → m ≤ n → block_start n ≤ length t → (k : ℕ) → k < block_start n
    → word_at (pair_up_to n m t) k ≤ℤ word_at t k
unfolding pair_up_to
pair_lowered_all n zero t g l k h = ≤ℤ_refl (word_at t k)
pair_lowered_all n (suc j) t g l k h =
    le_trans (paired_lowered every n j (pair_up_to n j t) (pair_room n j t l) k h) (pair_lowered_all n j t (omega arith) l k h)

-- ---- strengthening

-- each word is changed by itself
pub strengthened_at : (n : ℕ) (t : List ℤ) (k : ℕ) → block_start n ≤ length t → k < block_start n → word_at (strengthened n t) k ≡ strengthening t k (word_at t k)
unfolding strengthened
strengthened_at n t k l h = change_below (block_start n) (strengthening t) t k h (omega arith)

-- a word has every property that it had and, of two literals, the sum of their bounds alone has,
pub strengthened_elim : (P : ℤ → Type 0) (n : ℕ) (t : List ℤ) (k : ℕ) → block_start n ≤ length t → k < block_start n → P (word_at t k)
    → (is_one k ≡ false → has_rule (lone_word t (lower_at k)) ≡ true → has_rule (lone_word t (higher_at k)) ≡ true
    → P (lone_word t (lower_at k) +ℤ lone_word t (higher_at k)))
    → P (word_at (strengthened n t) k)
unfolding strengthening
strengthened_elim P n t k l h w sum = rw (strengthened_at n t k l h) (go (is_one k) refl)
  where
    go : (b : Bool) → is_one k ≡ b → P (cond b (word_at t k) (with_sum (lone_word t (lower_at k)) (lone_word t (higher_at k)) (word_at t k)))
    go true e = w
    go false e = with_sum_elim P (lone_word t (lower_at k)) (lone_word t (higher_at k)) (word_at t k) w (sum e)

-- and is at most what it was
strengthened_lowered : (n : ℕ) (t : List ℤ) → block_start n ≤ length t → (k : ℕ) → k < block_start n → word_at (strengthened n t) k ≤ℤ word_at t k
unfolding strengthening
strengthened_lowered n t l k h = rw (strengthened_at n t k l h) (go (is_one k))
  where
    go : (b : Bool) → cond b (word_at t k) (with_sum (lone_word t (lower_at k)) (lone_word t (higher_at k)) (word_at t k)) ≤ℤ word_at t k
    go true = ≤ℤ_refl (word_at t k)
    go false = with_sum_word (lone_word t (lower_at k)) (lone_word t (higher_at k)) (word_at t k)

-- ---- the tightest table

pub tightened_lowered : (n : ℕ) (t : List ℤ) → block_start n ≤ length t → (k : ℕ) → k < block_start n → word_at (tightened n t) k ≤ℤ word_at t k
unfolding tightened
tightened_lowered n t l k h =
    le_trans (strengthened_lowered n (pair_up_to n n t) (pair_room n n t l) k h) (pair_lowered_all n n t (omega arith) l k h)

-- so no word rises above the no-rule word
pub tightened_words : (n : ℕ) (t : List ℤ) → block_start n ≤ length t → NoneAbove (block_start n) t → NoneAbove (block_start n) (tightened n t)
tightened_words n t l w k h = le_trans (tightened_lowered n t l k h) (w k h)

-- ---- the key

-- a cleared place gets the no-rule word itself,
cleared_words : (n q : ℕ) (t : List ℤ) → block_start n ≤ length t → NoneAbove (block_start n) t → NoneAbove (block_start n) (cleared n q t)
cleared_words n q t l w k h = rw (cleared_word n q t k l h) (go (names q (rule_in t k)))
  where
    go : (b : Bool) → cond b no_rule (word_at t k) ≤ℤ no_rule
    go true = ≤ℤ_refl no_rule
    go false = w k h

-- so hiding one quantity raises none above it,
eliminated_words : (n j : ℕ) (t : List ℤ) → block_start n ≤ length t → NoneAbove (block_start n) t → NoneAbove (block_start n) (eliminated n j t)
unfolding eliminated
eliminated_words n j t l w =
    cleared_words n (suc j) (paired every n j t) (omega (arith, paired_length every n j t)) (λ k h. le_trans (paired_lowered every n j t l k h) (w k h))

-- nor do several,
hidden_words : (hidden : ℕ → Bool) (n m : ℕ) (t : List ℤ) → block_start n ≤ length t → NoneAbove (block_start n) t
    → NoneAbove (block_start n) (hide_up_to hidden n m t)
unfolding hide_up_to
hidden_words hidden n zero t l w = w
hidden_words hidden n (suc j) t l w = go (hidden (suc j)) (hidden_words hidden n j t l w)
  where
    u : List ℤ
    u = hide_up_to hidden n j t

    go : (b : Bool) → NoneAbove (block_start n) u → NoneAbove (block_start n) (cond b (eliminated n j u) u)
    go true ih = eliminated_words n j u (omega (arith, hide_up_to_length hidden n j t)) ih
    go false ih = ih

-- nor the key
pub key_words : (hidden : ℕ → Bool) (n : ℕ) (t : List ℤ) → block_start n ≤ length t → NoneAbove (block_start n) t → NoneAbove (block_start n) (key_of hidden n t)
unfolding key_of
key_words hidden n t l w = hidden_words hidden n n t l w
