-- Sums fit in a table that names visible quantities alone and has bounds as large as a key's, for any n and limit B of a sheet with (B + 1) * 2 ^ n below 2 ^ 62. Assumes nothing.
use mathlib.Core.Path.{◌≡◌, refl, ◌∙◌}
use mathlib.Core.Bool.{Bool, true, false, cond, not, ◌&&◌}
use mathlib.Core.List.{List}
use Prim.Native.Nat.{ℕ, zero, suc, ◌+◌, ◌-◌, ◌*◌, ◌≤◌, ◌<◌, ◌^◌}
use native.Mathlib.Nat.{add-mul, mul_assoc, mul-le-mul}
use native.Mathlib.Omega.{arith}
use lib.Dec.{leb}
use lib.IntN.{ℤ, pos}
use lib.ListN.{length}
use lib.Pow.{pow_mono, pow-add, pow_pos}
use borrow.Author.Tests.{le-leb}
use Rattle.places.specs.Numbering.{block_start}
use Rattle.rules.specs.declared.paper.Paper.TheVariants.{Sheet}
use Rattle.rules.specs.Hidden.{hidden_in, member_count}
use Rattle.rules.specs.Limits.{max_quantities, bound_limit}
use Rattle.rules.specs.Meaning.{names}
use Rattle.tables.specs.Meaning.{HoldsRule, rule_in, NamesVisible, WordsWithin, BoundsWithin}
use Rattle.tables.proofs.Tests.{clash}
use Rattle.elimination.specs.Magnitude.{Unnamed}
use Rattle.keys.specs.Keys.{key_of}
use Rattle.keys.specs.Inner.{outside, RestFits}
use Rattle.keys.proofs.Several.{key_visible, key_length}
use Rattle.keys.proofs.Fitting.{key_within, limit_doubled}

-- ---- a table that names visible quantities alone

-- hidden and visible quantities together are all
pub count_both : (hidden : ℕ → Bool) (n : ℕ) → member_count hidden n + member_count (λ q. not (hidden q)) n ≡ n
unfolding member_count
count_both hidden zero = refl
count_both hidden (suc j) = go (count_both hidden j) (hidden (suc j))
  where
    v : ℕ
    v = member_count (λ q. not (hidden q)) j

    go : member_count hidden j + v ≡ j → (b : Bool) → cond b (suc (member_count hidden j)) (member_count hidden j) + cond (not b) (suc v) v ≡ suc j
    go ih true = omega arith
    go ih false = omega arith

-- no rule names a hidden quantity
pub visible_unnamed : (hidden : ℕ → Bool) (n j : ℕ) (t : List ℤ) → NamesVisible n hidden t → hidden (suc j) ≡ true → Unnamed n j t
visible_unnamed hidden n j t v h = record { each = λ k p. go k p (names (suc j) (rule_in t k)) refl }
  where
    go : (k : ℕ) → HoldsRule n t k → (b : Bool) → names (suc j) (rule_in t k) ≡ b → b ≡ false
    go k p true e = clash h (v.each k p (suc j) e)
    go k p false e = refl

-- sums fit in a table within L whose hidden quantities no rule names, where L, doubled for each visible quantity, stays below 2 ^ 62
pub visible_rest : (n set L : ℕ) (t : List ℤ) → n ≤ max_quantities → block_start n ≤ length t → WordsWithin (block_start n) (pos L) t
    → ((j : ℕ) → hidden_in set (suc j) ≡ true → Unnamed n j t) → L * 2 ^ member_count (outside set) n < 2 ^ 62 → RestFits n set t
visible_rest n set L t m l w u h = record {
  sums = record { most = m; room = l; limit = L; within = w; last = h };
  alone = λ i g e. go i (hidden_in set (suc i)) refl (leb 0 i) refl e;
}
  where
    go : (i : ℕ) → (b : Bool) → hidden_in set (suc i) ≡ b → (c : Bool) → leb 0 i ≡ c → (c && not b) ≡ false → Unnamed n i t
    go i true e c f d = u i e
    go i false e true f d = clash refl d
    go i false e false f d = clash (le-leb 0 i (omega arith)) f

pub visible_limit : (n set L : ℕ) (t : List ℤ) (m : n ≤ max_quantities) (l : block_start n ≤ length t) (w : WordsWithin (block_start n) (pos L) t)
    (u : (j : ℕ) → hidden_in set (suc j) ≡ true → Unnamed n j t) (h : L * 2 ^ member_count (outside set) n < 2 ^ 62)
    → (visible_rest n set L t m l w u h).sums.limit ≡ L
unfolding visible_rest
visible_limit n set L t m l w u h = refl

-- ---- the limit of a key

-- every bound of the key of a sheet within B is within this
abbrev pub key_limit : ℕ → ℕ → ℕ → ℕ
key_limit n set B = B * 2 ^ member_count (hidden_in set) n

-- one more than that, doubled for each visible quantity, is B doubled for every one and 1 for each visible one
key_doubled : (B k v : ℕ) → (B * 2 ^ k + 1) * 2 ^ v ≡ B * 2 ^ (k + v) + 2 ^ v
key_doubled B k v =
    let whole : B * 2 ^ k * 2 ^ v ≡ B * 2 ^ (k + v) = mul_assoc B (2 ^ k) (2 ^ v) ∙ rw (pow-add 2 k v) in
    rw (add-mul (B * 2 ^ k) 1 (2 ^ v), whole) (omega arith)

module _ (n set B : ℕ) (h : (B + 1) * 2 ^ n < 2 ^ 62) where
  whole : (key_limit n set B + 1) * 2 ^ member_count (outside set) n ≡ B * 2 ^ n + 2 ^ member_count (outside set) n
  whole = rw (count_both (hidden_in set) n) at (key_doubled B (member_count (hidden_in set) n) (member_count (outside set) n))

  visible_most : 2 ^ member_count (outside set) n ≤ 2 ^ n
  visible_most = pow_mono {i = member_count (outside set) n} {j = n} (omega (arith, count_both (hidden_in set) n))

  -- so it is below 2 ^ 62,
  pub key_fits : (key_limit n set B + 1) * 2 ^ member_count (outside set) n < 2 ^ 62
  key_fits = omega (arith, whole, visible_most, h, add-mul B 1 (2 ^ n))

  -- itself a word's,
  pub key_word : key_limit n set B + 1 < 9223372036854775807
  key_word =
      let one : key_limit n set B + 1 ≤ key_limit n set B + 1 = omega arith in
      omega (arith, key_fits, mul-le-mul one (pow_pos (member_count (outside set) n)))

  -- and the values that break a rule of the key's size and complete the sheet are in their range: B * 2 ^ n - B + 2 ^ v - 1 at most, with v visible quantities
  pub values_small : ((key_limit n set B + 1) * 2 ^ member_count (outside set) n - (key_limit n set B + 1)) + (B * 2 ^ member_count (hidden_in set) n - B) < 2 ^ 62
  values_small =
      let one : key_limit n set B + 1 ≤ key_limit n set B + 1 = omega arith in
      omega (arith, whole, visible_most, h, add-mul B 1 (2 ^ n), mul-le-mul one (pow_pos (member_count (outside set) n)))

-- ---- a table like a key

-- a table like a key of a sheet within B: its bounds are within the limit of one, and its rules name visible quantities alone
pub record LikeKey (n set B : ℕ) (t : List ℤ) : Type 0 where
  pub room : block_start n ≤ length t
  pub within : WordsWithin (block_start n) (pos (key_limit n set B)) t
  pub visible : NamesVisible n (hidden_in set) t

-- sums fit in it
pub like_rest : (n set B : ℕ) (t : List ℤ) → (B + 1) * 2 ^ n < 2 ^ 62 → n ≤ max_quantities → LikeKey n set B t → RestFits n set t
like_rest n set B t h m r =
    visible_rest n set (key_limit n set B) t m r.room r.within (λ j g. visible_unnamed (hidden_in set) n j t r.visible g)
    (let one : key_limit n set B ≤ key_limit n set B + 1 = omega arith in
    let same : 2 ^ member_count (outside set) n ≤ 2 ^ member_count (outside set) n = omega arith in omega (arith, key_fits n set B h, mul-le-mul one same))

-- the key of a sheet is
pub key_like : (n set B : ℕ) (t : List ℤ) → block_start n ≤ length t → WordsWithin (block_start n) (pos B) t → LikeKey n set B (key_of (hidden_in set) n t)
key_like n set B t l w = record {
  room = omega (arith, key_length (hidden_in set) n t);
  within = key_within (hidden_in set) n B t l w;
  visible = key_visible (hidden_in set) n t l;
}

-- so sums fit in it
pub key_rest : (n set : ℕ) (t : List ℤ) → n ≤ max_quantities → block_start n ≤ length t → BoundsWithin Sheet n set t → RestFits n set (key_of (hidden_in set) n t)
key_rest n set t m l w = like_rest n set (bound_limit Sheet n set) (key_of (hidden_in set) n t) (limit_doubled n set m) m (key_like n set (bound_limit Sheet n set) t l w)
