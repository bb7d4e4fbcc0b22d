-- A table whose rules name visible quantities alone holds at most 2v² of them, v of its n quantities being visible: a place that names a hidden one is empty, and that
-- is all of a hidden quantity's block and four places of each block after it. Assumes nothing.
use mathlib.Core.Path.{◌≡◌, refl, ◌∙◌}
use mathlib.Core.Bool.{Bool, true, false, cond}
use mathlib.Core.List.{List}
use Prim.Native.Nat.{ℕ, zero, suc, ◌+◌, ◌-◌, ◌*◌, ◌≤◌, ◌<◌}
use native.Mathlib.Nat.{add-zero, add-suc}
use native.Mathlib.Omega.{arith}
use lib.IntN.{ℤ}
use lib.ListN.{length, take}
use Rattle.words.specs.Change.{word_at}
use Rattle.places.specs.Numbering.{block_start, offset_of}
use Rattle.places.proofs.Numbering.{block_start_mono, block_start_suc, block_unique, offset_unique}
use Rattle.rules.specs.Hidden.{member_count}
use Rattle.rules.specs.Meaning.{names}
use Rattle.rules.proofs.Counts.{count_most}
use Rattle.tables.specs.Tables.{has_rule}
use Rattle.tables.specs.Meaning.{rule_in, NamesVisible}
use Rattle.tables.proofs.Places.{own_named, four_named}
use Rattle.tables.proofs.Tests.{clash}
use Rattle.writing.specs.Writing.{rules_at, table_rules}
use Rattle.writing.proofs.Texts.{count_more, count_none}

-- the visible ones of the first m quantities
abbrev pub visible_count : (ℕ → Bool) → ℕ → ℕ
visible_count hidden m = m - member_count hidden m

-- with one more
visible_more : (hidden : ℕ → Bool) (j : ℕ) → visible_count hidden (suc j) ≡ cond (hidden (suc j)) (visible_count hidden j) (suc (visible_count hidden j))
unfolding member_count
visible_more hidden j = go (hidden (suc j))
  where
    go : (b : Bool) → suc j - cond b (suc (member_count hidden j)) (member_count hidden j) ≡ cond b (visible_count hidden j) (suc (visible_count hidden j))
    go true = omega arith
    go false = omega (arith, count_most hidden j)

module _ (hidden : ℕ → Bool) (n : ℕ) (t : List ℤ) (room : block_start n ≤ length t) (visible : NamesVisible n hidden t) where
  -- the rules of the first k places
  abbrev counted : ℕ → ℕ
  counted k = length (rules_at 0 (take k t))

  -- ---- some places more

  -- each holds one at most
  more_any : (a m : ℕ) → a + m ≤ block_start n → counted (a + m) ≤ counted a + m
  more_any a zero h = rw (add-zero a) (omega arith)
  more_any a (suc m) h = rw (add-suc a m)
      (omega (arith, count_more (a + m) t (omega arith), one_at_most (has_rule (word_at t (a + m))), more_any a m (omega arith)))
    where
      one_at_most : (b : Bool) → cond b 1 0 ≤ 1
      one_at_most true = omega arith
      one_at_most false = omega arith

  -- and empty ones none
  more_none : (a m : ℕ) → a + m ≤ block_start n → ((i : ℕ) → i < m → has_rule (word_at t (a + i)) ≡ false) → counted (a + m) ≡ counted a
  more_none a zero h f = rw (add-zero a)
  more_none a (suc m) h f =
      let same : counted (suc (a + m)) ≡ counted (a + m) = rw (f m (omega arith)) at (count_more (a + m) t (omega arith)) ∙ omega arith in
      rw (add-suc a m) (same ∙ more_none a m (omega arith) (λ i l. f i (omega arith)))

  -- a place that names a hidden quantity is empty
  named_empty : (q k : ℕ) → hidden q ≡ true → k < block_start n → names q (rule_in t k) ≡ true → has_rule (word_at t k) ≡ false
  named_empty q k h l e = go (has_rule (word_at t k)) refl
    where
      go : (b : Bool) → has_rule (word_at t k) ≡ b → b ≡ false
      go true r = clash h (visible.each k (record { inside = l; there = omega arith; rule = r }) q e)
      go false r = refl

  -- ---- block by block

  -- the block of quantity j + 1 up to the places of its first p lower quantities: two rules of its own, and four for each visible one
  lower : (j p : ℕ) → j < n → p ≤ j → counted (block_start j + 2 + 4 * p) ≤ counted (block_start j) + 2 + 4 * visible_count hidden p
  lower j zero h l =
      let e : block_start j + 2 + 4 * 0 ≡ block_start j + 2 = omega arith in
      rw e (omega (arith, more_any (block_start j) 2 (omega (arith, block_start_suc j, block_start_mono {a = suc j} {b = n} h))))
  lower j (suc p) h l = rw (e, visible_more hidden p) (go (lower j p h (omega arith)) (hidden (suc p)) refl)
    where
      from : ℕ
      from = block_start j + 2 + 4 * p

      e : block_start j + 2 + 4 * suc p ≡ from + 4
      e = omega arith

      inside : from + 4 ≤ block_start n
      inside = omega (arith, block_start_suc j, block_start_mono {a = suc j} {b = n} h)

      offset : (i : ℕ) → i < 4 → offset_of (from + i) ≡ 2 + 4 * p + i
      offset i b =
          let g : from + i ≡ block_start j + (2 + 4 * p + i) = omega arith in
          rw g (offset_unique j (2 + 4 * p + i) (omega arith))

      go : counted from ≤ counted (block_start j) + 2 + 4 * visible_count hidden p → (b : Bool) → hidden (suc p) ≡ b
          → counted (from + 4) ≤ counted (block_start j) + 2 + 4 * cond b (visible_count hidden p) (suc (visible_count hidden p))
      go ih true d =
          let none = more_none from 4 inside (λ i b. named_empty (suc p) (from + i) d (omega (arith, inside))
          (four_named p (from + i) (word_at t (from + i)) (omega (arith, offset i b)) (omega (arith, offset i b)))) in
          omega arith
      go ih false d = omega (arith, more_any from 4 inside)

  -- all blocks before that of quantity j + 1
  blocks_none : counted (block_start 0) ≤ block_start (visible_count hidden 0)
  unfolding block_start member_count
  blocks_none = omega (arith, count_none t)

  blocks : (j : ℕ) → j ≤ n → counted (block_start j) ≤ block_start (visible_count hidden j)
  blocks zero h = blocks_none
  blocks (suc j) h = rw (visible_more hidden j) (go (blocks j (omega arith)) (hidden (suc j)) refl)
    where
      size : block_start (suc j) ≡ block_start j + (4 * j + 2)
      size = omega (arith, block_start_suc j)

      inside : block_start j + (4 * j + 2) ≤ block_start n
      inside = omega (arith, size, block_start_mono {a = suc j} {b = n} h)

      go : counted (block_start j) ≤ block_start (visible_count hidden j) → (b : Bool) → hidden (suc j) ≡ b
          → counted (block_start (suc j)) ≤ block_start (cond b (visible_count hidden j) (suc (visible_count hidden j)))
      go ih true d =
          let none = more_none (block_start j) (4 * j + 2) inside (λ i b. named_empty (suc j) (block_start j + i) d (omega (arith, inside))
          (own_named j (block_start j + i) (word_at t (block_start j + i)) (block_unique j (block_start j + i) (omega arith) (omega (arith, size))))) in
          rw size (omega arith)
      go ih false d =
          let own : block_start (suc j) ≡ block_start j + 2 + 4 * j = omega (arith, size) in
          rw own (omega (arith, lower j j (omega arith) (omega arith), block_start_suc (visible_count hidden j)))

  -- a table that names visible quantities alone holds at most 2v² rules
  pub rules_visible : length (table_rules n t) ≤ block_start (visible_count hidden n)
  rules_visible = blocks n (omega arith)
