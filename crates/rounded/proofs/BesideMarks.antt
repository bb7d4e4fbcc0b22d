-- The set hidden in two tables, the rules and beside them the unmarked ones doubled: the sums fit, and the words of both tell the marks of the key. Assumes nothing.
use mathlib.Core.Path.{◌≡◌, refl, sym}
use mathlib.Core.Bool.{Bool, true, false, cond}
use mathlib.Core.List.{List}
use Prim.Native.Nat.{ℕ, zero, suc, ◌+◌, ◌*◌, ◌/◌, ◌≤◌, ◌<◌, ◌^◌}
use native.Mathlib.Omega.{arith}
use lib.Dec.{eqb}
use lib.IntN.{ℤ, pos, ◌+ℤ◌}
use lib.ListN.{length}
use borrow.Author.Tests.{eqb-true, eqb-false}
use Rattle.integers.specs.Bound.{Within}
use Rattle.integers.proofs.Within.{within_mono, within_add}
use Rattle.words.specs.Change.{word_at}
use Rattle.places.specs.Numbering.{block_start, is_one, higher_at}
use Rattle.places.proofs.Numbering.{at_below}
use Rattle.rules.specs.Limits.{no_rule}
use Rattle.rules.specs.Hidden.{hidden_in, member_count}
use Rattle.rules.proofs.Counts.{count_most}
use Rattle.tables.specs.Tables.{has_rule}
use Rattle.tables.specs.Meaning.{WordsWithin}
use Rattle.tables.proofs.Tests.{clash}
use Rattle.elimination.specs.Hiding.{every, live_at, contradicts}
use Rattle.elimination.specs.Magnitude.{add_limit}
use Rattle.marks.specs.Marks.{marked_of}
use Rattle.keys.specs.Keys.{hide_up_to, key_of}
use Rattle.keys.specs.Inner.{SetFits, ContradictionMet}
use Rattle.keys.proofs.Several.{hide_all, hide_up_to_length}
use Rattle.keys.proofs.Fitting.{words_mono, key_within}
use Rattle.keys.proofs.Turning.{not_yet, had_yet}
use Rattle.keys.proofs.KeyCopies.{hide_blank}
use Rattle.rounded.specs.Hiding.{marked_up_to, marked_key}
use Rattle.rounded.specs.Inner.{MarkedFits, beside_mark, Masked}
use Rattle.rounded.proofs.Bounds.{Agrees, Bare, start_agrees, start_bare, start_below, keeps_agrees, keeps_bare}
use Rattle.rounded.proofs.MarkedFits.{marked_room, marked_sums, doubled_sums}
use Rattle.rounded.proofs.Masking.{Beside, beside_masked, beside-mark}
use Rattle.rounded.proofs.BesideStep.{gap_at, AllBeside, AllAdd}
use Rattle.rounded.proofs.BesideKey.{agreed_add, hidden_clear}

-- ---- the sums fit

module _ (n : ℕ) (t : List ℤ) (marks : List ℕ) (f : MarkedFits n t marks) where
  -- the words of the key add
  pub key_adds : (hidden : ℕ → Bool) → WordsWithin (block_start n) add_limit (hide_up_to hidden n n t)
  key_adds hidden =
      rw (hide_all hidden n t)
      (words_mono (block_start n) (f.limit * 2 ^ member_count hidden n) 4611686018427387903 (key_of hidden n t) (omega (arith, marked_room n t marks f (member_count hidden n) (count_most hidden n)))
      (key_within hidden n f.limit t f.room f.within))

  module _ (before v : List ℤ) (room : block_start n ≤ length before) (masked : Masked (block_start n) t marks before v) where
    pub masked_room : block_start n ≤ length v
    masked_room = omega (arith, masked.lent.size)

    -- the unmarked rules doubled are within a limit doubled,
    masked_within : WordsWithin (block_start n) (pos (f.limit + f.limit + 1)) v
    unfolding marked_of
    masked_within = record { each = λ k h g. rw (masked.each k h) (go (word_at t k) (has_rule (word_at t k)) refl (marked_of t marks k).mark (λ r. f.within.each k h (omega (arith, f.room)) r)) }
      where
        go : (w : ℤ) → (b : Bool) → has_rule w ≡ b → (m : Bool) → (has_rule w ≡ true → Within (pos f.limit) w)
            → has_rule (cond b (cond m no_rule (w +ℤ w)) no_rule) ≡ true → Within (pos (f.limit + f.limit + 1)) (cond b (cond m no_rule (w +ℤ w)) no_rule)
        go w true e true h r = clash r refl
        go w true e false h r = within_mono (omega arith) (within_add (h e) (h e))
        go w false e m h r = clash r refl

    -- and their sums fit where some quantity is no member
    pub masked_sums : (members : ℕ → Bool) → member_count members n < n → SetFits members n v
    masked_sums members = doubled_sums n t marks f v members masked_room masked_within

    -- the unmarked rules doubled stand beside all
    pub masked_beside : AllBeside n v (marked_of t marks)
    masked_beside k h = rw (masked.each k h) (beside_masked (gap_at k) (marked_of t marks k))

    -- where the rules meet no contradiction, they meet none
    pub masked_clear : (set : ℕ) → member_count (hidden_in set) n < n → ContradictionMet (hidden_in set) n v → ContradictionMet (hidden_in set) n t
    masked_clear set h c = record { turn = c.turn; inside = c.inside; member = c.member; met = go (contradicts every n c.turn (hide_up_to (hidden_in set) n c.turn t)) refl }
      where
        go : (b : Bool) → contradicts every n c.turn (hide_up_to (hidden_in set) n c.turn t) ≡ b → b ≡ true
        go true e = refl
        go false e =
            clash c.met
            (hidden_clear (hidden_in set) n t v (marked_of t marks) (marked_sums n t marks f (hidden_in set)) (masked_sums (hidden_in set) h) (start_agrees n t marks) masked_beside c.turn c.inside e)

-- ---- the marks told

gap_some : (k : ℕ) → 1 ≤ gap_at k
gap_some k = go (is_one k)
  where
    go : (b : Bool) → 1 ≤ cond b 1 2
    go true = omega arith
    go false = omega arith

-- where all are members no place is left
all_members : (members : ℕ → Bool) (n i : ℕ) → n ≤ member_count members n → i < n → members (suc i) ≡ true
unfolding member_count
all_members members zero i h l = let z : ⊥ = omega arith in absurd z
all_members members (suc j) i h l = go (members (suc j)) refl h (eqb i j) refl (λ p q. all_members members j i p q)
  where
    go : (b : Bool) → members (suc j) ≡ b → suc j ≤ cond b (suc (member_count members j)) (member_count members j) → (c : Bool) → eqb i j ≡ c
        → (j ≤ member_count members j → i < j → members (suc i) ≡ true) → members (suc i) ≡ true
    go true e g true d ih = rw (eqb-true i j d) e
    go true e g false d ih = ih (omega arith) (omega (arith, eqb-false i j d))
    go false e g c d ih = let z : ⊥ = omega (arith, count_most members j) in absurd z

pub all_shut : (members : ℕ → Bool) (n k : ℕ) → n ≤ member_count members n → k < block_start n → live_at (not_yet members n) k ≡ false
unfolding live_at
all_shut members n k h l =
    let g : higher_at k / 2 < n = omega (arith, at_below n k l) in
    rw (had_yet members n (higher_at k / 2) (all_members members n (higher_at k / 2) h g) g)

module _ (n : ℕ) (t : List ℤ) (marks : List ℕ) (f : MarkedFits n t marks) (hidden : ℕ → Bool) where
  -- a word beside the key tells its mark, where the place is not shut
  pub told : (k : ℕ) (v : ℤ) → k < block_start n → (live_at (not_yet hidden n) k ≡ true → Beside (gap_at k) v (marked_up_to hidden n (marked_of t marks) k))
      → beside_mark (word_at (key_of hidden n t) k) v ≡ (marked_key hidden n (marked_of t marks) k).mark
  told k v h b = rw (← hide_all hidden n t) (go (live_at (not_yet hidden n) k) refl)
    where
      same : Agrees n (marked_up_to hidden n (marked_of t marks)) (hide_up_to hidden n n t)
      same = keeps_agrees hidden n n (marked_of t marks) t f.room (omega arith) (start_agrees n t marks)

      bare : Bare n (marked_up_to hidden n (marked_of t marks))
      bare = keeps_bare hidden n n (marked_of t marks) (omega arith) (start_below n t marks f.none_above) (start_bare n t marks)

      adds : AllAdd n (marked_up_to hidden n (marked_of t marks))
      adds = agreed_add n (marked_up_to hidden n (marked_of t marks)) (hide_up_to hidden n n t) (omega (arith, f.room, hide_up_to_length hidden n n t)) (key_adds n t marks f hidden) same

      go : (c : Bool) → live_at (not_yet hidden n) k ≡ c → beside_mark (word_at (hide_up_to hidden n n t) k) v ≡ (marked_up_to hidden n (marked_of t marks) k).mark
      go true e = rw (← same k h) (beside-mark (gap_at k) v (marked_up_to hidden n (marked_of t marks) k) (gap_some k) (adds k h) (bare k h) (b e))
      go false e =
          let z = hide_blank hidden n n t k (omega arith) f.room h e in
          rw z (sym (bare k h (rw (same k h, z))))
