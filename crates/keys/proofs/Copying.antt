-- A copy of a table means the same and fits alike, and so do the tables that steps make of both. Assumes nothing.
use mathlib.Core.Path.{◌≡◌, refl, sym, ◌∙◌, ap}
use mathlib.Core.Bool.{Bool, true, false, cond}
use mathlib.Core.List.{List}
use Prim.Native.Nat.{ℕ, zero, suc, ◌+◌, ◌*◌, ◌≤◌, ◌<◌}
use native.Mathlib.Omega.{arith}
use lib.IntN.{ℤ, pos}
use lib.ListN.{length, take, length-take}
use lib.Seq.{length-take-le, get_or-take, ext_get_or}
use borrow.Author.Tests.{lt-ltb}
use Rattle.words.specs.Change.{word_at, change, copying}
use Rattle.words.proofs.Change.{change_length, change_below}
use Rattle.places.specs.Numbering.{block_start, place_of_one, place_of_pair}
use Rattle.places.proofs.Numbering.{one_below, pair_below}
use Rattle.rules.specs.Meaning.{Assignment}
use Rattle.tables.specs.Tables.{clearing, cleared}
use Rattle.tables.specs.Meaning.{HoldsRule, Satisfies, WordsWithin}
use Rattle.tables.proofs.Without.{cleared_word}
use Rattle.elimination.specs.Hiding.{every, pair_word, lone_word, paired, contradicts, eliminated}
use Rattle.elimination.specs.Magnitude.{Unnamed}
use Rattle.elimination.proofs.TermWords.{quantity_cases, pair_same, pair_first, pair_second}
use Rattle.elimination.proofs.Step.{paired_length}
use Rattle.elimination.proofs.Alike.{alike_word, alike_contradicts}
use Rattle.keys.specs.declared.live.Part.{Part}
use Rattle.keys.specs.Keys.{hide_up_to, key_of}
use Rattle.keys.specs.Inner.{member_of, SetFits, Fits, PartFits, turn_at, AtTurns}
use Rattle.keys.proofs.Parts.{front_word}
use Rattle.keys.proofs.Turning.{turn_most}

-- two tables over n quantities hold the same words
pub record SameTable (n : ℕ) (t u : List ℤ) : Type 0 where
  pub mine : block_start n ≤ length t
  pub theirs : block_start n ≤ length u
  pub words : (k : ℕ) → k < block_start n → word_at u k ≡ word_at t k

pub same_back : (n : ℕ) (t u : List ℤ) → SameTable n t u → SameTable n u t
same_back n t u s = record { mine = s.theirs; theirs = s.mine; words = λ k h. sym (s.words k h) }

-- lists with the same first words do, and lists that do have the same first words
pub front_same : (n : ℕ) (t u : List ℤ) → block_start n ≤ length t → take (block_start n) u ≡ take (block_start n) t → SameTable n t u
front_same n t u l e = record {
  mine = l;
  theirs = omega (arith, length-take (block_start n) u, ap length e, length-take (block_start n) t);
  words = front_word (block_start n) t u e;
}

pub same_front : (n : ℕ) (t u : List ℤ) → SameTable n t u → take (block_start n) u ≡ take (block_start n) t
same_front n t u s = ext_get_or (pos 0) (take (block_start n) u) (take (block_start n) t) (omega (arith, mine, theirs)) each
  where
    mine : length (take (block_start n) t) ≡ block_start n
    mine = length-take-le (block_start n) t s.mine

    theirs : length (take (block_start n) u) ≡ block_start n
    theirs = length-take-le (block_start n) u s.theirs

    each : (k : ℕ) → k < length (take (block_start n) u) → word_at (take (block_start n) u) k ≡ word_at (take (block_start n) t) k
    each k h =
        let b : k < block_start n = omega (arith, theirs) in
        get_or-take (block_start n) u k (pos 0) b ∙ s.words k b ∙ sym (get_or-take (block_start n) t k (pos 0) b)

-- a copy
pub copied : (n : ℕ) (t w : List ℤ) → block_start n ≤ length t → block_start n ≤ length w → SameTable n t (change (block_start n) (copying t) w)
copied n t w l h = record {
  mine = l;
  theirs = omega (arith, change_length (block_start n) (copying t) w);
  words = λ k g. change_below (block_start n) (copying t) w k g (omega arith) ∙ rw (lt-ltb k (length t) (omega arith));
}

pub holds_same : (n : ℕ) (t u : List ℤ) (k : ℕ) → SameTable n t u → HoldsRule n u k → HoldsRule n t k
holds_same n t u k s p = record { inside = p.inside; there = omega (arith, p.inside, s.mine); rule = rw (s.words k p.inside) at p.rule }

pub same_satisfies : (n : ℕ) (t u : List ℤ) (σ : Assignment) → SameTable n t u → Satisfies n t σ → Satisfies n u σ
same_satisfies n t u σ s m = record { each = λ k p. rw (s.words k p.inside) (m.each k (holds_same n t u k s p)) }

pub same_within : (n B : ℕ) (t u : List ℤ) → SameTable n t u → WordsWithin (block_start n) (pos B) t → WordsWithin (block_start n) (pos B) u
same_within n B t u s w = record { each = λ k a b r. rw (s.words k a) (w.each k a (omega (arith, s.mine)) (rw (s.words k a) at r)) }

pub same_unnamed : (n j : ℕ) (t u : List ℤ) → SameTable n t u → Unnamed n j t → Unnamed n j u
same_unnamed n j t u s v = record { each = λ k p. rw (s.words k p.inside) (v.each k (holds_same n t u k s p)) }

pub same_sums : (members : ℕ → Bool) (n : ℕ) (t u : List ℤ) → SameTable n t u → SetFits members n t → SetFits members n u
same_sums members n t u s f = record { most = f.most; room = s.theirs; limit = f.limit; within = same_within n f.limit t u s f.within; last = f.last }

pub same_fits : (n : ℕ) (t u : List ℤ) → SameTable n t u → Fits n t → Fits n u
same_fits n t u s f =
    record { members = f.members; sums = same_sums f.members n t u s f.sums; rest = λ j h e. same_unnamed n j t u s (f.rest j h e) }

pub same_part : (n set : ℕ) (part : Part) (t u : List ℤ) → SameTable n t u → PartFits n set part t → PartFits n set part u
same_part n set part t u s f = record { sums = same_sums (member_of set part) n t u s f.sums; alone = λ i h e. same_unnamed n i t u s (f.alone i h e) }

-- within the same limit
pub part_limit : (n set : ℕ) (part : Part) (t u : List ℤ) (s : SameTable n t u) (f : PartFits n set part t) → (same_part n set part t u s f).sums.limit ≡ f.sums.limit
unfolding same_part same_sums
part_limit n set part t u s f = refl

-- ---- steps on both

module _ (n : ℕ) (t u : List ℤ) (s : SameTable n t u) where
  -- a literal has the same bound alone
  pub same_lone : (z : ℕ) → z < 2 * n → lone_word u z ≡ lone_word t z
  same_lone z h = s.words (place_of_one z) (one_below n z h)

  -- and with another
  pub same_pair : (z x : ℕ) → z < 2 * n → x < 2 * n → pair_word u z x ≡ pair_word t z x
  same_pair z x h g =
      quantity_cases (pair_word u z x ≡ pair_word t z x) z x
      (λ e. pair_same u z x e ∙ sym (pair_same t z x e))
      (λ o. pair_first u z x o ∙ s.words (place_of_pair z x) (pair_below n z x o g) ∙ sym (pair_first t z x o))
      (λ o. pair_second u x z o ∙ s.words (place_of_pair x z) (pair_below n x z o h) ∙ sym (pair_second t x z o))

  -- so the same sums are put in,
  pub same_paired : (live : ℕ → Bool) (j : ℕ) → j < n → SameTable n (paired live n j t) (paired live n j u)
  same_paired live j h = record {
    mine = omega (arith, paired_length live n j t, s.mine);
    theirs = omega (arith, paired_length live n j u, s.theirs);
    words = λ k g. alike_word live n j t u s.mine s.theirs k g (s.words k g)
        (λ x b a. same_pair (2 * j) x (omega arith) b) (λ x b a. same_pair (2 * j + 1) x (omega arith) b)
        (same_lone (2 * j) (omega arith)) (same_lone (2 * j + 1) (omega arith));
  }

  -- the same contradictions are met,
  pub same_contradicts : (live : ℕ → Bool) (j : ℕ) → j < n → contradicts live n j u ≡ contradicts live n j t
  same_contradicts live j h =
      alike_contradicts live n j t u
      (λ x b a. same_pair (2 * j) x (omega arith) b) (λ x b a. same_pair (2 * j + 1) x (omega arith) b)
      (same_lone (2 * j) (omega arith)) (same_lone (2 * j + 1) (omega arith))

  -- and the same places cleared
  same_cleared : (q : ℕ) → SameTable n (cleared n q t) (cleared n q u)
  unfolding cleared
  same_cleared q = record {
    mine = omega (arith, change_length (block_start n) (clearing q) t, s.mine);
    theirs = omega (arith, change_length (block_start n) (clearing q) u, s.theirs);
    words = λ k g. cleared_word n q u k s.theirs g ∙ ap (clearing q k) (s.words k g) ∙ sym (cleared_word n q t k s.mine g);
  }

-- hidden quantities of the first m hidden in both
pub same_hidden : (hidden : ℕ → Bool) (n m : ℕ) (t u : List ℤ) → m ≤ n → SameTable n t u → SameTable n (hide_up_to hidden n m t) (hide_up_to hidden n m u)
unfolding hide_up_to eliminated
same_hidden hidden n zero t u h s = s
same_hidden hidden n (suc j) t u h s = go (hidden (suc j)) (same_hidden hidden n j t u (omega arith) s)
  where
    a : List ℤ
    a = hide_up_to hidden n j t

    b : List ℤ
    b = hide_up_to hidden n j u

    go : (c : Bool) → SameTable n a b
        → SameTable n (cond c (cleared n (suc j) (paired every n j a)) a) (cond c (cleared n (suc j) (paired every n j b)) b)
    go true r = same_cleared n (paired every n j a) (paired every n j b) (same_paired n a b r every j (omega arith)) (suc j)
    go false r = r

pub same_key : (hidden : ℕ → Bool) (n : ℕ) (t u : List ℤ) → SameTable n t u → SameTable n (key_of hidden n t) (key_of hidden n u)
unfolding key_of
same_key hidden n t u s = same_hidden hidden n n t u (omega arith) s

-- so members eliminated in one are eliminated in the other
pub same_turns : (members : ℕ → Bool) (n : ℕ) (t u v : List ℤ) → SameTable n t u → AtTurns members n n u v → AtTurns members n n t v
same_turns members n t u v s a = record {
  words = λ k g. a.words k g ∙ (same_hidden members n (turn_at members n k) t u (turn_most members n k) s).words k g;
  clear = λ j h e. sym (same_contradicts n (hide_up_to members n j t) (hide_up_to members n j u) (same_hidden members n j t u (omega arith) s) every j h) ∙ a.clear j h e;
}
