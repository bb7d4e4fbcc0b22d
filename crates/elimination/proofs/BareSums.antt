-- The search of two rows for a bare sum below 0: as far as it has come, where it ends, and what it tells of gathered rows. Assumes nothing.
use mathlib.Core.Path.{◌≡◌, refl, sym}
use mathlib.Core.Bool.{Bool, true, false, ◌||◌}
use mathlib.Core.List.{List}
use Prim.Native.Nat.{ℕ, ◌+◌, ◌*◌, ◌/◌, ◌<◌}
use native.Mathlib.Omega.{arith}
use lib.Dec.{eqb}
use lib.IntN.{ℤ}
use lib.ListN.{length, get_or}
use borrow.Author.Tests.{eqb-true, eqb-false}
use Rattle.std.specs.List.{list_any}
use Rattle.std.proofs.lemmas.List.Elements.{All-from_get_or}
use Rattle.std.proofs.lemmas.List.Folds.{list_any_at, list_any_none}
use Rattle.words.specs.Change.{word_at}
use Rattle.rules.specs.Literal.{negated}
use Rattle.tables.proofs.Tests.{clash, neither}
use Rattle.elimination.specs.Hiding.{pair_word, lone_word, bare_below, any_bare, contradicts}
use Rattle.elimination.specs.Inner.{among, Gathered}
use Rattle.elimination.proofs.Step.{any_bare_clear}
use Rattle.elimination.proofs.Alike.{bare_alike}
use Rattle.elimination.proofs.Lists.{listed_at, listed_place}

-- the negations of a quantity's two literals
negated_plus : (b : ℕ) → negated (2 * b) ≡ 2 * b + 1
negated_plus b = omega arith

negated_minus : (b : ℕ) → negated (2 * b + 1) ≡ 2 * b
negated_minus b = omega arith

-- ---- over a list

-- is a bare sum of quantity a + 1 a contradiction?
abbrev pub bare_of : (ℕ → ℤ) → (ℕ → ℤ) → ℕ → Bool
bare_of plus minus a = bare_below (plus (2 * a)) (minus (2 * a + 1)) || bare_below (plus (2 * a + 1)) (minus (2 * a))

module _ (live : List ℕ) (plus minus : ℕ → ℤ) where
  -- where no listed quantity's is, none is of a literal of one,
  all_clear : (n : ℕ) → ((h : ℕ) → h < length live → bare_of plus minus (get_or live h 0) ≡ false) → any_bare (among live) plus minus n ≡ false
  all_clear n c = (any_bare_clear (among live) plus minus n).1 each
    where
      go : (x h : ℕ) → h < length live → x / 2 ≡ get_or live h 0 → (b : Bool) → eqb x (2 * get_or live h 0) ≡ b → bare_below (plus x) (minus (negated x)) ≡ false
      go x h l e true q = rw (eqb-true x (2 * get_or live h 0) q, negated_plus (get_or live h 0)) ((neither _ _).0 (c h l)).0
      go x h l e false q =
          let d : x ≡ 2 * get_or live h 0 + 1 = omega (arith, eqb-false x (2 * get_or live h 0) q) in rw (d, negated_minus (get_or live h 0)) ((neither _ _).0 (c h l)).1

      each : (x : ℕ) → among live (x / 2) ≡ true → x < n → bare_below (plus x) (minus (negated x)) ≡ false
      each x e l = let s = listed_place live (x / 2) e in go x s.place s.inside (sym s.is) (eqb x (2 * get_or live s.place 0)) refl

  -- and the other way
  clear_of : (n h : ℕ) → h < length live → get_or live h 0 < n → any_bare (among live) plus minus (2 * n) ≡ false → bare_of plus minus (get_or live h 0) ≡ false
  clear_of n h l g e =
      let a = get_or live h 0 in
      let clear = (any_bare_clear (among live) plus minus (2 * n)).0 e in
      let even : 2 * a / 2 ≡ a = omega arith in
      let odd : (2 * a + 1) / 2 ≡ a = omega arith in
      let listed = listed_at live h l in
      (neither _ _).1 (rw (negated_plus a) at (clear (2 * a) (rw even listed) (omega arith)), rw (negated_minus a) at (clear (2 * a + 1) (rw odd listed) (omega arith)))

  -- so a search of the list finds whether one is
  pub any_listed : (n : ℕ) → ((h : ℕ) → h < length live → get_or live h 0 < n) → list_any (bare_of plus minus) live ≡ any_bare (among live) plus minus (2 * n)
  any_listed n below = go (list_any (bare_of plus minus) live) refl (any_bare (among live) plus minus (2 * n)) refl
    where
      missed : list_any (bare_of plus minus) live ≡ false → (h : ℕ) → h < length live → (b : Bool) → bare_of plus minus (get_or live h 0) ≡ b → b ≡ false
      missed e h l true q = clash (list_any_at (bare_of plus minus) live h 0 l q) e
      missed e h l false q = refl

      go : (b : Bool) → list_any (bare_of plus minus) live ≡ b → (c : Bool) → any_bare (among live) plus minus (2 * n) ≡ c → b ≡ c
      go true e true f = refl
      go false e false f = refl
      go true e false f =
          clash e (list_any_none (bare_of plus minus) live (All-from_get_or (λ a. bare_of plus minus a ≡ false) live 0 (λ h l. clear_of n h l (below h l) f)))
      go false e true f = clash f (all_clear (2 * n) (λ h l. missed e h l (bare_of plus minus (get_or live h 0)) refl))

-- ---- of gathered rows

-- gathered rows tell whether a sum of the table is a contradiction
pub contradicts_rows : (n j : ℕ) (live : List ℕ) (t plus minus : List ℤ) (b : Bool) → Gathered n j live t plus minus
    → b ≡ bare_below (lone_word t (2 * j)) (lone_word t (2 * j + 1))
    → (b || any_bare (among live) (word_at plus) (word_at minus) (2 * n)) ≡ contradicts (among live) n j t
unfolding contradicts
contradicts_rows n j live t plus minus b g e =
    rw (
      e,
      bare_alike (among live) n (word_at plus) (word_at minus) (pair_word t (2 * j)) (pair_word t (2 * j + 1)) g.plus_bounds g.minus_bounds (2 * n) (omega arith),
    )
