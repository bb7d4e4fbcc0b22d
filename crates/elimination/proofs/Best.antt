-- The least of the bounds that a row leaves, as far as a list of live quantities is passed: by none, by one more. Assumes nothing.
use mathlib.Core.Path.{◌≡◌, refl, sym, ◌∙◌, ap}
use mathlib.Core.Bool.{Bool, true, false}
use mathlib.Core.List.{List}
use Prim.Native.Nat.{ℕ, suc, ◌+◌, ◌-◌, ◌*◌, ◌/◌, ◌≤◌, ◌<◌}
use native.Mathlib.Numerals.{add-one}
use native.Mathlib.Omega.{arith}
use lib.Dec.{ltb}
use lib.IntN.{ℤ, pos}
use lib.ListN.{length, get_or}
use borrow.Author.Tests.{ltb-true, ltb-false}
use Rattle.elimination.specs.Choosing.{with_upper, bounded_by}
use Rattle.elimination.specs.Inner.{among, Rising}
use Rattle.elimination.proofs.Lists.{listed_at, unlisted, rising_above}
use Rattle.elimination.proofs.Projection.{bounded_none, bounded_more, bounded_over}

-- the first i listed quantities are below s, and the others are not
pub record Between (live : List ℕ) (i s : ℕ) : Type 0 where
  pub before : (h : ℕ) → h < i → get_or live h 0 < s
  pub after : (h : ℕ) → i ≤ h → h < length live → s ≤ get_or live h 0

-- the next one is between those passed and the others
between_next : (live : List ℕ) (i : ℕ) → Rising live → i < length live → Between live i (get_or live i 0)
between_next live i r l = record { before = λ h k. rising_above live r h i k l; after = λ h k m. go h k m (ltb i h) refl }
  where
    go : (h : ℕ) → i ≤ h → h < length live → (b : Bool) → ltb i h ≡ b → get_or live i 0 ≤ get_or live h 0
    go h k m true q = omega (arith, rising_above live r i h (ltb-true i h q) m)
    go h k m false q = let e : i ≡ h = omega (arith, ltb-false i h q) in rw e (omega arith)

module _ (live : List ℕ) (value row : ℕ → ℤ) (alone v : ℤ) where
  -- v lowered by the literals below x of listed quantities
  abbrev pub up_to : ℕ → ℤ
  up_to x = bounded_by (among live) value row alone x v

  -- v lowered by the literals of the first i: those of quantities between them and the next are not live
  pub record BestTo (i : ℕ) (best : ℤ) : Type 0 where
    pub all : (s : ℕ) → Between live i s → best ≡ up_to (2 * s)

  -- by none of them
  pub best_none : (best : ℤ) → best ≡ with_upper alone (pos 0) v → BestTo 0 best
  best_none best e = record { all = λ s b. e ∙ sym (bounded_none (among live) value row alone v) ∙ over s b }
    where
      over : (s : ℕ) → Between live 0 s → up_to 0 ≡ up_to (2 * s)
      over s b =
          sym (bounded_over (among live) value row alone 0 (2 * s) v
          (λ x g l. unlisted live (x / 2) (λ s. omega (arith, b.after s.place (omega arith) s.inside, s.is))))
          ∙ ap up_to (omega arith)

  -- by one more
  pub best_more : (i : ℕ) (best : ℤ) → Rising live → i < length live → BestTo i best
      → BestTo (suc i) (with_upper (row (2 * get_or live i 0 + 1)) (value (2 * get_or live i 0 + 1)) (with_upper (row (2 * get_or live i 0)) (value (2 * get_or live i 0)) best))
  best_more i best r l f = record { all = λ s b. lowered ∙ over s b }
    where
      a : ℕ
      a = get_or live i 0

      is_live : (x : ℕ) → x / 2 ≡ a → among live (x / 2) ≡ true
      is_live x e = rw e (listed_at live i l)

      lowered : with_upper (row (2 * a + 1)) (value (2 * a + 1)) (with_upper (row (2 * a)) (value (2 * a)) best) ≡ up_to (suc (suc (2 * a)))
      lowered =
          rw (f.all a (between_next live i r l), add-one (2 * a))
          (sym (bounded_more (among live) value row alone (suc (2 * a)) v (is_live (suc (2 * a)) (omega arith))
          ∙ ap (with_upper (row (suc (2 * a))) (value (suc (2 * a)))) (bounded_more (among live) value row alone (2 * a) v (is_live (2 * a) (omega arith)))))

      passed : (s : ℕ) → Between live (suc i) s → (x h : ℕ) → suc (suc (2 * a)) ≤ x → x < 2 * s → h < length live → (c : Bool) → ltb i h ≡ c → get_or live h 0 ≡ x / 2 → ⊥
      passed s b x h g k m true q e = let p = b.after h (omega (arith, ltb-true i h q)) m in omega arith
      passed s b x h g k m false q e = let p = (between_next live h r m).after i (ltb-false i h q) l in omega arith

      over : (s : ℕ) → Between live (suc i) s → up_to (suc (suc (2 * a))) ≡ up_to (2 * s)
      over s b =
          let p = b.before i (omega arith) in
          let e : 2 * s - suc (suc (2 * a)) + suc (suc (2 * a)) ≡ 2 * s = omega arith in
          sym (bounded_over (among live) value row alone (suc (suc (2 * a))) (2 * s - suc (suc (2 * a))) v
          (λ x g k. unlisted live (x / 2) (λ t. passed s b x t.place g (omega arith) t.inside (ltb i t.place) refl t.is)))
          ∙ ap up_to e
