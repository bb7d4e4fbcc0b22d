-- A word that stands beside a marked one: at least its bound doubled, that itself where the bound is unmarked, and more where it is marked. Sums and halves put in keep it so. Assumes nothing.
use mathlib.Core.Path.{◌≡◌, refl, sym, ◌∙◌}
use mathlib.Core.Bool.{Bool, true, false, cond, ◌&&◌, ◌||◌}
use Prim.Native.Nat.{ℕ, ◌≤◌}
use native.Mathlib.Omega.{arith}
use lib.IntN.{ℤ, pos, ◌+ℤ◌}
use lib.Signed.{lt_z, ◌≤ℤ◌, ◌<ℤ◌}
use Rattle.integers.specs.Bound.{half, odd, smaller}
use Rattle.integers.proofs.Parts.{linear, positive_part, negative_part, parts_add, parts_half, lt_z_true, lt_z_false, lt_lt_z, le_lt_z}
use Rattle.integers.proofs.Within.{within_to}
use Rattle.integers.proofs.Halving.{odd_whole, even_whole}
use Rattle.rules.specs.Limits.{no_rule}
use Rattle.tables.specs.Tables.{has_rule}
use Rattle.tables.proofs.Tests.{clash, both_true}
use Rattle.elimination.specs.Hiding.{with_sum, with_half}
use Rattle.elimination.specs.Inner.{Addable}
use Rattle.marks.specs.Marks.{Marked, unruled, holds, meet, marked_sum, marked_half, with_marked_sum, with_marked_half}
use Rattle.rounded.specs.Inner.{masked_word, beside_mark}

-- the word v stands beside w; beside a marked bound it is larger by g at least
pub record Beside (g : ℕ) (v : ℤ) (w : Marked) : Type 0 where
  pub twice : has_rule v ≡ true → (w.bound +ℤ w.bound) ≤ℤ v
  pub same : holds w ≡ true → w.mark ≡ false → v ≡ w.bound +ℤ w.bound
  pub above : w.mark ≡ true → has_rule v ≡ true → ((w.bound +ℤ w.bound) +ℤ pos g) ≤ℤ v

-- a bound whose double is a bound is one
pub twice_held : (t v : ℤ) → (t +ℤ t) ≤ℤ v → has_rule v ≡ true → has_rule t ≡ true
unfolding positive_part negative_part
twice_held t v h r = lt_lt_z t no_rule (omega (linear, parts_add t t, lt_z_true v no_rule r))

pub beside_held : {g : ℕ} {v : ℤ} {w : Marked} → Beside g v w → has_rule v ≡ true → holds w ≡ true
beside_held {g} {v} {w} b r = twice_held w.bound v (b.twice r) r

-- no rule beside no rule
pub beside_none : (g : ℕ) → Beside g no_rule unruled
beside_none g = record { twice = λ r. clash r refl; same = λ r. clash r refl; above = λ m. clash m refl }

-- ---- two that meet

-- a smaller marked bound with nothing beside it
meet_alone : (g : ℕ) (v t s : ℤ) (m : Bool) → g ≤ 2 → Beside g v (record { bound = t; mark = m })
    → Beside g v (meet (record { bound = t; mark = m }) (record { bound = s; mark = true }))
unfolding meet smaller positive_part negative_part
meet_alone g v t s m l b = go (lt_z s t) refl (lt_z t s) refl
  where
    go : (p : Bool) → lt_z s t ≡ p → (q : Bool) → lt_z t s ≡ q → Beside g v (record { bound = cond p s t; mark = cond p true (cond q m (m && true)) })
    go true e q f = record {
      twice = λ r. let z = b.twice r in omega (linear, parts_add s s, parts_add t t, lt_z_true s t e);
      same = λ r k. clash refl k;
      above = λ k r. let z = b.twice r in omega (linear, parts_add s s, parts_add t t, parts_add (s +ℤ s) (pos g), lt_z_true s t e);
    }
    go false e true f = b
    go false e false f = kept m b
      where
        kept : (m : Bool) → Beside g v (record { bound = t; mark = m }) → Beside g v (record { bound = t; mark = m && true })
        kept true c = c
        kept false c = c

-- two of which each has its word beside it
meet_both : (g : ℕ) (v u t s : ℤ) (m o : Bool) → 1 ≤ g → g ≤ 2 → has_rule u ≡ true → Beside g v (record { bound = t; mark = m }) → Beside g u (record { bound = s; mark = o })
    → Beside g (smaller v u) (meet (record { bound = t; mark = m }) (record { bound = s; mark = o }))
unfolding meet smaller positive_part negative_part
meet_both g v u t s m o some l r b c = go (lt_z u v) refl (lt_z s t) refl (lt_z t s) refl
  where
    twice_u : (s +ℤ s) ≤ℤ u
    twice_u = c.twice r

    held_s : has_rule s ≡ true
    held_s = twice_held s u twice_u r

    -- the larger bound does not matter
    less : (x t s : ℤ) → (s +ℤ s) ≤ℤ x → lt_z t s ≡ true → Beside g x (record { bound = t; mark = true })
    less x t s h e = record {
      twice = λ q. omega (linear, parts_add s s, parts_add t t, lt_z_true t s e);
      same = λ q k. clash refl k;
      above = λ k q. omega (linear, parts_add s s, parts_add t t, parts_add (t +ℤ t) (pos g), lt_z_true t s e);
    }

    equal : (t s : ℤ) → lt_z s t ≡ false → lt_z t s ≡ false → t ≡ s
    equal t s e f = omega (linear, lt_z_false s t e, lt_z_false t s f)

    below_held : (t s : ℤ) → lt_z t s ≡ true → has_rule s ≡ true → has_rule t ≡ true
    below_held t s e h = lt_lt_z t no_rule (omega (linear, lt_z_true t s e, lt_z_true s no_rule h))

    -- the sum's word is the smaller one
    first : lt_z u v ≡ true → (q : Bool) → lt_z t s ≡ q → lt_z s t ≡ false → (m : Bool) → Beside g v (record { bound = t; mark = m }) → (o : Bool) → Beside g u (record { bound = s; mark = o })
        → Beside g u (record { bound = t; mark = cond q m (m && o) })
    first d true f e true b o c = less u t s twice_u f
    first d true f e false b o c =
        let k = b.same (below_held t s f held_s) refl in
        let h = twice_u in
        let z : ⊥ = omega (linear, parts_add s s, parts_add t t, lt_z_true u v d, lt_z_true t s f) in absurd z
    first d false f e true b o c = rw (equal t s e f) c
    first d false f e false b true c =
        let q = equal t s e f in
        let k = b.same (rw q held_s) refl in
        let h = twice_u in
        let z : ⊥ = omega (linear, parts_add s s, parts_add t t, lt_z_true u v d) in absurd z
    first d false f e false b false c = rw (equal t s e f) c

    -- the other
    second : lt_z u v ≡ false → (p : Bool) → lt_z s t ≡ p → (q : Bool) → lt_z t s ≡ q → (m : Bool) → Beside g v (record { bound = t; mark = m }) → (o : Bool) → Beside g u (record { bound = s; mark = o })
        → Beside g v (record { bound = cond p s t; mark = cond p o (cond q m (m && o)) })
    second d true e q f m b true c =
        let held_v : has_rule v ≡ true = lt_lt_z v no_rule (omega (linear, lt_z_false u v d, lt_z_true u no_rule r)) in
        less v s t (b.twice held_v) e
    second d true e q f m b false c =
        let held_v : has_rule v ≡ true = lt_lt_z v no_rule (omega (linear, lt_z_false u v d, lt_z_true u no_rule r)) in
        let k = b.twice held_v in
        let h = c.same held_s refl in
        let z : ⊥ = omega (linear, parts_add s s, parts_add t t, lt_z_false u v d, lt_z_true s t e) in absurd z
    second d false e true f m b o c = b
    second d false e false f false b o c = b
    second d false e false f true b true c = b
    second d false e false f true b false c =
        let held_v : has_rule v ≡ true = lt_lt_z v no_rule (omega (linear, lt_z_false u v d, lt_z_true u no_rule r)) in
        let q = equal t s e f in
        let k = b.above refl held_v in
        let h = c.same held_s refl in
        let z : ⊥ = omega (linear, parts_add s s, parts_add t t, parts_add (t +ℤ t) (pos g), lt_z_false u v d) in absurd z

    go : (d : Bool) → lt_z u v ≡ d → (p : Bool) → lt_z s t ≡ p → (q : Bool) → lt_z t s ≡ q → Beside g (cond d u v) (record { bound = cond p s t; mark = cond p o (cond q m (m && o)) })
    go true d true e q f = c
    go true d false e q f = first d q f e m b o c
    go false d p e q f = second d p e q f m b o c

-- ---- sums

-- twice an addable bound is a bound, and so is the sum of two
pub sum_held : (a b : ℤ) → Addable a → Addable b → has_rule a ≡ true → has_rule b ≡ true → has_rule (a +ℤ b) ≡ true
unfolding positive_part negative_part
sum_held a b h k r q = lt_lt_z (a +ℤ b) no_rule (omega (linear, parts_add a b, within_to (h r), within_to (k q)))

half_held : (a : ℤ) → has_rule a ≡ true → has_rule (half a) ≡ true
unfolding positive_part negative_part
half_held a r = lt_lt_z (half a) no_rule (omega (linear, parts_half a, lt_z_true a no_rule r))

-- an unmarked rule has its word beside it
unmarked_held : (g : ℕ) (v t : ℤ) → Addable t → has_rule t ≡ true → Beside g v (record { bound = t; mark = false }) → has_rule v ≡ true
unmarked_held g v t a r b = rw (b.same r refl) (sum_held t t a a r r)

module _ (g h i : ℕ) (x y a b : ℤ) (some : 1 ≤ g) (lh : g ≤ h) (li : g ≤ i) where
  -- the sum of two words stands beside the sum of two rules
  sum_beside : (o p : Bool) → Beside h x (record { bound = a; mark = o }) → Beside i y (record { bound = b; mark = p })
      → has_rule x ≡ true → has_rule y ≡ true → Beside g (x +ℤ y) (record { bound = a +ℤ b; mark = o || p })
  unfolding positive_part negative_part
  sum_beside o p c d r q = record {
    twice = λ k. let e = c.twice r in let f = d.twice q in
        omega (linear, parts_add x y, parts_add a b, parts_add a a, parts_add b b, parts_add (a +ℤ b) (a +ℤ b));
    same = λ k. same o p c d;
    above = λ k l. above o p c d k;
  }
    where
      same : (o p : Bool) → Beside h x (record { bound = a; mark = o }) → Beside i y (record { bound = b; mark = p }) → (o || p) ≡ false → x +ℤ y ≡ (a +ℤ b) +ℤ (a +ℤ b)
      same true p c d k = clash refl k
      same false true c d k = clash refl k
      same false false c d k =
          let e = c.same (beside_held c r) refl in
          let f = d.same (beside_held d q) refl in
          omega (linear, parts_add x y, parts_add a b, parts_add a a, parts_add b b, parts_add (a +ℤ b) (a +ℤ b))

      above : (o p : Bool) → Beside h x (record { bound = a; mark = o }) → Beside i y (record { bound = b; mark = p }) → (o || p) ≡ true
          → (((a +ℤ b) +ℤ (a +ℤ b)) +ℤ pos g) ≤ℤ (x +ℤ y)
      above true p c d k =
          let e = c.above refl r in
          let f = d.twice q in
          omega (linear, parts_add x y, parts_add a b, parts_add a a, parts_add b b, parts_add (a +ℤ b) (a +ℤ b), parts_add (a +ℤ a) (pos h), parts_add ((a +ℤ b) +ℤ (a +ℤ b)) (pos g))
      above false true c d k =
          let e = c.twice r in
          let f = d.above refl q in
          omega (linear, parts_add x y, parts_add a b, parts_add a a, parts_add b b, parts_add (a +ℤ b) (a +ℤ b), parts_add (b +ℤ b) (pos i), parts_add ((a +ℤ b) +ℤ (a +ℤ b)) (pos g))
      above false false c d k = clash k refl

-- the half of a word, of two quantities, stands beside the half of a rule
half_beside : (z s : ℤ) (o : Bool) → has_rule z ≡ true → Beside 2 z (record { bound = s; mark = o }) → Beside 1 (half z) (record { bound = half s; mark = o || odd s })
unfolding positive_part negative_part
half_beside z s o r b = record {
  twice = λ k. let e = b.twice r in omega (linear, parts_add s s, parts_half z, parts_half s, parts_add (half s) (half s));
  same = λ k. same o b (odd s) refl;
  above = λ k l. above o b (odd s) refl k;
}
  where
    same : (o : Bool) → Beside 2 z (record { bound = s; mark = o }) → (p : Bool) → odd s ≡ p → (o || p) ≡ false → half z ≡ half s +ℤ half s
    same true c p e k = clash refl k
    same false c true e k = clash refl k
    same false c false e k =
        let f = c.same (beside_held c r) refl in
        let h = even_whole s e in
        omega (linear, parts_add s s, parts_half z, parts_half s, parts_add (half s) (half s), parts_add (half s +ℤ half s) (pos 0))

    above : (o : Bool) → Beside 2 z (record { bound = s; mark = o }) → (p : Bool) → odd s ≡ p → (o || p) ≡ true → ((half s +ℤ half s) +ℤ pos 1) ≤ℤ half z
    above true c p e k =
        let f = c.above refl r in
        omega (linear, parts_add s s, parts_add (s +ℤ s) (pos 2), parts_half z, parts_half s, parts_add (half s) (half s), parts_add (half s +ℤ half s) (pos 1))
    above false c true e k =
        let f = c.twice r in
        let h = odd_whole s e in
        omega (linear, parts_add s s, parts_half z, parts_half s, parts_add (half s) (half s), parts_add (half s +ℤ half s) (pos 1))
    above false c false e k = clash k refl

-- ---- a place with a sum put in

-- where either of two rules has nothing beside it, it is marked
either_marked : (h i : ℕ) (x y a b : ℤ) (o p c d : Bool) → Addable a → Addable b → has_rule a ≡ true → has_rule b ≡ true
    → Beside h x (record { bound = a; mark = o }) → Beside i y (record { bound = b; mark = p }) → has_rule x ≡ c → has_rule y ≡ d → (c && d) ≡ false → (o || p) ≡ true
either_marked h i x y a b true p c d u v r q e f k l n = refl
either_marked h i x y a b false true c d u v r q e f k l n = refl
either_marked h i x y a b false false true true u v r q e f k l n = clash refl n
either_marked h i x y a b false false true false u v r q e f k l n = clash (unmarked_held i y b v q f) l
either_marked h i x y a b false false false d u v r q e f k l n = clash (unmarked_held h x a u r e) k

module _ (g h i : ℕ) (x y v : ℤ) (a b w : Marked) (some : 1 ≤ g) (most : g ≤ 2)
    (add_x : Addable x) (add_y : Addable y) (add_a : Addable a.bound) (add_b : Addable b.bound)
    (c : Beside h x a) (d : Beside i y b) (e : Beside g v w) where
  -- two words that are rules stand beside rules
  both_hold : (has_rule x && has_rule y) ≡ true → (holds a && holds b) ≡ true
  both_hold p = let q = both_true (has_rule x) (has_rule y) p in rw (beside_held c q.0, beside_held d q.1)

  -- and else one of two rules is marked
  marked : (has_rule x && has_rule y) ≡ false → (holds a && holds b) ≡ true → (a.mark || b.mark) ≡ true
  marked p r =
      let q = both_true (holds a) (holds b) r in
      either_marked h i x y a.bound b.bound a.mark b.mark (has_rule x) (has_rule y) add_a add_b q.0 q.1 c d refl refl p

  pub put_sum : g ≤ h → g ≤ i → Beside g (with_sum x y v) (with_marked_sum a b w)
  unfolding with_sum with_marked_sum marked_sum
  put_sum lh li = go (has_rule x && has_rule y) refl (holds a && holds b) refl
    where
      go : (p : Bool) → (has_rule x && has_rule y) ≡ p → (r : Bool) → (holds a && holds b) ≡ r
          → Beside g (cond p (smaller v (x +ℤ y)) v) (cond r (meet w (marked_sum a b)) w)
      go true p true r =
          let q = both_true (has_rule x) (has_rule y) p in
          meet_both g v (x +ℤ y) w.bound (a.bound +ℤ b.bound) w.mark (a.mark || b.mark) some most (sum_held x y add_x add_y q.0 q.1) e
          (sum_beside g h i x y a.bound b.bound some lh li a.mark b.mark c d q.0 q.1)
      go true p false r = clash (both_hold p) r
      go false p true r = rw (marked p r) (meet_alone g v w.bound (a.bound +ℤ b.bound) w.mark most e)
      go false p false r = e

  pub put_half : g ≡ 1 → h ≡ 2 → i ≡ 2 → Beside g (with_half x y v) (with_marked_half a b w)
  unfolding with_half with_marked_half marked_half marked_sum
  put_half lg lh li = go (has_rule x && has_rule y) refl (holds a && holds b) refl
    where
      go : (p : Bool) → (has_rule x && has_rule y) ≡ p → (r : Bool) → (holds a && holds b) ≡ r
          → Beside g (cond p (smaller v (half (x +ℤ y))) v) (cond r (meet w (marked_half (marked_sum a b))) w)
      go true p true r =
          let q = both_true (has_rule x) (has_rule y) p in
          let s = sum_held x y add_x add_y q.0 q.1 in
          meet_both g v (half (x +ℤ y)) w.bound (half (a.bound +ℤ b.bound)) w.mark ((a.mark || b.mark) || odd (a.bound +ℤ b.bound)) some most (half_held (x +ℤ y) s) e
          (rw lg (half_beside (x +ℤ y) (a.bound +ℤ b.bound) (a.mark || b.mark) s
          (sum_beside 2 h i x y a.bound b.bound (omega arith) (omega arith) (omega arith) a.mark b.mark c d q.0 q.1)))
      go true p false r = clash (both_hold p) r
      go false p true r = rw (marked p r) (meet_alone g v w.bound (half (a.bound +ℤ b.bound)) w.mark most e)
      go false p false r = e

-- ---- the start

-- the unmarked rules alone, doubled, stand beside all
pub beside_masked : (g : ℕ) (w : Marked) → Beside g (masked_word w) w
beside_masked g w = go w.bound (has_rule w.bound) refl w.mark
  where
    go : (t : ℤ) (b : Bool) → has_rule t ≡ b → (m : Bool) → Beside g (cond b (cond m no_rule (t +ℤ t)) no_rule) (record { bound = t; mark = m })
    go t true e true = record { twice = λ r. clash r refl; same = λ r k. clash refl k; above = λ m r. clash r refl }
    go t true e false = record { twice = λ r. omega linear; same = λ r k. refl; above = λ m r. clash m refl }
    go t false e true = record { twice = λ r. clash r refl; same = λ r k. clash refl k; above = λ m r. clash r refl }
    go t false e false = record { twice = λ r. clash r refl; same = λ r k. clash r e; above = λ m r. clash m refl }

-- ---- the mark that is told

-- of a rule with a word beside it
pub beside-mark : (g : ℕ) (v : ℤ) (w : Marked) → 1 ≤ g → Addable w.bound → (holds w ≡ false → w.mark ≡ false) → Beside g v w → beside_mark w.bound v ≡ w.mark
unfolding positive_part negative_part
beside-mark g v w some add bare b = go (holds w) refl w.mark refl b
  where
    t : ℤ
    t = w.bound

    go : (h : Bool) → holds w ≡ h → (m : Bool) → w.mark ≡ m → Beside g v w → cond h (cond (lt_z v (t +ℤ t)) true (lt_z (t +ℤ t) v)) false ≡ m
    go true h true m b = beyond (has_rule v) refl
      where
        more : (t +ℤ t) <ℤ v → cond (lt_z v (t +ℤ t)) true (lt_z (t +ℤ t) v) ≡ true
        more l = rw (le_lt_z v (t +ℤ t) (omega linear)) (lt_lt_z (t +ℤ t) v l)

        beyond : (r : Bool) → has_rule v ≡ r → cond (lt_z v (t +ℤ t)) true (lt_z (t +ℤ t) v) ≡ true
        beyond true r = let e = b.above m r in more (omega (linear, parts_add (t +ℤ t) (pos g)))
        beyond false r = let e = sum_held t t add add h h in more (omega (linear, lt_z_false v no_rule r, lt_z_true (t +ℤ t) no_rule e))
    go true h false m b =
        let e = b.same h m in
        rw (e, le_lt_z (t +ℤ t) (t +ℤ t) (omega linear))
    go false h m k b = sym (bare h) ∙ k
