-- Every quantity paired: an integer that the bounds of a term leave room for is reached by some assignment that satisfies the table. For one literal the
-- bound is its own; for two it is their own and the sum of the bounds of each alone. Assumes nothing.
use mathlib.Core.Path.{◌≡◌, refl}
use mathlib.Core.Bool.{Bool, true, false, not, ◌&&◌, and-false}
use mathlib.Core.List.{List}
use Prim.Native.Nat.{ℕ, ◌+◌, ◌*◌, ◌/◌, ◌<◌}
use native.Mathlib.Omega.{arith}
use lib.Dec.{eqb}
use lib.IntN.{ℤ, pos, neg_ℤ, ◌+ℤ◌}
use lib.Signed.{lt_z, ◌≤ℤ◌}
use borrow.Author.Tests.{eqb-true, eqb-false, eq-eqb}
use Rattle.integers.proofs.Parts.{linear, positive_part, negative_part, parts_add, parts_neg, lt_z_true, lt_z_false}
use Rattle.rules.specs.Literal.{quantity_of, negated}
use Rattle.rules.specs.Meaning.{Assignment, literal_value}
use Rattle.rules.proofs.Literals.{value_negated}
use Rattle.tables.specs.Tables.{has_rule}
use Rattle.tables.specs.Meaning.{Satisfies, SheetAllows, joined}
use Rattle.tables.proofs.Tests.{clash}
use Rattle.elimination.specs.Hiding.{every, pair_word, lone_word}
use Rattle.elimination.proofs.Terms.{Live}
use Rattle.elimination.proofs.Terms.{TermsMet, satisfies_met, met_some, literal_agree}
use Rattle.keys.specs.Inner.{Fits}
use Rattle.tightening.specs.Tightening.{pair_up_to}
use Rattle.tightening.proofs.Pairing.{pair_room, pair_kept}
use Rattle.tightening.proofs.Completing.{Visible, visible_completes, changed, changed_own, changed_other, raised_met}

-- some assignment that satisfies a table brings a value to d or above
pub record Reaches (n : ℕ) (t : List ℤ) (value : Assignment → ℤ) (d : ℤ) : Type 0 where
  pub assignment : Assignment
  pub satisfies : Satisfies n t assignment
  pub reaches : d ≤ℤ value assignment

module _ (n : ℕ) (t : List ℤ) (f : Fits n t) where
  -- what satisfies the table meets every rule of the paired table
  pub paired_terms : (σ : Assignment) → Satisfies n t σ → TermsMet (Live every n) (pair_up_to n n t) σ
  paired_terms σ s =
      (satisfies_met n (pair_up_to n n t) σ (pair_room n n t f.sums.room)).0 (pair_kept n n t σ (omega arith) f.sums.room s)

  -- the literal r raised to v, where the bounds that it has with visible literals leave room: hidden values complete it
  raised : (hidden : ℕ → Bool) (σ : Assignment) (r : ℕ) (v : ℤ) → Satisfies n t σ → literal_value σ r ≤ℤ v
      → (has_rule (lone_word (pair_up_to n n t) r) ≡ true → v ≤ℤ lone_word (pair_up_to n n t) r)
      → ((z : ℕ) → Visible hidden n z → (z / 2 ≡ r / 2 → ⊥) → has_rule (pair_word (pair_up_to n n t) z r) ≡ true
      → (literal_value σ z +ℤ v) ≤ℤ pair_word (pair_up_to n n t) z r)
      → SheetAllows hidden (Satisfies n t) (changed σ r v)
  raised hidden σ r v s g alone beside =
      visible_completes hidden n t σ (changed σ r v) f s
      (raised_met (Visible hidden n) (pair_up_to n n t) σ r v
      (met_some (Visible hidden n) (Live every n) (pair_up_to n n t) σ (λ x i. (refl, i.0)) (paired_terms σ s)) g alone beside)

  -- ---- one literal

  -- one literal reaches what its bound alone leaves room for
  pub lone_reached : (x : ℕ) (d : ℤ) (σ : Assignment) → x < 2 * n → Satisfies n t σ
      → (has_rule (lone_word (pair_up_to n n t) x) ≡ true → d ≤ℤ lone_word (pair_up_to n n t) x)
      → Reaches n t (λ τ. literal_value τ x) d
  lone_reached x d σ h s alone = go (lt_z (literal_value σ x) d) refl
    where
      hidden : ℕ → Bool
      hidden q = not (eqb q (quantity_of x))

      own : hidden (quantity_of x) ≡ false
      own = rw (eq-eqb (quantity_of x) (quantity_of x) refl)

      only : (z : ℕ) (b : Bool) → eqb (quantity_of z) (quantity_of x) ≡ b → not b ≡ false → (z / 2 ≡ x / 2 → ⊥) → ⊥
      only z true e v a = let q = eqb-true (quantity_of z) (quantity_of x) e in a (omega arith)
      only z false e v a = clash refl v

      go : (b : Bool) → lt_z (literal_value σ x) d ≡ b → Reaches n t (λ τ. literal_value τ x) d
      go false e = record { assignment = σ; satisfies = s; reaches = omega (linear, lt_z_false (literal_value σ x) d e) }
      go true e =
          let a = raised hidden σ x d s (omega (linear, lt_z_true (literal_value σ x) d e)) alone
          (λ z i apart r. absurd (only z (eqb (quantity_of z) (quantity_of x)) refl i.1 apart)) in
          let same = literal_agree (joined hidden (changed σ x d) a.hiddens) (changed σ x d) x (rw own) in
          record {
            assignment = joined hidden (changed σ x d) a.hiddens;
            satisfies = a.complete;
            reaches = rw (same, changed_own σ x d) (omega linear);
          }

  -- ---- two literals

  module _ (x y : ℕ) (d : ℤ) (h : x < 2 * n) (k : y < 2 * n) (apart : x / 2 ≡ y / 2 → ⊥) where
    -- an assignment that leaves y room to raise the sum with x to d: past x's bounds with y, there are y's own bound and that of -x and y
    record Leaves : Type 0 where
      assignment : Assignment
      satisfies : Satisfies n t assignment
      alone : has_rule (lone_word (pair_up_to n n t) y) ≡ true → d ≤ℤ (literal_value assignment x +ℤ lone_word (pair_up_to n n t) y)
      turned : has_rule (pair_word (pair_up_to n n t) (negated x) y) ≡ true
          → d ≤ℤ ((literal_value assignment x +ℤ literal_value assignment x) +ℤ pair_word (pair_up_to n n t) (negated x) y)

    -- x as large as it can be leaves it: -x and y's bound gives y a bound, which is no less than y's least
    leaves : (σ : Assignment) → Satisfies n t σ
        → (has_rule (lone_word (pair_up_to n n t) x) ≡ true → has_rule (lone_word (pair_up_to n n t) y) ≡ true
        → d ≤ℤ (lone_word (pair_up_to n n t) x +ℤ lone_word (pair_up_to n n t) y))
        → Leaves
    unfolding positive_part negative_part
    leaves σ s both = go (has_rule p) refl
      where
        p : ℤ
        p = lone_word (pair_up_to n n t) x

        q : ℤ
        q = lone_word (pair_up_to n n t) y

        b : ℤ
        b = pair_word (pair_up_to n n t) (negated x) y

        -- y is at most p + b everywhere, so y's bound is
        implied : has_rule p ≡ true → has_rule b ≡ true → (has_rule q ≡ true → ((p +ℤ b) +ℤ pos 1) ≤ℤ q) → ⊥
        implied e g room =
            let r = lone_reached y ((p +ℤ b) +ℤ pos 1) σ k s room in
            let m = paired_terms r.assignment r.satisfies in
            let first = m.one x (refl, h) e in
            let second = rw (value_negated r.assignment x) at (m.two (negated x) y (refl, omega arith) (refl, k) g) in
            let third = r.reaches in
            omega (
              linear,
              parts_neg (literal_value r.assignment x),
              parts_add (neg_ℤ (literal_value r.assignment x)) (literal_value r.assignment y),
              parts_add p b,
              parts_add (p +ℤ b) (pos 1),
            )

        bounded : has_rule p ≡ true → has_rule b ≡ true → (c : Bool) → has_rule q ≡ c → (a : Bool) → lt_z (p +ℤ b) q ≡ a → d ≤ℤ ((p +ℤ p) +ℤ b)
        bounded e g false u a w = absurd (implied e g (λ v. clash v u))
        bounded e g true u true w =
            absurd (implied e g (λ v. omega (linear, lt_z_true (p +ℤ b) q w, parts_add (p +ℤ b) (pos 1))))
        bounded e g true u false w =
            let l = both e u in
            omega (linear, lt_z_false (p +ℤ b) q w, parts_add p q, parts_add p b, parts_add p p, parts_add (p +ℤ p) b)

        far : ℤ
        far = pos (positive_part d + negative_part q + negative_part b)

        go : (c : Bool) → has_rule p ≡ c → Leaves
        go true e =
            let r = lone_reached x p σ h s (λ g. omega linear) in
            let low = r.reaches in
            let high = (paired_terms r.assignment r.satisfies).one x (refl, h) e in
            let v = literal_value r.assignment x in
            record {
              assignment = r.assignment;
              satisfies = r.satisfies;
              alone = λ g. let l = both e g in omega (linear, parts_add p q, parts_add v q);
              turned = λ g. let l = bounded e g (has_rule q) refl (lt_z (p +ℤ b) q) refl in
                  omega (linear, parts_add p p, parts_add (p +ℤ p) b, parts_add v v, parts_add (v +ℤ v) b);
            }
        go false e =
            let r = lone_reached x far σ h s (λ g. clash g e) in
            let low = r.reaches in
            let v = literal_value r.assignment x in
            record {
              assignment = r.assignment;
              satisfies = r.satisfies;
              alone = λ g. omega (linear, parts_add v q);
              turned = λ g. omega (linear, parts_add v v, parts_add (v +ℤ v) b);
            }

    -- two literals reach what their bound together and the sum of their bounds alone leave room for
    pub pair_reached : (σ : Assignment) → Satisfies n t σ
        → (has_rule (pair_word (pair_up_to n n t) x y) ≡ true → d ≤ℤ pair_word (pair_up_to n n t) x y)
        → (has_rule (lone_word (pair_up_to n n t) x) ≡ true → has_rule (lone_word (pair_up_to n n t) y) ≡ true
        → d ≤ℤ (lone_word (pair_up_to n n t) x +ℤ lone_word (pair_up_to n n t) y))
        → Reaches n t (λ τ. literal_value τ x +ℤ literal_value τ y) d
    pair_reached σ s together both = from (leaves σ s both)
      where
        hidden : ℕ → Bool
        hidden q = not (eqb q (quantity_of x)) && not (eqb q (quantity_of y))

        first : hidden (quantity_of x) ≡ false
        first = rw (eq-eqb (quantity_of x) (quantity_of x) refl)

        second : hidden (quantity_of y) ≡ false
        second = rw (eq-eqb (quantity_of y) (quantity_of y) refl) (and-false (not (eqb (quantity_of y) (quantity_of x))))

        only : (z : ℕ) → (b : Bool) → eqb (quantity_of z) (quantity_of x) ≡ b → (c : Bool) → eqb (quantity_of z) (quantity_of y) ≡ c
            → (not b && not c) ≡ false → (z / 2 ≡ y / 2 → ⊥) → z / 2 ≡ x / 2
        only z true e c g v a = let q = eqb-true (quantity_of z) (quantity_of x) e in omega arith
        only z false e true g v a = let q = eqb-true (quantity_of z) (quantity_of y) g in absurd (a (omega arith))
        only z false e false g v a = clash refl v

        from : Leaves → Reaches n t (λ τ. literal_value τ x +ℤ literal_value τ y) d
        from w = go (lt_z (a +ℤ literal_value τ y) d) refl
          where
            τ : Assignment
            τ = w.assignment

            a : ℤ
            a = literal_value τ x

            v : ℤ
            v = d +ℤ neg_ℤ a

            beside : (z : ℕ) → z / 2 ≡ x / 2 → (b : Bool) → eqb z x ≡ b → has_rule (pair_word (pair_up_to n n t) z y) ≡ true
                → (literal_value τ z +ℤ v) ≤ℤ pair_word (pair_up_to n n t) z y
            beside z e true g r =
                let q = eqb-true z x g in
                let l = together (rw q at r) in
                rw q (omega (linear, parts_neg a, parts_add d (neg_ℤ a), parts_add a v))
            beside z e false g r =
                let u = eqb-false z x g in
                let q : z ≡ negated x = omega arith in
                let l = w.turned (rw q at r) in
                rw (q, value_negated τ x) (omega (
                  linear,
                  parts_neg a,
                  parts_add d (neg_ℤ a),
                  parts_add (neg_ℤ a) v,
                  parts_add a a,
                  parts_add (a +ℤ a) (pair_word (pair_up_to n n t) (negated x) y),
                ))

            go : (b : Bool) → lt_z (a +ℤ literal_value τ y) d ≡ b → Reaches n t (λ ρ. literal_value ρ x +ℤ literal_value ρ y) d
            go false e = record {
              assignment = τ;
              satisfies = w.satisfies;
              reaches = omega (linear, lt_z_false (a +ℤ literal_value τ y) d e);
            }
            go true e =
                let c = raised hidden τ y v w.satisfies
                (omega (linear, lt_z_true (a +ℤ literal_value τ y) d e, parts_add a (literal_value τ y), parts_neg a, parts_add d (neg_ℤ a)))
                (λ r. let l = w.alone r in omega (linear, parts_neg a, parts_add d (neg_ℤ a), parts_add a (lone_word (pair_up_to n n t) y)))
                (λ z i u. beside z (only z (eqb (quantity_of z) (quantity_of x)) refl (eqb (quantity_of z) (quantity_of y)) refl i.1 u) (eqb z x) refl) in
                let ρ = joined hidden (changed τ y v) c.hiddens in
                let at_x = literal_agree ρ (changed τ y v) x (rw first) in
                let at_y = literal_agree ρ (changed τ y v) y (rw second) in
                record {
                  assignment = ρ;
                  satisfies = c.complete;
                  reaches = rw (at_x, at_y, changed_own τ y v, changed_other τ y v x apart) (omega (linear, parts_neg a, parts_add d (neg_ℤ a), parts_add a v));
                }
