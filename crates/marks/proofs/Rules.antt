-- Rules put in doubled: at each place the smallest bound is the word of what the rules leave there, with its mark. Assumes nothing.
use mathlib.Core.Path.{◌≡◌, refl, sym, ◌∙◌}
use mathlib.Core.Bool.{Bool, true, false, cond, ◌&&◌}
use mathlib.Core.List.{List, [], ◌∷◌}
use Prim.Native.Nat.{ℕ, ◌^◌}
use native.Mathlib.Omega.{arith}
use lib.Dec.{eqb}
use lib.IntN.{ℤ, pos, ◌+ℤ◌}
use lib.Signed.{◌≤ℤ◌, ◌<ℤ◌, ≤ℤ_refl}
use borrow.Author.Tests.{ne_eqb}
use Rattle.integers.specs.Bound.{Within, half, odd, smaller}
use Rattle.integers.proofs.Parts.{linear, positive_part, negative_part, parts_add, lt_lt_z, le_lt_z}
use Rattle.integers.proofs.Within.{within_to, within_mono, within_half}
use Rattle.rules.specs.declared.rule.Rule.{Rule}
use Rattle.rules.specs.declared.rule.Rule.TheVariants.{One, Two, Nothing}
use Rattle.rules.specs.Limits.{no_rule}
use Rattle.rules.specs.Literal.{negated}
use Rattle.rules.specs.Meaning.{bound_of}
use Rattle.rules.specs.Steps.{halved_of, loses_half}
use Rattle.std.specs.Prelude.{Ok}
use Rattle.tables.specs.Places.{find_place}
use Rattle.tables.specs.Tables.{has_rule, is_at, rule_reply, smallest_at}
use Rattle.tables.proofs.Tests.{clash}
use Rattle.tables.proofs.Replies.{one_inside, two_inside, bare}
use Rattle.tables.proofs.Putting.{one_accepted, two_accepted, nothing_accepted}
use Rattle.tables.proofs.Lists.{AllAccepted}
use Rattle.marks.specs.Marks.{unruled, meet, marked_rule, marked_at}
use Rattle.marks.specs.Doubled.{doubled_word, doubled_rule, doubled_rules}
use Rattle.marks.proofs.WordOrder.{Tame, Sound, large, twice, twice_sum, twice_halved, doubled-rule, doubled_none, doubled_meet, tame_meet, meet_sound}

-- every rule of a list has its bound within B
abbrev pub RulesWithin : ℤ → List Rule → Type 0
RulesWithin B [] = Unit {0}
RulesWithin B (r ∷ rs) = Within B (bound_of r) × RulesWithin B rs

-- it stays there where a doubled term is halved
pub halved_within : (B : ℕ) (r : Rule) → Within (pos B) (bound_of r) → Within (pos B) (bound_of (halved_of r))
unfolding halved_of
halved_within B (One x c) w = w
halved_within B (Two x y c) w = go (eqb x y)
  where
    go : (b : Bool) → Within (pos B) (bound_of (cond b (One x (half c)) (Two x y c)))
    go true = within_half w
    go false = w
halved_within B (Nothing c) w = w

-- ---- one rule

-- a bound below 2 ^ 61 is a rule's
within_rule : (c : ℤ) → Within (pos (2 ^ 61)) c → c <ℤ no_rule
unfolding positive_part negative_part
within_rule c w = omega (linear, within_to w)

-- its place is the same
doubled_place : (r : Rule) → find_place (halved_of (doubled_rule r)) ≡ find_place (halved_of r)
unfolding doubled_rule halved_of find_place
doubled_place (One x c) = refl
doubled_place (Two x y c) = go (eqb x y) refl
  where
    go : (b : Bool) → eqb x y ≡ b
        → find_place (halved_of (cond b (One x c) (Two x y (c +ℤ c)))) ≡ find_place (cond b (One x (half c)) (Two x y c))
    go true e = refl
    go false e = rw e
doubled_place (Nothing c) = refl

-- its bound is that of the rule halved, doubled, and 1 more where it lost a half
doubled_bound : (r : Rule) → bound_of (halved_of (doubled_rule r)) ≡ twice (bound_of (halved_of r)) (loses_half r)
unfolding doubled_rule halved_of loses_half
doubled_bound (One x c) = twice_sum c
doubled_bound (Two x y c) = go (eqb x y) refl
  where
    go : (b : Bool) → eqb x y ≡ b
        → bound_of (halved_of (cond b (One x c) (Two x y (c +ℤ c)))) ≡ twice (bound_of (cond b (One x (half c)) (Two x y c))) (◌&&◌ b (odd c))
    go true e = twice_halved c
    go false e = rw e (twice_sum c)
doubled_bound (Nothing c) = twice_sum c

module _ (r : Rule) (w : Within (pos (2 ^ 61)) (bound_of r)) where
  ruled : has_rule (bound_of (halved_of r)) ≡ true
  ruled = lt_lt_z (bound_of (halved_of r)) no_rule (within_rule (bound_of (halved_of r)) (halved_within (2 ^ 61) r w))

  -- so it is the word of the rule with its mark
  doubled_rule_word : bound_of (halved_of (doubled_rule r)) ≡ doubled_word (marked_rule r)
  doubled_rule_word = doubled_bound r ∙ sym (doubled-rule (marked_rule r) ruled)

  rule_tame : Tame large (marked_rule r)
  rule_tame e = within_mono (omega arith) (halved_within (2 ^ 61) r w)

  rule_sound : Sound (marked_rule r)
  rule_sound = let l = within_rule (bound_of (halved_of r)) (halved_within (2 ^ 61) r w) in (omega linear, λ e. clash ruled e)

-- a table accepts it too
one_doubled : (n x : ℕ) (c d : ℤ) → has_rule d ≡ true → rule_reply n (One x c) ≡ Ok tt → rule_reply n (One x d) ≡ Ok tt
one_doubled n x c d h e = let p = one_accepted n x c e in sym (one_inside n x d true (omega arith) h)

two_doubled : (n x y : ℕ) (c d : ℤ) → has_rule d ≡ true → rule_reply n (Two x y c) ≡ Ok tt → rule_reply n (Two x y d) ≡ Ok tt
two_doubled n x y c d h e =
    let p = two_accepted n x y c e in
    sym (two_inside n x y d true false (omega arith) (omega arith) h (ne_eqb y (negated x) p.3))

nothing_above : (n : ℕ) (c : ℤ) → rule_reply n (Nothing c) ≡ Ok tt → pos 0 ≤ℤ c
nothing_above n c e = (nothing_accepted n c (λ q. pos 0) e).met

sum_above : (c : ℤ) → pos 0 ≤ℤ c → pos 0 ≤ℤ (c +ℤ c)
unfolding positive_part negative_part
sum_above c h = omega (linear, parts_add c c)

sum-rule : (c : ℤ) → Within (pos (2 ^ 61)) c → has_rule (c +ℤ c) ≡ true
unfolding positive_part negative_part
sum-rule c w = lt_lt_z (c +ℤ c) no_rule (omega (linear, parts_add c c, within_to w))

pub doubled_accepted : (n : ℕ) (r : Rule) → Within (pos (2 ^ 61)) (bound_of r) → rule_reply n (halved_of r) ≡ Ok tt → rule_reply n (halved_of (doubled_rule r)) ≡ Ok tt
unfolding doubled_rule halved_of
doubled_accepted n (One x c) w e = one_doubled n x c (c +ℤ c) (sum-rule c w) e
doubled_accepted n (Two x y c) w e = go (eqb x y) refl e
  where
    go : (b : Bool) → eqb x y ≡ b → rule_reply n (cond b (One x (half c)) (Two x y c)) ≡ Ok tt
        → rule_reply n (halved_of (cond b (One x c) (Two x y (c +ℤ c)))) ≡ Ok tt
    go true q e = one_doubled n x (half c) c (lt_lt_z c no_rule (within_rule c w)) e
    go false q e = rw q (two_doubled n x y c (c +ℤ c) (sum-rule c w) e)
doubled_accepted n (Nothing c) w e = sym (bare n (c +ℤ c) true false (sum-rule c w) (le_lt_z (c +ℤ c) (pos 0) (sum_above c (nothing_above n c e))))

-- ---- a list

module _ (k : ℕ) where
  pub marked_tame : (rs : List Rule) → RulesWithin (pos (2 ^ 61)) rs → Tame large (marked_at k rs)
  unfolding marked_at
  marked_tame [] w = λ e. clash e refl
  marked_tame (r ∷ rs) w = go (is_at k (find_place (halved_of r))) (marked_tame rs w.1)
    where
      go : (b : Bool) → Tame large (marked_at k rs) → Tame large (cond b (meet (marked_rule r) (marked_at k rs)) (marked_at k rs))
      go true f = tame_meet large (marked_rule r) (marked_at k rs) (rule_tame r w.0) f
      go false f = f

  pub marked_sound : (rs : List Rule) → RulesWithin (pos (2 ^ 61)) rs → Sound (marked_at k rs)
  unfolding marked_at
  marked_sound [] w = (≤ℤ_refl no_rule, λ e. refl)
  marked_sound (r ∷ rs) w = go (is_at k (find_place (halved_of r))) (marked_sound rs w.1)
    where
      go : (b : Bool) → Sound (marked_at k rs) → Sound (cond b (meet (marked_rule r) (marked_at k rs)) (marked_at k rs))
      go true f = meet_sound (marked_rule r) (marked_at k rs) (rule_sound r w.0)
      go false f = f

pub doubled_all : (n : ℕ) (rs : List Rule) → RulesWithin (pos (2 ^ 61)) rs → AllAccepted n rs → AllAccepted n (doubled_rules rs)
doubled_all n [] w a = tt
doubled_all n (r ∷ rs) w a = (doubled_accepted n r w.0 a.0, doubled_all n rs w.1 a.1)

-- the smallest bound of the doubled rules is the word of what the rules leave
pub doubled_smallest : (k : ℕ) (rs : List Rule) → RulesWithin (pos (2 ^ 61)) rs → smallest_at k (doubled_rules rs) ≡ doubled_word (marked_at k rs)
unfolding smallest_at marked_at
doubled_smallest k [] w = sym (doubled_none unruled refl)
doubled_smallest k (r ∷ rs) w =
    rw (doubled_place r, doubled_rule_word r w.0, doubled_smallest k rs w.1) (go (is_at k (find_place (halved_of r))))
  where
    go : (b : Bool) → cond b (smaller (doubled_word (marked_rule r)) (doubled_word (marked_at k rs))) (doubled_word (marked_at k rs))
        ≡ doubled_word (cond b (meet (marked_rule r) (marked_at k rs)) (marked_at k rs))
    go true = sym (doubled_meet (marked_rule r) (marked_at k rs) (rule_tame r w.0) (marked_tame k rs w.1))
    go false = refl

-- without their marks the bounds are the smallest ones
pub marked_smallest : (k : ℕ) (rs : List Rule) → (marked_at k rs).bound ≡ smallest_at k rs
unfolding marked_at smallest_at meet
marked_smallest k [] = refl
marked_smallest k (r ∷ rs) = rw (← marked_smallest k rs) (go (is_at k (find_place (halved_of r))))
  where
    go : (b : Bool) → (cond b (meet (marked_rule r) (marked_at k rs)) (marked_at k rs)).bound
        ≡ cond b (smaller (bound_of (halved_of r)) (marked_at k rs).bound) (marked_at k rs).bound
    go true = refl
    go false = refl
