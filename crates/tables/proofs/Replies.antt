-- What the reply to a halved rule is on each way of its tests, a literal being below 2n where its half is below n. Assumes nothing.
use mathlib.Core.Path.{◌≡◌, refl, ap}
use mathlib.Core.Bool.{Bool, true, false, cond, not}
use Prim.Native.Nat.{ℕ, ◌*◌, ◌/◌, ◌<◌}
use native.Mathlib.Omega.{arith}
use lib.Dec.{eqb, ltb}
use lib.IntN.{ℤ, pos}
use lib.Signed.{lt_z}
use borrow.Author.Tests.{lt-ltb}
use Rattle.rules.specs.declared.rule.Rule.TheVariants.{One, Two, Nothing}
use Rattle.rules.specs.declared.refusal.Refusal.{Refusal}
use Rattle.rules.specs.declared.refusal.Refusal.TheVariants.{OutOfLimit, Cancelling, NoAssignment}
use Rattle.rules.specs.Literal.{negated}
use Rattle.tables.specs.Replies.{Reply}
use Rattle.std.specs.Prelude.{Ok, Err}
use Rattle.tables.specs.Replies.{check}
use Rattle.tables.specs.Tables.{rule_reply, has_rule}

abbrev pub outside : Reply
outside = Err (OutOfLimit 0)

-- a test that refuses, as the check that it is not so
turned : (u : Bool) (f : Refusal) → cond u (Err f) (Ok tt) ≡ check (not u) f (Ok tt)
turned true f = refl
turned false f = refl

inside : (n x : ℕ) → x / 2 < n → ltb x (2 * n) ≡ true
inside n x h = lt-ltb x (2 * n) (omega arith)

pub one_inside : (n x : ℕ) (c : ℤ) (t : Bool) → x / 2 < n → has_rule c ≡ t → cond t (Ok tt) outside ≡ rule_reply n (One x c)
unfolding rule_reply
one_inside n x c t h e = rw (inside n x h, e)

pub two_inside : (n x y : ℕ) (c : ℤ) (t u : Bool) → x / 2 < n → y / 2 < n → has_rule c ≡ t → eqb y (negated x) ≡ u
    → cond t (cond u (Err (Cancelling 0)) (Ok tt)) outside ≡ rule_reply n (Two x y c)
unfolding rule_reply
two_inside n x y c t u h g e f = rw (inside n x h, inside n y g, e, f) (ap (λ (z : Reply). cond t z outside) (turned u (Cancelling 0)))

pub bare : (n : ℕ) (c : ℤ) (t u : Bool) → has_rule c ≡ t → lt_z c (pos 0) ≡ u → cond t (cond u (Err NoAssignment) (Ok tt)) outside ≡ rule_reply n (Nothing c)
unfolding rule_reply
bare n c t u e f = rw (e, f) (ap (λ (z : Reply). cond t z outside) (turned u NoAssignment))
