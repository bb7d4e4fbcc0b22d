-- The set of a list of quantities that increases has as many members as the list has numbers. Assumes nothing.
use mathlib.Core.Path.{◌≡◌, refl, ◌∙◌, ap}
use mathlib.Core.Bool.{Bool, true, false, ◌||◌, cond}
use mathlib.Core.List.{List, [], ◌∷◌}
use Prim.Native.Nat.{ℕ, zero, suc, ◌≤◌}
use native.Mathlib.Omega.{arith}
use lib.Dec.{eqb}
use lib.ListN.{length}
use borrow.Author.Tests.{eqb-true, eqb-false, ne_eqb}
use Rattle.numerals.proofs.Cases.{both_true}
use Rattle.rules.specs.Hidden.{hidden_in, set_of, is_listed, member_count}
use Rattle.rules.specs.Literal.{quantity_within}
use Rattle.rules.proofs.Quantities.{within_range}
use Rattle.lines.specs.Spelling.{IncreasingFrom, all_within}
use Rattle.lines.proofs.SetMembers.{member_none, list_members}

-- two sets with the same members up to m have as many there
count_same : (a b : ℕ → Bool) (m : ℕ) → ((q : ℕ) → q ≤ m → a q ≡ b q) → member_count a m ≡ member_count b m
unfolding member_count
count_same a b zero same = refl
count_same a b (suc j) same = rw (same (suc j) (omega arith), count_same a b j (λ q h. same q (omega arith)))

-- no member
count_none : (none : ℕ → Bool) (m : ℕ) → ((q : ℕ) → none q ≡ false) → member_count none m ≡ 0
unfolding member_count
count_none none zero f = refl
count_none none (suc j) f = rw (f (suc j)) (count_none none j f)

-- one member more, up to a number from it on
count_added : (fewer more : ℕ → Bool) (p m : ℕ) → ((q : ℕ) → more q ≡ (eqb q p || fewer q)) → fewer p ≡ false → 1 ≤ p → p ≤ m
    → member_count more m ≡ suc (member_count fewer m)
unfolding member_count
count_added fewer more p zero added new l h = let z : ⊥ = omega arith in absurd z
count_added fewer more p (suc j) added new l h = rw (added (suc j)) (go (eqb (suc j) p) refl (count_added fewer more p j added new l))
  where
    go : (b : Bool) → eqb (suc j) p ≡ b → (p ≤ j → member_count more j ≡ suc (member_count fewer j))
        → cond (b || fewer (suc j)) (suc (member_count more j)) (member_count more j)
        ≡ suc (cond (fewer (suc j)) (suc (member_count fewer j)) (member_count fewer j))
    go true d ih =
        let e : suc j ≡ p = eqb-true (suc j) p d in
        rw (e, new) (ap suc (count_same more fewer j (λ q k. rw (ne_eqb q p (omega arith)) at (added q))))
    go false d ih =
        let e = ih (omega (arith, eqb-false (suc j) p d)) in
        rw e (last (fewer (suc j)))
      where
        last : (b : Bool) → cond b (suc (suc (member_count fewer j))) (suc (member_count fewer j)) ≡ suc (cond b (suc (member_count fewer j)) (member_count fewer j))
        last true = refl
        last false = refl

-- the members of a list that increases are as many as its numbers
listed_count : (n least : ℕ) (qs : List ℕ) → IncreasingFrom least qs → all_within n qs ≡ true → member_count (λ q. is_listed q qs) n ≡ length qs
unfolding is_listed
listed_count n least [] i w = count_none (λ q. is_listed q []) n (λ q. refl)
listed_count n least (p ∷ ps) i w =
    let a = both_true (quantity_within n p) (all_within n ps) w in
    let r = within_range n p a.0 in
    count_added (λ q. is_listed q ps) (λ q. is_listed q (p ∷ ps)) p n (λ q. refl) (member_none p (suc p) ps (omega arith) i.1) r.0 r.1
    ∙ ap suc (listed_count n (suc p) ps i.1 a.1)

-- of a list as a line has it, within its limits: as many of 1 to n are hidden as it has numbers
pub set_count : (n : ℕ) (qs : List ℕ) → IncreasingFrom 0 qs → all_within n qs ≡ true → member_count (hidden_in (set_of qs)) n ≡ length qs
set_count n qs i w = count_same (hidden_in (set_of qs)) (λ q. is_listed q qs) n (λ q h. list_members n qs i w q) ∙ listed_count n 0 qs i w
