-- The hidden list of a fine text: the set of it is in its range, and the list that the writer makes of that set is the list again. Assumes nothing.
use mathlib.Core.Path.{◌≡◌, refl, ◌∙◌, ap}
use mathlib.Core.Bool.{Bool, true, false, cond}
use mathlib.Core.List.{List, [], ◌∷◌}
use Prim.Native.Nat.{ℕ, zero, suc, ◌+◌, ◌-◌, ◌^◌, ◌≤◌, ◌<◌}
use native.Mathlib.Omega.{arith}
use lib.Dec.{eqb}
use lib.Pow.{pow_mono}
use borrow.Author.Tests.{eqb-true, eqb-false, ne_eqb, lt-ltb}
use Rattle.rules.specs.Hidden.{hidden_in, set_within, set_of, is_listed}
use Rattle.rules.specs.Literal.{quantity_within}
use Rattle.rules.proofs.Quantities.{within_range}
use Rattle.rules.proofs.Sets.{bit_twice}
use Rattle.tables.proofs.Tests.{both_true}
use Rattle.lines.specs.Spelling.{IncreasingFrom, all_within}
use Rattle.lines.proofs.SetMembers.{member_none, list_members}
use Rattle.writing.specs.Writing.{hidden_from, hidden_list}

-- the first number of a list within n is of 1 to n, and so are the others
first_within : (n q : ℕ) (qs : List ℕ) → all_within n (q ∷ qs) ≡ true → (1 ≤ q) × (q ≤ n) × (all_within n qs ≡ true)
first_within n q qs w =
    let a = both_true (quantity_within n q) (all_within n qs) w in
    let r = within_range n q a.0 in
    (r.0, r.1, a.1)

-- a list of quantities that increases does so from 1 on
from_one : (n : ℕ) (qs : List ℕ) → IncreasingFrom 0 qs → all_within n qs ≡ true → IncreasingFrom 1 qs
from_one n [] i w = tt
from_one n (q ∷ qs) i w = ((first_within n q qs w).0, i.1)

-- ---- the set is in its range

-- the set of a list of quantities past m, with the bit after m
set_below : (m n : ℕ) (qs : List ℕ) → m ≤ n → IncreasingFrom (suc m) qs → all_within n qs ≡ true → set_of qs + 2 ^ m ≤ 2 ^ n
unfolding set_of
set_below m n [] h i w = omega (arith, pow_mono {i = m} {j = n} h)
set_below m n (q ∷ qs) h i w =
    let f = first_within n q qs w in
    omega (arith, set_below q n qs f.1 i.1 f.2, bit_twice q f.0, pow_mono {i = m} {j = q - 1} (omega (arith, i.0)))

-- the set of a list of quantities of 1 to n names none past n
pub list_set_within : (n : ℕ) (qs : List ℕ) → IncreasingFrom 0 qs → all_within n qs ≡ true → set_within n (set_of qs) ≡ true
list_set_within n qs i w = lt-ltb (set_of qs) (2 ^ n) (omega (arith, set_below 0 n qs (omega arith) (from_one n qs i w) w))

-- ---- the list comes back

-- the members among k quantities from q on are a list that increases from q on, where they are its members and it does not reach past them
listed_back : (member : ℕ → Bool) (n q k : ℕ) (qs : List ℕ) → IncreasingFrom q qs → all_within n qs ≡ true → n < q + k
    → ((p : ℕ) → q ≤ p → member p ≡ is_listed p qs) → hidden_from member q k ≡ qs
unfolding hidden_from is_listed
listed_back member n q zero [] i w h same = refl
listed_back member n q zero (p ∷ ps) i w h same = let z : ⊥ = omega (arith, i.0, first_within n p ps w) in absurd z
listed_back member n q (suc k) [] i w h same =
    rw (same q (omega arith)) (listed_back member n (suc q) k [] tt w (omega arith) (λ r l. same r (omega arith)))
listed_back member n q (suc k) (p ∷ ps) i w h same = go (listed_back member n (suc q) k) (eqb q p) refl
  where
    go : ((rs : List ℕ) → IncreasingFrom (suc q) rs → all_within n rs ≡ true → n < suc q + k
        → ((r : ℕ) → suc q ≤ r → member r ≡ is_listed r rs) → hidden_from member (suc q) k ≡ rs)
        → (b : Bool) → eqb q p ≡ b → cond (member q) (q ∷ hidden_from member (suc q) k) (hidden_from member (suc q) k) ≡ p ∷ ps
    go ih true e =
        let d : q ≡ p = eqb-true q p e in
        let found : member q ≡ true = same q (omega arith) ∙ rw e in
        let rest = ih ps (rw (← d) at i.1) (first_within n p ps w).2 (omega arith)
        (λ r l. same r (omega arith) ∙ rw (ne_eqb r p (omega arith))) in
        rw (found, d) (ap (λ (l : List ℕ). p ∷ l) (rw d at rest))
    go ih false e =
        let later : IncreasingFrom (suc q) (p ∷ ps) = (omega (arith, i.0, eqb-false q p e), i.1) in
        let none : member q ≡ false = same q (omega arith) ∙ member_none q (suc q) (p ∷ ps) (omega arith) later in
        rw none (ih (p ∷ ps) later w (omega arith) (λ r l. same r (omega arith)))

-- the list that the writer makes of the set of a list of quantities is that list
pub list_back : (n : ℕ) (qs : List ℕ) → IncreasingFrom 0 qs → all_within n qs ≡ true → hidden_list n (set_of qs) ≡ qs
list_back n qs i w = listed_back (hidden_in (set_of qs)) n 1 n qs (from_one n qs i w) w (omega arith) (λ p h. list_members n qs i w p)
