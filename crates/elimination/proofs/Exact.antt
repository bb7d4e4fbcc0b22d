-- Hiding one quantity is exact over the integers: the table after it is satisfied exactly where some integer for the quantity satisfies the table
-- before. Pairing alone changes nothing of what satisfies the table; upwards through the quantities it is exact too, for finding an assignment.
-- Assumes nothing.
use mathlib.Core.Path.{◌≡◌, refl, sym, ◌∙◌}
use mathlib.Core.Bool.{Bool, true, false}
use mathlib.Core.List.{List}
use mathlib.Core.Logic.Iff
use mathlib.Core.Logic.{◌↔◌, ◌⊎◌, inl, inr}
use Prim.Native.Nat.{ℕ, suc, ◌+◌, ◌*◌, ◌/◌, ◌≤◌, ◌<◌}
use native.Mathlib.Omega.{arith}
use lib.Dec.{eqb}
use lib.IntN.{ℤ}
use lib.ListN.{length}
use borrow.Author.Tests.{eqb-true, eqb-false, eq-eqb, ne_eqb}
use Rattle.words.proofs.Change.{change_length}
use Rattle.places.specs.Numbering.{block_start}
use Rattle.rules.specs.Literal.{quantity_of}
use Rattle.rules.specs.Meaning.{Assignment, literal_value}
use Rattle.tables.specs.Tables.{clearing, cleared}
use Rattle.tables.specs.Meaning.{Satisfies, joined, SheetAllows}
use Rattle.tables.proofs.Tests.{clash}
use Rattle.tables.proofs.Without.{cleared_meaning}
use Rattle.elimination.specs.Hiding.{every, pair_word, lone_word, paired, contradicts, eliminated}
use Rattle.elimination.specs.Choosing.{chosen}
use Rattle.elimination.proofs.Projection.{own_sums, sums_own}
use Rattle.elimination.proofs.Terms.{Live}
use Rattle.elimination.proofs.TermWords.{pair_apart}
use Rattle.elimination.proofs.Terms.{TermsMet, Others, OwnOf, satisfies_met, without_met, met_some, sums_some, met_own, met_join, literal_agree, met_agree, own_agree, sums_agree}
use Rattle.elimination.proofs.Step.{SumsOf, Adds, paired_length, step_lower, step_met, step_clear, step_sums}

-- ---- literals

-- a literal is one of quantity j + 1 or another
others_or_own : (n j x : ℕ) → Live every n x → Others every n j x ⊎ (x / 2 ≡ j)
others_or_own n j x a = go (eqb (x / 2) j) refl
  where
    go : (b : Bool) → eqb (x / 2) j ≡ b → Others every n j x ⊎ (x / 2 ≡ j)
    go true e = inr (eqb-true (x / 2) j e)
    go false e = inl (a.0, a.1, eqb-false (x / 2) j e)

-- where quantity j + 1 is not live, the live literals are others
pub live_others : (live : ℕ → Bool) (n j : ℕ) → live j ≡ false → (x : ℕ) → Live live n x → Others live n j x
live_others live n j d x i = (i.0, i.1, λ e. clash i.0 (rw e d))

-- assignments that differ at quantity j + 1 at most give the other literals the same integers
other_quantity : (σ τ : Assignment) (j x : ℕ) → ((q : ℕ) → (q ≡ suc j → ⊥) → σ q ≡ τ q) → (x / 2 ≡ j → ⊥)
    → σ (quantity_of x) ≡ τ (quantity_of x)
other_quantity σ τ j x same n = same (quantity_of x) (λ e. n (omega arith))

-- the quantity's integer from one assignment and the others from another
pub joined_own : (j : ℕ) (σ hiddens : Assignment) → joined (eqb (suc j)) σ hiddens (suc j) ≡ hiddens (suc j)
joined_own j σ hiddens = rw (eq-eqb (suc j) (suc j) refl)

pub joined_other : (j : ℕ) (σ hiddens : Assignment) (q : ℕ) → (q ≡ suc j → ⊥) → joined (eqb (suc j)) σ hiddens q ≡ σ q
joined_other j σ hiddens q n = rw (ne_eqb (suc j) q (λ e. n (sym e)))

-- ---- the sums of a quantity and its integer

-- where a table is met on the literals In and on those of the quantity, every sum on In holds
met_sums : (In : ℕ → Type 0) (n j : ℕ) (t : List ℤ) (σ : Assignment) → j < n → ((x : ℕ) → In x → Live every n x)
    → TermsMet (Live every n) t σ → SumsOf In j t σ
met_sums In n j t σ h some m =
    own_sums In (literal_value σ) (pair_word t (2 * j)) (pair_word t (2 * j + 1)) (lone_word t (2 * j)) (lone_word t (2 * j + 1)) (σ (suc j))
    (met_own In (Live every n) t σ j some (refl, omega arith) (refl, omega arith) m)

-- where every sum holds, the chosen integer keeps its bounds, in any assignment that gives it to the quantity
sums_keep : (In : ℕ → Type 0) (live : ℕ → Bool) (i j : ℕ) (t : List ℤ) (σ τ : Assignment)
    → ((x : ℕ) → live (x / 2) ≡ true → x < i → (x / 2 ≡ j → ⊥) → In x)
    → ((x : ℕ) → In x → (live (x / 2) ≡ true) × (x < i))
    → ((x : ℕ) → In x → σ (quantity_of x) ≡ τ (quantity_of x))
    → τ (suc j) ≡ chosen live (literal_value σ) (pair_word t (2 * j)) (pair_word t (2 * j + 1)) (lone_word t (2 * j)) (lone_word t (2 * j + 1)) i
    → SumsOf In j t σ → OwnOf In j t τ
sums_keep In live i j t σ τ has range same value sums =
    rw value
    (own_agree In (literal_value σ) (literal_value τ) plus minus p m (chosen live (literal_value σ) plus minus p m i) (λ x k. literal_agree σ τ x (same x k))
    (sums_own In live (literal_value σ) plus minus p m i
    (λ x l h r. has x l h (λ e. pair_apart t (2 * j + 1) x r (omega arith)))
    range sums))
  where
    plus : ℕ → ℤ
    plus = pair_word t (2 * j)

    minus : ℕ → ℤ
    minus = pair_word t (2 * j + 1)

    p : ℤ
    p = lone_word t (2 * j)

    m : ℤ
    m = lone_word t (2 * j + 1)

-- ---- pairing alone

-- what satisfies a table satisfies it with the sums of a quantity put in, and no bare sum is a contradiction
pub paired_kept : (live : ℕ → Bool) (n j : ℕ) (t : List ℤ) (σ : Assignment) → block_start n ≤ length t → j < n → Satisfies n t σ
    → Satisfies n (paired live n j t) σ × (contradicts live n j t ≡ false)
paired_kept live n j t σ l h s =
    let met = (satisfies_met n t σ l).0 s in (
      (satisfies_met n (paired live n j t) σ (rw (paired_length live n j t) l)).1
          (step_met live n j t (Live every n) σ l (λ x i. i.1) met (met_sums (Live every n) n j t σ h (λ x i. i) met)),
      step_clear live n j t σ (met_sums (Others live n j) n j t σ h (λ x i. (refl, i.1)) met),
    )

-- and what satisfies it with the sums put in satisfied it before
pub paired_only : (live : ℕ → Bool) (n j : ℕ) (t : List ℤ) (σ : Assignment) → block_start n ≤ length t → Satisfies n (paired live n j t) σ → Satisfies n t σ
paired_only live n j t σ l s =
    (satisfies_met n t σ l).1
    (step_lower live n j t (Live every n) σ l (λ x i. i.1) ((satisfies_met n (paired live n j t) σ (rw (paired_length live n j t) l)).0 s))

-- ---- hiding one quantity

-- the table keeps its length
pub eliminate_length : (n j : ℕ) (t : List ℤ) → length (eliminated n j t) ≡ length t
unfolding eliminated cleared
eliminate_length n j t = change_length (block_start n) (clearing (suc j)) (paired every n j t) ∙ paired_length every n j t

-- the table with the quantity hidden says of the other literals what the paired table does
pub eliminated_met : (n j : ℕ) (t : List ℤ) (σ : Assignment) → block_start n ≤ length t
    → Satisfies n (eliminated n j t) σ ↔ TermsMet (Others every n j) (paired every n j t) σ
unfolding eliminated
eliminated_met n j t σ l =
    let room : block_start n ≤ length (paired every n j t) = rw (paired_length every n j t) l in
    Iff.trans (cleared_meaning n (suc j) (paired every n j t) σ room) (without_met j n (paired every n j t) σ room)

-- where no bare sum is a contradiction, it allows just what some integer for the quantity completes
pub eliminate_exact : (n j B : ℕ) (t : List ℤ) (σ : Assignment) → Adds n B t → j < n → contradicts every n j t ≡ false
    → Satisfies n (eliminated n j t) σ ↔ SheetAllows (eqb (suc j)) (Satisfies n t) σ
eliminate_exact n j B t σ a h c = Iff.trans (eliminated_met n j t σ a.room) (to, of)
  where
    In : ℕ → Type 0
    In = Others every n j

    v : ℤ
    v = chosen every (literal_value σ) (pair_word t (2 * j)) (pair_word t (2 * j + 1)) (lone_word t (2 * j)) (lone_word t (2 * j + 1)) (2 * n)

    to : TermsMet (Others every n j) (paired every n j t) σ → SheetAllows (eqb (suc j)) (Satisfies n t) σ
    to m = record { hiddens = λ q. v; complete = (satisfies_met n t τ a.room).1 (met_join In (Live every n) t τ j (others_or_own n j) others own) }
      where
        τ : Assignment
        τ = joined (eqb (suc j)) σ (λ q. v)

        same : (x : ℕ) → Others every n j x → σ (quantity_of x) ≡ τ (quantity_of x)
        same x i = other_quantity σ τ j x (λ q d. sym (joined_other j σ (λ q. v) q d)) i.2

        others : TermsMet In t τ
        others = met_agree In t σ τ same (step_lower every n j t In σ a.room (λ x i. i.1) m)

        own : OwnOf In j t τ
        own = sums_keep In every (2 * n) j t σ τ (λ x l g d. (refl, g, d)) (λ x i. (refl, i.1)) same
            (joined_own j σ (λ q. v)) (step_sums every n j B t σ a h m c)

    of : SheetAllows (eqb (suc j)) (Satisfies n t) σ → TermsMet (Others every n j) (paired every n j t) σ
    of s = step_met every n j t In σ a.room (λ x i. i.1)
        (met_agree In t τ σ same (met_some In (Live every n) t τ (λ x i. (i.0, i.1)) met))
        (sums_agree In (literal_value τ) (literal_value σ) (pair_word t (2 * j)) (pair_word t (2 * j + 1)) (lone_word t (2 * j)) (lone_word t (2 * j + 1))
        (λ x i. literal_agree τ σ x (same x i))
        (met_sums In n j t τ h (λ x i. (i.0, i.1)) met))
      where
        τ : Assignment
        τ = joined (eqb (suc j)) σ s.hiddens

        same : (x : ℕ) → Others every n j x → τ (quantity_of x) ≡ σ (quantity_of x)
        same x i = other_quantity τ σ j x (joined_other j σ s.hiddens) i.2

        met : TermsMet (Live every n) t τ
        met = (satisfies_met n t τ a.room).0 s.complete

-- where one is, nothing satisfied the table
pub eliminate_none : (n j : ℕ) (t : List ℤ) (σ : Assignment) → block_start n ≤ length t → j < n → contradicts every n j t ≡ true → Satisfies n t σ → ⊥
eliminate_none n j t σ l h c s = clash c (paired_kept every n j t σ l h s).1

-- ---- upwards: the sums of quantity j + 1, itself not live, with live quantities alone

-- where the paired table is met on the live quantities and no bare sum is a contradiction, every sum holds
pub upward_room : (live : ℕ → Bool) (n j B : ℕ) (t : List ℤ) (σ : Assignment) → Adds n B t → j < n → live j ≡ false → contradicts live n j t ≡ false
    → TermsMet (Live live n) (paired live n j t) σ → SumsOf (Live live n) j t σ
upward_room live n j B t σ a h d c m =
    sums_some (Live live n) (Others live n j) (literal_value σ) (pair_word t (2 * j)) (pair_word t (2 * j + 1)) (lone_word t (2 * j)) (lone_word t (2 * j + 1))
    (live_others live n j d)
    (step_sums live n j B t σ a h (met_some (Others live n j) (Live live n) (paired live n j t) σ (λ x i. (i.0, i.1)) m) c)

-- where the table is met on the live quantities and every sum holds, the chosen integer meets it on the quantity too
pub upward_choose : (live : ℕ → Bool) (n j : ℕ) (t : List ℤ) (σ : Assignment) → live j ≡ false → TermsMet (Live live n) t σ
    → SumsOf (Live live n) j t σ → (τ : Assignment) → ((q : ℕ) → (q ≡ suc j → ⊥) → τ q ≡ σ q)
    → τ (suc j) ≡ chosen live (literal_value σ) (pair_word t (2 * j)) (pair_word t (2 * j + 1)) (lone_word t (2 * j)) (lone_word t (2 * j + 1)) (2 * n)
    → (All : ℕ → Type 0) → ((x : ℕ) → All x → Live live n x ⊎ (x / 2 ≡ j)) → TermsMet All t τ
upward_choose live n j t σ d m sums τ rest value All split =
    met_join In All t τ j split (met_agree In t σ τ same m)
    (sums_keep In live (2 * n) j t σ τ (λ x a b e. (a, b)) (λ x i. i) same value sums)
  where
    In : ℕ → Type 0
    In = Live live n

    same : (x : ℕ) → Live live n x → σ (quantity_of x) ≡ τ (quantity_of x)
    same x i = other_quantity σ τ j x (λ q e. sym (rest q e)) (live_others live n j d x i).2
