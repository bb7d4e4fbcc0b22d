-- Lent slices step by step. Assumes nothing.
use mathlib.Core.Path.{◌≡◌, refl, sym, ◌∙◌, ap}
use mathlib.Core.Bool.{Bool, true}
use mathlib.Core.List.{List}
use Prim.Native.Nat.{ℕ, ◌+◌, ◌-◌, ◌≤◌}
use native.Mathlib.Omega.{arith}
use lib.IntN.{ℤ}
use lib.ListN.{length, drop}
use lib.Seq.{drop-drop}
use Rattle.words.specs.Lent.{Lent}
use Rattle.places.specs.Numbering.{block_start}
use Rattle.tables.proofs.Tests.{clash}
use Rattle.keys.specs.Inner.{Decided}
use Rattle.keys.proofs.Parts.{PartBack, drop_twice}
use Rattle.marking.specs.Meaning.{workspace_size}

-- of two writings, one after the other
pub lent_again : (m : ℕ) (a b : Bool) (u v w : List ℤ) → Lent m a u v → Lent m b v w → Lent m true u w
lent_again m a b u v w l k = record { size = k.size ∙ l.size; rest = k.rest ∙ l.rest; kept = λ e. clash refl e }

-- words past the first m that stay do so past the first k
rest_further : (m k : ℕ) (u v : List ℤ) → m ≤ k → drop m v ≡ drop m u → drop k v ≡ drop k u
rest_further m k u v h e =
    let d : m + (k - m) ≡ k = omega arith in
    ap (λ (i : ℕ). drop i v) (sym d) ∙ sym (drop-drop (k - m) m v) ∙ ap (drop (k - m)) e ∙ drop-drop (k - m) m u ∙ ap (λ (i : ℕ). drop i u) d

-- a slice of which the first m words may change is one of which the first k may
pub lent_wider : (m k : ℕ) (u v : List ℤ) → m ≤ k → length v ≡ length u → drop m v ≡ drop m u → Lent k true u v
lent_wider m k u v h s e = record { size = s; rest = rest_further m k u v h e; kept = λ c. clash refl c }

-- a workspace in which a table was decided
pub decided_lent : (n set : ℕ) (t u : List ℤ) (b : Bool) (v : List ℤ) → Decided n set t u b v → Lent (workspace_size n) true u v
decided_lent n set t u b v d = lent_wider (block_start n) (workspace_size n) u v (omega arith) d.lent.size d.lent.rest

-- a workspace whose second table was lent
pub part_lent : (n : ℕ) (u part part' v : List ℤ) → PartBack (block_start n) u part part' v → Lent (block_start n) true part part' → Lent (workspace_size n) true u v
part_lent n u part part' v p l = record {
  size = p.size;
  rest = sym (drop_twice (block_start n) v) ∙ ap (drop (block_start n)) (sym p.is) ∙ l.rest ∙ ap (drop (block_start n)) p.was ∙ drop_twice (block_start n) u;
  kept = λ c. clash refl c;
}
