-- What tables mean: an assignment satisfies a table by the quantities 1 to n alone; the sheet allows visible integers whatever stands at the
-- hidden quantities. Assumes nothing.
use mathlib.Core.Path.{◌≡◌, refl}
use mathlib.Core.Bool.{Bool, true, false, cond}
use mathlib.Core.List.{List}
use mathlib.Core.Logic.{◌↔◌}
use Prim.Native.Nat.{ℕ, ◌≤◌, ◌<◌}
use lib.IntN.{ℤ, pos}
use lib.ListN.{length}
use Rattle.words.specs.Change.{word_at}
use Rattle.rules.specs.declared.rule.Rule.{Rule}
use Rattle.rules.specs.Meaning.{Assignment, Meets, bound_of, names}
use Rattle.tables.specs.Places.{HasPlace}
use Rattle.tables.specs.Tables.{has_rule}
use Rattle.tables.specs.Meaning.{HoldsRule, rule_in, Satisfies, joined, Solutions, SheetAllows, ScriptAllows, SameVisible, NamesVisible}
use Rattle.tables.proofs.Places.{place_of, rule_at_bound, rule_at_place, rule_at_has_place, has_place_below, has_place_names}
use Rattle.tables.proofs.Values.{place_value, meets_at, meets_named}

-- the same, term by term: an assignment satisfies a table where it meets every rule that has a place in it and whose bound is the
-- word there
pub satisfies_terms : (n : ℕ) (t : List ℤ) (σ : Assignment)
    → Satisfies n t σ ↔ ((r : Rule) → HasPlace n r → place_of r < length t → bound_of r ≡ word_at t (place_of r) → has_rule (bound_of r) ≡ true → Meets σ r)
satisfies_terms n t σ = (to, of)
  where
    to : Satisfies n t σ → (r : Rule) → HasPlace n r → place_of r < length t → bound_of r ≡ word_at t (place_of r) → has_rule (bound_of r) ≡ true → Meets σ r
    to s r u l e h =
        let m = s.each (place_of r) (record { inside = has_place_below n r u; there = l; rule = rw (← e) h }) in
        record { met = rw (← place_value n σ r (pos 0) u, e) (meets_at σ (place_of r) (word_at t (place_of r)) m) }

    of : ((r : Rule) → HasPlace n r → place_of r < length t → bound_of r ≡ word_at t (place_of r) → has_rule (bound_of r) ≡ true → Meets σ r) → Satisfies n t σ
    of f = record {
      each = λ k p. f (rule_in t k) (rule_at_has_place n k (word_at t k) p.inside) (rw (rule_at_place k (word_at t k)) p.there)
          (rw (rule_at_bound k (word_at t k), rule_at_place k (word_at t k))) (rw (rule_at_bound k (word_at t k)) p.rule);
    }

-- the rules of a table name quantities of 1 to n alone
pub in_range : (n : ℕ) (t : List ℤ) (k : ℕ) → HoldsRule n t k → (q : ℕ) → names q (rule_in t k) ≡ true → (1 ≤ q) × (q ≤ n)
in_range n t k p q e = has_place_names n q (rule_in t k) (rule_at_has_place n k (word_at t k) p.inside) e

-- two assignments give the quantities 1 to n the same integers
abbrev pub Agree : ℕ → Assignment → Assignment → Type 0
Agree n σ τ = (q : ℕ) → 1 ≤ q → q ≤ n → σ q ≡ τ q

pub satisfies_agree : (n : ℕ) (t : List ℤ) (σ τ : Assignment) → Agree n σ τ → Satisfies n t σ → Satisfies n t τ
satisfies_agree n t σ τ a s = record { each = λ k p. meets_named σ τ (rule_in t k) (same k p) (s.each k p) }
  where
    same : (k : ℕ) → HoldsRule n t k → (q : ℕ) → names q (rule_in t k) ≡ true → σ q ≡ τ q
    same k p q e = let l = in_range n t k p q e in a q l.0 l.1

-- what a sheet allows does not depend on what stands at hidden quantities, nor on quantities past n, where its rules do not
pub allows_visible : (n : ℕ) (hidden : ℕ → Bool) (sheet : Solutions) → ((σ τ : Assignment) → Agree n σ τ → sheet σ → sheet τ)
    → (σ τ : Assignment) → SameVisible n hidden σ τ → SheetAllows hidden sheet σ → SheetAllows hidden sheet τ
allows_visible n hidden sheet within σ τ same a = record {
  hiddens = a.hiddens;
  complete = within (joined hidden σ a.hiddens) (joined hidden τ a.hiddens) (λ q l h. pick q (hidden q) (same q l h)) a.complete;
}
  where
    pick : (q : ℕ) (b : Bool) → (b ≡ false → σ q ≡ τ q) → cond b (a.hiddens q) (σ q) ≡ cond b (a.hiddens q) (τ q)
    pick q true e = refl
    pick q false e = e refl

-- no quantity is visible
abbrev pub NoneVisible : ℕ → (ℕ → Bool) → Type 0
NoneVisible n hidden = (q : ℕ) → 1 ≤ q → q ≤ n → hidden q ≡ true

none_visible : (n : ℕ) (hidden : ℕ → Bool) (σ τ : Assignment) → NoneVisible n hidden → SameVisible n hidden σ τ
none_visible n hidden σ τ all q l h e = cc (all q l h)

-- so of a table,
pub table_allows_visible : (n : ℕ) (hidden : ℕ → Bool) (t : List ℤ) (σ τ : Assignment) → SameVisible n hidden σ τ
    → SheetAllows hidden (Satisfies n t) σ → SheetAllows hidden (Satisfies n t) τ
table_allows_visible n hidden t = allows_visible n hidden (Satisfies n t) (satisfies_agree n t)

-- and where no quantity is visible there is one choice, the empty one: it is allowed or not
pub table_allows_none_visible : (n : ℕ) (hidden : ℕ → Bool) (t : List ℤ) (σ τ : Assignment) → NoneVisible n hidden
    → SheetAllows hidden (Satisfies n t) σ → SheetAllows hidden (Satisfies n t) τ
table_allows_none_visible n hidden t σ τ all = table_allows_visible n hidden t σ τ (none_visible n hidden σ τ all)

-- a script whose rules name visible quantities alone allows visible integers whatever stands at the hidden quantities
pub script_visible : (n : ℕ) (hidden : ℕ → Bool) (t : List ℤ) (σ τ : Assignment) → NamesVisible n hidden t → SameVisible n hidden σ τ
    → ScriptAllows (Satisfies n t) σ → ScriptAllows (Satisfies n t) τ
script_visible n hidden t σ τ v same s = record { each = λ k p. meets_named σ τ (rule_in t k) (agree k p) (s.each k p) }
  where
    agree : (k : ℕ) → HoldsRule n t k → (q : ℕ) → names q (rule_in t k) ≡ true → σ q ≡ τ q
    agree k p q e = let l = in_range n t k p q e in same q l.0 l.1 (v.each k p q e)

-- where no quantity is visible it allows the one empty choice or forbids it
pub script_none_visible : (n : ℕ) (hidden : ℕ → Bool) (t : List ℤ) (σ τ : Assignment) → NamesVisible n hidden t → NoneVisible n hidden
    → ScriptAllows (Satisfies n t) σ → ScriptAllows (Satisfies n t) τ
script_none_visible n hidden t σ τ v all = script_visible n hidden t σ τ v (none_visible n hidden σ τ all)
