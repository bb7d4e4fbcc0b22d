-- What marking says of two papers it says of any two that are satisfied by the same assignments, as a table and the rules that it is made of. Assumes nothing.
use mathlib.Core.Bool.{Bool}
use mathlib.Core.List.{List}
use mathlib.Core.Logic.{◌↔◌, inl, inr}
use Prim.Native.Nat.{ℕ}
use lib.IntN.{ℤ}
use Rattle.rules.specs.declared.rule.Rule.{Rule}
use Rattle.rules.specs.Hidden.{hidden_in}
use Rattle.rules.specs.Refusal.{Returned}
use Rattle.rules.specs.Meaning.{Assignment}
use Rattle.tables.specs.Meaning.{Solutions, joined, SheetAllows, Breaks, assignment_of}
use Rattle.marking.specs.Meaning.{AllowSame, IsLoose, IsNarrow, ByDemand, ByVisible, FirstBroken, LooseRule, LooseShown, TightShown, VerdictMeans}

-- two papers are satisfied by the same assignments
abbrev pub Alike : Solutions → Solutions → Type 0
Alike A B = (σ : Assignment) → A σ ↔ B σ

-- the other way round
pub alike_back : {A B : Solutions} → Alike A B → Alike B A
alike_back h σ = ((h σ).1, (h σ).0)

-- what one sheet allows the other does
pub allows : {A B : Solutions} (hidden : ℕ → Bool) → Alike A B → (σ : Assignment) → SheetAllows hidden A σ → SheetAllows hidden B σ
allows hidden h σ s = record { hiddens = s.hiddens; complete = (h (joined hidden σ s.hiddens)).0 s.complete }

-- a rule that some assignment of one paper breaks some of the other does
breaks : {A B : Solutions} (r : Rule) → Alike A B → Breaks A r → Breaks B r
breaks r h b = record { assignment = b.assignment; satisfies = (h b.assignment).0 b.satisfies; broken = b.broken }

-- ---- demand 3

module _ {A B C D : Solutions} (hidden : ℕ → Bool) (h : Alike A B) (g : Alike C D) where
  -- equal
  pub alike_same : AllowSame hidden A C → AllowSame hidden B D
  alike_same s σ = (λ d. allows hidden h σ ((s σ).0 ((g σ).1 d)), λ b. (g σ).0 ((s σ).1 (allows hidden (alike_back h) σ b)))

  -- loose
  loose : IsLoose hidden A C → IsLoose hidden B D
  loose l = record {
    visibles = l.visibles;
    allowed = (g l.visibles).0 l.allowed;
    incomplete = λ s. l.incomplete (allows hidden (alike_back h) l.visibles s);
  }

  -- too narrow
  narrow : IsNarrow hidden A C → IsNarrow hidden B D
  narrow l = record {
    visibles = l.visibles;
    completed = allows hidden h l.visibles l.completed;
    forbidden = λ d. l.forbidden ((g l.visibles).1 d);
  }

-- a number is that of the same verdict
alike_demand : {A B C D : Solutions} (hidden : ℕ → Bool) (number : ℕ) → Alike A B → Alike C D → ByDemand hidden A C number → ByDemand hidden B D number
alike_demand hidden number h g d =
    let h' = alike_back h in
    let g' = alike_back g in
    record {
      equal = (λ e. alike_same hidden h g (d.equal.0 e), λ s. d.equal.1 (alike_same hidden h' g' s));
      loose = (λ e. loose hidden h g (d.loose.0 e), λ s. d.loose.1 (loose hidden h' g' s));
      tight = (
        λ e. let t = d.tight.0 e in (λ l. t.0 (loose hidden h' g' l), narrow hidden h g t.1),
        λ t. d.tight.1 (λ l. t.0 (loose hidden h g l), narrow hidden h' g' t.1),
      );
    }

-- an assignment is its visible integers to the other papers too
alike_visible : {A B C D : Solutions} (n : ℕ) (hidden : ℕ → Bool) → Alike A B → Alike C D → ByVisible n hidden A C → ByVisible n hidden B D
alike_visible n hidden h g v = record {
  script_visible = λ σ τ s a. (g τ).0 (v.script_visible σ τ s ((g σ).1 a));
  sheet_visible = λ σ τ s a. allows hidden h τ (v.sheet_visible σ τ s (allows hidden (alike_back h) σ a));
}

-- ---- the rule that is carried

-- the first broken rule is the same, which is a tight verdict's
alike_broken : {A B : Solutions} (n : ℕ) (rules : List ℤ) (r : Rule) → Alike A B → FirstBroken n rules A r → FirstBroken n rules B r
alike_broken n rules r h f = record {
  place = f.place;
  is = f.is;
  at = record {
    holds = f.at.holds;
    breaks = breaks _ h f.at.breaks;
    first = λ i l k b. f.at.first i l k (breaks _ (alike_back h) b);
  };
}

-- a loose verdict's
alike_loose_rule : {A B : Solutions} (hidden : ℕ → Bool) (n : ℕ) (sheet : List ℤ) (r : Rule) → Alike A B
    → LooseRule hidden n sheet A r → LooseRule hidden n sheet B r
alike_loose_rule hidden n sheet r h (inl f) = inl f
alike_loose_rule hidden n sheet r h (inr f) = inr (f.0, alike_broken n _ r h f.1)

-- ---- the assignment that shows it

-- for loose
alike_loose_shown : {A B C D : Solutions} (n : ℕ) (hidden : ℕ → Bool) (r : Rule) (values : List ℤ) → Alike A B → Alike C D
    → LooseShown n hidden A C r values → LooseShown n hidden B D r values
alike_loose_shown n hidden r values h g s = record {
  allowed = (g (assignment_of values)).0 s.allowed;
  incomplete = λ d. s.incomplete (allows hidden (alike_back h) (assignment_of values) d);
  breaks = s.breaks;
  zero = s.zero;
  there = s.there;
  range = s.range;
}

-- for tight
alike_tight_shown : {A B C D : Solutions} (n : ℕ) (hidden : ℕ → Bool) (r : Rule) (values : List ℤ) → Alike A B → Alike C D
    → TightShown n hidden A C r values → TightShown n hidden B D r values
alike_tight_shown n hidden r values h g s = record {
  complete = (h (joined hidden (assignment_of values) (assignment_of values))).0 s.complete;
  forbidden = λ d. s.forbidden ((g (assignment_of values)).1 d);
  breaks = s.breaks;
  there = s.there;
  range = s.range;
}

-- ---- all that a verdict means

pub alike_means : {A B C D : Solutions} (n set : ℕ) (sheet script : List ℤ) (returned : Returned) (values : List ℤ) → Alike A B → Alike C D
    → VerdictMeans n set A C sheet script returned values → VerdictMeans n set B D sheet script returned values
alike_means n set sheet script returned values h g m = record {
  demand = alike_demand (hidden_in set) returned.number h g m.demand;
  visibles = alike_visible n (hidden_in set) h g m.visibles;
  key = m.key;
  loose = λ r e. let x = m.loose r e in (alike_loose_rule (hidden_in set) n sheet r g x.0, alike_loose_shown n (hidden_in set) r values h g x.1);
  tight = λ r e. let x = m.tight r e in (alike_broken n script r h x.0, alike_tight_shown n (hidden_in set) r values h g x.1);
}
