-- What the verdict means: demand 3 of tables that passed the checks, and the rule that is carried. Assumes nothing.
use mathlib.Core.Path.{◌≡◌, refl}
use mathlib.Core.Bool.{Bool, true, false, cond}
use mathlib.Core.List.{List}
use mathlib.Core.Logic.{◌↔◌, ◌⊎◌, inl, inr}
use Prim.Native.Nat.{ℕ, zero, suc, ◌≤◌, ◌<◌}
use native.Mathlib.Omega.{arith}
use lib.Dec.{ltb}
use lib.IntN.{ℤ}
use lib.ListN.{length}
use lib.Signed.{le_z}
use borrow.Author.Tests.{ltb-true, ltb-false}
use Rattle.integers.proofs.Parts.{linear, le_z_true, le_z_false}
use Rattle.words.specs.Change.{word_at}
use Rattle.places.specs.Numbering.{block_start}
use Rattle.rules.specs.declared.rule.Rule.{Rule}
use Rattle.rules.specs.declared.rule.Rule.TheVariants.{One, Two, Nothing}
use Rattle.rules.specs.Hidden.{hidden_in}
use Rattle.rules.specs.Meaning.{Assignment, Meets, term_value, bound_of, has_term}
use Rattle.rules.specs.Steps.{trivial_rule}
use Rattle.tables.specs.Tables.{has_rule}
use Rattle.tables.specs.Meaning.{HoldsRule, rule_in, Satisfies, Satisfiable, Unsatisfiable, Solutions, joined, SheetAllows, Breaks, NamesVisible}
use Rattle.tables.proofs.Tests.{clash}
use Rattle.tables.proofs.Meanings.{script_visible}
use Rattle.tables.proofs.Values.{meets_named}
use Rattle.elimination.specs.Hiding.{every}
use Rattle.keys.specs.Keys.{key_of, refuted}
use Rattle.keys.specs.Inner.{Fits}
use Rattle.keys.proofs.Several.{allows_own, key_exact, refuted_false}
use Rattle.keys.proofs.Fitting.{hide_ample}
use Rattle.keys.proofs.Deciding.{refuted_exactly}
use Rattle.marking.specs.declared.verdict.Verdict.{Verdict}
use Rattle.marking.specs.declared.verdict.Verdict.TheVariants.{Equal, Loose, Tight}
use Rattle.marking.specs.Verdicts.{verdict_number}
use Rattle.marking.specs.Meaning.{AllowSame, IsLoose, IsNarrow, IsTight, ByDemand, FirstAt, FirstBroken, LooseRule, TightRule}
use Rattle.marking.specs.Marking.{first_broken, or_else, verdict_of}
use Rattle.marking.specs.Inner.{TablesAccepted}
use Rattle.marking.proofs.Breakable.{NoneBroken, Exactly, breakable_exactly, first_some, first_none}
use Rattle.marking.proofs.Opposed.{key_room, sheet_fitting, script_fitting, tight_opposed, loose_opposed, tight_small, loose_small}

-- ---- the three conditions exclude each other, so the one that holds gives the number

-- equal papers are neither loose nor narrow
same_demand : (hidden : ℕ → Bool) (sheet script : Solutions) → AllowSame hidden sheet script → ByDemand hidden sheet script 100
same_demand hidden sheet script s = record {
  equal = (λ e. s, λ a. refl);
  loose = (λ e. absurd (omega arith), λ l. absurd (l.incomplete ((s l.visibles).0 l.allowed)));
  tight = (λ e. absurd (omega arith), λ t. absurd (t.1.forbidden ((s t.1.visibles).1 t.1.completed)));
}

-- a loose script is not equal, and tight asks for one that is not loose
loose_demand : (hidden : ℕ → Bool) (sheet script : Solutions) → IsLoose hidden sheet script → ByDemand hidden sheet script 101
loose_demand hidden sheet script l = record {
  equal = (λ e. absurd (omega arith), λ s. absurd (l.incomplete ((s l.visibles).0 l.allowed)));
  loose = (λ e. l, λ a. refl);
  tight = (λ e. absurd (omega arith), λ t. absurd (t.0 l));
}

-- a tight script is not loose, and too narrow to be equal
tight_demand : (hidden : ℕ → Bool) (sheet script : Solutions) → IsTight hidden sheet script → ByDemand hidden sheet script 102
tight_demand hidden sheet script t = record {
  equal = (λ e. absurd (omega arith), λ s. absurd (t.1.forbidden ((s t.1.visibles).1 t.1.completed)));
  loose = (λ e. absurd (omega arith), λ l. absurd (t.0 l));
  tight = (λ e. t, λ a. refl);
}

-- ---- a table that an assignment does not satisfy has a rule that it does not meet

-- a place that holds a rule that an assignment does not meet
record Unmet (n : ℕ) (t : List ℤ) (σ : Assignment) : Type 0 where
  place : ℕ
  holds : HoldsRule n t place
  unmet : Meets σ (rule_in t place) → ⊥

-- whether an assignment meets a rule is one comparison
meets_or_not : (σ : Assignment) (r : Rule) → Meets σ r ⊎ (Meets σ r → ⊥)
meets_or_not σ r = go (le_z (term_value σ r) (bound_of r)) refl
  where
    go : (b : Bool) → le_z (term_value σ r) (bound_of r) ≡ b → Meets σ r ⊎ (Meets σ r → ⊥)
    go true e = inl (record { met = omega (linear, le_z_true (term_value σ r) (bound_of r) e) })
    go false e = inr (λ m. omega (linear, le_z_false (term_value σ r) (bound_of r) e, m.met))

-- what holds of the numbers below m, and of m itself, holds below the next
below_next : (P : ℕ → Type 0) (m : ℕ) → ((k : ℕ) → k < m → P k) → P m → (k : ℕ) → k < suc m → P k
below_next P m below own k h = go (ltb k m) refl
  where
    go : (b : Bool) → ltb k m ≡ b → P k
    go true e = below k (ltb-true k m e)
    go false e = let d : k ≡ m = omega (arith, ltb-false k m e) in rw d own

-- of the first m places every rule is met, or some place holds one that is not
met_below : (n : ℕ) (t : List ℤ) (σ : Assignment) (m : ℕ) → m ≤ block_start n → block_start n ≤ length t
    → ((k : ℕ) → k < m → HoldsRule n t k → Meets σ (rule_in t k)) ⊎ Unmet n t σ
met_below n t σ zero h l = inl (λ k g p. absurd (omega arith))
met_below n t σ (suc m) h l = go (met_below n t σ m (omega arith) l) (has_rule (word_at t m)) refl (meets_or_not σ (rule_in t m))
  where
    go : ((k : ℕ) → k < m → HoldsRule n t k → Meets σ (rule_in t k)) ⊎ Unmet n t σ → (b : Bool) → has_rule (word_at t m) ≡ b
        → Meets σ (rule_in t m) ⊎ (Meets σ (rule_in t m) → ⊥) → ((k : ℕ) → k < suc m → HoldsRule n t k → Meets σ (rule_in t k)) ⊎ Unmet n t σ
    go (inr u) b e c = inr u
    go (inl all) false e c = inl (below_next (λ k. HoldsRule n t k → Meets σ (rule_in t k)) m all (λ p. clash p.rule e))
    go (inl all) true e (inl y) = inl (below_next (λ k. HoldsRule n t k → Meets σ (rule_in t k)) m all (λ p. y))
    go (inl all) true e (inr y) =
        inr (record { place = m; holds = record { inside = omega arith; there = omega arith; rule = e }; unmet = y })

-- a table is satisfied, or some place holds a rule that is not met
unsatisfied_place : (n : ℕ) (t : List ℤ) (σ : Assignment) → block_start n ≤ length t → Satisfies n t σ ⊎ Unmet n t σ
unsatisfied_place n t σ l = go (met_below n t σ (block_start n) (omega arith) l)
  where
    go : ((k : ℕ) → k < block_start n → HoldsRule n t k → Meets σ (rule_in t k)) ⊎ Unmet n t σ → Satisfies n t σ ⊎ Unmet n t σ
    go (inl all) = inl (record { each = λ k p. all k p.inside p })
    go (inr u) = inr u

-- where none of a table's rules is broken by a paper, what satisfies the paper satisfies the table
unbroken_satisfied : (n : ℕ) (rules : List ℤ) (paper : Solutions) (σ : Assignment) → block_start n ≤ length rules → NoneBroken n rules paper → paper σ
    → Satisfies n rules σ
unbroken_satisfied n rules paper σ l none s = go (unsatisfied_place n rules σ l)
  where
    go : Satisfies n rules σ ⊎ Unmet n rules σ → Satisfies n rules σ
    go (inl y) = y
    go (inr u) = absurd (none u.place u.holds (record { assignment = σ; satisfies = s; broken = u.unmet }))

-- ---- of a sheet that no integers satisfy

-- where no contradiction is met, some integers satisfy the table
pub some_satisfy : (n : ℕ) (t : List ℤ) → Fits n t → refuted n t ≡ false → Satisfiable n t
some_satisfy n t f e = refuted_false n t f.sums.room (hide_ample every n t f) e

-- where none satisfy the script either, they allow the same
nothing_same : (hidden : ℕ → Bool) (n : ℕ) (sheet script : List ℤ) → Unsatisfiable n sheet → Unsatisfiable n script
    → AllowSame hidden (Satisfies n sheet) (Satisfies n script)
nothing_same hidden n sheet script u v σ = (λ s. absurd (v σ s), λ a. absurd (u (joined hidden σ a.hiddens) a.complete))

-- and else the script is loose
nothing_loose : (hidden : ℕ → Bool) (n : ℕ) (sheet script : List ℤ) → Unsatisfiable n sheet → Satisfiable n script
    → IsLoose hidden (Satisfies n sheet) (Satisfies n script)
nothing_loose hidden n sheet script u s = record {
  visibles = s.assignment;
  allowed = s.satisfies;
  incomplete = λ a. u (joined hidden s.assignment a.hiddens) a.complete;
}

-- ---- of others

-- the key is exact: it allows what the sheet does
abbrev pub KeyExact : (ℕ → Bool) → ℕ → List ℤ → Type 0
KeyExact hidden n sheet = (σ : Assignment) → Satisfies n (key_of hidden n sheet) σ ↔ SheetAllows hidden (Satisfies n sheet) σ

-- it is, of tables that passed the checks
pub key_allows : (n set : ℕ) (sheet script : List ℤ) (w v : ℕ) → TablesAccepted n set sheet script w v → Satisfiable n sheet
    → KeyExact (hidden_in set) n sheet
key_allows n set sheet script w v m s =
    key_exact (hidden_in set) n sheet s.assignment (hide_ample (hidden_in set) n sheet (sheet_fitting n set sheet script w v m)) s.satisfies

-- a key rule that some assignment of the script breaks: the script is loose
broken_loose : (hidden : ℕ → Bool) (n : ℕ) (sheet : List ℤ) (script : Solutions) (r : Rule) → KeyExact hidden n sheet
    → FirstBroken n (key_of hidden n sheet) script r → IsLoose hidden (Satisfies n sheet) script
broken_loose hidden n sheet script r exact f = record {
  visibles = f.at.breaks.assignment;
  allowed = f.at.breaks.satisfies;
  incomplete = λ a. f.at.breaks.broken (((exact f.at.breaks.assignment).1 a).each f.place f.at.holds);
}

-- none: the script is not
unbroken_not_loose : (hidden : ℕ → Bool) (n : ℕ) (sheet : List ℤ) (script : Solutions) → block_start n ≤ length (key_of hidden n sheet) → KeyExact hidden n sheet
    → NoneBroken n (key_of hidden n sheet) script → IsLoose hidden (Satisfies n sheet) script → ⊥
unbroken_not_loose hidden n sheet script l exact none a =
    a.incomplete ((exact a.visibles).0 (unbroken_satisfied n (key_of hidden n sheet) script a.visibles l none a.allowed))

-- a script rule that some assignment of the sheet breaks: the script is too narrow
broken_narrow : (hidden : ℕ → Bool) (n : ℕ) (sheet script : List ℤ) (r : Rule) → FirstBroken n script (Satisfies n sheet) r
    → IsNarrow hidden (Satisfies n sheet) (Satisfies n script)
broken_narrow hidden n sheet script r f = record {
  visibles = f.at.breaks.assignment;
  completed = allows_own n hidden sheet f.at.breaks.assignment f.at.breaks.satisfies;
  forbidden = λ s. f.at.breaks.broken (s.each f.place f.at.holds);
}

-- a rule of the script that some assignment of the key breaks is one that some assignment of the sheet breaks: hidden values complete it, and the rule names visible quantities alone
key_breaks : (hidden : ℕ → Bool) (n : ℕ) (sheet script : List ℤ) (k : ℕ) → NamesVisible n hidden script → KeyExact hidden n sheet → HoldsRule n script k
    → Breaks (Satisfies n (key_of hidden n sheet)) (rule_in script k) → Breaks (Satisfies n sheet) (rule_in script k)
key_breaks hidden n sheet script k visible exact p b =
    let a = (exact b.assignment).0 b.satisfies in record {
      assignment = joined hidden b.assignment a.hiddens;
      satisfies = a.complete;
      broken = λ m. b.broken (meets_named (joined hidden b.assignment a.hiddens) b.assignment (rule_in script k) (λ q e. rw (visible.each k p q e)) m);
    }

-- and conversely
sheet_breaks : (hidden : ℕ → Bool) (n : ℕ) (sheet script : List ℤ) (k : ℕ) → KeyExact hidden n sheet
    → Breaks (Satisfies n sheet) (rule_in script k) → Breaks (Satisfies n (key_of hidden n sheet)) (rule_in script k)
sheet_breaks hidden n sheet script k exact b = record {
  assignment = b.assignment;
  satisfies = (exact b.assignment).1 (allows_own n hidden sheet b.assignment b.satisfies);
  broken = b.broken;
}

-- so the first is the same
pub key_first : (hidden : ℕ → Bool) (n : ℕ) (sheet script : List ℤ) (k : ℕ) → NamesVisible n hidden script → KeyExact hidden n sheet
    → FirstAt n script (Satisfies n (key_of hidden n sheet)) k → FirstAt n script (Satisfies n sheet) k
key_first hidden n sheet script k visible exact f = record {
  holds = f.holds;
  breaks = key_breaks hidden n sheet script k visible exact f.holds f.breaks;
  first = λ i h g b. f.first i h g (sheet_breaks hidden n sheet script i exact b);
}

key_none : (hidden : ℕ → Bool) (n : ℕ) (sheet script : List ℤ) → KeyExact hidden n sheet → NoneBroken n script (Satisfies n (key_of hidden n sheet))
    → NoneBroken n script (Satisfies n sheet)
key_none hidden n sheet script exact f k p b = f k p (sheet_breaks hidden n sheet script k exact b)

-- none of either: they allow the same, the script's rules naming visible quantities alone
unbroken_same : (hidden : ℕ → Bool) (n : ℕ) (sheet script : List ℤ) → block_start n ≤ length (key_of hidden n sheet) → block_start n ≤ length script
    → NamesVisible n hidden script → KeyExact hidden n sheet → NoneBroken n (key_of hidden n sheet) (Satisfies n script) → NoneBroken n script (Satisfies n sheet)
    → AllowSame hidden (Satisfies n sheet) (Satisfies n script)
unbroken_same hidden n sheet script l g visible exact keys none σ = (
  λ s. (exact σ).0 (unbroken_satisfied n (key_of hidden n sheet) (Satisfies n script) σ l keys s),
  λ a. script_visible n hidden script (joined hidden σ a.hiddens) σ visible (λ q h k e. rw e)
      (unbroken_satisfied n script (Satisfies n sheet) (joined hidden σ a.hiddens) g none a.complete),
)

-- ---- the verdict

-- what a verdict is to mean, with the rule that it carries
abbrev Means : (ℕ → Bool) → ℕ → List ℤ → List ℤ → Verdict → Type 0
Means hidden n sheet script Equal = AllowSame hidden (Satisfies n sheet) (Satisfies n script)
Means hidden n sheet script (Loose r) = IsLoose hidden (Satisfies n sheet) (Satisfies n script) × LooseRule hidden n sheet (Satisfies n script) r
Means hidden n sheet script (Tight r) = IsTight hidden (Satisfies n sheet) (Satisfies n script) × TightRule n (Satisfies n sheet) script r

-- a rule of one or two quantities is carried, and of any other the next verdict stands
carried_or_next : (P : Verdict → Type 0) (carry : Rule → Verdict) (r : Rule) (next : Verdict) → (has_term r ≡ true → P (carry r)) → (has_term r ≡ false → P next)
    → P (or_else carry r next)
carried_or_next P carry (One x c) next some none = some refl
carried_or_next P carry (Two x y c) next some none = some refl
carried_or_next P carry (Nothing c) next some none = none refl

-- whether a rule of the key is breakable in the script is decided rightly, and so the other way round
pub key_exactly : (n set : ℕ) (sheet script : List ℤ) (w v : ℕ) → TablesAccepted n set sheet script w v → Exactly n (key_of (hidden_in set) n sheet) script
key_exactly n set sheet script w v m k p =
    breakable_exactly n script k (word_at (key_of (hidden_in set) n sheet) k) m.sized.script_room p.inside (loose_small n set sheet script w v m k p)
    (loose_opposed n set sheet script w v m k p)

pub script_exactly : (n set : ℕ) (sheet script : List ℤ) (w v : ℕ) → TablesAccepted n set sheet script w v → Exactly n script (key_of (hidden_in set) n sheet)
script_exactly n set sheet script w v m k p =
    breakable_exactly n (key_of (hidden_in set) n sheet) k (word_at script k) (key_room n set sheet script w v m) p.inside (tight_small n set sheet script w v m k p)
    (tight_opposed n set sheet script w v m k p)

-- the verdict means what it is to mean
verdict_means : (n set : ℕ) (sheet script : List ℤ) (w v : ℕ) → TablesAccepted n set sheet script w v
    → Means (hidden_in set) n sheet script (verdict_of (hidden_in set) n sheet script)
unfolding verdict_of
verdict_means n set sheet script w v m = go (refuted n sheet) refl
  where
    hidden : ℕ → Bool
    hidden = hidden_in set

    key : List ℤ
    key = key_of hidden n sheet

    room : block_start n ≤ length key
    room = key_room n set sheet script w v m

    without : Unsatisfiable n sheet → (b : Bool) → refuted n script ≡ b → Means hidden n sheet script (cond b Equal (Loose trivial_rule))
    without u true e = nothing_same hidden n sheet script u ((refuted_exactly n script (script_fitting n set sheet script w v m)).0 e)
    without u false e = (
      nothing_loose hidden n sheet script u (some_satisfy n script (script_fitting n set sheet script w v m) e),
      inl (u, refl),
    )

    exact : Satisfiable n sheet → KeyExact hidden n sheet
    exact = key_allows n set sheet script w v m

    not_loose : Satisfiable n sheet → NoneBroken n key (Satisfies n script) → Means hidden n sheet script (or_else Tight (first_broken n script key) Equal)
    not_loose s keys = carried_or_next (Means hidden n sheet script) Tight (first_broken n script key) Equal tight equal
      where
        tight : has_term (first_broken n script key) ≡ true → Means hidden n sheet script (Tight (first_broken n script key))
        tight e =
            let g = first_some n script key m.sized.script_room (script_exactly n set sheet script w v m) e in
            let f : FirstBroken n script (Satisfies n sheet) (first_broken n script key) =
            record { place = g.place; is = g.is; at = key_first hidden n sheet script g.place m.visible (exact s) g.at } in (
              (
                unbroken_not_loose hidden n sheet (Satisfies n script) room (exact s) keys,
                broken_narrow hidden n sheet script (first_broken n script key) f,
              ),
              f,
            )

        equal : has_term (first_broken n script key) ≡ false → Means hidden n sheet script Equal
        equal e =
            let none = (first_none n script key m.sized.script_room (script_exactly n set sheet script w v m) e).1 in
            unbroken_same hidden n sheet script room m.sized.script_room m.visible (exact s) keys (key_none hidden n sheet script (exact s) none)

    with_some : Satisfiable n sheet → Means hidden n sheet script (or_else Loose (first_broken n key script) (or_else Tight (first_broken n script key) Equal))
    with_some s = carried_or_next (Means hidden n sheet script) Loose (first_broken n key script) (or_else Tight (first_broken n script key) Equal) loose next
      where
        loose : has_term (first_broken n key script) ≡ true → Means hidden n sheet script (Loose (first_broken n key script))
        loose e =
            let f = first_some n key script room (key_exactly n set sheet script w v m) e in
            (broken_loose hidden n sheet (Satisfies n script) (first_broken n key script) (exact s) f, inr (s, f))

        next : has_term (first_broken n key script) ≡ false → Means hidden n sheet script (or_else Tight (first_broken n script key) Equal)
        next e = not_loose s (first_none n key script room (key_exactly n set sheet script w v m) e).1

    go : (b : Bool) → refuted n sheet ≡ b → Means hidden n sheet script (cond b (cond (refuted n script) Equal (Loose trivial_rule))
        (or_else Loose (first_broken n key script) (or_else Tight (first_broken n script key) Equal)))
    go true e = without ((refuted_exactly n sheet (sheet_fitting n set sheet script w v m)).0 e) (refuted n script) refl
    go false e = with_some (some_satisfy n sheet (sheet_fitting n set sheet script w v m) e)

-- a verdict that means this has demand 3's number
means_demand : (hidden : ℕ → Bool) (n : ℕ) (sheet script : List ℤ) (v : Verdict) → Means hidden n sheet script v
    → ByDemand hidden (Satisfies n sheet) (Satisfies n script) (verdict_number v)
means_demand hidden n sheet script Equal s = same_demand hidden (Satisfies n sheet) (Satisfies n script) s
means_demand hidden n sheet script (Loose r) s = loose_demand hidden (Satisfies n sheet) (Satisfies n script) s.0
means_demand hidden n sheet script (Tight r) s = tight_demand hidden (Satisfies n sheet) (Satisfies n script) s.0

-- the verdict is demand 3's
pub verdict_demand : (n set : ℕ) (sheet script : List ℤ) (w v : ℕ) → TablesAccepted n set sheet script w v
    → ByDemand (hidden_in set) (Satisfies n sheet) (Satisfies n script) (verdict_number (verdict_of (hidden_in set) n sheet script))
verdict_demand n set sheet script w v m =
    means_demand (hidden_in set) n sheet script (verdict_of (hidden_in set) n sheet script) (verdict_means n set sheet script w v m)

-- a loose one carries the rule that it is to carry
pub verdict_loose : (n set : ℕ) (sheet script : List ℤ) (w v : ℕ) → TablesAccepted n set sheet script w v
    → (rule : Rule) → verdict_of (hidden_in set) n sheet script ≡ Loose rule → LooseRule (hidden_in set) n sheet (Satisfies n script) rule
verdict_loose n set sheet script w v m rule e =
    let s = verdict_means n set sheet script w v m in let t : Means (hidden_in set) n sheet script (Loose rule) = rw e at s in t.1

-- and so does a tight one
pub verdict_tight : (n set : ℕ) (sheet script : List ℤ) (w v : ℕ) → TablesAccepted n set sheet script w v
    → (rule : Rule) → verdict_of (hidden_in set) n sheet script ≡ Tight rule → TightRule n (Satisfies n sheet) script rule
verdict_tight n set sheet script w v m rule e =
    let s = verdict_means n set sheet script w v m in let t : Means (hidden_in set) n sheet script (Tight rule) = rw e at s in t.1
