-- The assignment that shows a verdict, from one of a table that breaks a rule. Assumes nothing.
use mathlib.Core.Path.{◌≡◌, sym}
use mathlib.Core.Bool.{Bool, true}
use mathlib.Core.List.{List}
use Prim.Native.Nat.{ℕ, zero, suc, ◌≤◌}
use native.Mathlib.Omega.{arith}
use lib.IntN.{ℤ, pos}
use lib.ListN.{length}
use Rattle.rules.specs.declared.rule.Rule.{Rule}
use Rattle.rules.specs.declared.rule.Rule.TheVariants.{One, Two, Nothing}
use Rattle.rules.specs.Hidden.{hidden_in}
use Rattle.rules.specs.Meaning.{Assignment, Meets}
use Rattle.tables.specs.Meaning.{HoldsRule, rule_in, Satisfies, joined, assignment_of}
use Rattle.tables.proofs.Meanings.{satisfies_agree}
use Rattle.keys.specs.Keys.{key_of}
use Rattle.keys.proofs.Several.{cond_same}
use Rattle.marking.specs.Meaning.{BreaksCarried, LooseShown, TightShown}
use Rattle.marking.specs.Inner.{ScriptBroken, SheetShown}
use Rattle.marking.proofs.Demand.{KeyExact}

-- an assignment that does not meet a rule breaks it as one that is carried
carried : (σ : Assignment) (r : Rule) → (Meets σ r → ⊥) → BreaksCarried σ r
carried σ (One x c) b = b
carried σ (Two x y c) b = b
carried σ (Nothing c) b = tt

-- values are 0 at hidden quantities where their words are
pub zero_words : (n : ℕ) (hidden : ℕ → Bool) (values : List ℤ) → ((j : ℕ) → suc j ≤ n → hidden (suc j) ≡ true → assignment_of values (suc j) ≡ pos 0)
    → (q : ℕ) → 1 ≤ q → q ≤ n → hidden q ≡ true → assignment_of values q ≡ pos 0
zero_words n hidden values z zero a b h = let y : ⊥ = omega arith in absurd y
zero_words n hidden values z (suc j) a b h = z j b h

-- an assignment of the script that breaks a rule of the key shows that the script is loose
pub loose_shows : (n set : ℕ) (sheet script : List ℤ) (k : ℕ) (w v w' values : List ℤ) → KeyExact (hidden_in set) n sheet → HoldsRule n (key_of (hidden_in set) n sheet) k
    → ScriptBroken n set script (rule_in (key_of (hidden_in set) n sheet) k) w v w' values
    → n ≤ length values → LooseShown n (hidden_in set) (Satisfies n sheet) (Satisfies n script) (rule_in (key_of (hidden_in set) n sheet) k) values
loose_shows n set sheet script k w v w' values exact p s l = record {
  allowed = s.satisfies;
  incomplete = λ a. s.broken (((exact (assignment_of values)).1 a).each k p);
  breaks = carried (assignment_of values) _ s.broken;
  zero = zero_words n (hidden_in set) values (λ j h g. s.zero j h g);
  there = l;
  range = s.range;
}

-- an assignment of the sheet that breaks a rule of the script shows that the script is tight
pub tight_shows : (n : ℕ) (hidden : ℕ → Bool) (sheet script : List ℤ) (k : ℕ) (values : List ℤ) → HoldsRule n script k → SheetShown n sheet (rule_in script k) values
    → n ≤ length values → TightShown n hidden (Satisfies n sheet) (Satisfies n script) (rule_in script k) values
tight_shows n hidden sheet script k values p s l = record {
  complete = satisfies_agree n sheet (assignment_of values) (joined hidden (assignment_of values) (assignment_of values))
      (λ q l u. sym (cond_same (hidden q) (assignment_of values q))) s.satisfies;
  forbidden = λ a. s.broken (a.each k p);
  breaks = carried (assignment_of values) (rule_in script k) s.broken;
  there = l;
  range = s.range;
}
