-- What a verdict means (demand 3), over unbounded integers. No algorithm is in it but the key's steps, which document 01 fixes and demand 2 gives a meaning (`KeyMade`). Sheet and
-- script are papers: what satisfies the rules that a table holds, or those that a text writes, a doubled term taken as written.
use Rattle.std.specs.Prelude.{Bool, true, false, ◌≡◌, ◌↔◌, ◌⊎◌, List, ℕ, ◌*◌, ◌≤◌, ◌<◌, ℤ, pos, length, take}
use Rattle.places.specs.Numbering.{block_start}
use Rattle.rules.specs.declared.rule.Rule.{Rule}
use Rattle.rules.specs.declared.rule.Rule.TheVariants.{One, Two, Nothing}
use Rattle.rules.specs.declared.paper.Paper.TheVariants.{Script}
use Rattle.rules.specs.declared.refusal.Refusal.TheVariants.{Size, OutOfLimit, TooShort, Mismatch}
use Rattle.rules.specs.Hidden.{hidden_in}
use Rattle.rules.specs.Refusing.{Needs, passed, ◌or◌then◌}
use Rattle.rules.specs.Refusal.{Returned}
use Rattle.rules.specs.Meaning.{Assignment, Meets, has_term}
use Rattle.tables.specs.Meaning.{TableSized, HoldsRule, rule_in, Satisfies, Satisfiable, Unsatisfiable, Solutions, Completes, SheetAllows, ScriptAllows, ScriptForbids, Breaks, NamesVisible, SameVisible, assignment_of, BoundsWithin}
use Rattle.elimination.specs.Magnitude.{ValuesWithin}
use Rattle.keys.specs.Keys.{key_of}
use Rattle.keys.specs.Meaning.{NumbersWithin, SheetAccepted}
use Rattle.keys.specs.Promises.{KeyMade}
use Rattle.tightening.specs.Meaning.{TightKey}
use Rattle.marking.specs.declared.verdict.Verdict.TheVariants.{Loose, Tight}
use Rattle.marking.specs.Verdicts.{verdict_returned}

-- ---- demand 3

-- equal: script and sheet allow the same visible integers. Here and below an assignment stands for its visible integers (`ByVisible`); where no quantity is visible, all
-- assignments are the one empty choice
abbrev pub AllowSame : (ℕ → Bool) → Solutions → Solutions → Type 0
AllowSame hidden sheet script = (σ : Assignment) → ScriptAllows script σ ↔ SheetAllows hidden sheet σ

-- loose (document 01: too wide): the script allows some that no hidden values complete
pub record IsLoose (hidden : ℕ → Bool) (sheet script : Solutions) : Type 0 where
  pub visibles : Assignment
  pub allowed : ScriptAllows script visibles
  pub incomplete : SheetAllows hidden sheet visibles → ⊥

-- too narrow: the script forbids some that hidden values do complete
pub record IsNarrow (hidden : ℕ → Bool) (sheet script : Solutions) : Type 0 where
  pub visibles : Assignment
  pub completed : SheetAllows hidden sheet visibles
  pub forbidden : ScriptForbids script visibles

-- tight: not loose, and too narrow
abbrev pub IsTight : (ℕ → Bool) → Solutions → Solutions → Type 0
IsTight hidden sheet script = (IsLoose hidden sheet script → ⊥) × IsNarrow hidden sheet script

-- a number is that of the verdict, 100, 101 or 102, exactly when demand 3 says so
pub record ByDemand (hidden : ℕ → Bool) (sheet script : Solutions) (number : ℕ) : Type 0 where
  pub equal : (number ≡ 100) ↔ AllowSame hidden sheet script
  pub loose : (number ≡ 101) ↔ IsLoose hidden sheet script
  pub tight : (number ≡ 102) ↔ IsTight hidden sheet script

-- and to both papers an assignment is its visible integers: those that agree there are allowed alike
pub record ByVisible (n : ℕ) (hidden : ℕ → Bool) (sheet script : Solutions) : Type 0 where
  pub script_visible : (σ τ : Assignment) → SameVisible n hidden σ τ → ScriptAllows script σ → ScriptAllows script τ
  pub sheet_visible : (σ τ : Assignment) → SameVisible n hidden σ τ → SheetAllows hidden sheet σ → SheetAllows hidden sheet τ

-- ---- the rule that is carried

-- the rule of place k is the first by place of a table's rules that some assignment of a paper breaks
pub record FirstAt (n : ℕ) (rules : List ℤ) (solutions : Solutions) (k : ℕ) : Type 0 where
  pub holds : HoldsRule n rules k
  pub breaks : Breaks solutions (rule_in rules k)
  pub first : (i : ℕ) → i < k → HoldsRule n rules i → Breaks solutions (rule_in rules i) → ⊥

-- a rule is that first one
pub record FirstBroken (n : ℕ) (rules : List ℤ) (solutions : Solutions) (r : Rule) : Type 0 where
  pub place : ℕ
  pub is : r ≡ rule_in rules place
  pub at : FirstAt n rules solutions place

-- a loose verdict carries the first key rule by place that some assignment allowed by the script breaks, and none where the sheet itself allows nothing
abbrev pub LooseRule : (ℕ → Bool) → ℕ → List ℤ → Solutions → Rule → Type 0
LooseRule hidden n sheet script r =
    (Unsatisfiable n sheet × (has_term r ≡ false)) ⊎ (Satisfiable n sheet × FirstBroken n (key_of hidden n sheet) script r)

-- a tight one the first script rule by place that some assignment of the sheet breaks
abbrev pub TightRule : ℕ → Solutions → List ℤ → Rule → Type 0
TightRule n sheet script r = FirstBroken n script sheet r

-- ---- the assignment that shows it

-- an assignment breaks the rule that is carried, where there is one
abbrev pub BreaksCarried : Assignment → Rule → Type 0
BreaksCarried σ (One x c) = Meets σ (One x c) → ⊥
BreaksCarried σ (Two x y c) = Meets σ (Two x y c) → ⊥
BreaksCarried σ (Nothing c) = Unit {0}

-- for loose: the script allows its visible integers, no hidden values complete them, it breaks the rule, and its hidden words are 0
pub record LooseShown (n : ℕ) (hidden : ℕ → Bool) (sheet script : Solutions) (r : Rule) (values : List ℤ) : Type 0 where
  pub allowed : ScriptAllows script (assignment_of values)
  pub incomplete : SheetAllows hidden sheet (assignment_of values) → ⊥
  pub breaks : BreaksCarried (assignment_of values) r
  pub zero : (q : ℕ) → 1 ≤ q → q ≤ n → hidden q ≡ true → assignment_of values q ≡ pos 0
  pub there : n ≤ length values
  pub range : ValuesWithin n values

-- for tight: its hidden words complete its visible integers, which the script forbids, and it breaks the rule
pub record TightShown (n : ℕ) (hidden : ℕ → Bool) (sheet script : Solutions) (r : Rule) (values : List ℤ) : Type 0 where
  pub complete : Completes hidden sheet (assignment_of values) (assignment_of values)
  pub forbidden : ScriptForbids script (assignment_of values)
  pub breaks : BreaksCarried (assignment_of values) r
  pub there : n ≤ length values
  pub range : ValuesWithin n values

-- ---- what a verdict means

-- demand 3 with the rule and the assignment, of two papers over n quantities, their hidden set and their tables: a verdict that is returned so and comes with these words
pub record VerdictMeans (n set : ℕ) (sheet script : Solutions) (sheet_table script_table : List ℤ) (returned : Returned) (values : List ℤ) : Type 0 where
  pub demand : ByDemand (hidden_in set) sheet script returned.number
  pub visibles : ByVisible n (hidden_in set) sheet script
  -- the key of which a loose verdict carries a rule, and by which a tight one is found, is one by demand 2
  pub key : Satisfiable n sheet_table → KeyMade n set sheet_table (key_of (hidden_in set) n sheet_table)
  -- the rule is the one whose values are returned
  pub loose : (rule : Rule) → returned ≡ verdict_returned (Loose rule)
      → LooseRule (hidden_in set) n sheet_table script rule × LooseShown n (hidden_in set) sheet script rule values
  pub tight : (rule : Rule) → returned ≡ verdict_returned (Tight rule)
      → TightRule n sheet script_table rule × TightShown n (hidden_in set) sheet script rule values

-- ---- what marking two tables needs

-- the words of a workspace for marking over n quantities, 4n²
abbrev pub workspace_size : ℕ → ℕ
workspace_size n = 2 * block_start n

-- with a workspace of w words and v words for an assignment: 1, 6 for the workspace, 6 for the assignment, 3, 7
abbrev pub mark_needs : ℕ → ℕ → List ℤ → List ℤ → ℕ → ℕ → Needs
mark_needs n set sheet script w v =
    (TableSized n (length sheet) × TableSized n (length script)) or Size then
    (workspace_size n ≤ w) or TooShort (workspace_size n) then
    (n ≤ v) or TooShort n then
    (NumbersWithin n set sheet × BoundsWithin Script n set script) or OutOfLimit 0 then
    NamesVisible n (hidden_in set) script or Mismatch then
    passed

-- ---- a sheet's own key

-- a table is a key of a sheet that is a script of it: the plain one always, and the tight one where its bounds are in a script's limit (document 02, [2])
pub data KeyOfSheet (n set : ℕ) (sheet key : List ℤ) : Type 0 where
  plain : take (block_start n) key ≡ take (block_start n) (key_of (hidden_in set) n sheet) → KeyOfSheet n set sheet key
  tight : TightKey (hidden_in set) n (Satisfies n sheet) key → BoundsWithin Script n set key → KeyOfSheet n set sheet key

-- the script is such a key of its sheet. The calls replace the table that they are lent, so they are lent a copy of the sheet's first words, of which the script is the key
pub record OwnKey (n set : ℕ) (sheet script : List ℤ) : Type 0 where
  pub accepted : SheetAccepted n set sheet
  pub copy : List ℤ
  pub copied : take (block_start n) copy ≡ take (block_start n) sheet
  pub key : KeyOfSheet n set copy script
