-- What the functions inside ask and answer; no promise of marking rests on it, but `mark::verdict`, for tables that were checked before, promises `VerdictTold`. Verdicts go through the key: a rule of the script that some assignment of the sheet breaks is one that some assignment of the key
-- breaks, and hidden values complete that one.
use Rattle.std.specs.Prelude.{Bool, true, false, ◌≡◌, ◌↔◌, List, ℕ, suc, ◌+◌, ◌-◌, ◌*◌, ◌≤◌, ◌<◌, ◌^◌, ℤ, pos, length, drop, ◌<ℤ◌, Option, Some, None}
use Rattle.words.specs.Change.{word_at}
use Rattle.words.specs.Lent.{Lent}
use Rattle.places.specs.Numbering.{block_start}
use Rattle.rules.specs.declared.rule.Rule.{Rule}
use Rattle.rules.specs.declared.paper.Paper.TheVariants.{Sheet, Script}
use Rattle.rules.specs.Limits.{max_quantities}
use Rattle.rules.specs.Hidden.{hidden_in, member_count, set_within}
use Rattle.rules.specs.Meaning.{Meets, names}
use Rattle.tables.specs.Places.{rule_at}
use Rattle.tables.specs.Tables.{has_rule}
use Rattle.tables.specs.Meaning.{rule_in, Satisfies, Unsatisfiable, Solutions, Breaks, NamesVisible, assignment_of, BoundsWithin}
use Rattle.elimination.specs.Magnitude.{ValuesWithin}
use Rattle.elimination.specs.Inner.{among, Listed}
use Rattle.keys.specs.Keys.{key_of, refuted}
use Rattle.keys.specs.Inner.{outside, LiveAlone, SetFits, Fits, AtTurns}
use Rattle.keys.specs.Breaking.{RuleBreakable}
use Rattle.tightening.specs.Below.{LivePlace}
use Rattle.marking.specs.declared.verdict.Verdict.{Verdict}
use Rattle.marking.specs.declared.verdict.Verdict.TheVariants.{Equal, Loose, Tight}
use Rattle.marking.specs.Verdicts.{is_shown, verdict_returned}
use Rattle.marking.specs.Meaning.{LooseShown, TightShown, VerdictMeans, workspace_size}
use Rattle.marking.specs.Marking.{verdict_of}

-- ---- what they ask: the needs of marking are met

-- n is in its range, and both tables have words enough for it
pub record Sized (n sheet script : ℕ) : Type 0 where
  pub some : 1 ≤ n
  pub most : n ≤ max_quantities
  pub sheet_room : block_start n ≤ sheet
  pub script_room : block_start n ≤ script

-- the hidden set names no quantity past n, and the bounds of both tables are in the limits of their papers
pub record InLimits (n set : ℕ) (sheet script : List ℤ) : Type 0 where
  pub set-within : set_within n set ≡ true
  pub sheet_within : BoundsWithin Sheet n set sheet
  pub script_within : BoundsWithin Script n set script

pub record TablesAccepted (n set : ℕ) (sheet script : List ℤ) (w v : ℕ) : Type 0 where
  pub sized : Sized n (length sheet) (length script)
  pub workspace_room : workspace_size n ≤ w
  pub values_room : n ≤ v
  pub limits : InLimits n set sheet script
  pub visible : NamesVisible n (hidden_in set) script

-- ---- the verdict

-- the verdict of tables that are accepted
pub record VerdictGiven (n set : ℕ) (sheet script workspace values : List ℤ) (r : Verdict) (workspace' values' : List ℤ) : Type 0 where
  pub reply : r ≡ verdict_of (hidden_in set) n sheet script
  pub lent : Lent (workspace_size n) true workspace workspace'
  pub written : Lent n (is_shown r) values values'
  pub loose_shown : (rule : Rule) → r ≡ Loose rule → LooseShown n (hidden_in set) (Satisfies n sheet) (Satisfies n script) rule values'
  pub tight_shown : (rule : Rule) → r ≡ Tight rule → TightShown n (hidden_in set) (Satisfies n sheet) (Satisfies n script) rule values'

-- and what it means: demand 3, with the rule and the assignment
pub record VerdictTold (n set : ℕ) (sheet script workspace values : List ℤ) (r : Verdict) (workspace' values' : List ℤ) : Type 0 where
  pub given : VerdictGiven n set sheet script workspace values r workspace' values'
  pub means : VerdictMeans n set (Satisfies n sheet) (Satisfies n script) sheet script (verdict_returned r) values'

-- ---- the sheet reduced: its hidden quantities eliminated at the front of a workspace, the least bounds of its key at the back

-- the visible quantities, listed
pub record VisibleListed (n set : ℕ) (visible : List ℕ) : Type 0 where
  pub listed : Listed n visible
  pub each : (i : ℕ) → i < n → among visible i ≡ outside set (suc i)

pub record SheetReducible (n set : ℕ) (visible : List ℕ) (sheet workspace : List ℤ) : Type 0 where
  pub listed : VisibleListed n set visible
  pub hides : SetFits (hidden_in set) n sheet
  pub fits : Fits n sheet
  pub key_fits : Fits n (key_of (hidden_in set) n sheet)
  pub room : workspace_size n ≤ length workspace

pub record SheetReduced (n set : ℕ) (sheet workspace : List ℤ) (r : Bool) (workspace' : List ℤ) : Type 0 where
  pub reply : r ≡ refuted n sheet
  pub front : r ≡ false → AtTurns (hidden_in set) n n sheet workspace'
  pub least : r ≡ false → (k : ℕ) → k < block_start n → (c : ℤ) → has_rule c ≡ true
      → (c <ℤ word_at (drop (block_start n) workspace') k) ↔ Breaks (Satisfies n (key_of (hidden_in set) n sheet)) (rule_at k c)
  pub lent : Lent (workspace_size n) true workspace workspace'

-- ---- the first rule that is broken, of rules at the places of live quantities

pub record Seen (n : ℕ) (live : List ℕ) (rules : List ℤ) (k : ℕ) : Type 0 where
  pub at : LivePlace n live k
  pub rule : has_rule (word_at rules k) ≡ true

pub record FirstSeenAt (n : ℕ) (live : List ℕ) (rules : List ℤ) (paper : Solutions) (k : ℕ) : Type 0 where
  pub seen : Seen n live rules k
  pub breaks : Breaks paper (rule_in rules k)
  pub first : (i : ℕ) → i < k → Seen n live rules i → Breaks paper (rule_in rules i) → ⊥

abbrev pub FirstSeen : ℕ → List ℕ → List ℤ → Solutions → Option ℕ → Type 0
FirstSeen n live rules paper (Some k) = FirstSeenAt n live rules paper k
FirstSeen n live rules paper None = (i : ℕ) → Seen n live rules i → Breaks paper (rule_in rules i) → ⊥

-- the least bounds of a table's terms, and whether no integers satisfy it
pub record LeastBounds (n : ℕ) (table before : List ℤ) (r : Bool) (after : List ℤ) : Type 0 where
  pub none : (r ≡ true) ↔ Unsatisfiable n table
  pub lent : Lent (block_start n) true before after
  pub least : r ≡ false → (k : ℕ) → k < block_start n → (c : ℤ) → has_rule c ≡ true → (c <ℤ word_at after k) ↔ Breaks (Satisfies n table) (rule_at k c)

-- a script whose rules name live quantities alone, and a workspace with rules at its front
pub record ScriptComparable (n : ℕ) (live : List ℕ) (script workspace : List ℤ) : Type 0 where
  pub fits : Fits n script
  pub alone : LiveAlone n live script
  pub room : workspace_size n ≤ length workspace

-- the first of these rules that some assignment of the script breaks; the front stays
pub record FrontFound (n : ℕ) (live : List ℕ) (script workspace : List ℤ) (r : Option ℕ) (workspace' : List ℤ) : Type 0 where
  pub found : FirstSeen n live workspace (Satisfies n script) r
  pub front : (k : ℕ) → k < block_start n → word_at workspace' k ≡ word_at workspace k
  pub lent : Lent (workspace_size n) true workspace workspace'

-- ---- an assignment that breaks a rule

-- of the script, 0 at hidden quantities
pub record ScriptBreakable (n set : ℕ) (script : List ℤ) (r : Rule) (workspace values : List ℤ) : Type 0 where
  pub breakable : RuleBreakable n set script r values
  pub room : workspace_size n ≤ length workspace

pub record ScriptBroken (n set : ℕ) (script : List ℤ) (r : Rule) (workspace values workspace' values' : List ℤ) : Type 0 where
  pub lent : Lent (workspace_size n) true workspace workspace'
  pub written : Lent n true values values'
  pub satisfies : Satisfies n script (assignment_of values')
  pub broken : Meets (assignment_of values') r → ⊥
  pub zero : (i : ℕ) → i < n → hidden_in set (suc i) ≡ true → word_at values' i ≡ pos 0
  pub range : ValuesWithin n values'

-- of the sheet: the rule is one that its key breaks, and with the opposite put into the key all values fit
pub record SheetBreakable (n set : ℕ) (sheet : List ℤ) (r : Rule) (workspace values : List ℤ) : Type 0 where
  pub front : AtTurns (hidden_in set) n n sheet workspace
  pub hides : SetFits (hidden_in set) n sheet
  pub breakable : RuleBreakable n set (key_of (hidden_in set) n sheet) r values
  pub visible : (q : ℕ) → names q r ≡ true → hidden_in set q ≡ false
  pub small : (breakable.fits.sums.limit * 2 ^ member_count (outside set) n - breakable.fits.sums.limit)
      + (hides.limit * 2 ^ member_count (hidden_in set) n - hides.limit) < 2 ^ 62
  pub room : workspace_size n ≤ length workspace

pub record SomeSheetBreakable (n set : ℕ) (r : Rule) (workspace values : List ℤ) : Type 0 where
  pub sheet : List ℤ
  pub is : SheetBreakable n set sheet r workspace values

pub record SheetShown (n : ℕ) (sheet : List ℤ) (r : Rule) (values' : List ℤ) : Type 0 where
  pub satisfies : Satisfies n sheet (assignment_of values')
  pub broken : Meets (assignment_of values') r → ⊥
  pub range : ValuesWithin n values'

pub record SheetBroken (n set : ℕ) (r : Rule) (workspace values workspace' values' : List ℤ) : Type 0 where
  pub lent : Lent (workspace_size n) true workspace workspace'
  pub written : Lent n true values values'
  pub shown : (sheet : List ℤ) → SheetBreakable n set sheet r workspace values → SheetShown n sheet r values'

-- ---- the verdict on a script that is not loose

pub record NarrowReady (n set : ℕ) (script : List ℤ) (tight : Option ℕ) (workspace values : List ℤ) : Type 0 where
  pub most : n ≤ max_quantities
  pub room : block_start n ≤ length script
  pub inside : (k : ℕ) → tight ≡ Some k → k < block_start n
  pub breakable : (k : ℕ) → tight ≡ Some k → SomeSheetBreakable n set (rule_in script k) workspace values

pub record NarrowGiven (n set : ℕ) (script : List ℤ) (tight : Option ℕ) (workspace values : List ℤ) (r : Verdict) (workspace' values' : List ℤ) : Type 0 where
  pub equal : tight ≡ None → (r ≡ Equal) × (workspace' ≡ workspace) × (values' ≡ values)
  pub tight_broken : (k : ℕ) → tight ≡ Some k → (r ≡ Tight (rule_in script k)) × SheetBroken n set (rule_in script k) workspace values workspace' values'
