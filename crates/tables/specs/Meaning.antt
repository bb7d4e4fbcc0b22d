-- What tables mean, over unbounded integers and apart from any algorithm. An assignment gives an integer to each quantity; a predicate says which
-- quantities are hidden, and the rest are visible.
use Rattle.std.specs.Prelude.{◌≡◌, Bool, true, false, cond, List, [], ◌∷◌, ℕ, zero, suc, ◌≤◌, ◌<◌, ℤ, pos, length, ◌≤ℤ◌}
use Rattle.integers.specs.Bound.{Within}
use Rattle.words.specs.Change.{word_at}
use Rattle.places.specs.Numbering.{block_start}
use Rattle.rules.specs.declared.rule.Rule.{Rule}
use Rattle.rules.specs.declared.rule.Rule.TheVariants.{One, Two, Nothing}
use Rattle.rules.specs.Limits.{no_rule, max_quantities, bound_limit}
use Rattle.rules.specs.Literal.{negated}
use Rattle.rules.specs.Meaning.{Assignment, Meets, bound_of, names}
use Rattle.rules.specs.Steps.{halved_of}
use Rattle.rules.specs.declared.paper.Paper.{Paper}
use Rattle.rules.specs.declared.paper.Paper.TheVariants.{Script}
use Rattle.rules.specs.Hidden.{hidden_in}
use Rattle.tables.specs.Places.{rule_at}
use Rattle.tables.specs.Tables.{has_rule}

-- n is in its range, 1 to 32, and a table of so many words is long enough for it
pub record TableSized (n words : ℕ) : Type 0 where
  pub some : 1 ≤ n
  pub most : n ≤ max_quantities
  pub room : block_start n ≤ words

-- every quantity that a rule names is one of 1 to n, and its bound, a doubled term halved first, is not the no-rule word
pub record RuleSized (n : ℕ) (r : Rule) : Type 0 where
  pub quantities : (q : ℕ) → names q r ≡ true → (1 ≤ q) × (q ≤ n)
  pub bound : has_rule (bound_of (halved_of r)) ≡ true

-- a rule's term is +q-q or -q+q
abbrev pub Cancels : Rule → Type 0
Cancels (One x c) = ⊥
Cancels (Two x y c) = y ≡ negated x
Cancels (Nothing c) = ⊥

-- some integers meet a rule
pub record Meetable (r : Rule) : Type 0 where
  pub assignment : Assignment
  pub meets : Meets assignment r

-- place k of a table over n quantities holds a rule: it is one of the table's 2n² places, and its word is not the no-rule word
pub record HoldsRule (n : ℕ) (t : List ℤ) (k : ℕ) : Type 0 where
  pub inside : k < block_start n
  pub there : k < length t
  pub rule : has_rule (word_at t k) ≡ true

-- the rule that it holds
abbrev pub rule_in : List ℤ → ℕ → Rule
rule_in t k = rule_at k (word_at t k)

-- an assignment satisfies a table over n quantities: it meets every rule that a place holds
pub record Satisfies (n : ℕ) (t : List ℤ) (σ : Assignment) : Type 0 where
  pub each : (k : ℕ) → HoldsRule n t k → Meets σ (rule_in t k)

-- no integers satisfy it
abbrev pub Unsatisfiable : ℕ → List ℤ → Type 0
Unsatisfiable n t = (σ : Assignment) → Satisfies n t σ → ⊥

-- some integers do
pub record Satisfiable (n : ℕ) (t : List ℤ) : Type 0 where
  pub assignment : Assignment
  pub satisfies : Satisfies n t assignment

-- an assignment satisfies the rules alone that do not name quantity q
pub record SatisfiesWithout (q n : ℕ) (t : List ℤ) (σ : Assignment) : Type 0 where
  pub each : (k : ℕ) → HoldsRule n t k → names q (rule_in t k) ≡ false → Meets σ (rule_in t k)

-- the assignment that a list of words writes: the word at place q - 1 for quantity q
abbrev pub assignment_of : List ℤ → Assignment
assignment_of values zero = pos 0
assignment_of values (suc j) = word_at values j

-- an assignment meets every rule of a list
abbrev pub MeetsAll : Assignment → List Rule → Type 0
MeetsAll σ [] = Unit {0}
MeetsAll σ (r ∷ rs) = Meets σ r × MeetsAll σ rs

-- no rule of a list names quantity q
abbrev pub NoneNames : ℕ → List Rule → Type 0
NoneNames q [] = Unit {0}
NoneNames q (r ∷ rs) = (names q r ≡ false) × NoneNames q rs

-- a paper, sheet or script, by what satisfies its rules: those its table holds, `Satisfies n t`, or those its text writes,
-- `λ σ. MeetsAll σ rules`, a doubled term taken as written
abbrev pub Solutions : Type 1
Solutions = Assignment → Type 0

-- integers for the visible quantities from one assignment and for the hidden ones from another
abbrev pub joined : (ℕ → Bool) → Assignment → Assignment → Assignment
joined hidden visibles hiddens q = cond (hidden q) (hiddens q) (visibles q)

-- hidden values complete visible integers: the two together satisfy every rule of the sheet
abbrev pub Completes : (ℕ → Bool) → Solutions → Assignment → Assignment → Type 0
Completes hidden sheet visibles hiddens = sheet (joined hidden visibles hiddens)

-- the sheet allows visible integers: some hidden values complete them
pub record SheetAllows (hidden : ℕ → Bool) (sheet : Solutions) (visibles : Assignment) : Type 0 where
  pub hiddens : Assignment
  pub complete : Completes hidden sheet visibles hiddens

-- the script allows the visible integers that satisfy every rule of its own
abbrev pub ScriptAllows : Solutions → Assignment → Type 0
ScriptAllows script visibles = script visibles

-- and it forbids all others
abbrev pub ScriptForbids : Solutions → Assignment → Type 0
ScriptForbids script visibles = ScriptAllows script visibles → ⊥

-- every assignment of a paper meets a rule
abbrev pub MetByAll : Solutions → Rule → Type 0
MetByAll solutions r = (σ : Assignment) → solutions σ → Meets σ r

-- some assignment of a paper breaks a rule, that is, does not meet it
pub record Breaks (solutions : Solutions) (r : Rule) : Type 0 where
  pub assignment : Assignment
  pub satisfies : solutions assignment
  pub broken : Meets assignment r → ⊥

-- the rules of a table name visible quantities alone, as those of a script have to
pub record NamesVisible (n : ℕ) (hidden : ℕ → Bool) (t : List ℤ) : Type 0 where
  pub each : (k : ℕ) → HoldsRule n t k → (q : ℕ) → names q (rule_in t k) ≡ true → hidden q ≡ false

-- two assignments give the visible quantities of 1 to n the same integers
abbrev pub SameVisible : ℕ → (ℕ → Bool) → Assignment → Assignment → Type 0
SameVisible n hidden σ τ = (q : ℕ) → 1 ≤ q → q ≤ n → hidden q ≡ false → σ q ≡ τ q

-- each of the first m words, or of all where there are fewer, that holds a rule is at most B in magnitude
pub record WordsWithin (m : ℕ) (B : ℤ) (t : List ℤ) : Type 0 where
  pub each : (k : ℕ) → k < m → k < length t → has_rule (word_at t k) ≡ true → Within B (word_at t k)

-- none of the first m words is above the no-rule word, which is the largest of 64 bits
abbrev pub NoneAbove : ℕ → List ℤ → Type 0
NoneAbove m t = (k : ℕ) → k < m → word_at t k ≤ℤ no_rule

-- the bounds of a table are in the limit of a paper over n quantities with this hidden set in its header
abbrev pub BoundsWithin : Paper → ℕ → ℕ → List ℤ → Type 0
BoundsWithin paper n set t = WordsWithin (block_start n) (pos (bound_limit paper n set)) t

-- a table is like a key: its rules name visible quantities alone, and its bounds are in a script's limit, which is a sheet's, doubled with each hidden quantity (document 01: "One hiding step at
-- most doubles the largest magnitude of a bound")
pub record KeyLike (n set : ℕ) (table : List ℤ) : Type 0 where
  pub visible : NamesVisible n (hidden_in set) table
  pub within : BoundsWithin Script n set table
