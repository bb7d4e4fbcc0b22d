-- What the functions on a table promise: the reply and every word, for every input, and what the table means afterwards.
use Rattle.std.specs.Prelude.{Bool, true, false, cond, ◌≡◌, ◌↔◌, List, ◌++◌, ℕ, ◌/◌, ◌≤◌, ◌<◌, ℤ, length, drop, Option, Some, None}
use Rattle.places.specs.Numbering.{block_start}
use Rattle.rules.specs.declared.rule.Rule.{Rule}
use Rattle.rules.specs.declared.rule.Rule.TheVariants.{Two}
use Rattle.rules.specs.declared.refusal.Refusal.TheVariants.{Size, OutOfLimit, Cancelling, NoAssignment}
use Rattle.rules.specs.Refusal.{refused_as}
use Rattle.rules.specs.Refusing.{Needs, passed, ◌or◌then◌, DecidedBy}
use Rattle.rules.specs.Meaning.{Assignment, Meets, bound_of}
use Rattle.rules.specs.Steps.{in_order}
use Rattle.tables.specs.Places.{rule_at, find_place, HasPlace}
use Rattle.tables.specs.Replies.{Reply, is_done, reply_returned, reply_number}
use Rattle.tables.specs.Tables.{empty_table, empty_reply, put_reply, put_rule, clear_reply, cleared, words_in_limit, table_names_hidden}
use Rattle.tables.specs.Meaning.{TableSized, RuleSized, Cancels, Meetable, Satisfies, SatisfiesWithout, WordsWithin, NoneAbove, NamesVisible}

-- what emptying a table of so many words needs
abbrev pub empty_needs : ℕ → ℕ → Needs
empty_needs n words = TableSized n words or Size then passed

-- no rules: the first 2n² words are the empty table's, and every assignment satisfies it
pub record Emptied (n : ℕ) (before : List ℤ) (r : Reply) (after : List ℤ) : Type 0 where
  pub reply : r ≡ empty_reply n (length before)
  pub decided : DecidedBy (empty_needs n (length before)) (λ f. reply_returned r ≡ refused_as f) (reply_number r ≡ 0)
  pub table : after ≡ cond (is_done r) (empty_table n ++ drop (block_start n) before) before
  pub meaning : reply_number r ≡ 0 → (σ : Assignment) → Satisfies n after σ

-- what putting a rule into a table of so many words needs: a rule that can stand there, and some integers that meet it
abbrev pub put_needs : ℕ → ℕ → Rule → Needs
put_needs n words r =
    TableSized n words or Size then
    RuleSized n r or OutOfLimit 0 then
    (Cancels r → ⊥) or Cancelling 0 then
    Meetable r or NoAssignment then
    passed

-- a rule put in: satisfied exactly by what satisfied the table before and meets the rule
pub record Put (n : ℕ) (rule : Rule) (before : List ℤ) (r : Reply) (after : List ℤ) : Type 0 where
  pub reply : r ≡ put_reply n (length before) rule
  pub decided : DecidedBy (put_needs n (length before) rule) (λ f. reply_returned r ≡ refused_as f) (reply_number r ≡ 0)
  pub table : after ≡ cond (is_done r) (put_rule before rule) before
  pub meaning : reply_number r ≡ 0 → (σ : Assignment) → Satisfies n after σ ↔ (Satisfies n before σ × Meets σ rule)

-- what clearing quantity q in a table of so many words needs
abbrev pub clear_needs : ℕ → ℕ → ℕ → Needs
clear_needs n words q =
    TableSized n words or Size then
    ((1 ≤ q) × (q ≤ n)) or OutOfLimit 0 then
    passed

-- every place that names quantity q cleared: satisfied exactly by what meets the rules before that do not name it
pub record Cleared (n q : ℕ) (before : List ℤ) (r : Reply) (after : List ℤ) : Type 0 where
  pub reply : r ≡ clear_reply n (length before) q
  pub decided : DecidedBy (clear_needs n (length before) q) (λ f. reply_returned r ≡ refused_as f) (reply_number r ≡ 0)
  pub table : after ≡ cond (is_done r) (cleared n q before) before
  pub meaning : reply_number r ≡ 0 → (σ : Assignment) → Satisfies n after σ ↔ SatisfiesWithout q n before σ

-- the answer whether words are in a limit
pub record InLimit (m : ℕ) (B : ℤ) (t : List ℤ) (r : Bool) : Type 0 where
  pub reply : r ≡ words_in_limit m B t
  pub meaning : (r ≡ true) ↔ WordsWithin m B t
  -- every word was looked at, and a word of 64 bits is not above the no-rule word
  pub words : r ≡ true → NoneAbove m t

-- the answer whether a rule of a table names a hidden quantity
pub record HiddenNamed (n : ℕ) (hidden : ℕ → Bool) (t : List ℤ) (r : Bool) : Type 0 where
  pub reply : r ≡ table_names_hidden hidden n t
  pub meaning : (r ≡ false) ↔ NamesVisible n hidden t

-- the rule of a place: its term has just that place, in every table that has the place, and of two quantities the lower stands first
pub record AtPlace (k : ℕ) (c : ℤ) (r : Rule) : Type 0 where
  pub reply : r ≡ rule_at k c
  pub bound : bound_of r ≡ c
  pub place : find_place r ≡ Some k
  pub inside : (n : ℕ) → k < block_start n → HasPlace n r
  pub lower_first : (x y : ℕ) (b : ℤ) → r ≡ Two x y b → x / 2 < y / 2

-- where a rule's term stands: nowhere where no table has a place for it; else at a place that just those tables have which have room for the rule, and the rule
-- of that place, with its bound, is the rule itself, the lower quantity first
pub record Placed (rule : Rule) (r : Option ℕ) : Type 0 where
  pub reply : r ≡ find_place rule
  pub nowhere : (r ≡ None) ↔ ((n : ℕ) → HasPlace n rule → ⊥)
  pub inside : (k : ℕ) → r ≡ Some k → (n : ℕ) → (k < block_start n) ↔ HasPlace n rule
  pub back : (k : ℕ) → r ≡ Some k → rule_at k (bound_of rule) ≡ in_order rule
