-- The loop that fills a table: its invariant at the start, at each turn and at the end. Assumes nothing.
use mathlib.Core.Path.{◌≡◌, refl, sym, ◌∙◌, ap}
use mathlib.Core.Bool.{true}
use mathlib.Core.List.{List, [], ◌++◌}
use Rattle.std.specs.Prelude.{Ok}
use Prim.Native.Nat.{ℕ, ◌+◌, ◌-◌, ◌≤◌, ◌<◌}
use native.Mathlib.Nat.{sub-zero}
use lib.IntN.{ℤ}
use lib.ListN.{length, drop}
use Rattle.places.specs.Numbering.{block_start}
use Rattle.numerals.specs.Decimal.{cap}
use Rattle.rules.specs.declared.refusal.Refusal.{Refusal}
use Rattle.rules.specs.declared.rule.Rule.{Rule}
use Rattle.rules.specs.Steps.{halved_of}
use Rattle.tables.specs.Replies.{Reply}
use Rattle.tables.specs.Tables.{serves, empty_table, rule_reply, put_reply, put_rule, put_all}
use Rattle.tables.specs.Promises.{Emptied, Put}
use Rattle.lines.specs.Spelling.{Written, line_within, written_rule, written_rules}
use Rattle.lines.specs.Lines.{accepted, refused, rule_judged}
use Rattle.lines.proofs.Found.{RuleFound}
use Rattle.reading.specs.declared.check.Passed.{Passed}
use Rattle.reading.specs.Reading.{rules_from}
use Rattle.reading.proofs.FineRules.{fine_accepted}
use Rattle.reading.proofs.RuleLines.{not-accepted, Next, rules_next, rules_none}

-- ---- what the calls on the table do

-- it is emptied, and an accepted rule is put in
pub emptied_table : (n : ℕ) (t : List ℤ) (r : Reply) (u : List ℤ) → serves n (length t) ≡ true → Emptied n t r u
    → u ≡ empty_table n ++ drop (block_start n) t
emptied_table n t r u e p = rw (p.reply, e) at p.table

pub put_table : (n : ℕ) (q : Rule) (t : List ℤ) (r : Reply) (u : List ℤ) → serves n (length t) ≡ true → rule_reply n (halved_of q) ≡ Ok tt → Put n q t r u
    → u ≡ put_rule t q
unfolding put_reply
put_table n q t r u e d p = rw (p.reply, e, d) at p.table

-- the rule of a line that is found is accepted
pub found_accepted : (s : List ℕ) (n limit line at : ℕ) (q : Rule) (next : ℕ) → limit < cap → RuleFound s n limit line at q next
    → rule_reply n (halved_of q) ≡ Ok tt
unfolding line_within
found_accepted s n limit line at q next below k =
    rw k.told (fine_accepted n limit k.written below (record { formed = tt; within = k.within; uncancelled = k.stays }))

-- ---- the loop

-- i of the lines are read, up to the cursor: the rules that are left make the table, as it is now, what all rules make of the one at the start
pub record Filling (limit : ℕ) (s : List ℕ) (header : Passed) (table₀ table : List ℤ) (at i : ℕ) : Type 0 where
  pub all : List Written
  pub begun : rules_from header.quantities limit header.rules 4 (drop header.body s) ≡ accepted all []
  pub left : List Written
  pub lines : rules_from header.quantities limit (header.rules - i) (i + 4) (drop at s) ≡ accepted left []
  pub goal : put_all table (written_rules left) ≡ put_all table₀ (written_rules all)
  pub kept : length table ≡ length table₀

-- at the start all rules are left
pub filling_begins : (limit : ℕ) (s : List ℕ) (header : Passed) (ws : List Written) (t : List ℤ)
    → rules_from header.quantities limit header.rules 4 (drop header.body s) ≡ accepted ws [] → Filling limit s header t t header.body 0
filling_begins limit s header ws t e =
    record { all = ws; begun = e; left = ws; lines = rw (sub-zero header.rules) e; goal = refl; kept = refl }

module _ (limit : ℕ) (s : List ℕ) (header : Passed) (t₀ t : List ℤ) (at i : ℕ) (f : Filling limit s header t₀ t at i) where
  abbrev n : ℕ
  n = header.quantities

  abbrev count : ℕ
  count = header.rules

  -- no line is refused on the way
  pub never_stuck : (g : Refusal) → i < count → rule_judged n limit (i + 4) (drop at s) ≡ refused g → ⊥
  never_stuck g h e = not-accepted (sym e ∙ (rules_next n limit count i (drop at s) f.left h f.lines).line)

  -- the next rule is put in
  pub filling_again : (q : Rule) (next : ℕ) (r : Reply) (u : List ℤ) → limit < cap → i < count → serves n (length t) ≡ true
      → RuleFound s n limit (i + 4) at q next → Put n q t r u → length u ≡ length t → Filling limit s header t₀ u next (i + 1)
  unfolding put_all
  filling_again q next r u below h e k p l = record {
    all = f.all;
    begun = f.begun;
    left = w.others;
    lines = rw rest at w.further;
    goal = rw put (rw w.all at f.goal);
    kept = l ∙ f.kept;
  }
    where
      w : Next n limit count i (drop at s) f.left
      w = rules_next n limit count i (drop at s) f.left h f.lines

      first : w.first ≡ k.written
      first = cc (w.line, k.is)

      rest : w.rest ≡ drop next s
      rest = cc (w.line, k.is)

      put : u ≡ put_rule t (written_rule w.first)
      put = put_table n q t r u e (found_accepted s n limit (i + 4) at q next below k) p ∙ ap (put_rule t) (k.told ∙ ap written_rule (sym first))

  -- at the end none are left
  pub filling_over : count ≤ i → t ≡ put_all t₀ (written_rules f.all)
  unfolding put_all
  filling_over h = rw (rules_none n limit count i (drop at s) f.left h f.lines) at f.goal
