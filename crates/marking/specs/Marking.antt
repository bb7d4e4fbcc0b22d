-- Marking two tables (document 01, 'Marking', 'Returned to the caller'): the verdict and the reply, which compute.
use Rattle.std.specs.Prelude.{Bool, cond, not, ◌&&◌, List, [], ◌∷◌, ℕ, suc, leb, ℤ, length, take, Ok, Err}
use Rattle.places.specs.Numbering.{block_start}
use Rattle.rules.specs.declared.rule.Rule.{Rule}
use Rattle.rules.specs.declared.rule.Rule.TheVariants.{One, Two, Nothing}
use Rattle.rules.specs.declared.paper.Paper.TheVariants.{Sheet, Script}
use Rattle.rules.specs.declared.refusal.Refusal.TheVariants.{Size, OutOfLimit, TooShort, Mismatch}
use Rattle.rules.specs.Hidden.{hidden_in, set_within}
use Rattle.rules.specs.Steps.{trivial_rule, opposite_of}
use Rattle.tables.specs.Places.{rule_at}
use Rattle.tables.specs.Tables.{has_rule, serves, put_rule, table_names_hidden}
use Rattle.tables.specs.Replies.{Reply, check}
use Rattle.keys.specs.Keys.{key_of, refuted, bounds_in_limit}
use Rattle.marking.specs.declared.verdict.Verdict.{Verdict}
use Rattle.marking.specs.declared.verdict.Verdict.TheVariants.{Equal, Loose, Tight}
use Rattle.marking.specs.Verdicts.{Marking}
use Rattle.marking.specs.Meaning.{workspace_size}

-- ---- the verdict

-- does some assignment of a table over n quantities break a rule? Where it does, the table with the opposite of the rule put in has an assignment
unfoldable pub breakable : ℕ → List ℤ → Rule → Bool
breakable n t r = not (refuted n (put_rule t (opposite_of r)))

-- the first rule of words, the first being the word of place k, that is broken; the trivial rule where none is
unfoldable pub first_rule : (Rule → Bool) → ℕ → List ℤ → Rule
first_rule broken k [] = trivial_rule
first_rule broken k (w ∷ ws) = cond (has_rule w && broken (rule_at k w)) (rule_at k w) (first_rule broken (suc k) ws)

-- the first rule by place of one table that some assignment of another breaks
unfoldable pub first_broken : ℕ → List ℤ → List ℤ → Rule
first_broken n rules t = first_rule (breakable n t) 0 (take (block_start n) rules)

-- the verdict that carries a rule, where there is one
abbrev pub or_else : (Rule → Verdict) → Rule → Verdict → Verdict
or_else carry (One x c) next = carry (One x c)
or_else carry (Two x y c) next = carry (Two x y c)
or_else carry (Nothing c) next = next

-- of a sheet that no integers satisfy: equal where none satisfy the script, and else loose with no rule. Of others: loose where some assignment of the script
-- breaks a rule of the key, tight where some assignment of the key breaks a rule of the script, and else equal. Document 01 says the last of the sheet: it is the same of a script that names
-- visible quantities alone, as the checks ask, for by demand 2 hidden values complete what the key allows (`TightRule` says it of the sheet)
unfoldable pub verdict_of : (ℕ → Bool) → ℕ → List ℤ → List ℤ → Verdict
verdict_of hidden n sheet script =
    cond (refuted n sheet)
    (cond (refuted n script) Equal (Loose trivial_rule))
    (or_else Loose (first_broken n (key_of hidden n sheet) script) (or_else Tight (first_broken n script (key_of hidden n sheet)) Equal))

-- ---- the checks

-- are the hidden set and the bounds of both tables in their limits?
unfoldable pub numbers_within : ℕ → ℕ → List ℤ → List ℤ → Bool
numbers_within n set sheet script = set_within n set && (bounds_in_limit Sheet n set sheet && bounds_in_limit Script n set script)

-- the checks of marking two tables: 1 for n and the tables, 6 for the workspace, 6 for the assignment, 3 for the hidden set and the tables' words, 7
unfoldable pub mark_checks : ℕ → ℕ → List ℤ → List ℤ → ℕ → ℕ → Reply
mark_checks n set sheet script workspace values =
    check (serves n (length sheet) && serves n (length script)) Size
    (check (leb (workspace_size n) workspace) (TooShort (workspace_size n))
    (check (leb n values) (TooShort n)
    (check (numbers_within n set sheet script) (OutOfLimit 0)
    (check (not (table_names_hidden (hidden_in set) n script)) Mismatch (Ok tt)))))

-- a verdict where the checks are done, else their refusal
abbrev pub marked_as : Reply → Verdict → Marking
marked_as (Ok done) v = Ok v
marked_as (Err f) v = Err f

-- the reply
unfoldable pub mark_reply : ℕ → ℕ → List ℤ → List ℤ → ℕ → ℕ → Marking
mark_reply n set sheet script workspace values =
    marked_as (mark_checks n set sheet script workspace values) (verdict_of (hidden_in set) n sheet script)
