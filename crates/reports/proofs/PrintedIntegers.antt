-- The integers that *mark* prints, one for each quantity of the sheet, show a verdict as the words do of which they are the first. Assumes nothing.
use mathlib.Core.Path.{◌≡◌, refl, sym, ◌∙◌, subst}
use mathlib.Core.Bool.{Bool, true, false}
use mathlib.Core.List.{List}
use mathlib.Core.Logic.{inl, inr}
use Prim.Native.Nat.{ℕ, zero, suc, ◌≤◌, ◌<◌}
use native.Mathlib.Omega.{arith}
use lib.IntN.{ℤ, pos}
use lib.ListN.{length, take}
use lib.Seq.{length-take-le, get_or-take}
use Rattle.words.specs.Change.{word_at}
use Rattle.rules.specs.declared.rule.Rule.{Rule}
use Rattle.rules.specs.declared.rule.Rule.TheVariants.{One, Two, Nothing}
use Rattle.rules.specs.Hidden.{hidden_in}
use Rattle.rules.specs.Meaning.{Assignment, Meets, names, has_term}
use Rattle.tables.specs.Meaning.{Solutions, joined, assignment_of}
use Rattle.tables.proofs.Meanings.{Agree, in_range, satisfies_agree, allows_visible}
use Rattle.tables.proofs.Tests.{clash}
use Rattle.tables.proofs.Values.{meets_named}
use Rattle.marking.specs.Meaning.{FirstBroken, LooseRule, BreaksCarried, LooseShown, TightShown}
use Rattle.rules.specs.Refusal.{Returned}
use Rattle.reading.specs.Texts.{Contents}
use Rattle.reading.specs.Meaning.{rules_of}
use Rattle.reading.specs.Promises.{TableHolds}
use Rattle.scripts.specs.declared.room.Lengths.{Lengths}
use Rattle.scripts.specs.Meaning.{set_in, table_in, AcceptedPair}
use Rattle.scripts.specs.Promises.{PairJudged}
use Rattle.reports.proofs.MarkRoom.{accepted_matches}

-- a paper is satisfied by the integers of the quantities 1 to n alone
abbrev ByFirst : ℕ → Solutions → Type 0
ByFirst n paper = (σ τ : Assignment) → Agree n σ τ → paper σ → paper τ

-- as the rules of contents are
contents_first : (c : Contents) → TableHolds c (table_in c) → ByFirst c.count (rules_of c)
contents_first c r σ τ a m = (r.meaning τ).0 (satisfies_agree c.count (table_in c) σ τ a ((r.meaning σ).1 m))

-- a rule names quantities of 1 to n alone
abbrev NamesFirst : ℕ → Rule → Type 0
NamesFirst n r = (q : ℕ) → names q r ≡ true → (1 ≤ q) × (q ≤ n)

-- as the rules that are carried do
broken_first : {n : ℕ} {rules : List ℤ} {paper : Solutions} {r : Rule} → FirstBroken n rules paper r → NamesFirst n r
broken_first {n} {rules} f q e = in_range n rules f.place f.at.holds q (rw f.is at e)

bare_first : (n : ℕ) (r : Rule) → has_term r ≡ false → NamesFirst n r
unfolding names
bare_first n (One x c) h q e = clash refl h
bare_first n (Two x y c) h q e = clash refl h
bare_first n (Nothing c) h q e = clash e refl

loose_first : (hidden : ℕ → Bool) (n : ℕ) (sheet : List ℤ) {script : Solutions} {r : Rule} → LooseRule hidden n sheet script r → NamesFirst n r
loose_first hidden n sheet {r = r} (inl a) q e = bare_first n r a.1 q e
loose_first hidden n sheet (inr b) q e = broken_first b.1 q e

-- the first n of at least n words
module _ (n : ℕ) (values : List ℤ) (enough : n ≤ length values) where
  -- those words
  abbrev firsts : List ℤ
  firsts = take n values

  word_same : (k : ℕ) → k < n → word_at firsts k ≡ word_at values k
  word_same k h = get_or-take n values k (pos 0) h

  -- are the same integers for the quantities 1 to n
  same : (q : ℕ) → 1 ≤ q → q ≤ n → assignment_of firsts q ≡ assignment_of values q
  same zero l h = refl
  same (suc k) l h = word_same k h

  there_firsts : n ≤ length firsts
  there_firsts = omega (arith, length-take-le n values enough)

  -- and break the same rules
  breaks_firsts : (r : Rule) → NamesFirst n r → BreaksCarried (assignment_of values) r → BreaksCarried (assignment_of firsts) r
  breaks_firsts r f = go r (meets_named (assignment_of firsts) (assignment_of values) r (λ q e. let l = f q e in same q l.0 l.1))
    where
      go : (r : Rule) → (Meets (assignment_of firsts) r → Meets (assignment_of values) r) → BreaksCarried (assignment_of values) r
          → BreaksCarried (assignment_of firsts) r
      go (One x c) m b = λ h. b (m h)
      go (Two x y c) m b = λ h. b (m h)
      go (Nothing c) m b = tt

  module _ (hidden : ℕ → Bool) (sheet script : Solutions) (by-sheet : ByFirst n sheet) (by_script : ByFirst n script) (r : Rule) (named : NamesFirst n r) where
    -- so they show loose
    loose_firsts : LooseShown n hidden sheet script r values → LooseShown n hidden sheet script r firsts
    loose_firsts s = record {
      allowed = by_script (assignment_of values) (assignment_of firsts) (λ q l h. sym (same q l h)) s.allowed;
      incomplete = λ a. s.incomplete (allows_visible n hidden sheet by-sheet (assignment_of firsts) (assignment_of values) (λ q l h e. same q l h) a);
      breaks = breaks_firsts r named s.breaks;
      zero = λ q l h e. same q l h ∙ s.zero q l h e;
      there = there_firsts;
      range = λ k h. rw (word_same k h) (s.range k h);
    }

    -- and tight
    tight_firsts : TightShown n hidden sheet script r values → TightShown n hidden sheet script r firsts
    tight_firsts s = record {
      complete = by-sheet (joined hidden (assignment_of values) (assignment_of values)) (joined hidden (assignment_of firsts) (assignment_of firsts))
          (λ q l h. rw (same q l h)) s.complete;
      forbidden = λ a. s.forbidden (by_script (assignment_of firsts) (assignment_of values) same a);
      breaks = breaks_firsts r named s.breaks;
      there = there_firsts;
      range = λ k h. rw (word_same k h) (s.range k h);
    }

-- what is promised of two accepted texts with these words is so with the first n of them
pub judged_firsts : {sheet script : List ℕ} {lent : Lengths} (t : AcceptedPair sheet script lent) (returned : Returned) (values : List ℤ)
    → t.of_sheet.count ≤ length values → PairJudged t returned values → PairJudged t returned (take t.of_sheet.count values)
judged_firsts t returned values enough j =
    let c = t.of_sheet in
    let d = t.of_script in
    let n = c.count in
    let hidden = hidden_in (set_in c) in
    let by-sheet = contents_first c j.sheet-table in
    let by_script : ByFirst n (rules_of d) = subst (λ (k : ℕ). ByFirst k (rules_of d)) (accepted_matches t).count (contents_first d j.script_table) in
    let m = j.means in
    record {
      members = j.members;
      sheet-table = j.sheet-table;
      script_table = j.script_table;
      means = record {
        demand = m.demand;
        visibles = m.visibles;
        key = m.key;
        loose = λ r e.
            let x = m.loose r e in
            (x.0, loose_firsts n values enough hidden (rules_of c) (rules_of d) by-sheet by_script r (loose_first hidden n (table_in c) x.0) x.1);
        tight = λ r e.
            let x = m.tight r e in
            (x.0, tight_firsts n values enough hidden (rules_of c) (rules_of d) by-sheet by_script r (broken_first x.0) x.1);
      };
    }
