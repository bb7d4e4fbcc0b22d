-- Reading a text from where an opening ends, and the line that is due there. Assumes nothing.
use mathlib.Core.Path.{◌≡◌, refl, sym, ◌∙◌, ap, subst}
use mathlib.Core.Bool.{Bool, true, false, cond, ◌&&◌}
use mathlib.Core.List.{List, [], ◌∷◌, ◌++◌, append_assoc}
use Prim.Native.Nat.{ℕ, suc, ◌-◌, ◌<◌}
use native.Mathlib.Omega.{arith}
use native.Mathlib.Numerals.{unary_clauses}
use lib.Dec.{leb, leb-zero}
use lib.ListN.{length, length-append}
use borrow.Author.Tests.{lt-ltb}
use Rattle.numerals.specs.Parsing.{Parsed}
use Rattle.rules.specs.declared.paper.Paper.{Paper}
use Rattle.rules.specs.Limits.{max_quantities, bound_range, max_rules}
use Rattle.lines.specs.Spelling.{Written, Line, quantities, hidden, rules, rule, quantities_key, rules_key, line_within, line_cancels}
use Rattle.lines.specs.Lines.{Judged, accepted, judged, never, between, count_line, count_judged, hidden_judged, rule_judged}
use Rattle.reading.specs.Texts.{Contents, rule_lines}
use Rattle.reading.specs.Meaning.{Opening, start, counted, headed, ruled, lines_of, count_of, limit_at, LineKind, quantities_line, hidden-line, rules_line, rule-line, no_line, due_kind, Fine, AllFine, AtMost}
use Rattle.reading.specs.Reading.{onward, rules_from, lines_from}
use Rattle.reading.proofs.Readers.{Value, line_with, reader}
use Rattle.reading.proofs.LineAnswers.{onward_onward, onward_same, judged_same}

-- the number of the line after an opening
abbrev pub line_of : Opening → ℕ
line_of o = suc (length (lines_of o))

-- what a text writes whose first rules are these
abbrev pub with_rules : ℕ → List ℕ → List Written → List Written → List ℕ → Judged Contents
with_rules n qs rs more u = accepted (record { count = n; hiddens = qs; written = rs ++ more }) u

-- the answer of a text after an opening, from the bytes that follow
unfoldable pub go_on : Paper → Opening → List ℕ → Judged Contents
go_on paper start u = lines_from paper u
go_on paper (counted n) u =
    onward (hidden_judged n 2 u) (λ qs v.
    onward (count_judged rules_key 0 max_rules 3 v) (λ m w. onward (rules_from n (bound_range paper n (length qs)) m 4 w) (with_rules n qs [])))
go_on paper (headed n qs) u =
    onward (count_judged rules_key 0 max_rules 3 u) (λ m w. onward (rules_from n (bound_range paper n (length qs)) m 4 w) (with_rules n qs []))
go_on paper (ruled n qs m rs) u =
    onward (rules_from n (bound_range paper n (length qs)) (m - length rs) (line_of (ruled n qs m rs)) u) (with_rules n qs rs)

-- a line of a kind judged after an opening
abbrev pub judged_after : (paper : Paper) (o : Opening) (k : LineKind) → Parsed (Value k) → Judged (Value k)
judged_after paper o k p = judged (line_of o) (λ a. line_within (count_of o) (limit_at paper o) (line_with k a)) (λ a. line_cancels (line_with k a)) p

-- a line of kind k is due after an opening, makes the next opening, and reading goes on there
pub record Due (paper : Paper) (o : Opening) (k : LineKind) (next : Value k → Opening) : Type 0 where
  pub due : due_kind o ≡ k
  pub some : k ≡ no_line → ⊥
  pub goes : (u : List ℕ) → go_on paper o u ≡ onward (judged_after paper o k (reader k u)) (λ a v. go_on paper (next a) v)
  pub lines : (a : Value k) → lines_of (next a) ≡ lines_of o ++ line_with k a ∷ []
  pub fine : (a : Value k) → AllFine (count_of o) (limit_at paper o) (lines_of o) → Fine (count_of o) (limit_at paper o) (line_with k a)
      → AllFine (count_of (next a)) (limit_at paper (next a)) (lines_of (next a))
  pub most : (a : Value k) → AtMost o → AtMost (next a)

-- the limit of bounds is nothing to the first two lines, nor is n to the first
pub first_fine : (m : ℕ) {n limit k other : ℕ} → Fine n limit (quantities m) → Fine k other (quantities m)
unfolding line_within
first_fine m f = record { formed = f.formed; within = f.within; uncancelled = f.uncancelled }

pub hidden_fine : (n : ℕ) (qs : List ℕ) {limit other : ℕ} → Fine n limit (hidden qs) → Fine n other (hidden qs)
unfolding line_within
hidden_fine n qs f = record { formed = f.formed; within = f.within; uncancelled = f.uncancelled }

-- the two ways of writing a range
between_and : (least most v : ℕ) → between least most v ≡ ◌&&◌ (leb least v) (leb v most)
between_and least most v = go (leb least v)
  where
    go : (b : Bool) → cond b (leb v most) false ≡ ◌&&◌ b (leb v most)
    go true = refl
    go false = refl

-- the kinds differ from none
some_quantities : quantities_line ≡ no_line → ⊥
some_quantities e = let z : ◌≡◌ {A = ℕ} 0 1 = cc in omega arith

some_hidden : hidden-line ≡ no_line → ⊥
some_hidden e = let z : ◌≡◌ {A = ℕ} 0 1 = cc in omega arith

some_rules : rules_line ≡ no_line → ⊥
some_rules e = let z : ◌≡◌ {A = ℕ} 0 1 = cc in omega arith

some_rule : rule-line ≡ no_line → ⊥
some_rule e = let z : ◌≡◌ {A = ℕ} 0 1 = cc in omega arith

-- first the number of quantities
pub due_start : (paper : Paper) → Due paper start quantities_line counted
unfolding go_on lines_from count_judged line_within
due_start paper = record {
  due = refl;
  some = some_quantities;
  goes = λ u. ap (λ (j : Judged ℕ). onward j (λ n v. go_on paper (counted n) v))
      (judged_same 1 (between 1 max_quantities) (λ n. line_within 0 (limit_at paper start) (quantities n)) never never
      (between_and 1 max_quantities) (λ n. refl) (count_line quantities_key u));
  lines = λ n. refl;
  fine = λ n all f. (first_fine n f, tt);
  most = λ n h. tt;
}

-- then the hidden list
pub due_counted : (paper : Paper) (n : ℕ) → Due paper (counted n) hidden-line (headed n)
unfolding go_on hidden_judged line_within
due_counted paper n = record {
  due = refl;
  some = some_hidden;
  goes = λ u. refl;
  lines = λ qs. refl;
  fine = λ qs all f. (first_fine n all.0, (hidden_fine n qs f, tt));
  most = λ qs h. tt;
}

-- then the number of rules
pub due_headed : (paper : Paper) (n : ℕ) (qs : List ℕ) → Due paper (headed n qs) rules_line (λ m. ruled n qs m [])
unfolding go_on count_judged line_within
due_headed paper n qs = record {
  due = refl;
  some = some_rules;
  goes = λ u. ap (λ (j : Judged ℕ). onward j (λ m w. onward (rules_from n (bound_range paper n (length qs)) m 4 w) (with_rules n qs [])))
      (judged_same 3 (between 0 max_rules) (λ m. line_within n (limit_at paper (headed n qs)) (rules m)) never never
      (λ m. rw (leb-zero m)) (λ m. refl) (count_line rules_key u))
      ∙ simp unary_clauses;
  lines = λ m. refl;
  fine = λ m all f. (all.0, (all.1.0, (f, tt)));
  most = λ m h. omega arith;
}

-- ---- then the rules

-- one rule, or line, more
rule_lines_append : (rs : List Written) (r : Written) → rule_lines (rs ++ r ∷ []) ≡ rule_lines rs ++ rule r ∷ []
rule_lines_append [] r = refl
rule_lines_append (x ∷ rs) r = ap (λ (ls : List Line). rule x ∷ ls) (rule_lines_append rs r)

pub all_fine_append : (n limit : ℕ) (ls : List Line) (l : Line) → AllFine n limit ls → Fine n limit l → AllFine n limit (ls ++ l ∷ [])
all_fine_append n limit [] l all f = (f, tt)
all_fine_append n limit (x ∷ ls) l all f = (all.0, all_fine_append n limit ls l all.1 f)

-- rules are read one after the other
rules_go : (limit n : ℕ) (qs : List ℕ) (rs : List Written) (k line : ℕ) (u : List ℕ)
    → onward (rules_from n limit (suc k) line u) (with_rules n qs rs)
    ≡ onward (rule_judged n limit line u) (λ r v. onward (rules_from n limit k (suc line) v) (with_rules n qs (rs ++ r ∷ [])))
unfolding rules_from onward
rules_go limit n qs rs k line u =
    onward_onward (rule_judged n limit line u) _ _
    ∙ onward_same (rule_judged n limit line u) _ _
    (λ r v. onward_onward (rules_from n limit k (suc line) v) _ _
    ∙ onward_same (rules_from n limit k (suc line) v) _ _ (λ more w. rw (append_assoc rs (r ∷ []) more)))

-- one rule more is read
abbrev pub one_more : ℕ → List ℕ → ℕ → List Written → Written → Opening
one_more n qs m rs r = ruled n qs m (rs ++ r ∷ [])

module _ (paper : Paper) (n : ℕ) (qs : List ℕ) (m : ℕ) (rs : List Written) (h : length rs < m) where
  -- its line, the number of the next, and how reading goes on
  more_lines : (r : Written) → lines_of (one_more n qs m rs r) ≡ lines_of (ruled n qs m rs) ++ rule r ∷ []
  more_lines r = rw (rule_lines_append rs r)

  more_number : (r : Written) → line_of (one_more n qs m rs r) ≡ suc (line_of (ruled n qs m rs))
  more_number r = ap (λ (ls : List Line). suc (length ls)) (more_lines r) ∙ omega (arith, length-append (lines_of (ruled n qs m rs)) (rule r ∷ []))

  more_goes : (r : Written) (v : List ℕ)
      → onward (rules_from n (bound_range paper n (length qs)) (m - suc (length rs)) (suc (line_of (ruled n qs m rs))) v) (with_rules n qs (rs ++ r ∷ []))
      ≡ go_on paper (one_more n qs m rs r) v
  unfolding go_on
  more_goes r v =
      let k : m - suc (length rs) ≡ m - length (rs ++ r ∷ []) = omega (arith, length-append rs (r ∷ [])) in
      rw (k, ← more_number r)

  -- so a rule is due while there are fewer than N
  pub due_ruled : Due paper (ruled n qs m rs) rule-line (one_more n qs m rs)
  unfolding go_on rule_judged line_within
  due_ruled = record {
    due = rw (lt-ltb (length rs) m h);
    some = some_rule;
    goes = λ u.
        let k : m - length rs ≡ suc (m - suc (length rs)) = omega arith in
        rw k (rules_go (limit_at paper (ruled n qs m rs)) n qs rs (m - suc (length rs)) (line_of (ruled n qs m rs)) u ∙ onward_same _ _ _ more_goes);
    lines = more_lines;
    fine = λ r all f. subst (AllFine n (limit_at paper (ruled n qs m rs))) (sym (more_lines r))
        (all_fine_append n (limit_at paper (ruled n qs m rs)) (lines_of (ruled n qs m rs)) (rule r) all f);
    most = λ r l. omega (arith, length-append rs (r ∷ []));
  }
